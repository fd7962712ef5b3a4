-- Small class tables, identifiers, shares and lengths of packets, and what the definitions refuse of them.
-- Assumes nothing.
use Prim.Native.Nat.{ℕ}
use mathlib.Core.Path.{◌≡◌, refl}
use mathlib.Core.Bool.{true, false}
use mathlib.Core.List.{List, [], ◌∷◌, map}
use Rattle.input.specs.declared.Refusal.{Refusal}
use Rattle.input.specs.Shares.{allowed}
use Rattle.input.specs.Classes.{Table, place_of, earlier, parent_of, zeros, with_row, read, tree_of, child, children_share}
use Rattle.input.specs.Refusals.{nothing, given, or_else, first, first_below, doubled, root_refused, class_refused, row_refused, shares_refused, table_refused, packet_refused}
use Rattle.input.specs.Lent.{table_of}

pub tables : List Table
tables =
    -- row 2 has the identifier of row 1
    table_of (1 ∷ 10 ∷ 10 ∷ []) (0 ∷ 1 ∷ 1 ∷ []) (0 ∷ 420 ∷ 420 ∷ [])
    -- a share that is not allowed, and two that are
    ∷ table_of (1 ∷ 10 ∷ []) (0 ∷ 1 ∷ []) (0 ∷ 841 ∷ [])
    ∷ table_of (1 ∷ 10 ∷ []) (0 ∷ 1 ∷ []) (0 ∷ 756 ∷ [])
    ∷ table_of (1 ∷ 10 ∷ []) (0 ∷ 1 ∷ []) (0 ∷ 840 ∷ [])
    -- shares that are one part too much together
    ∷ table_of (1 ∷ 10 ∷ 20 ∷ 30 ∷ []) (0 ∷ 1 ∷ 1 ∷ 1 ∷ []) (0 ∷ 420 ∷ 420 ∷ 1 ∷ [])
    ∷ []

pub refused :
    map table_refused tables
    ≡ record { number = 5; place = 2; second = 1 }
    ∷ record { number = 8; place = 1; second = 0 }
    ∷ nothing
    ∷ nothing
    ∷ record { number = 10; place = 0; second = 0 }
    ∷ []
unfolding tables allowed place_of earlier parent_of zeros with_row read tree_of child children_share nothing given or_else first
    first_below doubled root_refused class_refused row_refused shares_refused table_refused
refused = refl

-- a refusal with no second place
abbrev at : ℕ → ℕ → Refusal
at number place = record { number = number; place = place; second = 0 }

pub identifiers : List Table
identifiers =
    -- the largest, of the root and of a class
    table_of (65535 ∷ 10 ∷ []) (0 ∷ 65535 ∷ []) (0 ∷ 420 ∷ [])
    ∷ table_of (1 ∷ 65535 ∷ []) (0 ∷ 1 ∷ []) (0 ∷ 420 ∷ [])
    -- one more, and far more
    ∷ table_of (1 ∷ 65536 ∷ []) (0 ∷ 1 ∷ []) (0 ∷ 420 ∷ [])
    ∷ table_of (1 ∷ 4294967295 ∷ []) (0 ∷ 1 ∷ []) (0 ∷ 420 ∷ [])
    -- two rows with the same low 16 bits
    ∷ table_of (1 ∷ 10 ∷ 65546 ∷ []) (0 ∷ 1 ∷ 1 ∷ []) (0 ∷ 420 ∷ 420 ∷ [])
    -- the root's; and with a parent and a share besides
    ∷ table_of (65536 ∷ 10 ∷ []) (0 ∷ 65536 ∷ []) (0 ∷ 420 ∷ [])
    ∷ table_of (65536 ∷ 10 ∷ []) (3 ∷ 65536 ∷ []) (5 ∷ 420 ∷ [])
    -- too large with no such parent and a share of 0
    ∷ table_of (1 ∷ 65536 ∷ []) (0 ∷ 9 ∷ []) (0 ∷ 0 ∷ [])
    -- 0 and then too large, too large and then 0
    ∷ table_of (1 ∷ 0 ∷ 65536 ∷ []) (0 ∷ 1 ∷ 1 ∷ []) (0 ∷ 420 ∷ 420 ∷ [])
    ∷ table_of (1 ∷ 65536 ∷ 0 ∷ []) (0 ∷ 1 ∷ 1 ∷ []) (0 ∷ 420 ∷ 420 ∷ [])
    -- too large and then doubled; the same that is too large twice
    ∷ table_of (1 ∷ 65536 ∷ 1 ∷ []) (0 ∷ 1 ∷ 1 ∷ []) (0 ∷ 420 ∷ 420 ∷ [])
    ∷ table_of (1 ∷ 65536 ∷ 65536 ∷ []) (0 ∷ 1 ∷ 1 ∷ []) (0 ∷ 420 ∷ 420 ∷ [])
    ∷ []

pub identifiers_refused :
    map table_refused identifiers
    ≡ nothing ∷ nothing ∷ at 15 1 ∷ at 15 1 ∷ at 15 2 ∷ at 15 0 ∷ at 15 0 ∷ at 15 1 ∷ at 4 1 ∷ at 15 1 ∷ at 15 1 ∷ at 15 1 ∷ []
unfolding identifiers allowed place_of earlier parent_of zeros with_row read tree_of child children_share nothing given or_else first
    first_below doubled root_refused class_refused row_refused shares_refused table_refused
identifiers_refused = refl

-- within a row 15 comes before 5: row 2 with an identifier that is too large and that row 1 has as well
pub large_before_doubled : class_refused 2 65536 1 0 420 1 ≡ at 15 2
unfolding nothing given or_else first doubled class_refused
large_before_doubled = refl

-- the edges, shares that do not divide the scale, and past the whole one that does
pub shares : List ℕ
shares = 0 ∷ 1 ∷ 11 ∷ 756 ∷ 839 ∷ 840 ∷ 841 ∷ 882 ∷ 4294967295 ∷ []

pub shares_allowed :
    map allowed shares
    ≡ false ∷ true ∷ true ∷ true ∷ true ∷ true ∷ false ∷ false ∷ false ∷ []
unfolding shares allowed
shares_allowed = refl

-- the edges, and two lengths between
pub lengths : List ℕ
lengths = 0 ∷ 1 ∷ 2048 ∷ 2049 ∷ 9000 ∷ 9001 ∷ 4294967295 ∷ []

-- a packet for a sending class, at place 3
pub lengths_refused :
    map (packet_refused 3 true) lengths
    ≡ record { number = 13; place = 3; second = 0 }
    ∷ nothing
    ∷ nothing
    ∷ nothing
    ∷ nothing
    ∷ record { number = 13; place = 3; second = 0 }
    ∷ record { number = 13; place = 3; second = 0 }
    ∷ []
unfolding lengths nothing given or_else first packet_refused
lengths_refused = refl
