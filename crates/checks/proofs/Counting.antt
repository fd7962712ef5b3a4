-- Counting refuses what the rules refuse: by the law that a line is idle exactly where as many packets finished as arrived.
-- Assumes nothing.
use Prim.Native.Nat.{ℕ, zero, suc, ◌<◌}
use mathlib.Core.Path.{◌≡◌, refl, sym, ◌∙◌, ap}
use mathlib.Core.List.{[], ◌∷◌}
use native.Mathlib.Decide.{ℕ_discrete}
use lib.ListN.{length}
use Rattle.input.specs.declared.Refusal.{Refusal}
use Rattle.input.specs.Classes.{Table, Tree, tree_of}
use Rattle.input.specs.Events.{Events, count, length_word, event}
use Rattle.input.specs.Refusals.{Room, nothing, or_else, first, first_below, rows_refused, events_refused, room_refused, table_refused, meeting_refused}
use Rattle.rules.specs.Refused.{event_refused, refused}
use Rattle.laws.specs.Sound.{Sound}
use Rattle.laws.proofs.Tree.Trees.{or_none, below_none, sound}
use Rattle.laws.proofs.Run.Idle.{idle_is_counted}
use Rattle.checks.specs.Counted.{counted_refused, lengths_refused}
use Rattle.tables.proofs.Firsts.{or_else_first, first_append}

module _ (tree : Tree) (sound : Sound tree) (events : Events) where
  event_counted : (n : ℕ) → ((i : ℕ) → i < n → (event_refused tree events i).number ≡ 0)
      → counted_refused tree events n ≡ event_refused tree events n
  unfolding counted_refused event_refused
  event_counted n before =
      ap (meeting_refused tree n (length_word events n) (event events n)) (sym (idle_is_counted tree events n (record { sound = sound; each = before })))

  abbrev counted : ℕ → Refusal
  counted = first_below (counted_refused tree events)

  abbrev ruled : ℕ → Refusal
  ruled = first_below (event_refused tree events)

  counting_agrees : (n : ℕ) → first_below (counted_refused tree events) n ≡ first_below (event_refused tree events) n
  unfolding first_below
  counting_agrees zero = refl
  counting_agrees (suc n) = go (counting_agrees n) (ℕ_discrete (ruled n).number 0)
    where
      go : counted n ≡ ruled n → Dec ((ruled n).number ≡ 0)
          → or_else (counted n) (counted_refused tree events n) ≡ or_else (ruled n) (event_refused tree events n)
      go same (yes none) = rw (same, event_counted n (below_none (event_refused tree events) n none)) refl
      go same (no some) =
          rw same
          (or_else_first (ruled n) (counted_refused tree events n) some ∙ sym (or_else_first (ruled n) (event_refused tree events n) some))

-- the rules' refusal of a whole input, with the events by counting: only where lengths and table are accepted do they matter
module _ (table : Table) (events : Events) (room : Room) where
  abbrev lengths : Refusal
  lengths = lengths_refused table events room

  abbrev by_rules : Refusal
  by_rules = or_else (first_below (event_refused (tree_of table) events) (count events)) nothing

  abbrev by_counting : Refusal
  by_counting = or_else (first_below (counted_refused (tree_of table) events) (count events)) nothing

  pub rules_split : refused table events room ≡ or_else lengths (or_else (table_refused table) by_counting)
  unfolding refused lengths_refused first
  rules_split =
      first_append (rows_refused table ∷ events_refused events ∷ room_refused (length table.identifiers) (count events) room ∷ [])
      (table_refused table ∷ first_below (event_refused (tree_of table) events) (count events) ∷ [])
      ∙ go (ℕ_discrete lengths.number 0) (ℕ_discrete (table_refused table).number 0)
    where
      go : Dec (lengths.number ≡ 0) → Dec ((table_refused table).number ≡ 0)
          → or_else lengths (or_else (table_refused table) by_rules) ≡ or_else lengths (or_else (table_refused table) by_counting)
      go (no some) d = or_else_first lengths _ some ∙ sym (or_else_first lengths _ some)
      go (yes none) (no some) =
          ap (or_else lengths) (or_else_first (table_refused table) _ some ∙ sym (or_else_first (table_refused table) _ some))
      go (yes none) (yes fine) =
          let sized = (or_none (rows_refused table) _ none).0 in
          rw (counting_agrees (tree_of table) (sound table sized fine) events (count events)) refl
