-- Damaged states: sound ones in which an entry or two were changed, so that one condition of soundness alone is broken. None of them is sound.
use Rattle.std.specs.Prelude.{ℕ, zero, suc, ◌≡◌, true, false, List, [], ◌∷◌, map, length, get_or, drop, set, replicate}
use Rattle.live_rules.specs.State.{Held, Live}
use Rattle.live_rules.specs.Soundness.{sound}

-- ── a state as a table ──

-- how many rows and accepted packets; for each row what it has; for each packet held its class, its length and its name
abbrev pub counts : ℕ
counts = 0

abbrev pub identifiers : ℕ
identifiers = 1

abbrev pub parents : ℕ
parents = 2

abbrev pub depths : ℕ
depths = 3

abbrev pub shares : ℕ
shares = 4

abbrev pub starts : ℕ
starts = 5

abbrev pub finishes : ℕ
finishes = 6

abbrev pub virtuals : ℕ
virtuals = 7

abbrev pub heads : ℕ
heads = 8

abbrev pub head_lengths : ℕ
head_lengths = 9

abbrev pub head_classes : ℕ
head_classes = 10

abbrev pub bytes : ℕ
bytes = 11

abbrev pub held : ℕ
held = 12

abbrev pub since : ℕ
since = 13

abbrev pub parent_since : ℕ
parent_since = 14

abbrev pub classes : ℕ
classes = 15

abbrev pub lengths : ℕ
lengths = 16

abbrev pub names : ℕ
names = 17

unfoldable pub packets_of : List ℕ → List ℕ → List ℕ → List Held
packets_of [] lengths names = []
packets_of (class ∷ classes) lengths names =
    record { class = class; length = get_or lengths 0 0; name = get_or names 0 0 } ∷ packets_of classes (drop 1 lengths) (drop 1 names)

unfoldable pub live_of : List (List ℕ) → Live
live_of table =
    record {
      tree = record {
        rows = get_or (get_or table counts []) 0 0;
        identifiers = get_or table identifiers [];
        parents = get_or table parents [];
        depths = get_or table depths [];
        shares = get_or table shares [];
      };
      rows = record {
        starts = get_or table starts [];
        finishes = get_or table finishes [];
        virtuals = get_or table virtuals [];
        heads = get_or table heads [];
        head_lengths = get_or table head_lengths [];
        head_classes = get_or table head_classes [];
      };
      bytes = get_or table bytes [];
      held = get_or table held [];
      since = get_or table since [];
      parent_since = get_or table parent_since [];
      packets = packets_of (get_or table classes []) (get_or table lengths []) (get_or table names []);
      accepted = get_or (get_or table counts []) 1 0;
    }

-- ── changes ──

-- the entry at a place of a list becomes this
pub record Change : Type 0 where
  pub list : ℕ
  pub at : ℕ
  pub entry : ℕ

unfoldable pub change : ℕ → ℕ → ℕ → Change
change list at entry = record { list = list; at = at; entry = entry }

unfoldable pub changed : List (List ℕ) → List Change → List (List ℕ)
changed table [] = table
changed table (c ∷ later) = changed (set table c.list (set (get_or table c.list []) c.at c.entry)) later

-- the table is sound, and with none of these changes
abbrev pub OneBroken : List (List ℕ) → List (List Change) → Type 0
OneBroken table damages =
    map (λ (damage : List Change). sound (live_of (changed table damage))) ([] ∷ damages) ≡ true ∷ replicate (length damages) false

-- ── a busy box ──

-- Row 1, class 2, has classes 10 and 30 below it, in rows 2 and 3; row 4 is class 20. One packet has left. Class 20's packet, named 1, is on the
-- line; class 10 has two, named 2 and 4, the first of which class 2 has taken; class 30 has none
unfoldable pub busy : List (List ℕ)
busy =
    (5 ∷ 4 ∷ [])
    ∷ (1 ∷ 2 ∷ 10 ∷ 30 ∷ 20 ∷ [])
    ∷ (0 ∷ 0 ∷ 1 ∷ 1 ∷ 0 ∷ [])
    ∷ (0 ∷ 1 ∷ 2 ∷ 2 ∷ 1 ∷ [])
    ∷ (0 ∷ 420 ∷ 420 ∷ 420 ∷ 420 ∷ [])
    ∷ (0 ∷ 168000 ∷ 168000 ∷ 0 ∷ 84000 ∷ [])
    ∷ (0 ∷ 218400 ∷ 218400 ∷ 0 ∷ 168000 ∷ [])
    ∷ (126000 ∷ 193200 ∷ 0 ∷ 0 ∷ 0 ∷ [])
    ∷ (2 ∷ 3 ∷ 3 ∷ 0 ∷ 2 ∷ [])
    ∷ (50 ∷ 30 ∷ 30 ∷ 0 ∷ 50 ∷ [])
    ∷ (4 ∷ 2 ∷ 2 ∷ 0 ∷ 4 ∷ [])
    ∷ (100 ∷ 100 ∷ 100 ∷ 0 ∷ 0 ∷ [])
    ∷ (3 ∷ 2 ∷ 2 ∷ 0 ∷ 1 ∷ [])
    ∷ (0 ∷ 0 ∷ 0 ∷ 0 ∷ 0 ∷ [])
    ∷ (0 ∷ 0 ∷ 0 ∷ 0 ∷ 0 ∷ [])
    ∷ (4 ∷ 2 ∷ 2 ∷ [])
    ∷ (50 ∷ 30 ∷ 20 ∷ [])
    ∷ (1 ∷ 2 ∷ 4 ∷ [])
    ∷ []

-- one tick more than a tag can have where the row above has a head and one packet has left
abbrev pub too_far : ℕ
too_far = 12700800001

unfoldable pub busy_damages : List (List Change)
busy_damages =
    -- too many packets accepted
    (change counts 1 2147483648 ∷ [])
    -- the root with a parent; with a depth, all others one deeper; with a share
    ∷ (change parents 0 1 ∷ [])
    ∷ (change depths 0 1 ∷ change depths 1 2 ∷ change depths 2 3 ∷ change depths 3 3 ∷ change depths 4 2 ∷ [])
    ∷ (change shares 0 1 ∷ [])
    -- an identifier that is 0, that is cut on the air, that another row has
    ∷ (change identifiers 3 0 ∷ [])
    ∷ (change identifiers 3 65536 ∷ [])
    ∷ (change identifiers 3 20 ∷ [])
    -- class 30 below a row that is not in use; too high in the tree; with no share; with too much of its parent
    ∷ (change parents 3 5 ∷ change depths 3 1 ∷ [])
    ∷ (change depths 3 1 ∷ [])
    ∷ (change shares 3 0 ∷ [])
    ∷ (change shares 3 421 ∷ [])
    -- the last packet without bytes; too long; with the name of the one before; with one that no event had yet
    ∷ (change lengths 2 0 ∷ [])
    ∷ (change lengths 2 9001 ∷ [])
    ∷ (change names 2 2 ∷ [])
    ∷ (change names 2 5 ∷ [])
    -- the last packet of a row that is not in use; of one with classes below it. No row holds it then, as words cannot say: in them the root holds
    -- as many as there are
    ∷ (change classes 2 5 ∷ change held 0 2 ∷ change held 1 1 ∷ change held 2 1 ∷ [])
    ∷ (change classes 2 1 ∷ change held 0 2 ∷ change held 1 1 ∷ change held 2 1 ∷ [])
    -- class 30 holds one of class 10's packets
    ∷ (change held 2 1 ∷ change held 3 1 ∷ [])
    -- class 10's head, as class 2's, is its second packet; has another length, and the finish for it; another class
    ∷ (change heads 1 5 ∷ change heads 2 5 ∷ [])
    ∷ (change head_lengths 1 31 ∷ change head_lengths 2 31 ∷ change finishes 1 220080 ∷ change finishes 2 220080 ∷ [])
    ∷ (change head_classes 1 3 ∷ change head_classes 2 3 ∷ [])
    -- class 30, which holds nothing, has a head; a head's length; a head's class
    ∷ (change heads 3 1 ∷ [])
    ∷ (change head_lengths 3 5 ∷ [])
    ∷ (change head_classes 3 1 ∷ [])
    -- class 10 has a virtual time
    ∷ (change virtuals 2 1 ∷ [])
    -- class 2 holds less than its children
    ∷ (change held 1 1 ∷ [])
    -- class 2 has the head of class 20, which is not below it; none, as class 30; another packet, length or class than class 10
    ∷ (change heads 1 2 ∷ change head_lengths 1 50 ∷ change head_classes 1 4 ∷ change finishes 1 252000 ∷ [])
    ∷ (change heads 1 0 ∷ change head_lengths 1 0 ∷ change head_classes 1 0 ∷ [])
    ∷ (change heads 1 4 ∷ [])
    ∷ (change head_lengths 1 31 ∷ change finishes 1 220080 ∷ [])
    ∷ (change head_classes 1 3 ∷ [])
    -- the root has a start; a finish; class 10's finish is a tick late; class 30's is before its start
    ∷ (change starts 0 1 ∷ [])
    ∷ (change finishes 0 1 ∷ [])
    ∷ (change finishes 2 218401 ∷ [])
    ∷ (change starts 3 1 ∷ [])
    -- the root's virtual time is too far; the start of class 2, which waits; the finish of class 30, which is idle
    ∷ (change virtuals 0 too_far ∷ [])
    ∷ (change starts 1 too_far ∷ change finishes 1 12700850401 ∷ [])
    ∷ (change finishes 3 too_far ∷ [])
    -- class 30 has more bytes than the packets that have left; counts from more than it has; from more than class 2 has
    ∷ (change bytes 3 9001 ∷ [])
    ∷ (change since 3 1 ∷ [])
    ∷ (change parent_since 3 101 ∷ [])
    ∷ []

-- ── a fresh one ──

-- the same rows, and nothing has happened yet
unfoldable pub fresh : List (List ℕ)
fresh =
    (5 ∷ 0 ∷ [])
    ∷ (1 ∷ 2 ∷ 10 ∷ 30 ∷ 20 ∷ [])
    ∷ (0 ∷ 0 ∷ 1 ∷ 1 ∷ 0 ∷ [])
    ∷ (0 ∷ 1 ∷ 2 ∷ 2 ∷ 1 ∷ [])
    ∷ (0 ∷ 420 ∷ 420 ∷ 420 ∷ 420 ∷ [])
    ∷ replicate 10 (replicate 5 0)

unfoldable pub fresh_damages : List (List Change)
fresh_damages =
    -- no rows
    (change counts 0 0 ∷ [])
    -- class 2, below which nothing is held, has a head; a head's length; a head's class
    ∷ (change heads 1 1 ∷ [])
    ∷ (change head_lengths 1 1 ∷ [])
    ∷ (change head_classes 1 1 ∷ [])
    ∷ []

-- ── a deep one ──

-- a class below a class, eight times; and, out of use, a ninth time
unfoldable pub deep : List (List ℕ)
deep =
    (9 ∷ 0 ∷ [])
    ∷ (1 ∷ 2 ∷ 3 ∷ 4 ∷ 5 ∷ 6 ∷ 7 ∷ 8 ∷ 9 ∷ 10 ∷ [])
    ∷ (0 ∷ 0 ∷ 1 ∷ 2 ∷ 3 ∷ 4 ∷ 5 ∷ 6 ∷ 7 ∷ 8 ∷ [])
    ∷ (0 ∷ 1 ∷ 2 ∷ 3 ∷ 4 ∷ 5 ∷ 6 ∷ 7 ∷ 8 ∷ 9 ∷ [])
    ∷ (0 ∷ replicate 9 840)
    ∷ replicate 10 (replicate 10 0)

unfoldable pub deep_damages : List (List Change)
deep_damages = (change counts 0 10 ∷ []) ∷ []

-- ── a wide one ──

-- as many rows as there can be, all but the root right below it; and, out of use, one more
unfoldable pub up_to : ℕ → List ℕ → List ℕ
up_to zero later = later
up_to (suc n) later = up_to n (suc n ∷ later)

unfoldable pub wide : List (List ℕ)
wide =
    (256 ∷ 0 ∷ [])
    ∷ up_to 257 []
    ∷ replicate 257 0
    ∷ (0 ∷ replicate 256 1)
    ∷ (0 ∷ replicate 256 3)
    ∷ replicate 10 (replicate 257 0)

unfoldable pub wide_damages : List (List Change)
wide_damages = (change counts 0 257 ∷ []) ∷ []
