-- Each contract of a test leaves no choice, where there is a tree or a live state that it speaks of.
-- Assumes nothing.
use Prim.Native.Nat.{ℕ}
use mathlib.Core.Path.{◌≡◌, sym, ◌∙◌}
use mathlib.Core.Bool.{Bool}
use mathlib.Core.List.{List}
use Rattle.words.specs.Unique.{Unique}
use Rattle.input.specs.Classes.{Tree}
use Rattle.live_rules.specs.State.{Live}
use Rattle.holding.specs.Packets.{Senders, PacketsTested}
use Rattle.holding.specs.Rows.{RowsTested}

pub one_test_of_packets :
    (words : List ℕ) (m n : ℕ) (senders : List Bool) (limit : ℕ) (tree : Tree) → tree.rows ≡ n → Senders tree n senders
    → Unique (PacketsTested words m n senders limit)
one_test_of_packets words m n senders limit tree same marked one other first second = first tree same marked ∙ sym (second tree same marked)

pub one_test_of_rows : (Read : Live → Type 0) (n : ℕ) (live : Live) → Read live → Unique (RowsTested Read n)
one_test_of_rows Read n live read one other first second = first live read ∙ sym (second live read)
