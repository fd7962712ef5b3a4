-- What is filed may be read anew where nothing of it has changed.
-- Assumes nothing.
use Prim.Native.Nat.{ℕ}
use mathlib.Core.Path.{◌≡◌, sym, ◌∙◌}
use mathlib.Core.Logic.{◌≢◌}
use mathlib.Core.Bool.{Bool, true, false, cond, false≢true}
use native.Mathlib.Omega.{arith}
use lib.Dec.{ltb}
use Rattle.input.specs.Limits.{most_rows}
use Rattle.input.specs.Classes.{Tree, parent}
use Rattle.rules.specs.Box.{Rows, head}
use Rattle.laws.specs.Sound.{Sound, Kid, Sender}
use Rattle.laws.specs.Moves.{SameRow}
use Rattle.laws.proofs.Tree.Paths.{parent_is_inner}
use Rattle.heaps.specs.Order.{before}
use Rattle.heaps.specs.Heaps.{Forest, Heaps}
use Rattle.heaps.proofs.Laws.{reordered}
use Rattle.waiting.specs.Waiting.{order_of}
use Rattle.filing.specs.Heaped.{Untaken}

order_same :
    (a b : Rows) (h x y : ℕ) → SameRow a b x → SameRow a b y
    → order_of b.starts b.finishes b.heads h x y ≡ order_of a.starts a.finishes a.heads h x y
unfolding order_of before
order_same a b h x y one two = go (ltb h most_rows)
  where
    go :
        (low : Bool)
        → cond low (before b.starts b.heads) (before b.finishes b.heads) x y
        ≡ cond low (before a.starts a.heads) (before a.finishes a.heads) x y
    go true = rw (one.kid.start_same, two.kid.start_same, one.kid.head_same.packet_same, two.kid.head_same.packet_same)
    go false = rw (one.kid.finish_same, two.kid.finish_same, one.kid.head_same.packet_same, two.kid.head_same.packet_same)

-- the heaps go by the rows that are in them alone
pub heaps_after :
    (a b : Rows) (f : Forest) (home : ℕ → ℕ) → ((x : ℕ) → home x ≢ 0 → SameRow a b x)
    → Heaps (order_of a.starts a.finishes a.heads) f home → Heaps (order_of b.starts b.finishes b.heads) f home
heaps_after a b f home same heaps =
    reordered _ _ f home (λ h x y one two. order_same a b h x y (same x (λ e. omega arith)) (same y (λ e. omega arith))) heaps

-- a row waits to be taken by its own head and its parent's alone
pub untaken_as : (tree : Tree) (a b : Rows) (x : ℕ) → head b x ≡ head a x → head b (parent tree x) ≡ head a (parent tree x) → Untaken tree a x → Untaken tree b x
untaken_as tree a b x own above old =
    record {
      positive = old.positive;
      inside = old.inside;
      has = λ e. old.has (sym own ∙ e);
      other = λ e. old.other (sym own ∙ e ∙ above);
    }

-- a sending class has no child
pub no_kid : (tree : Tree) → Sound tree → (k x : ℕ) → Sender tree k → Kid tree k x → ⊥
no_kid tree sound k x sender kid = false≢true (sym (parent_is_inner tree sound k x kid).no_sender ∙ sender.sender)
