-- The rows that wait to be taken, filed in heaps: at any moment of a step, when a row may be aside that is yet to be filed (0: none is).
use Rattle.std.specs.Prelude.{ℕ, suc, ◌≤◌, ◌<◌, ◌≡◌, ◌≢◌, ◌⊎◌}
use Rattle.input.specs.Classes.{Tree, parent}
use Rattle.rules.specs.Box.{Rows, start, virtual, head}
use Rattle.laws.specs.Sound.{Kid}
use Rattle.laws.specs.Moves.{Full}
use Rattle.laws.specs.Named.{Named}
use Rattle.heaps.specs.Heaps.{Forest, Heaps}
use Rattle.waiting.specs.Waiting.{eligible_heap, order_of}

-- row x waits to be taken: it has a head, and its parent has another one or none
pub record Untaken (tree : Tree) (a : Rows) (x : ℕ) : Type 0 where
  pub positive : 0 < x
  pub inside : x < tree.rows
  pub has : head a x ≢ 0
  pub other : head a x ≢ head a (parent tree x)

-- a row with children that has a head has it from one of them that is not aside
abbrev pub Owned : Tree → Rows → ℕ → Type 0
Owned tree a aside = (p x : ℕ) → Kid tree p x → head a p ≢ 0 → (t : ℕ) × Kid tree p t × (t ≢ aside) × (head a t ≡ head a p)

-- exactly the rows that wait to be taken are in heaps, in one of the two of their parent: in that of the eligible ones only those that have started
pub record Heaped (tree : Tree) (class_of : ℕ → ℕ) (a : Rows) (aside : ℕ) (f : Forest) : Type 0 where
  pub full : Full a
  pub named : Named tree class_of a
  pub owned : Owned tree a aside
  pub home : ℕ → ℕ
  pub heaps : Heaps (order_of a.starts a.finishes a.heads) f home
  pub filed : (x : ℕ) → home x ≢ 0 → Untaken tree a x × (x ≢ aside)
  pub at_home :
      (x : ℕ) → Untaken tree a x → x ≢ aside
      → (home x ≡ suc (parent tree x)) ⊎ ((home x ≡ suc (eligible_heap (parent tree x))) × (start a x ≤ virtual a (parent tree x)))
