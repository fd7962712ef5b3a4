-- How the children that wait are filed for each way to find the one that is taken, what a step keeps of it, and what a choice leaves.
use Rattle.std.specs.Prelude.{ℕ, ◌≡◌, ◌≢◌}
use Rattle.input.specs.Classes.{Tree}
use Rattle.rules.specs.declared.Why.{Why}
use Rattle.rules.specs.Box.{Rows, head, head_class}
use Rattle.rules.specs.Steps.{new_head, leaves, raised, pick, chooses}
use Rattle.laws.specs.Sound.{Sound, Inner, Sender}
use Rattle.laws.specs.Moves.{Settled}
use Rattle.laws.specs.Named.{PacketOf, Named}
use Rattle.heaps.specs.declared.Heaps.{Heaps}
use Rattle.heaps.specs.Kept.{forest_in}
use Rattle.looking.specs.declared.Looking.{Looking}
use Rattle.looking.specs.Listed.{Listed}
use Rattle.filing.specs.Heaped.{Heaped}

-- how those that wait are filed, but for the row aside, which is yet to be filed (0: none is); the second has the class of each head
abbrev pub Filing : Type 1
Filing = Tree → (ℕ → ℕ) → Rows → ℕ → Type 0

-- to look at them, all children are listed, row after row
abbrev pub AllListed : Looking → Filing
AllListed looking tree class_of a aside = Listed tree.rows tree.parents looking.firsts looking.listed

-- those that wait are in heaps
abbrev pub InHeaps : Heaps → Filing
InHeaps heaps tree class_of a aside = Heaped tree class_of a aside (forest_in heaps)

-- what a step does to the rows leaves those that wait filed
pub record Keeps (Filed : Filing) : Type 0 where
  -- a class that had no head gets one, and is aside
  pub headed :
      (tree : Tree) (sound : Sound tree) (class_of : ℕ → ℕ) (why : Why) (k packet length class : ℕ) (a : Rows)
      → Sender tree k → head a k ≡ 0 → PacketOf tree class_of k packet
      → Filed tree class_of a 0 → Filed tree class_of (new_head tree why k packet length class a) k
  -- a row without a head may be aside as well
  pub set_aside :
      (tree : Tree) (sound : Sound tree) (class_of : ℕ → ℕ) (a : Rows) (k : ℕ) → head a k ≡ 0 → Filed tree class_of a 0 → Filed tree class_of a k
  -- the line's packet leaves its path
  pub line_left :
      (tree : Tree) (sound : Sound tree) (class_of : ℕ → ℕ) (a : Rows) → Settled tree a → head a 0 ≢ 0
      → Filed tree class_of a 0 → Filed tree class_of (leaves tree (head_class a 0) a) 0
  -- the classes of the heads may be told by more packets
  pub renamed : (tree : Tree) (class_of other : ℕ → ℕ) (a : Rows) → Named tree other a → Filed tree class_of a 0 → Filed tree other a 0

-- row p may choose: it has children and no head, and nobody is aside
pub record Chooses (Filed : Filing) (tree : Tree) (class_of : ℕ → ℕ) (a : Rows) (p : ℕ) : Type 0 where
  pub sound : Sound tree
  pub inner : Inner tree p
  pub none : head a p ≡ 0
  pub filed : Filed tree class_of a 0

-- what is found: the child and the time that the rules say; without the child, all is filed as it is to be once p, aside then, has chosen
pub record Found (Filed : Filing) (tree : Tree) (class_of : ℕ → ℕ) (a : Rows) (p child time : ℕ) : Type 0 where
  pub time_is : time ≡ raised tree a p
  pub child_is : child ≡ pick tree a p
  pub filed : (why : Why) → Filed tree class_of (chooses tree why p a) p

-- p has chosen
pub record Chosen (Filed : Filing) (tree : Tree) (class_of : ℕ → ℕ) (why : Why) (p : ℕ) (a b : Rows) : Type 0 where
  pub rows_are : b ≡ chooses tree why p a
  pub filed : Filed tree class_of b p
