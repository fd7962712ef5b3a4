-- Arrays that hold a box, and a box that an event can come to.
use Rattle.std.specs.Prelude.{ℕ, suc, ◌≤◌, ◌<◌, ◌^◌, ◌≡◌, ◌≢◌, List, [], ◌∷◌, ◌++◌, Option, None, Some, take}
use Rattle.input.specs.Limits.{most_bytes}
use Rattle.input.specs.Classes.{Tree}
use Rattle.arrays.specs.declared.CountArrays.{CountArrays}
use Rattle.rules.specs.Box.{Rows, Box, head, left}
use Rattle.laws.specs.Sound.{Sound, Sender}
use Rattle.laws.specs.Kept.{Kept}
use Rattle.hierarchy.specs.Next.{next_of}
use Rattle.counts.specs.Counts.{Counts}
use Rattle.steps.specs.Ready.{Ready}

-- the box's rows and counts are these
pub record Arrays (box : Box) (a : Rows) (c : CountArrays) : Type 0 where
  pub rows_are : box.rows ≡ a
  pub counts_are : Counts box c

-- a box that is well kept, small enough for a step, at this place of the events
pub record Able (tree : Tree) (place : ℕ) (box : Box) : Type 0 where
  pub sound : Sound tree
  pub kept : Kept tree (λ (r : ℕ). most_bytes) place box
  pub ready : Ready tree.parents tree.depths box.rows box.bytes box.held
  pub few : suc place < 2 ^ 32

-- a packet of so many bytes can arrive for class k
pub record Arrives (tree : Tree) (place k length : ℕ) (box : Box) : Type 0 where
  pub able : Able tree place box
  pub sender : Sender tree k
  pub some_bytes : 0 < length
  pub few_bytes : length ≤ most_bytes

-- the line's packet can finish; its class's next, if it has one, has this place + 1 and this length
pub record Finishes (tree : Tree) (place next length : ℕ) (box : Box) : Type 0 where
  pub able : Able tree place box
  pub busy : head box.rows 0 ≢ 0
  pub few_bytes : length ≤ most_bytes
  pub next_is : take 1 (left box) ≡ next_of next length

-- the packets that went on the line, none or one
abbrev pub went : Option ℕ → List ℕ
went None = []
went (Some packet) = packet ∷ []

-- the event is over: the arrays are those of the box after it, whose order went on by what went on the line
pub record Done (before : List ℕ) (box : Box) (sent : Option ℕ) (a : Rows) (c : CountArrays) : Type 0 where
  pub arrays : Arrays box a c
  pub order_is : box.order ≡ before ++ went sent
