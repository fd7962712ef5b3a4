-- The choices that an event makes, and what makes a choice clear: which child is taken does not depend on the order of looking.
use Rattle.std.specs.Prelude.{ℕ, zero, suc, ◌≤◌, ◌<◌, ◌≡◌, ◌≢◌, ◌⊎◌, Bool, cond}
use mathlib.Core.List.{List, [], ◌∷◌, Memᴰ}
use Rattle.input.specs.declared.Event.{Event}
use Rattle.input.specs.declared.Event.TheVariants.{Arrival, Finish}
use Rattle.input.specs.Classes.{Tree, parent, depth, row_of}
use Rattle.rules.specs.Box.{Rows, Box, start, finish, head, has_head, line_class, left}
use Rattle.rules.specs.Steps.{new_head, lesser, least, waits, eligible, raised, pick, chooses, leaves, renews}
use Rattle.rules.specs.declared.Why.{Why}
use Rattle.rules.specs.declared.Why.TheVariants.{Finished, Arrived}
use Rattle.laws.specs.Sound.{Kid}

-- ── the choices ──

-- a row that chooses, and the rows as it finds them
pub record Choice : Type 0 where
  pub chooser : ℕ
  pub rows : Rows

-- the choices from a row at this depth upwards, as they are made one after another
unfoldable pub choices : ℕ → Tree → Why → ℕ → Rows → List Choice
choices zero tree why r rows = []
choices (suc d) tree why r rows =
    cond (has_head rows (parent tree r)) []
    (record { chooser = parent tree r; rows = rows } ∷ choices d tree why (parent tree r) (chooses tree why (parent tree r) rows))

-- why rows choose at an event, and the rows as they are then before the first of them chooses
unfoldable pub why_of : Event → Why
why_of (Arrival class length) = Arrived
why_of Finish = Finished

unfoldable pub front : Tree → ℕ → Event → Box → Rows
front tree place (Arrival class length) box =
    let k = row_of tree class in
    cond (has_head box.rows k) box.rows (new_head tree Arrived k (suc place) length k box.rows)
front tree place Finish box =
    let k = line_class box in
    renews tree k (left box) (leaves tree k box.rows)

-- the choices of the event at a place: none where a packet arrives behind another
unfoldable pub choices_of : Tree → ℕ → Event → Box → List Choice
choices_of tree place (Arrival class length) box =
    let k = row_of tree class in
    cond (has_head box.rows k) [] (choices (depth tree k) tree Arrived k (front tree place (Arrival class length) box))
choices_of tree place Finish box =
    let k = line_class box in
    choices (depth tree k) tree Finished k (front tree place Finish box)

-- some choices made one after another lead from the first rows to the last: each finds the rows as the one before it left them
unfoldable pub Made : Tree → Why → Rows → List Choice → Rows → Type 0
Made tree why rows [] last = last ≡ rows
Made tree why rows (choice ∷ later) last = (choice.rows ≡ rows) × Made tree why (chooses tree why choice.chooser rows) later last

-- ── looking ──

-- the rows of a list looked at one after another, the last of the list first: as the rules look at all rows from the lowest up
unfoldable pub looked : (ℕ → Bool) → (ℕ → ℕ) → (ℕ → ℕ) → List ℕ → ℕ
looked test key place [] = 0
looked test key place (r ∷ look) = lesser test key place (looked test key place look) r

-- a list of rows that has every child of p, in any order, a row once or more often
pub record Covers (tree : Tree) (p : ℕ) (look : List ℕ) : Type 0 where
  pub inside : (j : ℕ) → Memᴰ j look → j < tree.rows
  pub kids : (j : ℕ) → Kid tree p j → Memᴰ j look

-- ── a clear choice ──

-- no two children of one row have the same head packet
abbrev pub Apart : Tree → Rows → Type 0
Apart tree rows = (p j k : ℕ) → Kid tree p j → Kid tree p k → head rows j ≢ 0 → head rows j ≡ head rows k → j ≡ k

-- row k goes before row j: its finish is less, or the finishes are equal and its head packet arrived earlier
abbrev pub Before : Rows → ℕ → ℕ → Type 0
Before rows k j = (finish rows k < finish rows j) ⊎ ((finish rows k ≡ finish rows j) × (head rows k < head rows j))

-- k is an eligible child of p, and goes before every other
pub record Alone (tree : Tree) (rows : Rows) (p k : ℕ) : Type 0 where
  pub kid : Kid tree p k
  pub waiting : head rows k ≢ 0
  pub in_time : start rows k ≤ raised tree rows p
  pub before : (j : ℕ) → Kid tree p j → head rows j ≢ 0 → start rows j ≤ raised tree rows p → j ≢ k → Before rows k j

-- p's choice among these rows
pub record Clear (tree : Tree) (rows : Rows) (p : ℕ) : Type 0 where
  pub apart : Apart tree rows
  -- nobody is taken only where no child has a head
  pub nobody : pick tree rows p ≡ 0 → (j : ℕ) → Kid tree p j → head rows j ≡ 0
  -- who is taken is the only one with its finish and place
  pub alone : pick tree rows p ≢ 0 → Alone tree rows p (pick tree rows p)
  -- and whichever children are looked at first, the same one has the least start, and the same one is taken
  pub same_first :
      (look : List ℕ) → Covers tree p look
      → looked (waits tree rows p) (start rows) (head rows) look ≡ least (waits tree rows p) (start rows) (head rows) tree.rows
  pub same_pick :
      (look : List ℕ) → Covers tree p look
      → looked (eligible tree rows p (raised tree rows p)) (finish rows) (head rows) look ≡ pick tree rows p
