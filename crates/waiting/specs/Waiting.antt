-- Two heaps for each row p: its children that wait for their start, and those that are eligible. How a child is added, and how p chooses by them.
-- The three lists have the start, the finish and the head of each row.
use Rattle.std.specs.Prelude.{ℕ, zero, suc, ◌+◌, ◌≤◌, ◌<◌, max, ◌≡◌, ◌⊎◌, Bool, true, cond, not, ◌&&◌, List, eqb, leb, ltb, get_or}
use Rattle.input.specs.Limits.{most_rows}
use Rattle.input.specs.Classes.{Tree}
use Rattle.rules.specs.Box.{Rows, start, virtual, head}
use Rattle.rules.specs.Steps.{waits}
use Rattle.heaps.specs.Order.{before}
use Rattle.heaps.specs.Heaps.{Forest, top, joined, parted}

-- the heap of p's eligible children; those that wait for their start are in heap p itself
abbrev pub eligible_heap : ℕ → ℕ
eligible_heap p = most_rows + p

-- those that wait for their start go by it, those that are eligible by their finish; of equal ones that goes first whose head arrived first
unfoldable pub order_of : List ℕ → List ℕ → List ℕ → ℕ → ℕ → ℕ → Bool
order_of starts finishes heads h = cond (ltb h most_rows) (before starts heads) (before finishes heads)

-- ── a child is added ──

-- x is eligible if its start is at most v, else it waits for it
unfoldable pub added : List ℕ → List ℕ → List ℕ → ℕ → ℕ → ℕ → Forest → Forest
added starts finishes heads p v x f =
    cond (leb (get_or starts x 0) v) (joined (before finishes heads) (eligible_heap p) x f) (joined (before starts heads) p x f)

-- the home that x has then
unfoldable pub home_of : List ℕ → ℕ → ℕ → ℕ → ℕ
home_of starts p v x = cond (leb (get_or starts x 0) v) (suc (eligible_heap p)) (suc p)

-- ── some become eligible ──

-- k is a child, not 0, and its start is at most v
unfoldable pub started : List ℕ → ℕ → ℕ → Bool
started starts v k = not (eqb k 0) && leb (get_or starts k 0) v

-- of those that wait for their start the first has started at v
abbrev pub due : List ℕ → ℕ → ℕ → Forest → Bool
due starts p v f = started starts v (top f p)

-- the first that waits for its start becomes eligible
unfoldable pub ripens : List ℕ → List ℕ → List ℕ → ℕ → Forest → Forest
ripens starts finishes heads p f = joined (before finishes heads) (eligible_heap p) (top f p) (parted (before starts heads) p f)

-- so long as one is due, at most n of them
unfoldable pub ripened : ℕ → List ℕ → List ℕ → List ℕ → ℕ → ℕ → Forest → Forest
ripened zero starts finishes heads p v f = f
ripened (suc n) starts finishes heads p v f =
    cond (due starts p v f) (ripened n starts finishes heads p v (ripens starts finishes heads p f)) f

-- ── p chooses, at the virtual time v ──

-- v or the start of k, whichever is later; v where k is 0
unfoldable pub later : List ℕ → ℕ → ℕ → ℕ
later starts v k = cond (eqb k 0) v (max v (get_or starts k 0))

-- v, raised to the least start where none is eligible
unfoldable pub time_of : List ℕ → ℕ → ℕ → Forest → ℕ
time_of starts p v f = cond (eqb (top f (eligible_heap p)) 0) (later starts v (top f p)) v

-- all are eligible that have started by then
unfoldable pub ready : List ℕ → List ℕ → List ℕ → ℕ → ℕ → Forest → Forest
ready starts finishes heads p v f = ripened most_rows starts finishes heads p (time_of starts p v f) f

-- the child that p takes, 0 where it has none, and the heaps without it
unfoldable pub child_of : List ℕ → List ℕ → List ℕ → ℕ → ℕ → Forest → ℕ
child_of starts finishes heads p v f = top (ready starts finishes heads p v f) (eligible_heap p)

unfoldable pub rest_of : List ℕ → List ℕ → List ℕ → ℕ → ℕ → Forest → Forest
rest_of starts finishes heads p v f = parted (before finishes heads) (eligible_heap p) (ready starts finishes heads p v f)

-- the home of x then, where t is the time and `child` the child that was taken
unfoldable pub chosen_home : List ℕ → ℕ → ℕ → ℕ → (ℕ → ℕ) → ℕ → ℕ
chosen_home starts p t child home x =
    cond (eqb x child) 0 (cond (eqb (home x) (suc p) && leb (get_or starts x 0) t) (suc (eligible_heap p)) (home x))

-- ── how p's children are filed ──

-- exactly those that wait are in its two heaps; an eligible one has started; no two have one head
pub record Here (tree : Tree) (a : Rows) (p : ℕ) (home : ℕ → ℕ) : Type 0 where
  pub in_heap : (x : ℕ) → x < tree.rows → waits tree a p x ≡ true → (home x ≡ suc p) ⊎ (home x ≡ suc (eligible_heap p))
  pub waiting : (x : ℕ) → home x ≡ suc p → (x < tree.rows) × (waits tree a p x ≡ true)
  pub eligible : (x : ℕ) → home x ≡ suc (eligible_heap p) → (x < tree.rows) × (waits tree a p x ≡ true) × (start a x ≤ virtual a p)
  pub apart : (x y : ℕ) → x < tree.rows → y < tree.rows → waits tree a p x ≡ true → waits tree a p y ≡ true → head a x ≡ head a y → x ≡ y
