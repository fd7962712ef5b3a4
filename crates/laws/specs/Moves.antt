-- What one event does to the rows, seen from one inner row: nothing, or one child moves and the row may take a child.
-- `a` is the state before the event and `b` the state after it.
use Rattle.std.specs.Prelude.{ℕ, ◌+◌, ◌*◌, ◌≤◌, ◌<◌, max, ◌≡◌, ◌≢◌, ◌⊎◌, true, length}
use Rattle.input.specs.Limits.{most_rows, ticks}
use Rattle.input.specs.Shares.{charge}
use Rattle.input.specs.Classes.{Tree, share}
use Rattle.rules.specs.Box.{Rows, start, finish, virtual, head, head_length, head_class}
use Rattle.rules.specs.Promise.{within}
use Rattle.laws.specs.Sound.{Kid, Inner, Sender}

-- ── the state between events ──

-- every list has an entry for each row that there can be
pub record Full (a : Rows) : Type 0 where
  pub starts_full : length a.starts ≡ most_rows
  pub finishes_full : length a.finishes ≡ most_rows
  pub virtuals_full : length a.virtuals ≡ most_rows
  pub heads_full : length a.heads ≡ most_rows
  pub head_lengths_full : length a.head_lengths ≡ most_rows
  pub head_classes_full : length a.head_classes ≡ most_rows

-- row j of b has the head that row i of a has
pub record SameHead (a : Rows) (i : ℕ) (b : Rows) (j : ℕ) : Type 0 where
  pub packet_same : head b j ≡ head a i
  pub length_same : head_length b j ≡ head_length a i
  pub class_same : head_class b j ≡ head_class a i

-- the heads agree along the tree: a row without a head has no child with one; an inner row with a head has it from a child;
-- a head is a packet of a sending class in the row's part of the tree
pub record Settled (tree : Tree) (a : Rows) : Type 0 where
  pub idle_below : (p : ℕ) → head a p ≡ 0 → (j : ℕ) → Kid tree p j → head a j ≡ 0
  pub from_child : (p : ℕ) → Inner tree p → head a p ≢ 0 → (t : ℕ) × Kid tree p t × SameHead a p a t
  pub of_sender : (r : ℕ) → r < tree.rows → head a r ≢ 0 → Sender tree (head_class a r)
  pub of_part : (r : ℕ) → r < tree.rows → head a r ≢ 0 → within tree r (head_class a r) ≡ true
  pub no_length : (r : ℕ) → r < tree.rows → head a r ≡ 0 → head_length a r ≡ 0
  pub some_length : (r : ℕ) → r < tree.rows → head a r ≢ 0 → 0 < head_length a r
  -- a head's finish is its start and its charge
  pub tagged : (r : ℕ) → 0 < r → r < tree.rows → head a r ≢ 0 → finish a r ≡ start a r + charge (head_length a r) (share tree r)

-- ── one level, one event ──

-- a row as its parent sees it: unchanged
pub record SameKid (a b : Rows) (j : ℕ) : Type 0 where
  pub start_same : start b j ≡ start a j
  pub finish_same : finish b j ≡ finish a j
  pub head_same : SameHead a j b j

-- a row as its children see it: unchanged
pub record SameTop (a b : Rows) (p : ℕ) : Type 0 where
  pub virtual_same : virtual b p ≡ virtual a p
  pub head_same : SameHead a p b p

-- a row with all it has: unchanged
pub record SameRow (a b : Rows) (r : ℕ) : Type 0 where
  pub kid : SameKid a b r
  pub virtual_same : virtual b r ≡ virtual a r

-- nothing happens at p's level
pub record Still (tree : Tree) (a b : Rows) (p : ℕ) : Type 0 where
  pub kids : (j : ℕ) → Kid tree p j → SameKid a b j
  pub top : SameTop a b p

-- every child of p but c is unchanged
abbrev pub Others : Tree → Rows → Rows → ℕ → ℕ → Type 0
Others tree a b p c = (j : ℕ) → Kid tree p j → j ≢ c → SameKid a b j

-- child c has a new head, charged from the start s on
pub record Headed (tree : Tree) (b : Rows) (c s : ℕ) : Type 0 where
  pub has : head b c ≢ 0
  pub starts : start b c ≡ s
  pub ends : finish b c ≡ s + charge (head_length b c) (share tree c)

-- child c has no head, and its tags stay
pub record Dropped (a b : Rows) (c : ℕ) : Type 0 where
  pub none : head b c ≡ 0
  pub start_same : start b c ≡ start a c
  pub finish_same : finish b c ≡ finish a c

-- row p takes its child k. `raised` is its virtual time after it rose to the least start, if it had to
pub record Pick (tree : Tree) (a b : Rows) (p k : ℕ) : Type 0 where
  pub kid : Kid tree p k
  pub waiting : head b k ≢ 0
  pub raised : ℕ
  pub rises : virtual a p ≤ raised
  pub no_further : (raised ≡ virtual a p) ⊎ ((j : ℕ) → Kid tree p j → head b j ≢ 0 → raised ≤ start b j)
  pub in_time : start b k ≤ raised
  pub least : (j : ℕ) → Kid tree p j → head b j ≢ 0 → start b j ≤ raised → finish b k ≤ finish b j
  pub passes : virtual b p ≡ raised + ticks * head_length b k
  pub takes : SameHead b k b p

-- child c, which had no head, gets one
pub data Arriving (tree : Tree) (a b : Rows) (p c : ℕ) : Type 0 where
  -- p has a head already
  joins : head a p ≢ 0 → SameTop a b p → Arriving tree a b p c
  -- p has none, and takes a child
  opens : (k : ℕ) → head a p ≡ 0 → Pick tree a b p k → Arriving tree a b p c

-- child c's packet, which was p's head, has finished
pub data Departing (tree : Tree) (a b : Rows) (p c : ℕ) : Type 0 where
  -- c has a next one, and p takes a child
  renews : (k : ℕ) → Headed tree b c (finish a c) → Pick tree a b p k → Departing tree a b p c
  -- c has none, and p takes another child
  passes_on : (k : ℕ) → Dropped a b c → Pick tree a b p k → Departing tree a b p c
  -- no child has one
  empties :
      Dropped a b c → virtual b p ≡ virtual a p → head b p ≡ 0 → head_length b p ≡ 0 → ((j : ℕ) → Kid tree p j → head b j ≡ 0)
      → Departing tree a b p c

-- an arrival for class k, at p's level
pub record ArrivalAt (tree : Tree) (a b : Rows) (k p c : ℕ) : Type 0 where
  pub kid : Kid tree p c
  pub on_path : within tree c k ≡ true
  pub others : Others tree a b p c
  pub none_before : head a c ≡ 0
  pub headed : Headed tree b c (max (finish a c) (virtual a p))
  pub move : Arriving tree a b p c

-- the finish of class k's packet, at p's level
pub record DepartureAt (tree : Tree) (a b : Rows) (k p c : ℕ) : Type 0 where
  pub kid : Kid tree p c
  pub on_path : within tree c k ≡ true
  pub others : Others tree a b p c
  pub head_before : head a p ≢ 0
  pub taken : SameHead a p a c
  pub move : Departing tree a b p c
