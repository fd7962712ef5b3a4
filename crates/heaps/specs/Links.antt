-- Trees as links: for each number the roots of its two sides, 0 where there is none. Number 0 is in no tree.
use Rattle.std.specs.Prelude.{ℕ, zero, suc, ◌<◌, ◌≡◌, Bool, cond, List, eqb, length, get_or, set}
use Rattle.heaps.specs.Sizes.{most_members}
use Rattle.heaps.specs.Trees.{Tree, tip, fork}

pub record Links : Type 0 where
  pub left : List ℕ
  pub right : List ℕ

abbrev pub links : List ℕ → List ℕ → Links
links left right = record { left = left; right = right }

abbrev pub left_of : Links → ℕ → ℕ
left_of l x = get_or l.left x 0

abbrev pub right_of : Links → ℕ → ℕ
right_of l x = get_or l.right x 0

pub record Full (l : Links) : Type 0 where
  pub left_full : length l.left ≡ most_members
  pub right_full : length l.right ≡ most_members

-- the links from a on are this tree
unfoldable pub Shaped : Links → ℕ → Tree → Type 0
Shaped l a tip = a ≡ 0
Shaped l a (fork x s t) = (a ≡ x) × (0 < x) × (x < most_members) × Shaped l (left_of l x) s × Shaped l (right_of l x) t

-- the lesser of two, and the other
unfoldable pub lesser : (ℕ → ℕ → Bool) → ℕ → ℕ → ℕ
lesser before a b = cond (before b a) b a

unfoldable pub other : (ℕ → ℕ → Bool) → ℕ → ℕ → ℕ
other before a b = cond (before b a) a b

-- x hangs to the left of at, and its left side goes to its right
unfoldable pub turned : ℕ → ℕ → Links → Links
turned at x l = record { left = set l.left at x; right = set l.right x (left_of l x) }

-- what a and b have is melded, in at most so many turns, and hangs to the left of at
unfoldable pub hung : (ℕ → ℕ → Bool) → ℕ → ℕ → ℕ → ℕ → Links → Links
hung before zero at a b l = l
hung before (suc n) at a b l =
    cond (eqb a 0) (record { left = set l.left at b; right = l.right })
    (hung before n (lesser before a b) (right_of l (lesser before a b)) (other before a b) (turned at (lesser before a b) l))

-- what a and b have, melded: the links, and the root
unfoldable pub melded : (ℕ → ℕ → Bool) → ℕ → ℕ → Links → Links
melded before a b l = cond (eqb b 0) l (hung before most_members 0 a b l)

unfoldable pub root_of : (ℕ → ℕ → Bool) → ℕ → ℕ → Links → ℕ
root_of before a b l = cond (eqb b 0) a (left_of (hung before most_members 0 a b l) 0)

-- x has nothing on either side
unfoldable pub bare : ℕ → Links → Links
bare x l = record { left = set l.left x 0; right = set l.right x 0 }
