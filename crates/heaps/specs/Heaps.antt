-- Many heaps over one pair of links: each number is in one of them at most, and each heap may have an order of its own.
use Rattle.std.specs.Prelude.{ℕ, suc, ◌<◌, ◌≡◌, Bool, cond, false, List, eqb, length, get_or, set}
use Rattle.heaps.specs.Sizes.{most_heaps}
use Rattle.heaps.specs.Trees.{Tree, count, Ordered, same}
use Rattle.heaps.specs.Links.{Links, Full, Shaped, left_of, right_of, melded, root_of, bare}

-- the root of each heap, and the links of all
pub record Forest : Type 0 where
  pub roots : List ℕ
  pub links : Links

abbrev pub forest : List ℕ → List ℕ → List ℕ → Forest
forest roots left right = record { roots = roots; links = record { left = left; right = right } }

-- the root of heap h, 0 where that is empty
abbrev pub top : Forest → ℕ → ℕ
top f h = get_or f.roots h 0

-- the heap with this root has each number once that is at home in h, and no other
pub record Heap (before : ℕ → ℕ → Bool) (l : Links) (root h : ℕ) (home : ℕ → ℕ) : Type 0 where
  pub tree : Tree
  pub shaped : Shaped l root tree
  pub ordered : Ordered before tree
  pub members : (x : ℕ) → count tree x ≡ same (home x) (suc h)

-- a heap for each h, in its own order: a number's home is its heap's number + 1, and 0 where it is in no heap
pub record Heaps (order : ℕ → ℕ → ℕ → Bool) (f : Forest) (home : ℕ → ℕ) : Type 0 where
  pub roots_full : length f.roots ≡ most_heaps
  pub full : Full f.links
  pub heap : (h : ℕ) → h < most_heaps → Heap (order h) f.links (top f h) h home

-- x moves to another home
unfoldable pub moved : (ℕ → ℕ) → ℕ → ℕ → ℕ → ℕ
moved home x place y = cond (eqb y x) place (home y)

-- k is the first of heap h, 0 where that is empty
pub record Foremost (before : ℕ → ℕ → Bool) (h k : ℕ) (home : ℕ → ℕ) : Type 0 where
  pub member : 0 < k → home k ≡ suc h
  pub first : 0 < k → (x : ℕ) → home x ≡ suc h → before x k ≡ false
  pub none : k ≡ 0 → (x : ℕ) → home x ≡ suc h → ⊥

-- x joins heap h
unfoldable pub joined : (ℕ → ℕ → Bool) → ℕ → ℕ → Forest → Forest
joined before h x f =
    record {
      roots = set f.roots h (root_of before (top f h) x (bare x f.links));
      links = melded before (top f h) x (bare x f.links);
    }

-- the first leaves heap h, if that has one
unfoldable pub parted : (ℕ → ℕ → Bool) → ℕ → Forest → Forest
parted before h f =
    let a = left_of f.links (top f h) in
    let b = right_of f.links (top f h) in
    cond (eqb (top f h) 0) f (record { roots = set f.roots h (root_of before a b f.links); links = melded before a b f.links })
