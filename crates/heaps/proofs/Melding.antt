-- A meld of two heaps is a heap of what both have.
-- Assumes nothing.
use Prim.Native.Nat.{ℕ, zero, suc, ◌+◌, ◌≤◌, ◌<◌}
use mathlib.Core.Path.{◌≡◌, refl, ◌∙◌}
use mathlib.Core.Bool.{Bool, true, false}
use native.Mathlib.Omega.{arith}
use borrow.Author.Tests.{ne_eqb}
use lib.ListN.{set, length-set}
use lib.Seq.{get_or-set_same, get_or-set_other}
use Rattle.heaps.specs.Sizes.{most_members}
use Rattle.heaps.specs.Trees.{Tree, tip, fork, same, count, size, First, Ordered}
use Rattle.heaps.specs.Links.{Links, Full, Shaped, left_of, right_of, lesser, other, turned, hung}
use Rattle.heaps.proofs.Counting.{same_yes, same_only}

-- a tree stays where its numbers' links stay
pub stays : (l m : Links) (a : ℕ) (t : Tree)
    → ((x : ℕ) → 0 < count t x → (left_of m x ≡ left_of l x) × (right_of m x ≡ right_of l x)) → Shaped l a t → Shaped m a t
unfolding Shaped count
stays l m a tip keeps shaped = shaped
stays l m a (fork x s t) keeps shaped =
    let own = same_yes x x refl in
    let here = keeps x (omega arith) in (
      shaped.0,
      shaped.1,
      shaped.2,
      rw here.0 (stays l m (left_of l x) s (λ y some. keeps y (omega arith)) shaped.3),
      rw here.1 (stays l m (right_of l x) t (λ y some. keeps y (omega arith)) shaped.4),
    )

module _ (l : Links) (at x : ℕ) where
  turned_left : (z : ℕ) → (z ≡ at → ⊥) → left_of (turned at x l) z ≡ left_of l z
  unfolding turned
  turned_left z not = get_or-set_other l.left at z x 0 not

  turned_right : (z : ℕ) → (z ≡ x → ⊥) → right_of (turned at x l) z ≡ right_of l z
  unfolding turned
  turned_right z not = get_or-set_other l.right x z (left_of l x) 0 not

  turned_at : Full l → at < most_members → left_of (turned at x l) at ≡ x
  unfolding turned
  turned_at full inside = get_or-set_same l.left at x 0 (omega (arith, full.left_full))

  turned_own : Full l → x < most_members → right_of (turned at x l) x ≡ left_of l x
  unfolding turned
  turned_own full inside = get_or-set_same l.right x (left_of l x) 0 (omega (arith, full.right_full))

  turned_full : Full l → Full (turned at x l)
  unfolding turned
  turned_full full = record { left_full = simp length-set full.left_full; right_full = simp length-set full.right_full }

-- what follows from either of two numbers that is not 0 follows from their sum
pub either : {P : Type 0} (m n : ℕ) → (0 < m → P) → (0 < n → P) → 0 < m + n → P
either zero n first second some = second (omega arith)
either (suc m) n first second some = first (omega arith)

pub by_test : {P : Type 0} (b : Bool) → (b ≡ false → P) → (b ≡ true → P) → P
by_test false no_case yes_case = no_case refl
by_test true no_case yes_case = yes_case refl

-- x is not in the tree
pub apart : (t : Tree) (x z : ℕ) → count t x ≡ 0 → 0 < count t z → z ≡ x → ⊥
apart t x z none some is = let none' : count t z ≡ 0 = rw is none in omega arith

turned_stays : (l : Links) (at x a : ℕ) (t : Tree) → count t at ≡ 0 → count t x ≡ 0 → Shaped l a t → Shaped (turned at x l) a t
turned_stays l at x a t no_at no_x shaped =
    stays l (turned at x l) a t
    (λ z some. (turned_left l at x z (apart t at z no_at some), turned_right l at x z (apart t x z no_x some))) shaped

-- two heaps that have no number in common, nor the place where they are to hang
pub record Meeting (before : ℕ → ℕ → Bool) (l : Links) (at a b : ℕ) (s t : Tree) : Type 0 where
  pub full : Full l
  pub inside : at < most_members
  pub one : Shaped l a s
  pub two : Shaped l b t
  pub some : 0 < b
  pub one_ordered : Ordered before s
  pub two_ordered : Ordered before t
  pub once : (x : ℕ) → count s x + count t x ≤ 1
  pub free : count s at + count t at ≡ 0

-- what has become of them
pub record Melded (before : ℕ → ℕ → Bool) (l m : Links) (at : ℕ) (s t : Tree) : Type 0 where
  pub tree : Tree
  pub full : Full m
  pub shaped : Shaped m (left_of m at) tree
  pub ordered : Ordered before tree
  pub counts : (x : ℕ) → count tree x ≡ count s x + count t x
  pub left_else : (x : ℕ) → (x ≡ at → ⊥) → count s x + count t x ≡ 0 → left_of m x ≡ left_of l x
  pub right_else : (x : ℕ) → count s x + count t x ≡ 0 → right_of m x ≡ right_of l x

turn_round : (before : ℕ → ℕ → Bool) (l : Links) (at a b : ℕ) (s t : Tree) → 0 < a → Meeting before l at a b s t → Meeting before l at b a t s
turn_round before l at a b s t more meet =
    record {
      full = meet.full;
      inside = meet.inside;
      one = meet.two;
      two = meet.one;
      some = more;
      one_ordered = meet.two_ordered;
      two_ordered = meet.one_ordered;
      once = λ x. let h = meet.once x in omega arith;
      free = let h = meet.free in omega arith;
    }

turned_round : (before : ℕ → ℕ → Bool) (l m : Links) (at : ℕ) (s t : Tree) → Melded before l m at t s → Melded before l m at s t
turned_round before l m at s t melded =
    record {
      tree = melded.tree;
      full = melded.full;
      shaped = melded.shaped;
      ordered = melded.ordered;
      counts = λ x. let h = melded.counts x in omega arith;
      left_else = λ x not none. melded.left_else x not (omega arith);
      right_else = λ x none. melded.right_else x (omega arith);
    }

module _ (before : ℕ → ℕ → Bool) (chain : (x y z : ℕ) → before y x ≡ false → before z y ≡ false → before z x ≡ false) where
  -- what does not come after a heap's root comes first of all
  first_of : (l : Links) (x y : ℕ) (t : Tree) → Shaped l y t → Ordered before t → before y x ≡ false → First before x t
  unfolding Shaped Ordered count
  first_of l x y tip shaped ordered not_after z some = absurd (omega arith)
  first_of l x y (fork k s t) shaped ordered not_after z some =
      either (same z k) (count s z + count t z)
      (λ here. rw (same_only z k here, ← shaped.0) not_after)
      (either (count s z) (count t z)
      (λ here. chain x k z (rw (← shaped.0) not_after) (ordered.0 z here))
      (λ here. chain x k z (rw (← shaped.0) not_after) (ordered.1 z here)))
      some

  module _ (l : Links) (at x y : ℕ) (sl sr t : Tree) (meet : Meeting before l at x y (fork x sl sr) t) where
    not_at : at ≡ x → ⊥
    unfolding count
    not_at is = let none = meet.free in let own = same_yes at x is in omega arith

    x_once : count sl x + count sr x + count t x ≡ 0
    unfolding count
    x_once = let h = meet.once x in let own = same_yes x x refl in omega arith

    -- the right side of the first and the second are next, below the first
    next : Meeting before (turned at x l) x (right_of l x) y sr t
    unfolding Shaped Ordered count
    next =
        let none = meet.free in
        let once = x_once in
        record {
          full = turned_full l at x meet.full;
          inside = meet.one.2;
          one = turned_stays l at x _ sr (omega arith) (omega arith) meet.one.4;
          two = turned_stays l at x _ t (omega arith) (omega arith) meet.two;
          some = meet.some;
          one_ordered = meet.one_ordered.3;
          two_ordered = meet.two_ordered;
          once = λ z. let h = meet.once z in omega arith;
          free = omega arith;
        }

    grown : (m : Links) → before y x ≡ false → Melded before (turned at x l) m x sr t → Melded before l m at (fork x sl sr) t
    unfolding Shaped Ordered count
    grown m not_after below =
        record {
          tree = fork x below.tree sl;
          full = below.full;
          shaped = (
            below.left_else at not_at (omega (arith, meet.free)) ∙ turned_at l at x meet.full meet.inside,
            meet.one.1,
            meet.one.2,
            below.shaped,
            rw (below.right_else x (omega (arith, x_once)) ∙ turned_own l at x meet.full meet.one.2) (stays l m _ sl keeps meet.one.3),
          );
          ordered = (first, meet.one_ordered.0, below.ordered, meet.one_ordered.2);
          counts = λ z. let h = below.counts z in omega arith;
          left_else = λ z not none. below.left_else z (λ is. let own = same_yes z x is in omega arith) (omega arith) ∙ turned_left l at x z not;
          right_else = λ z none. below.right_else z (omega arith) ∙ turned_right l at x z (λ is. let own = same_yes z x is in omega arith);
        }
      where
        -- what is on the left of the first is left alone
        keeps : (z : ℕ) → 0 < count sl z → (left_of m z ≡ left_of l z) × (right_of m z ≡ right_of l z)
        keeps z some =
            let once = meet.once z in
            let none = meet.free in
            let not_x : z ≡ x → ⊥ = λ is. let own = same_yes z x is in omega arith in
            let not_at : z ≡ at → ⊥ = apart sl at z (omega arith) some in
            (below.left_else z not_x (omega arith) ∙ turned_left l at x z not_at, below.right_else z (omega arith) ∙ turned_right l at x z not_x)

        first : First before x below.tree
        first z some =
            let all = below.counts z in
            either (count sr z) (count t z) (meet.one_ordered.1 z) (first_of l x y t meet.two meet.two_ordered not_after z) (omega arith)

module _
    (before : ℕ → ℕ → Bool)
    (chain : (x y z : ℕ) → before y x ≡ false → before z y ≡ false → before z x ≡ false)
    (whole : (x y : ℕ) → before x y ≡ true → before y x ≡ false)
  where
    stops : (n at b : ℕ) (l : Links) → hung before (suc n) at 0 b l ≡ record { left = set l.left at b; right = l.right }
    unfolding hung
    stops n at b l = refl

    takes_first : (n at a b : ℕ) (l : Links) → 0 < a → before b a ≡ false
        → hung before (suc n) at a b l ≡ hung before n a (right_of l a) b (turned at a l)
    unfolding hung lesser other
    takes_first n at a b l some is = rw (ne_eqb a 0 (λ none. omega arith), hung, is)

    takes_second : (n at a b : ℕ) (l : Links) → 0 < a → before b a ≡ true
        → hung before (suc n) at a b l ≡ hung before n b (right_of l b) a (turned at b l)
    unfolding hung lesser other
    takes_second n at a b l some is = rw (ne_eqb a 0 (λ none. omega arith), hung, is)

    -- nothing is melded with a heap
    alone : (l : Links) (at b : ℕ) (t : Tree) → Meeting before l at 0 b tip t → Melded before l (record { left = set l.left at b; right = l.right }) at tip t
    unfolding count
    alone l at b t meet =
        record {
          tree = t;
          full = record { left_full = simp length-set meet.full.left_full; right_full = meet.full.right_full };
          shaped =
              rw (get_or-set_same l.left at b 0 (omega (arith, meet.full.left_full)))
              (stays l _ b t (λ z some. (get_or-set_other l.left at z b 0 (apart t at z (omega (arith, meet.free)) some), refl)) meet.two);
          ordered = meet.two_ordered;
          counts = λ x. omega arith;
          left_else = λ x not none. get_or-set_other l.left at x b 0 not;
          right_else = λ x none. refl;
        }

    -- a meld in at most n turns is one of two heaps of n numbers at most
    abbrev Melds : ℕ → Type 0
    Melds n =
        (at a b : ℕ) (l : Links) (s t : Tree) → size s + size t ≤ n → Meeting before l at a b s t → Melded before l (hung before n at a b l) at s t

    one_more : (n : ℕ) → Melds n → Melds (suc n)
    unfolding Shaped size
    one_more n below at a b l s tip small meet = absurd (omega (arith, meet.some, meet.two))
    one_more n below at a b l tip (fork y tl tr) small meet =
        rw (meet.one, stops n at b l) (alone l at b (fork y tl tr) (rw meet.one at meet))
    one_more n below at a b l (fork x sl sr) (fork y tl tr) small meet =
        let met : Meeting before l at x y (fork x sl sr) (fork y tl tr) = rw (meet.one.0, meet.two.0) at meet in
        let met_round = turn_round before l at x y (fork x sl sr) (fork y tl tr) meet.one.1 met in
        rw (meet.one.0, meet.two.0)
        (by_test (before y x)
        (λ is.
        rw (takes_first n at x y l meet.one.1 is)
        (grown before chain l at x y sl sr (fork y tl tr) met _ is
        (below x (right_of l x) y (turned at x l) sr (fork y tl tr) (omega arith) (next before chain l at x y sl sr (fork y tl tr) met))))
        (λ is.
        rw (takes_second n at x y l meet.one.1 is)
        (turned_round before l _ at (fork x sl sr) (fork y tl tr)
        (grown before chain l at y x tl tr (fork x sl sr) met_round _ (whole y x is)
        (below y (right_of l y) x (turned at y l) tr (fork x sl sr) (omega arith) (next before chain l at y x tl tr (fork x sl sr) met_round))))))

    none_at_all : Melds 0
    unfolding Shaped size
    none_at_all at a b l s tip small meet = absurd (omega (arith, meet.some, meet.two))
    none_at_all at a b l s (fork y tl tr) small meet = absurd (omega arith)

    pub hung_melds : (n : ℕ) → Melds n
    hung_melds zero = none_at_all
    hung_melds (suc n) = one_more n (hung_melds n)
