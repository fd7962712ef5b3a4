-- One heap of a forest changes, and every other heap stays.
-- Assumes nothing.
use Prim.Native.Nat.{ℕ, suc, ◌+◌, ◌<◌}
use mathlib.Core.Path.{◌≡◌, refl, sym, ◌∙◌, ap}
use mathlib.Core.Bool.{Bool, true, false}
use native.Mathlib.Decide.{ℕ_discrete}
use native.Mathlib.Omega.{arith}
use borrow.Author.Tests.{eq-eqb, ne_eqb}
use lib.ListN.{get_or, set, length-set}
use lib.Seq.{get_or-set_same, get_or-set_other}
use Rattle.heaps.specs.Sizes.{most_members, most_heaps}
use Rattle.heaps.specs.Trees.{Tree, tip, fork, same, count, Ordered}
use Rattle.heaps.specs.Links.{Links, Full, Shaped, left_of, right_of, melded, root_of, bare}
use Rattle.heaps.specs.Heaps.{Forest, top, Heap, Heaps, Foremost, moved, joined, parted}
use Rattle.heaps.proofs.Counting.{same_yes, same_no, same_only, same_most}
use Rattle.heaps.proofs.Melding.{stays, either, apart, by_test}
use Rattle.heaps.proofs.Uniting.{Union, union}
use Rattle.heaps.proofs.Homes.{comes, goes, elsewhere, at_home, in_heap, reordered_heap, rehomed_heap, seen}

-- what is in a tree is one of the numbers, and not 0
low_in : (l : Links) (a : ℕ) (t : Tree) (x : ℕ) → Shaped l a t → 0 < count t x → (0 < x) × (x < most_members)
unfolding Shaped count
low_in l a tip x shaped some = absurd (omega arith)
low_in l a (fork y s t) x shaped some =
    either (same x y) (count s x + count t x) (λ here. rw (same_only x y here) (shaped.1, shaped.2))
    (either (count s x) (count t x) (low_in l _ s x shaped.3) (low_in l _ t x shaped.4)) some

pub low_home : (order : ℕ → ℕ → ℕ → Bool) (f : Forest) (home : ℕ → ℕ) → Heaps order f home
    → (h x : ℕ) → h < most_heaps → home x ≡ suc h → (0 < x) × (x < most_members)
low_home order f home heaps h x inside here =
    let own = heaps.heap h inside in
    let one = in_heap (order h) f.links (top f h) h home own x here in
    low_in f.links (top f h) own.tree x own.shaped (omega arith)

-- heap h and its numbers are others, and the numbers of other heaps keep their homes and their links
replaced : (order : ℕ → ℕ → ℕ → Bool) (f : Forest) (home : ℕ → ℕ) → Heaps order f home
    → (h root : ℕ) (m : Links) (home' : ℕ → ℕ) → h < most_heaps → Full m → Heap (order h) m root h home'
    → ((q : ℕ) → (q ≡ h → ⊥) → (x : ℕ) → same (home x) (suc q) ≡ same (home' x) (suc q))
    → ((q : ℕ) → (q ≡ h → ⊥) → (x : ℕ) → 0 < x → home x ≡ suc q
    → (left_of m x ≡ left_of f.links x) × (right_of m x ≡ right_of f.links x))
    → Heaps order (record { roots = set f.roots h root; links = m }) home'
replaced order f home heaps h root m home' inside full new homes keeps =
    record { roots_full = simp length-set heaps.roots_full; full = full; heap = λ q low. go q low (ℕ_discrete q h) }
  where
    go : (q : ℕ) → q < most_heaps → Dec (q ≡ h) → Heap (order q) m (get_or (set f.roots h root) q 0) q home'
    go q low (yes is) = rw (is, get_or-set_same f.roots h root 0 (omega (arith, heaps.roots_full))) new
    go q low (no not) =
        let old = heaps.heap q low in
        rw (get_or-set_other f.roots h q root 0 not) (record {
          tree = old.tree;
          shaped =
              stays f.links m (top f q) old.tree
              (λ x some.
              keeps q not x (low_in f.links (top f q) old.tree x old.shaped some).0
              (at_home (order q) f.links (top f q) q home old x some))
              old.shaped;
          ordered = old.ordered;
          members = λ x. old.members x ∙ homes q not x;
        })

-- ── what joins, and what leaves: heap h has the order `before` ──

module _
    (before : ℕ → ℕ → Bool)
    (chain : (x y z : ℕ) → before y x ≡ false → before z y ≡ false → before z x ≡ false)
    (whole : (x y : ℕ) → before x y ≡ true → before y x ≡ false)
    (order : ℕ → ℕ → ℕ → Bool) (f : Forest) (home : ℕ → ℕ) (heaps : Heaps order f home)
    (h : ℕ) (inside : h < most_heaps) (agree : (x y : ℕ) → order h x y ≡ before x y)
  where
    own : Heap before f.links (top f h) h home
    own = reordered_heap (order h) f.links (top f h) h home (heaps.heap h inside) before (λ x y a b. sym (agree x y))

    -- the same with another heap in its place
    renewed : (root : ℕ) (m : Links) (home' : ℕ → ℕ) → Full m → Heap before m root h home'
        → ((q : ℕ) → (q ≡ h → ⊥) → (x : ℕ) → same (home x) (suc q) ≡ same (home' x) (suc q))
        → ((q : ℕ) → (q ≡ h → ⊥) → (x : ℕ) → 0 < x → home x ≡ suc q
        → (left_of m x ≡ left_of f.links x) × (right_of m x ≡ right_of f.links x))
        → Heaps order (record { roots = set f.roots h root; links = m }) home'
    renewed root m home' full new =
        replaced order f home heaps h root m home' inside full
        (reordered_heap before m root h home' new (order h) (λ x y a b. agree x y))

    module _ (x : ℕ) (positive : 0 < x) (low : x < most_members) (nowhere : home x ≡ 0) where
      abbrev l₁ : Links
      l₁ = bare x f.links

      bare_full : Full l₁
      unfolding bare
      bare_full = record { left_full = simp length-set heaps.full.left_full; right_full = simp length-set heaps.full.right_full }

      bare_else : (y : ℕ) → (y ≡ x → ⊥) → (left_of l₁ y ≡ left_of f.links y) × (right_of l₁ y ≡ right_of f.links y)
      unfolding bare
      bare_else y not = (get_or-set_other f.links.left x y 0 0 not, get_or-set_other f.links.right x y 0 0 not)

      bare_own : Shaped l₁ x (fork x tip tip)
      unfolding bare Shaped
      bare_own = (
        refl,
        positive,
        low,
        get_or-set_same f.links.left x 0 0 (omega (arith, heaps.full.left_full)),
        get_or-set_same f.links.right x 0 0 (omega (arith, heaps.full.right_full)),
      )

      both : Union before l₁ (melded before (top f h) x l₁) (root_of before (top f h) x l₁) own.tree (fork x tip tip)
      unfolding count Ordered
      both =
          union before chain whole l₁ (top f h) x own.tree (fork x tip tip) bare_full
          (stays f.links l₁ (top f h) own.tree
          (λ y some. bare_else y (apart own.tree x y (own.members x ∙ same_no (home x) (suc h) (λ is. omega arith)) some)) own.shaped)
          bare_own own.ordered ((λ y some. absurd (omega arith)), (λ y some. absurd (omega arith)), tt, tt)
          (λ y.
          let in_heap = own.members y in
          let all = comes home h x y nowhere in
          let few = same_most (moved home x (suc h) y) (suc h) in
          omega arith)

      pub joined_heaps : Heaps order (joined before h x f) (moved home x (suc h))
      unfolding joined count
      joined_heaps =
          renewed (root_of before (top f h) x l₁) (melded before (top f h) x l₁) (moved home x (suc h)) both.full
          (record {
            tree = both.tree;
            shaped = both.shaped;
            ordered = both.ordered;
            members = λ y. let all = both.counts y in let in_heap = own.members y in let sum = comes home h x y nowhere in omega arith;
          })
          (λ q not y. elsewhere home x (suc h) q y (λ e. omega arith) (λ e. omega arith))
          (λ q not y some at_q.
          let in_heap = own.members y in
          let none = same_no (home y) (suc h) (λ e. not (omega arith)) in
          let differ : y ≡ x → ⊥ = λ is. let e : home y ≡ home x = ap home is in omega arith in
          let other = same_no y x differ in
          let kept = both.keeps y some (omega arith) in
          let bared = bare_else y differ in
          (kept.0 ∙ bared.0, kept.1 ∙ bared.1))

    abbrev a : ℕ
    a = left_of f.links (top f h)

    abbrev b : ℕ
    b = right_of f.links (top f h)

    not_itself : (x : ℕ) → before x x ≡ false
    not_itself x = by_test (before x x) (λ is. is) (λ is. whole x x is)

    -- the first of the heap with this tree
    foremost_of : (t : Tree) → Shaped f.links (top f h) t → Ordered before t → ((x : ℕ) → count t x ≡ same (home x) (suc h))
        → Foremost before h (top f h) home
    unfolding Shaped Ordered count
    foremost_of tip shaped ordered members =
        record {
          member = λ some. absurd (omega arith);
          first = λ some x here. absurd (omega arith);
          none = λ nothing x here. let is = members x in let one = same_yes (home x) (suc h) here in omega arith;
        }
    foremost_of (fork k s t) shaped ordered members =
        record {
          member = λ some. same_only (home (top f h)) (suc h) (let is = members (top f h) in let one = same_yes (top f h) k shaped.0 in omega arith);
          first = λ some x here.
              let is = members x in
              let one = same_yes (home x) (suc h) here in
              rw shaped.0
              (either (same x k) (count s x + count t x)
              (λ own. rw (same_only x k own) (not_itself k))
              (either (count s x) (count t x) (ordered.0 x) (ordered.1 x))
              (omega arith));
          none = λ nothing x here. omega (arith, shaped.0, shaped.1);
        }

    pub foremost : Foremost before h (top f h) home
    foremost = foremost_of own.tree own.shaped own.ordered own.members

    rest_of : (t : Tree) → 0 < top f h → Shaped f.links (top f h) t → Ordered before t → ((x : ℕ) → count t x ≡ same (home x) (suc h))
        → Heaps order (record { roots = set f.roots h (root_of before a b f.links); links = melded before a b f.links }) (moved home (top f h) 0)
    unfolding Shaped Ordered count
    rest_of tip some shaped ordered members = absurd (omega arith)
    rest_of (fork k s t) some shaped ordered members =
        renewed (root_of before a b f.links) (melded before a b f.links) (moved home (top f h) 0) all.full
        (record {
          tree = all.tree;
          shaped = all.shaped;
          ordered = all.ordered;
          members = λ x.
              let now = all.counts x in
              let was = members x in
              let gone = goes home h (top f h) x (foremost.member some) in
              let same_top : same x (top f h) ≡ same x k = ap (same x) shaped.0 in
              omega arith;
        })
        (λ q not y. elsewhere home (top f h) 0 q y (λ e. let here = foremost.member some in omega arith) (λ e. omega arith))
        (λ q not y positive at_q.
        let was = members y in
        let none = same_no (home y) (suc h) (λ e. not (omega arith)) in
        all.keeps y positive (omega arith))
      where
        all : Union before f.links (melded before a b f.links) (root_of before a b f.links) s t
        all =
            union before chain whole f.links a b s t heaps.full (rw shaped.0 shaped.3) (rw shaped.0 shaped.4) ordered.2 ordered.3
            (λ x. let was = members x in let few = same_most (home x) (suc h) in omega arith)

    pub parted_heaps : Heaps order (parted before h f) (moved home (top f h) 0)
    unfolding parted
    parted_heaps = go (ℕ_discrete (top f h) 0)
      where
        go : Dec (top f h ≡ 0) → Heaps order (parted before h f) (moved home (top f h) 0)
        go (yes none) =
            rw (eq-eqb (top f h) 0 none)
            (seen order order f home (moved home (top f h) 0)
            (λ q low heap.
            rehomed_heap (order q) f.links (top f q) q home heap (moved home (top f h) 0)
            (λ y.
            elsewhere home (top f h) 0 q y
            (λ e. let some = (low_home order f home heaps q (top f h) low e).0 in omega arith)
            (λ e. omega arith)))
            heaps)
        go (no some) =
            rw (ne_eqb (top f h) 0 some) (rest_of own.tree (omega arith) own.shaped own.ordered own.members)
