-- The test of a tree says what a sound tree has, and no more.
-- Assumes nothing.
use Prim.Native.Nat.{ℕ, zero, suc, ◌≤◌, ◌<◌}
use mathlib.Core.Path.{◌≡◌, refl, sym, subst}
use mathlib.Core.Bool.{Bool, true, false, ◌||◌, or-true}
use native.Mathlib.Omega.{arith}
use lib.Dec.{T, leb, ltb, eqb}
use lib.ListN.{length, get_or}
use borrow.Author.Tests.{ltb-true, leb-true, eqb-true, lt-ltb, le-leb, eq-eqb, ne_eqb}
use Rattle.input.specs.Limits.{most_rows, most_depth, most_identifier, whole}
use Rattle.input.specs.Shares.{allowed}
use Rattle.input.specs.Classes.{Tree, parent, depth, share, row_of, children_share}
use Rattle.live_rules.specs.Soundness.{all, children_sum, named, root_sound, class_sound, tree_sound}
use Rattle.live_laws.specs.Holds.{Treed}
use Rattle.live_rules.proofs.Alls.{both_true, true_both, all_true, true_all}

is_true : (b : Bool) → b ≡ true → T b
is_true b pass = subst T (sym pass) tt

true_is : (b : Bool) → T b → b ≡ true
true_is true passes = refl
true_is false passes = absurd passes

-- the shares of p's children, as the test and as the rules add them up
shares_sum : (tree : Tree) (p n : ℕ) → children_sum tree tree.shares p n ≡ children_share tree p n
unfolding children_sum children_share
shares_sum tree p zero = refl
shares_sum tree p (suc n) = rw (shares_sum tree p n)

-- ── one row ──

-- any row but the root
record ClassFits (tree : Tree) (r : ℕ) : Type 0 where
  parent_row : parent tree r < tree.rows
  deeper : depth tree r ≡ suc (depth tree (parent tree r))
  shallow : depth tree r ≤ most_depth
  share_allowed : T (allowed (share tree r))

class_fits : (tree : Tree) (r : ℕ) → class_sound tree r ≡ true → ClassFits tree r
unfolding class_sound
class_fits tree r pass =
    let first = both_true (ltb (parent tree r) tree.rows) _ pass in
    let second = both_true (eqb (depth tree r) (suc (depth tree (parent tree r)))) _ first.1 in
    let third = both_true (leb (depth tree r) most_depth) _ second.1 in
    record {
      parent_row = ltb-true (parent tree r) tree.rows first.0;
      deeper = eqb-true (depth tree r) (suc (depth tree (parent tree r))) second.0;
      shallow = leb-true (depth tree r) most_depth third.0;
      share_allowed = is_true (allowed (share tree r)) third.1;
    }

fits_class : (tree : Tree) (r : ℕ) → ClassFits tree r → class_sound tree r ≡ true
unfolding class_sound
fits_class tree r fits =
    true_both (ltb (parent tree r) tree.rows) _ (lt-ltb (parent tree r) tree.rows fits.parent_row)
    (true_both (eqb (depth tree r) (suc (depth tree (parent tree r)))) _ (eq-eqb (depth tree r) (suc (depth tree (parent tree r))) fits.deeper)
    (true_both (leb (depth tree r) most_depth) _ (le-leb (depth tree r) most_depth fits.shallow)
    (true_is (allowed (share tree r)) fits.share_allowed)))

name_fits :
    (tree : Tree) (r : ℕ) → named tree r ≡ true
    → (0 < get_or tree.identifiers r 0) × (get_or tree.identifiers r 0 ≤ most_identifier) × (row_of tree (get_or tree.identifiers r 0) ≡ r)
unfolding named
name_fits tree r pass =
    let identifier = get_or tree.identifiers r 0 in
    let first = both_true (ltb 0 identifier) _ pass in
    let second = both_true (leb identifier most_identifier) _ first.1 in
    (ltb-true 0 identifier first.0, leb-true identifier most_identifier second.0, eqb-true (row_of tree identifier) r second.1)

fits_name :
    (tree : Tree) (r : ℕ) → 0 < get_or tree.identifiers r 0 → get_or tree.identifiers r 0 ≤ most_identifier
    → row_of tree (get_or tree.identifiers r 0) ≡ r → named tree r ≡ true
unfolding named
fits_name tree r some few apart =
    let identifier = get_or tree.identifiers r 0 in
    true_both (ltb 0 identifier) _ (lt-ltb 0 identifier some)
    (true_both (leb identifier most_identifier) _ (le-leb identifier most_identifier few) (eq-eqb (row_of tree identifier) r apart))

root_fits : (tree : Tree) → root_sound tree ≡ true → (parent tree 0 ≡ 0) × (depth tree 0 ≡ 0) × (share tree 0 ≡ 0)
unfolding root_sound
root_fits tree pass =
    let first = both_true (eqb (parent tree 0) 0) _ pass in
    let second = both_true (eqb (depth tree 0) 0) _ first.1 in
    (eqb-true (parent tree 0) 0 first.0, eqb-true (depth tree 0) 0 second.0, eqb-true (share tree 0) 0 second.1)

fits_root : (tree : Tree) → parent tree 0 ≡ 0 → depth tree 0 ≡ 0 → share tree 0 ≡ 0 → root_sound tree ≡ true
unfolding root_sound
fits_root tree parent_is depth_is share_is =
    true_both (eqb (parent tree 0) 0) _ (eq-eqb (parent tree 0) 0 parent_is)
    (true_both (eqb (depth tree 0) 0) _ (eq-eqb (depth tree 0) 0 depth_is) (eq-eqb (share tree 0) 0 share_is))

-- ── the tree ──

-- every row, and the shares below every row
abbrev class_test : Tree → ℕ → Bool
class_test tree r = eqb r 0 || class_sound tree r

abbrev shares_test : Tree → ℕ → Bool
shares_test tree p = leb (children_sum tree tree.shares p tree.rows) whole

tree_parts :
    (tree : Tree) → tree_sound tree ≡ true
    → (root_sound tree ≡ true) × (all tree.rows (named tree) ≡ true) × (all tree.rows (class_test tree) ≡ true)
    × (all tree.rows (shares_test tree) ≡ true)
unfolding tree_sound
tree_parts tree pass =
    let first = both_true (root_sound tree) _ pass in
    let second = both_true (all tree.rows (named tree)) _ first.1 in
    let third = both_true (all tree.rows (class_test tree)) (all tree.rows (shares_test tree)) second.1 in
    (first.0, second.0, third.0, third.1)

pub tree_holds :
    (tree : Tree) → 0 < tree.rows → tree.rows ≤ most_rows → length tree.identifiers ≡ tree.rows → tree_sound tree ≡ true → Treed tree
tree_holds tree some few full pass =
    record {
      sound =
          record {
            some_rows = some;
            few_rows = few;
            named = full;
            root_depth = root.1;
            parent_row = λ r positive inside. (class r positive inside).parent_row;
            deeper = λ r positive inside. (class r positive inside).deeper;
            shallow = shallow;
            share_allowed = λ r positive inside. (class r positive inside).share_allowed;
            shares_fit = shares;
          };
      root_parent = root.0;
      root_share = root.2;
      some = λ r inside. (names r inside).0;
      few = λ r inside. (names r inside).1;
      apart = λ r inside. (names r inside).2;
    }
  where
    parts :
        (root_sound tree ≡ true) × (all tree.rows (named tree) ≡ true) × (all tree.rows (class_test tree) ≡ true)
        × (all tree.rows (shares_test tree) ≡ true)
    parts = tree_parts tree pass

    root : (parent tree 0 ≡ 0) × (depth tree 0 ≡ 0) × (share tree 0 ≡ 0)
    root = root_fits tree parts.0

    names :
        (r : ℕ) → r < tree.rows
        → (0 < get_or tree.identifiers r 0) × (get_or tree.identifiers r 0 ≤ most_identifier) × (row_of tree (get_or tree.identifiers r 0) ≡ r)
    names r inside = name_fits tree r (all_true tree.rows (named tree) parts.1 r inside)

    class : (r : ℕ) → 0 < r → r < tree.rows → ClassFits tree r
    class r positive inside = class_fits tree r (rw (ne_eqb r 0 (omega arith)) at (all_true tree.rows (class_test tree) parts.2 r inside))

    shares : (p : ℕ) → p < tree.rows → children_share tree p tree.rows ≤ whole
    shares p inside =
        rw (shares_sum tree p tree.rows)
        at (leb-true (children_sum tree tree.shares p tree.rows) whole (all_true tree.rows (shares_test tree) parts.3 p inside))

    shallow : (r : ℕ) → r < tree.rows → depth tree r ≤ most_depth
    shallow zero inside = omega (arith, root.1)
    shallow (suc r) inside = (class (suc r) (omega arith) inside).shallow

pub holds_tree : (tree : Tree) → Treed tree → tree_sound tree ≡ true
unfolding tree_sound
holds_tree tree treed =
    true_both (root_sound tree) _ (fits_root tree treed.root_parent treed.sound.root_depth treed.root_share)
    (true_both (all tree.rows (named tree)) _
    (true_all tree.rows (named tree) (λ r inside. fits_name tree r (treed.some r inside) (treed.few r inside) (treed.apart r inside)))
    (true_both (all tree.rows (class_test tree)) (all tree.rows (shares_test tree)) (true_all tree.rows (class_test tree) class)
    (true_all tree.rows (shares_test tree) shares)))
  where
    shares : (p : ℕ) → p < tree.rows → shares_test tree p ≡ true
    shares p inside =
        le-leb (children_sum tree tree.shares p tree.rows) whole (rw (shares_sum tree p tree.rows) (treed.sound.shares_fit p inside))

    class : (r : ℕ) → r < tree.rows → class_test tree r ≡ true
    class zero inside = refl
    class (suc r) inside =
        rw (fits_class tree (suc r)
        (record {
          parent_row = treed.sound.parent_row (suc r) (omega arith) inside;
          deeper = treed.sound.deeper (suc r) (omega arith) inside;
          shallow = treed.sound.shallow (suc r) inside;
          share_allowed = treed.sound.share_allowed (suc r) (omega arith) inside;
        })) (or-true (eqb (suc r) 0))
