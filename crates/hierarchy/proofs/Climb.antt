-- The choices from a row up to the root, a turn of a loop at a time: what remains at the next row is what remained at this one.
-- Assumes nothing.
use Prim.Native.Nat.{ℕ, zero, suc, ◌-◌, ◌<◌}
use mathlib.Core.Path.{◌≡◌, refl, sym, ◌∙◌, subst}
use mathlib.Core.Bool.{true, false}
use mathlib.Core.List.{List}
use native.Mathlib.Numerals.{sub-one}
use native.Mathlib.Omega.{arith}
use lib.ListN.{get_or}
use Rattle.rules.specs.declared.Why.{Why}
use Rattle.input.specs.Classes.{Tree, parent}
use Rattle.input.specs.Lent.{tree_with}
use Rattle.rules.specs.Box.{Rows, has_head}
use Rattle.rules.specs.Steps.{chooses, up}
use Rattle.laws.specs.Sound.{Sound, Kid}
use Rattle.laws.proofs.Level.Heads.{has_false}
use Rattle.laws.proofs.Tree.Paths.{at_root, parent_is_inner}
use Rattle.laws.proofs.Tree.Depths.{kid_deeper, lower_kid}
use Rattle.arrays.specs.declared.TreeArrays.{TreeArrays}
use Rattle.choosing.specs.Filed.{Filing, Chooses, Chosen}
use Rattle.hierarchy.specs.Climbing.{Climbs, Settles}

module _ (tree : Tree) (why : Why) (r : ℕ) (rows : Rows) where
  up_done : (d : ℕ) → d ≡ 0 → up d tree why r rows ≡ rows
  unfolding up
  up_done d none = rw none

  up_stops : (d : ℕ) → 0 < d → has_head rows (parent tree r) ≡ true → up d tree why r rows ≡ rows
  unfolding up
  up_stops zero some has = absurd (omega arith)
  up_stops (suc d) some has = rw (has, up)

  up_goes : (d : ℕ) → 0 < d → has_head rows (parent tree r) ≡ false
      → up d tree why r rows ≡ up (d - 1) tree why (parent tree r) (chooses tree why (parent tree r) rows)
  unfolding up
  up_goes zero some has = absurd (omega arith)
  up_goes (suc d) some has = rw (has, up, sub-one)

-- what remains to be done from row r, which is at depth d, is all that was to be done from the row at first, in any tree that has these parents
-- and shares
pub record Rising
    (Begun : Filing) (arrays : TreeArrays) (why : Why) (row depth : ℕ) (before : Rows) (Filed : Filing) (d r : ℕ) (now : Rows)
    : Type 0 where
  pub climbs :
      (n : ℕ) (ids depths : List ℕ) (class_of : ℕ → ℕ) → Climbs Begun (tree_with n ids arrays.parents depths arrays.shares) class_of before row depth
      → Climbs Filed (tree_with n ids arrays.parents depths arrays.shares) class_of now r d
  pub same :
      (n : ℕ) (ids depths : List ℕ) (class_of : ℕ → ℕ) → Climbs Begun (tree_with n ids arrays.parents depths arrays.shares) class_of before row depth
      → up d (tree_with n ids arrays.parents depths arrays.shares) why r now ≡ up depth (tree_with n ids arrays.parents depths arrays.shares) why row before

module _ (Begun : Filing) (arrays : TreeArrays) (why : Why) (row depth : ℕ) (before : Rows) where
  pub rising_all : Rising Begun arrays why row depth before Begun depth row before
  rising_all = record { climbs = λ n ids depths class_of begins. begins; same = λ n ids depths class_of begins. refl }

  module _ (Filed : Filing) (d r : ℕ) (now : Rows) (rising : Rising Begun arrays why row depth before Filed d r now) where
    abbrev Begins : ℕ → List ℕ → List ℕ → (ℕ → ℕ) → Type 0
    Begins n ids depths class_of = Climbs Begun (tree_with n ids arrays.parents depths arrays.shares) class_of before row depth

    abbrev Ends : ℕ → List ℕ → List ℕ → (ℕ → ℕ) → Filing → Type 0
    Ends n ids depths class_of Ended =
        let tree = tree_with n ids arrays.parents depths arrays.shares in
        Settles Ended tree class_of (up depth tree why row before) now

    -- the root has nobody above it
    pub rising_done : d ≡ 0 → (n : ℕ) (ids depths : List ℕ) (class_of : ℕ → ℕ) → Begins n ids depths class_of → Ends n ids depths class_of Filed
    rising_done none n ids depths class_of begins =
        let tree = tree_with n ids arrays.parents depths arrays.shares in
        let here = rising.climbs n ids depths class_of begins in
        record {
          rows_are = sym (up_done tree why r now d none) ∙ rising.same n ids depths class_of begins;
          filed = subst (λ (i : ℕ). Filed tree class_of now i) (at_root tree here.sound r here.inside (here.deep ∙ none)) here.filed;
        }

    -- there is a parent p, and row r is filed with those that wait there
    module _
        (some : 0 < d) (Next : Filing)
        (files :
        (tree : Tree) (class_of : ℕ → ℕ) → Sound tree → Kid tree (get_or arrays.parents r 0) r
        → Filed tree class_of now r → Next tree class_of now 0) where
      abbrev p : ℕ
      p = get_or arrays.parents r 0

      module _ (n : ℕ) (ids depths : List ℕ) (class_of : ℕ → ℕ) (begins : Begins n ids depths class_of) where
        abbrev tree : Tree
        tree = tree_with n ids arrays.parents depths arrays.shares

        here : Climbs Filed tree class_of now r d
        here = rising.climbs n ids depths class_of begins

        kid : Kid tree p r
        kid = lower_kid tree here.sound (d - 1) r here.inside (omega (arith, here.deep))

        filed : Next tree class_of now 0
        filed = files tree class_of here.sound kid here.filed

      -- it has a head
      pub rising_stops :
          has_head now p ≡ true → (n : ℕ) (ids depths : List ℕ) (class_of : ℕ → ℕ) → Begins n ids depths class_of → Ends n ids depths class_of Next
      rising_stops has n ids depths class_of begins =
          record {
            rows_are = sym (up_stops (tree_with n ids arrays.parents depths arrays.shares) why r now d some has) ∙ rising.same n ids depths class_of begins;
            filed = filed n ids depths class_of begins;
          }

      -- or it has none, and chooses
      module _ (has : has_head now p ≡ false) where
        pub rising_chooses :
            (n : ℕ) (ids depths : List ℕ) (class_of : ℕ → ℕ) → Begins n ids depths class_of
            → Chooses Next (tree_with n ids arrays.parents depths arrays.shares) class_of now p
        rising_chooses n ids depths class_of begins =
            let here_now = here n ids depths class_of begins in
            record {
              sound = here_now.sound;
              inner = parent_is_inner (tree_with n ids arrays.parents depths arrays.shares) here_now.sound p r (kid n ids depths class_of begins);
              none = has_false now p has;
              filed = filed n ids depths class_of begins;
            }

        pub rising_goes :
            (next : Rows) (Taken : Filing)
            → ((n : ℕ) (ids depths : List ℕ) (class_of : ℕ → ℕ) → Chooses Next (tree_with n ids arrays.parents depths arrays.shares) class_of now p
            → Chosen Taken (tree_with n ids arrays.parents depths arrays.shares) class_of why p now next)
            → Rising Begun arrays why row depth before Taken (d - 1) p next
        rising_goes next Taken chosen =
            record {
              climbs = λ n ids depths class_of begins.
                  let tree = tree_with n ids arrays.parents depths arrays.shares in
                  let here_now = here n ids depths class_of begins in
                  let below = kid n ids depths class_of begins in
                  record {
                    sound = here_now.sound;
                    inside = (parent_is_inner tree here_now.sound p r below).inside;
                    deep = let deeper = kid_deeper tree here_now.sound p r below in omega (arith, here_now.deep);
                    filed = (chosen n ids depths class_of (rising_chooses n ids depths class_of begins)).filed;
                  };
              same = λ n ids depths class_of begins.
                  let tree = tree_with n ids arrays.parents depths arrays.shares in
                  rw (
                    (chosen n ids depths class_of (rising_chooses n ids depths class_of begins)).rows_are,
                    ← up_goes tree why r now d some has,
                  ) (rising.same n ids depths class_of begins);
            }
