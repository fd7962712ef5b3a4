-- Where no two children of a row have the same head, the row's choice is clear: whichever children it looks at first, it takes the same one,
-- and that goes before every other.
-- Assumes nothing.
use Prim.Native.Nat.{ℕ, ◌<◌}
use mathlib.Core.Path.{◌≡◌, sym}
use mathlib.Core.Logic.{◌≢◌, inl, inr}
use mathlib.Core.Bool.{Bool, true, false}
use mathlib.Core.List.{List, Memᴰ}
use native.Mathlib.Decide.{ℕ_discrete}
use native.Mathlib.Omega.{arith}
use Rattle.input.specs.Classes.{Tree}
use Rattle.rules.specs.Box.{Rows, start, finish, head}
use Rattle.rules.specs.Steps.{least, waits, eligible, raised, pick}
use Rattle.laws.specs.Sound.{Kid}
use Rattle.laws.specs.Choices.{looked, Covers, Apart, Before, Alone, Clear}
use Rattle.laws.proofs.Path.Least.{Best, Found, found, looked_found, found_same}
use Rattle.laws.proofs.Path.Choosing.{waits_root, kid_waits, waits_kid, eligible_root, in_time_eligible, eligible_in_time, none_waiting}

module _ (tree : Tree) (x : Rows) (p : ℕ) (apart : Apart tree x) where
  -- two children that wait with one head are one
  waits_apart :
      (a b : ℕ) → a < tree.rows → b < tree.rows → waits tree x p a ≡ true → waits tree x p b ≡ true → head x a ≡ head x b → a ≡ b
  waits_apart a b a_inside b_inside one two same =
      let first = waits_kid tree x p a a_inside one in
      apart p a b first.0 (waits_kid tree x p b b_inside two).0 first.1 same

  abbrev in_time : ℕ → Type 0
  in_time j = eligible tree x p (raised tree x p) j ≡ true

  then_waits : (j : ℕ) → in_time j → waits tree x p j ≡ true
  then_waits j test = (eligible_in_time tree x p (raised tree x p) j test).0

  abbrev Picked : Type 0
  Picked = Found (eligible tree x p (raised tree x p)) (finish x) (head x) (λ j. j < tree.rows) (pick tree x p)

  picked : Picked
  unfolding pick
  picked = found (eligible tree x p (raised tree x p)) (finish x) (head x) (eligible_root tree x p (raised tree x p)) tree.rows

  -- ── in any order ──

  module _ (look : List ℕ) (covers : Covers tree p look) where
    -- a test that only waiting children pass, and any key
    same :
        (test : ℕ → Bool) (key : ℕ → ℕ) → test 0 ≡ false → ((j : ℕ) → test j ≡ true → waits tree x p j ≡ true)
        → looked test key (head x) look ≡ least test key (head x) tree.rows
    same test key no_root passes =
        found_same test key (head x) no_root (λ j. Memᴰ j look) (λ j. j < tree.rows)
        (λ j pass is. covers.inside j is) (λ j pass inside. covers.kids j (waits_kid tree x p j inside (passes j pass)).0)
        (λ a b a_in b_in one two one_head.
        waits_apart a b (covers.inside a a_in) (covers.inside b b_in) (passes a one) (passes b two) one_head) _ _
        (looked_found test key (head x) no_root look) (found test key (head x) no_root tree.rows)

    same_first : looked (waits tree x p) (start x) (head x) look ≡ least (waits tree x p) (start x) (head x) tree.rows
    same_first = same (waits tree x p) (start x) (waits_root tree x p) (λ j pass. pass)

    same_pick : looked (eligible tree x p (raised tree x p)) (finish x) (head x) look ≡ pick tree x p
    unfolding pick
    same_pick = same (eligible tree x p (raised tree x p)) (finish x) (eligible_root tree x p (raised tree x p)) then_waits

  -- ── alone ──

  module _ (k : ℕ) (best : Best (eligible tree x p (raised tree x p)) (finish x) (head x) (λ j. j < tree.rows) k) where
    goes_before : (j : ℕ) → j < tree.rows → in_time j → j ≢ k → Before x k j
    goes_before j inside test other = go (ℕ_discrete (finish x k) (finish x j)) (ℕ_discrete (head x k) (head x j))
      where
        go : Dec (finish x k ≡ finish x j) → Dec (head x k ≡ head x j) → Before x k j
        go (no apart) d = let leads = (best.2 j inside test).by_key in inl (omega arith)
        go (yes same) (yes one) = absurd (other (sym (waits_apart k j best.0 inside (then_waits k best.1) (then_waits j test) one)))
        go (yes same) (no apart) = let leads = (best.2 j inside test).by_place same in inr (same, omega arith)

    alone : Alone tree x p k
    alone =
        let test = eligible_in_time tree x p (raised tree x p) k best.1 in
        let wait = waits_kid tree x p k best.0 test.0 in
        record {
          kid = wait.0;
          waiting = wait.1;
          in_time = test.1;
          before = λ j kid some early other.
              goes_before j kid.inside (in_time_eligible tree x p (raised tree x p) j (kid_waits tree x p j kid some) early) other;
        }

  pub clear : Clear tree x p
  clear =
      record {
        apart = apart;
        nobody = λ none. idle none picked;
        alone = λ some. taken some picked;
        same_first = same_first;
        same_pick = same_pick;
      }
    where
      idle : pick tree x p ≡ 0 → Picked → (j : ℕ) → Kid tree p j → head x j ≡ 0
      idle none (inl f) = none_waiting tree x p f.1
      idle none (inr f) = absurd (f.0 none)

      taken : pick tree x p ≢ 0 → Picked → Alone tree x p (pick tree x p)
      taken some (inl f) = absurd (some f.0)
      taken some (inr f) = alone (pick tree x p) f.1
