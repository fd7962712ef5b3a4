-- Rows that are filed by what goes on the air of their identifiers are found there, if no two are one on the air.
-- Assumes nothing.
use Prim.Native.Nat.{ℕ, zero, suc, ◌≤◌, ◌<◌}
use mathlib.Core.Path.{◌≡◌, sym, ◌∙◌, ap}
use mathlib.Core.Logic.{◌≢◌}
use mathlib.Core.List.{List}
use native.Mathlib.Decide.{ℕ_discrete}
use native.Mathlib.Omega.{arith}
use lib.ListN.{length, get_or, length-set, length-replicate}
use lib.Seq.{get_or-set_same, get_or-set_other}
use Rattle.input.specs.Limits.{on_air_identifiers}
use Rattle.input.specs.Classes.{place_of, on_air}
use Rattle.laws.specs.Sound.{ApartOnAir}
use Rattle.laws.proofs.Event.Outset.{replicate_at}
use Rattle.tables.proofs.Places.{found_at, found_none}
use Rattle.checks.specs.Filed.{none_filed, rows_filed, AllFiled}

on_air_low : (identifier : ℕ) → on_air identifier < on_air_identifiers
unfolding on_air
on_air_low identifier = omega arith

none_there : (x : ℕ) → get_or none_filed x 0 ≡ 0
unfolding none_filed
none_there x = replicate_at on_air_identifiers x 0

none_long : length none_filed ≡ on_air_identifiers
unfolding none_filed
none_long = length-replicate {A = ℕ} on_air_identifiers 0

module _ (identifiers : List ℕ) where
  abbrev place : ℕ → ℕ
  place r = on_air (get_or identifiers r 0)

  filed_long : (n : ℕ) → length (rows_filed identifiers n) ≡ on_air_identifiers
  unfolding rows_filed
  filed_long zero = none_long
  filed_long (suc r) = length-set (rows_filed identifiers r) (place r) r ∙ filed_long r

  -- what is filed last is found
  filed_last : (r : ℕ) → get_or (rows_filed identifiers (suc r)) (place r) 0 ≡ r
  unfolding rows_filed
  filed_last r =
      let long = filed_long r in
      let low = on_air_low (get_or identifiers r 0) in
      get_or-set_same (rows_filed identifiers r) (place r) r 0 (omega arith)

  filed_other : (r x : ℕ) → x ≢ place r → get_or (rows_filed identifiers (suc r)) x 0 ≡ get_or (rows_filed identifiers r) x 0
  unfolding rows_filed
  filed_other r x other = get_or-set_other (rows_filed identifiers r) (place r) x r 0 other

  -- nothing else than rows is there
  filed_inside : 0 < length identifiers → (n x : ℕ) → n ≤ length identifiers → get_or (rows_filed identifiers n) x 0 < length identifiers
  unfolding rows_filed
  filed_inside some zero x few = rw (none_there x) some
  filed_inside some (suc r) x few = go (ℕ_discrete x (place r)) (filed_inside some r x (omega arith))
    where
      go : Dec (x ≡ place r) → get_or (rows_filed identifiers r) x 0 < length identifiers
          → get_or (rows_filed identifiers (suc r)) x 0 < length identifiers
      go (yes same) before = rw (same, filed_last r) (omega arith)
      go (no other) before = rw (filed_other r x other) before

  pub all_inside : (rows : List ℕ) → AllFiled identifiers rows → (x : ℕ) → get_or rows x 0 < length identifiers
  all_inside rows all x = rw all.filed (filed_inside all.some (length identifiers) x (omega arith))

  module _ (apart : ApartOnAir identifiers) where
    filed_there : (n r : ℕ) → r < n → n ≤ length identifiers → get_or (rows_filed identifiers n) (place r) 0 ≡ r
    filed_there zero r below few = absurd (omega arith)
    filed_there (suc n) r below few = go (ℕ_discrete r n) (filed_there n r)
      where
        go : Dec (r ≡ n) → (r < n → n ≤ length identifiers → get_or (rows_filed identifiers n) (place r) 0 ≡ r)
            → get_or (rows_filed identifiers (suc n)) (place r) 0 ≡ r
        go (yes same) before = rw same (filed_last n)
        go (no other) before =
            filed_other n (place r) (λ one. other (apart r n (omega arith) (omega arith) one)) ∙ before (omega arith) (omega arith)

    module _ (rows : List ℕ) (all : AllFiled identifiers rows) (class row : ℕ) (looked : row ≡ get_or rows (on_air class) 0) where
      filed_row : (r : ℕ) → r < length identifiers → get_or identifiers r 0 ≡ class → row ≡ r
      filed_row r inside named = looked ∙ rw (all.filed, ← named) (filed_there (length identifiers) r inside (omega arith))

      -- the row that stands there has the class's identifier, or none has
      pub row_there : row < length identifiers → get_or identifiers row 0 ≡ class → row ≡ place_of class identifiers
      row_there inside named =
          sym (found_at class identifiers row inside named (λ r before same. let e = filed_row r (omega arith) same in omega arith))

      pub row_nowhere : get_or identifiers row 0 ≢ class → place_of class identifiers ≡ length identifiers
      row_nowhere other =
          found_none class identifiers (λ r inside same. other (ap (λ (k : ℕ). get_or identifiers k 0) (filed_row r inside same) ∙ same))
