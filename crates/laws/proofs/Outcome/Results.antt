-- Where the run's results stand in the lent slices: a row's words of the report, a row's lag, the order.
-- Assumes nothing.
use Prim.Native.Nat.{ℕ, zero, suc, ◌+◌, ◌*◌, ◌<◌}
use mathlib.Core.Path.{◌≡◌, refl, sym, ◌∙◌, ap, subst}
use mathlib.Core.Bool.{Bool, true, false, cond}
use mathlib.Core.List.{List, [], ◌∷◌, ◌++◌}
use native.Mathlib.Decide.{dec_lt}
use native.Mathlib.Omega.{arith}
use lib.Dec.{eqb}
use lib.ListN.{length, get_or, take, drop, get_or-append}
use lib.Seq.{get_or-append-add, get_or-append_seam, take-append_seam}
use lib.IntN.{ℤ, pos}
use borrow.Author.Tests.{eq-eqb, eqb-true}
use Rattle.input.specs.declared.Refusal.{Refusal}
use Rattle.input.specs.Limits.{report_words}
use Rattle.input.specs.Classes.{Tree, tree_of}
use Rattle.input.specs.Events.{count}
use Rattle.rules.specs.Box.{Box}
use Rattle.rules.specs.Steps.{after}
use Rattle.rules.specs.Refused.{refused}
use Rattle.rules.specs.Outcome.{Lent, Outcome, row_report, report_of, lag, lags_of, over, room_of, refusing, doing, outcome, Ran}
use Rattle.rules.proofs.Results.{report_length, lags_length}

-- ── slices ──

-- what is written stands first
over_at : {A : Type 0} (xs ys : List A) (i : ℕ) (d : A) → i < length xs → get_or (over xs ys) i d ≡ get_or xs i d
unfolding over
over_at xs ys i d inside = get_or-append xs (drop (length xs) ys) d i inside

pub over_first : {A : Type 0} (xs ys : List A) → take (length xs) (over xs ys) ≡ xs
unfolding over
over_first xs ys = take-append_seam xs (drop (length xs) ys)

module _ (tree : Tree) (box : Box) where
  -- row r's words stand from 5 · r on
  report_at : (n r i : ℕ) → r < n → i < report_words → get_or (report_of tree box n) (report_words * r + i) 0 ≡ get_or (row_report tree box r) i 0
  unfolding report_of
  report_at zero r i inside word = absurd (omega arith)
  report_at (suc n) r i inside word = go (dec_lt r n) (λ earlier. report_at n r i earlier word)
    where
      size : length (report_of tree box n) ≡ report_words * n
      size = report_length tree box n

      go :
          Dec (r < n) → (r < n → get_or (report_of tree box n) (report_words * r + i) 0 ≡ get_or (row_report tree box r) i 0)
          → get_or (report_of tree box n ++ row_report tree box n) (report_words * r + i) 0 ≡ get_or (row_report tree box r) i 0
      go (yes before) earlier =
          get_or-append (report_of tree box n) (row_report tree box n) 0 (report_words * r + i) (omega (arith, size)) ∙ earlier before
      go (no last) earlier =
          let same : r ≡ n = omega arith in
          let place : report_words * r + i ≡ length (report_of tree box n) + i = omega (arith, size) in
          rw (place, get_or-append-add (report_of tree box n) (row_report tree box n) i 0) (ap (λ (k : ℕ). get_or (row_report tree box k) i 0) (sym same))

  lags_at : (n r : ℕ) → r < n → get_or (lags_of tree box n) r (pos 0) ≡ lag tree box r
  unfolding lags_of
  lags_at zero r inside = absurd (omega arith)
  lags_at (suc n) r inside = go (dec_lt r n) (lags_at n r)
    where
      size : length (lags_of tree box n) ≡ n
      size = lags_length tree box n

      go :
          Dec (r < n) → (r < n → get_or (lags_of tree box n) r (pos 0) ≡ lag tree box r)
          → get_or (lags_of tree box n ++ lag tree box n ∷ []) r (pos 0) ≡ lag tree box r
      go (yes before) earlier = get_or-append (lags_of tree box n) (lag tree box n ∷ []) (pos 0) r (omega (arith, size)) ∙ earlier before
      go (no last) earlier =
          let same : n ≡ r = omega arith in
          let place : r ≡ length (lags_of tree box n) = omega (arith, size) in
          subst (λ (i : ℕ). get_or (lags_of tree box n ++ lag tree box n ∷ []) i (pos 0) ≡ lag tree box r) (sym place)
          (get_or-append_seam (lags_of tree box n) (lag tree box n) [] (pos 0) ∙ ap (lag tree box) same)

-- ── as they are written over a slice ──

module _ (tree : Tree) (box : Box) where
  pub reported_at :
      (lent : List ℕ) (n r i : ℕ) → r < n → i < report_words
      → get_or (over (report_of tree box n) lent) (report_words * r + i) 0 ≡ get_or (row_report tree box r) i 0
  reported_at lent n r i inside word =
      let size = report_length tree box n in
      over_at (report_of tree box n) lent (report_words * r + i) 0 (omega arith) ∙ report_at tree box n r i inside word

  pub lag_at : (lent : List ℤ) (n r : ℕ) → r < n → get_or (over (lags_of tree box n) lent) r (pos 0) ≡ lag tree box r
  lag_at lent n r inside =
      let size = lags_length tree box n in
      over_at (lags_of tree box n) lent r (pos 0) (omega arith) ∙ lags_at tree box n r inside

-- ── a done run ──

-- an input that is not refused is done
pub accepted_done :
    (lent : Lent) (left : Outcome) → Ran lent left → (refused lent.table lent.events (room_of lent)).number ≡ 0 → left.answer.number ≡ 0
unfolding outcome doing
accepted_done lent left ran none = rw (ran, eq-eqb (refused lent.table lent.events (room_of lent)).number 0 none)

module _ (lent : Lent) (left : Outcome) (ran : Ran lent left) (done : left.answer.number ≡ 0) where
  abbrev refusal : Refusal
  refusal = refused lent.table lent.events (room_of lent)

  -- the box after the last event
  abbrev pub last : Box
  last = after (tree_of lent.table) lent.events (count lent.events)

  -- an answer 0 is given for an input that is not refused alone
  pub not_refused : (refused lent.table lent.events (room_of lent)).number ≡ 0
  unfolding outcome refusing
  not_refused = go (eqb refusal.number 0) refl (subst (λ (o : Outcome). o.answer.number ≡ 0) ran done)
    where
      go :
          (b : Bool) → eqb refusal.number 0 ≡ b → (cond b (doing lent (tree_of lent.table) last) (refusing lent refusal)).answer.number ≡ 0
          → refusal.number ≡ 0
      go true e answer = eqb-true refusal.number 0 e
      go false e answer = answer

  pub done_left : left ≡ doing lent (tree_of lent.table) last
  unfolding outcome
  done_left = ran ∙ rw (eq-eqb refusal.number 0 not_refused)

  -- the words of the results, where they stand in the lent slices
  pub count_is : left.answer.count ≡ length last.order
  unfolding doing
  count_is = ap (λ (o : Outcome). o.answer.count) done_left

  pub order_is : take left.answer.count left.order ≡ last.order
  unfolding doing
  order_is = rw (done_left) (over_first last.order lent.order)

  pub word_is :
      (r i : ℕ) → r < (tree_of lent.table).rows → i < report_words
      → get_or left.report (report_words * r + i) 0 ≡ get_or (row_report (tree_of lent.table) last r) i 0
  unfolding doing
  word_is r i inside word = rw (done_left) (reported_at (tree_of lent.table) last lent.report (tree_of lent.table).rows r i inside word)

  pub lag_is : (r : ℕ) → r < (tree_of lent.table).rows → get_or left.lags r (pos 0) ≡ lag (tree_of lent.table) last r
  unfolding doing
  lag_is r inside = rw (done_left) (lag_at (tree_of lent.table) last lent.lags (tree_of lent.table).rows r inside)
