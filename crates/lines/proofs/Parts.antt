-- The lines of a text, as the parts that are put one after the other.
-- Assumes nothing.
use Prim.Native.Nat.{ℕ, suc, ◌+◌, ◌*◌}
use mathlib.Core.Path.{◌≡◌, refl, sym}
use mathlib.Core.Logic.{◌≢◌}
use mathlib.Core.List.{List, [], ◌∷◌, ◌++◌, append_assoc, append-nil}
use Rattle.std.specs.Prelude.{Result, Ok, Err, IfErr}
use Rattle.input.specs.declared.Answer.{Answer}
use Rattle.input.specs.declared.Refusal.{Refusal}
use lib.IntN.{ℤ}
use lib.ListN.{get_or, take}
use borrow.Author.Tests.{eq-eqb, ne_eqb}
use Rattle.input.specs.Limits.{report_words}
use Rattle.output.specs.Numbers.{decimal}
use Rattle.forms.specs.Bytes.{comma, line_end, answer_heading}
use Rattle.forms.specs.Outcomes.{answer_of, answered, result_text}
use Rattle.forms.specs.Texts.{row_line, report_fields, report_text, answer_text, order_text, run_text}

pub row_parts :
    (identifier parent share : ℕ)
    → (decimal identifier ++ comma ∷ []) ++ ((decimal parent ++ comma ∷ []) ++ (decimal share ++ line_end)) ≡ row_line identifier parent share
unfolding row_line
row_parts identifier parent share = simp append_assoc

-- one word more of a row's report
pub fields_turn :
    (report : List ℕ) (r j : ℕ)
    → report_fields report r j ++ (decimal (get_or report (report_words * r + j) 0) ++ comma ∷ []) ≡ report_fields report r (suc j)
unfolding report_fields
fields_turn report r j = sym (append_assoc (report_fields report r j) (decimal (get_or report (report_words * r + j) 0)) (comma ∷ []))

-- the line of a row of a report: its identifier, its words and its lag
pub report_parts :
    (identifier : ℕ) (fields lag : List ℕ)
    → (decimal identifier ++ comma ∷ []) ++ (fields ++ (lag ++ line_end)) ≡ decimal identifier ++ comma ∷ fields ++ lag ++ line_end
report_parts identifier fields lag = simp append_assoc

pub answer_parts :
    (answer : Answer)
    → answer_heading
    ++ (line_end
    ++ ((decimal answer.number ++ comma ∷ [])
    ++ ((decimal answer.place ++ comma ∷ [])
    ++ ((decimal answer.second ++ comma ∷ []) ++ (decimal answer.count ++ line_end)))))
    ≡ answer_text answer
unfolding answer_text
answer_parts answer = simp append_assoc

-- ── a whole run ──

module _ (answer : Answer) (identifiers order report : List ℕ) (lags : List ℤ) where
  pub run_refused : answer.number ≢ 0 → answer_text answer ≡ run_text answer identifiers order report lags
  unfolding run_text
  run_refused some = rw (ne_eqb answer.number 0 some) (sym (append-nil (answer_text answer)))

  pub run_done :
      answer.number ≡ 0
      → answer_text answer ++ (order_text (take answer.count order) ++ report_text identifiers report lags)
      ≡ run_text answer identifiers order report lags
  unfolding run_text
  run_done done = rw (eq-eqb answer.number 0 done)

-- what is printed of a result, whose errors have a number above 0, is what is printed of the answer that it comes to
pub result_is :
    (result : Result ℕ Refusal) (identifiers order report : List ℕ) (lags : List ℤ) → IfErr result (λ refusal. refusal.number ≢ 0)
    → result_text result identifiers order report lags ≡ run_text (answered result) identifiers order report lags
result_is (Ok count) identifiers order report lags some = refl
result_is (Err refusal) identifiers order report lags some = run_refused (answer_of refusal 0) identifiers order report lags some
