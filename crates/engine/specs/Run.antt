-- What is lent to the run and what it leaves, as the rules' records.
use Rattle.std.specs.Prelude.{ℕ, List, ℤ, Result, Ok, Err}
use Rattle.input.specs.declared.Answer.{Answer}
use Rattle.input.specs.declared.Refusal.{Refusal}
use Rattle.rules.specs.Outcome.{Lent, Outcome}
use Rattle.input.specs.Lent.{table_of, events_of}

abbrev pub lent_of : List ℕ → List ℕ → List ℕ → List ℕ → List ℕ → List ℕ → List ℕ → List ℤ → List ℕ → Lent
lent_of identifiers parents shares classes lengths order report lags working =
    record {
      table = table_of identifiers parents shares;
      events = events_of classes lengths;
      order = order;
      report = report;
      lags = lags;
      working = working;
    }

abbrev pub left_of : Answer → List ℕ → List ℕ → List ℤ → List ℕ → Outcome
left_of answer order report lags working = record { answer = answer; order = order; report = report; lags = lags; working = working }

-- a run's result as the rules' answer: how many packets went on the line, or the refusal
abbrev pub answer_of : Result ℕ Refusal → Answer
answer_of (Ok sent) = record { number = 0; place = 0; second = 0; count = sent }
answer_of (Err r) = record { number = r.number; place = r.place; second = r.second; count = 0 }
