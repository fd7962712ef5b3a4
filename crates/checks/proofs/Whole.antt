-- A whole input: the refusal by the parts that were looked at, and what is known where a part does not refuse.
-- Assumes nothing.
use Prim.Native.Nat.{ℕ, ◌≤◌}
use mathlib.Core.Path.{◌≡◌, sym, ◌∙◌}
use mathlib.Core.Bool.{not}
use mathlib.Core.Logic.{◌≢◌}
use mathlib.Core.List.{List}
use mathlib.Mathlib.Data.Bool.Basic.{or-eq-false-eq-eq-false-and-eq-false as or-is-false}
use lib.Dec.{eqb, ltb}
use lib.ListN.{length}
use borrow.Author.Tests.{eqb-true, ltb-false, not-false}
use Rattle.std.specs.Prelude.{Result, Ok, Err}
use Rattle.std.specs.Result.{IsErrAnd}
use Rattle.input.specs.declared.Refusal.{Refusal}
use Rattle.input.specs.Limits.{most_events}
use Rattle.input.specs.Classes.{Table, tree_of}
use Rattle.input.specs.Events.{Events, count}
use Rattle.input.specs.Refusals.{Room, nothing, or_else, first_below, rows_refused, events_refused, table_refused}
use Rattle.rules.specs.Refused.{refused}
use Rattle.laws.proofs.Tree.Trees.{first_none, given_none}
use Rattle.tables.specs.declared.Reading.{Reading}
use Rattle.tables.specs.Sized.{Sized}
use Rattle.tables.specs.Judged.{Refuses, Judged}
use Rattle.tables.proofs.Firsts.{or_else_first, or_else_second}
use Rattle.tables.proofs.Judging.{judged_as, handed, at_first, at_second, at_last}
use Rattle.tables.proofs.Answering.{sized}
use Rattle.checks.specs.declared.Checked.{Checked}
use Rattle.checks.specs.Counted.{counted_refused, lengths_refused, with_rows}
use Rattle.checks.proofs.Counting.{rules_split}

pub record Listed (events : Events) : Type 0 where
  pub even : length events.lengths ≡ count events
  pub few : count events ≤ most_events

-- a refusal that a `?` hands on, whatever rows are filled in by then
pub read_stop :
    (refusal : Refusal) (found : Checked) (rows : List ℕ) (r : Result Reading Refusal) (e : Refusal) → IsErrAnd r (λ x. x ≡ e) → Refuses refusal e
    → Judged refusal found (with_rows rows r)
read_stop refusal found rows (Ok reading) e none refuses = absurd none
read_stop refusal found rows (Err x) e same refuses = handed refusal found (Err x) e same refuses

module _ (table : Table) (events : Events) (room : Room) where
  abbrev lengths : Refusal
  lengths = lengths_refused table events room

  abbrev listed : Refusal
  listed = first_below (counted_refused (tree_of table) events) (count events)

  split : refused table events room ≡ or_else lengths (or_else (table_refused table) (or_else listed nothing))
  split = rules_split table events room

  pub by_lengths : lengths.number ≢ 0 → refused table events room ≡ lengths
  by_lengths some = split ∙ or_else_first lengths _ some

  pub by_table : lengths.number ≡ 0 → (table_refused table).number ≢ 0 → refused table events room ≡ table_refused table
  by_table none some = split ∙ or_else_second lengths _ none ∙ or_else_first (table_refused table) _ some

  -- ── what a check answers that stops at a part, or at none ──

  pub stops_lengths : (r : Refusal) → Refuses lengths r → Refuses (refused table events room) r
  stops_lengths r refuses = rw split (at_first lengths _ r refuses)

  pub past_lengths : {A : Type 0} (found : A) (r : Result A Refusal) → lengths.number ≡ 0 → Judged (or_else (table_refused table) (or_else listed nothing)) found r
      → Judged (refused table events room) found r
  past_lengths found r none judged = judged_as _ _ found r (sym split) (at_second lengths _ found r none judged)

  pub stops_table : (r : Refusal) → lengths.number ≡ 0 → Refuses (table_refused table) r → Refuses (refused table events room) r
  stops_table r none refuses = past_lengths r (Err r) none (at_first (table_refused table) _ r refuses)

  pub past_table : {A : Type 0} (found : A) (r : Result A Refusal) → lengths.number ≡ 0 → (table_refused table).number ≡ 0 → Judged listed found r
      → Judged (refused table events room) found r
  past_table found r none fine judged =
      past_lengths found r none (at_second (table_refused table) (or_else listed nothing) found r fine (at_last listed found r judged))

  -- ── what is known where the lengths are accepted ──

  pub whole_rows : lengths.number ≡ 0 → (rows_refused table).number ≡ 0
  unfolding lengths_refused
  whole_rows none = (first_none _ none).0

  pub whole_sized : lengths.number ≡ 0 → Sized table
  whole_sized none = sized table (whole_rows none)

  pub whole_listed : lengths.number ≡ 0 → Listed events
  unfolding lengths_refused events_refused
  whole_listed none =
      let even = eqb (length events.lengths) (count events) in
      let both = (or-is-false (not even) (ltb most_events (count events))).0 (given_none _ _ _ (first_none _ none).1.0) in
      record {
        even = eqb-true (length events.lengths) (count events) (not-false even both.0);
        few = ltb-false most_events (count events) both.1;
      }
