-- What a run leaves is the rules' outcome: of a refused input its refusal and all words as they were, else the results.
-- Assumes nothing.
use Prim.Native.Nat.{ℕ}
use mathlib.Core.Path.{◌≡◌, ap}
use mathlib.Core.List.{List}
use lib.ListN.{length, replicate}
use lib.IntN.{ℤ}
use borrow.Author.Tests.{eq-eqb, ne_eqb}
use Rattle.std.specs.Prelude.{Result, Ok, Err}
use Rattle.std.specs.Result.{IsErrAnd}
use Rattle.input.specs.declared.Refusal.{Refusal}
use Rattle.input.specs.Classes.{Table, Tree, tree_of}
use Rattle.input.specs.Events.{Events, count}
use Rattle.input.specs.Refusals.{Room}
use Rattle.rules.specs.Refused.{refused}
use Rattle.rules.specs.Outcome.{Lent, over, room_of, refusing, doing, outcome, Ran}
use Rattle.input.proofs.EventRows.{row_at}
use Rattle.arrays.specs.Arrays.{tree_in}
use Rattle.report.specs.Shown.{Sending}
use Rattle.tables.specs.declared.Reading.{Reading}
use Rattle.tables.specs.Answers.{accepting}
use Rattle.tables.specs.Judged.{Refuses}
use Rattle.checks.specs.declared.Checked.{Checked}
use Rattle.checks.specs.Counted.{checked}
use Rattle.events.specs.State.{Fit}
use Rattle.engine.specs.Served.{RowsFor, Served}
use Rattle.engine.specs.Run.{left_of, answer_of}
use Rattle.engine.proofs.Opening.{cleared_again}
use Rattle.engine.proofs.Accepting.{same_tree, fit, sending, Roomy, roomy}

-- ── an input that is not refused, as the check found it ──

module _
    (table : Table) (events : Events) (room : Room) {check : Checked} (passed : (refused table events room).number ≡ 0) (is : check ≡ checked table events) where
  -- the arrays are the table's tree
  abbrev tree : Tree
  tree = tree_in (length table.identifiers) table.identifiers check.reading.tree

  reading_is : check.reading ≡ accepting (tree_of table)
  unfolding checked
  reading_is = ap (λ (c : Checked). c.reading) is

  tree_is : tree ≡ tree_of table
  unfolding accepting
  tree_is = same_tree table check.reading.tree (ap (λ (r : Reading). r.tree) reading_is)

  pub fit_is : Fit tree events
  fit_is = rw tree_is (fit table events room passed)

  pub sending_is : Sending tree (length table.identifiers) check.reading.senders
  unfolding accepting
  sending_is = rw (tree_is, ap (λ (r : Reading). r.senders) reading_is) (sending table events room passed)

  pub rows_for_is : RowsFor tree events check.event_rows
  unfolding checked
  rows_for_is i below = rw (tree_is, ap (λ (c : Checked). c.event_rows) is) (row_at (tree_of table) events (count events) i below fit_is.few)

  pub roomy_is : Roomy table events room
  roomy_is = roomy table events room passed

-- ── what a run leaves ──

module _ (lent : Lent) where
  pub refused_left : (r : Result ℕ Refusal) (e : Refusal) → IsErrAnd r (λ x. x ≡ e) → Refuses (refused lent.table lent.events (room_of lent)) e
      → Ran lent (left_of (answer_of r) lent.order lent.report lent.lags lent.working)
  unfolding outcome refusing
  refused_left (Ok sent) e none refuses = absurd none
  refused_left (Err x) e same refuses = rw (same, refuses.1, ne_eqb (refused lent.table lent.events (room_of lent)).number 0 refuses.0)

  served : (tree : Tree) (sent : ℕ) (order report : List ℕ) (lags : List ℤ) (used working : List ℕ) → tree ≡ tree_of lent.table
      → (refused lent.table lent.events (room_of lent)).number ≡ 0
      → Served tree lent.events sent lent.order order lent.report report lent.lags lags lent.working used
      → working ≡ over (replicate (count lent.events) 0) used
      → Ran lent (left_of (answer_of (Ok sent)) order report lags working)
  unfolding outcome doing
  served tree sent order report lags used working same passed left cleared =
      rw (
        eq-eqb (refused lent.table lent.events (room_of lent)).number 0 passed,
        left.sent_are,
        left.order_is,
        left.report_is,
        left.lags_are,
        cleared_again (count lent.events) lent.working used working left.working_rest cleared,
        same,
      )

  pub served_left :
      {check : Checked} (passed : (refused lent.table lent.events (room_of lent)).number ≡ 0) (is : check ≡ checked lent.table lent.events)
      {sent : ℕ} {order report : List ℕ} {lags : List ℤ} {used working : List ℕ}
      → Served (tree_in (length lent.table.identifiers) lent.table.identifiers check.reading.tree) lent.events sent lent.order order lent.report report lent.lags lags lent.working used
      → working ≡ over (replicate (count lent.events) 0) used
      → Ran lent (left_of (answer_of (Ok sent)) order report lags working)
  served_left passed is = served _ _ _ _ _ _ _ (tree_is lent.table lent.events (room_of lent) passed is) passed
