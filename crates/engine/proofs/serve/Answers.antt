-- `engine::serve` meets its contract: each event takes the arrays on to the next box, and the results are read of the last.
-- Assumes nothing.
use mathlib.Core.Path.{◌≡◌, refl, sym, ◌∙◌}
use native.Mathlib.Omega.{arith}
use lib.ListN.{length}
use Rattle.input.specs.Classes.{Tree, sends}
use Rattle.input.specs.Lent.{events_of}
use Rattle.rules.specs.Box.{Box}
use Rattle.rules.specs.Steps.{after}
use Rattle.arrays.specs.Arrays.{tree_in}
use Rattle.engine.proofs.Opening.{cleared_rest, fresh_now, fresh_order, shown, past_now, bytes_now}
use Rattle.engine.proofs.serve.Goals as goal

pub loop-i-init : goal.loop-i-init
loop-i-init g c =
    (fresh_now _ _ _ _ _ _ _ (c.open-finding.ensures _ _) c.zeros-rows.ensures c.zeros-counts.ensures c.clear.ensures, fresh_order _ _ _, refl)

pub write_report-requires-clause-line_sends_nothing : goal.write_report-requires-clause-line_sends_nothing
unfolding sends
write_report-requires-clause-line_sends_nothing g c some = sym (c.requires.senders_told 0 some)

pub write_lags-requires-clause-bytes_small : goal.write_lags-requires-clause-bytes_small
write_lags-requires-clause-bytes_small g c =
    let end : c.loop-i.i ≡ length c.args.classes.now = omega (arith, c.loop-i-test.false) in
    bytes_now (rw end at c.loop-i.invariant.0) c.requires.fit

pub write_lags-requires-clause-past : goal.write_lags-requires-clause-past
write_lags-requires-clause-past g c =
    let end : c.loop-i.i ≡ length c.args.classes.now = omega (arith, c.loop-i-test.false) in
    past_now (rw end at c.loop-i.invariant.0) c.requires.fit

pub returns : goal.returns
returns g c =
    let end : c.loop-i.i ≡ length c.args.classes.now = omega (arith, c.loop-i-test.false) in
    let (now, written, rest) = c.loop-i.invariant in
    let last = rw end at now in
    let tree : Tree = tree_in (length c.args.identifiers.now) c.args.identifiers.now c.args.tree.now in
    let box : Box = after tree (events_of c.args.classes.now c.args.lengths.now) (length c.args.classes.now) in
    record {
      sent_are = last.sent_are;
      order_is = rw (← end) written;
      report_is = c.write_report.ensures tree box c.requires.senders_told (shown last);
      lags_are = c.write_lags.ensures tree box (record { parents = refl; shares = refl }) last.counts_are;
      working_rest = rest ∙ cleared_rest (length c.args.classes.now) c.args.working.now _ c.clear.ensures;
    }
