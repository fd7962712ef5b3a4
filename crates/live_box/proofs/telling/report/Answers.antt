-- `report` meets its contract: 3, then 20, then the report and the lags.
-- Assumes nothing.
use mathlib.Core.Path.{◌≡◌, sym, ◌∙◌}
use mathlib.Core.Bool.{true}
use native.Mathlib.Omega.{arith}
use Rattle.live_rules.specs.State.{live_in}
use Rattle.live_rules.specs.Soundness.{sound}
use Rattle.live_laws.proofs.Calls.{holds_in}
use Rattle.live_box.proofs.ReportOutcome.{short_left, unsound_left, written_left, report_room, lags_room, state_room, tellable}
use Rattle.live_box.proofs.telling.report.Goals as goal

pub returns-then-too_short : goal.returns-then-too_short
returns-then-too_short c =
    let a = c.args in
    record {
      numbered = rw c.refusal.ensures (λ none. omega arith);
      told = short_left a.state.now a.report.now a.lags.now c.refusal.result c.refusal.ensures (sym c.too_short.ensures ∙ c.if-too_short.true);
    }

pub returns-then-not-open : goal.returns-then-not-open
returns-then-not-open c =
    let a = c.args in
    let room = sym c.too_short.ensures ∙ c.if-too_short.false in
    record {
      numbered = rw c.refusal-then-not-open.ensures (λ none. omega arith);
      told = unsound_left a.state.now a.report.now a.lags.now room c.refusal-then-not-open.result c.refusal-then-not-open.ensures
          (sym c.open.ensures.0 ∙ c.if-not-open.true);
    }

pub tell-requires : goal.tell-requires
tell-requires c =
    let a = c.args in
    let room = sym c.too_short.ensures ∙ c.if-too_short.false in
    let is_sound : sound (live_in a.state.now) ≡ true = sym c.open.ensures.0 ∙ c.if-not-open.false in
    let long = state_room a.state.now a.report.now a.lags.now room in
    record {
      tellable = tellable (live_in a.state.now) _ (c.open.ensures.1 c.if-not-open.false) (holds_in a.state.now long is_sound);
      report_room = report_room a.state.now a.report.now a.lags.now room;
      lags_room = lags_room a.state.now a.report.now a.lags.now room;
    }

pub returns : goal.returns
returns c =
    let a = c.args in
    let room = sym c.too_short.ensures ∙ c.if-too_short.false in
    record {
      numbered = tt;
      told = written_left a.state.now a.report.now a.lags.now room _ _ (sym c.open.ensures.0 ∙ c.if-not-open.false)
          (c.tell.ensures (live_in a.state.now) (c.open.ensures.1 c.if-not-open.false));
    }
