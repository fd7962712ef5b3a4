-- `live_box::meeting::event` meets its contract: 3, then 20, then what meets a sound state.
-- Assumes nothing.
use Prim.Native.Nat.{◌≤◌}
use mathlib.Core.Path.{◌≡◌, sym, ◌∙◌}
use mathlib.Core.Bool.{true}
use native.Mathlib.Omega.{arith}
use lib.ListN.{length}
use Rattle.live_rules.specs.Layout.{state_words}
use Rattle.live_rules.specs.State.{live_in}
use Rattle.live_rules.specs.Soundness.{sound}
use Rattle.live_box.proofs.EventOutcome.{short_left, unsound_left, arrival_left, finish_left}
use Rattle.live_box.proofs.meeting.event.Goals as goal

pub returns-then-state-lt-STATE_WORDS : goal.returns-then-state-lt-STATE_WORDS
returns-then-state-lt-STATE_WORDS c =
    let a = c.args in
    record {
      numbered = rw c.refusal.ensures (λ none. omega arith);
      took = short_left a.state.now a.class a.length c.refusal.result c.refusal.ensures c.if-state-lt-STATE_WORDS.true;
    }

pub returns-then-not-open : goal.returns-then-not-open
returns-then-not-open c =
    let a = c.args in
    let room : state_words ≤ length a.state.now = omega (arith, c.if-state-lt-STATE_WORDS.false) in
    record {
      numbered = rw c.refusal-then-not-open.ensures (λ none. omega arith);
      took = unsound_left a.state.now a.class a.length room c.refusal-then-not-open.result c.refusal-then-not-open.ensures
          (sym c.open.ensures.0 ∙ c.if-not-open.true);
    }

pub returns-in-Arrival : goal.returns-in-Arrival
returns-in-Arrival c =
    let a = c.args in
    let room : state_words ≤ length a.state.now = omega (arith, c.if-state-lt-STATE_WORDS.false) in
    let is_sound : sound (live_in a.state.now) ≡ true = sym c.open.ensures.0 ∙ c.if-not-open.false in
    record {
      numbered = c.arrival.ensures.numbered;
      took = c.arrival.ensures.meets ∙ arrival_left a.state.now a.class a.length room is_sound c.decode.result _ _ c.decode.ensures c.in-Arrival.is;
    }

pub returns-in-Finish : goal.returns-in-Finish
returns-in-Finish c =
    let a = c.args in
    let room : state_words ≤ length a.state.now = omega (arith, c.if-state-lt-STATE_WORDS.false) in
    let is_sound : sound (live_in a.state.now) ≡ true = sym c.open.ensures.0 ∙ c.if-not-open.false in
    record {
      numbered = c.finish.ensures.numbered;
      took = c.finish.ensures.meets ∙ finish_left a.state.now a.class a.length room is_sound c.decode.result c.decode.ensures c.in-Finish.is;
    }
