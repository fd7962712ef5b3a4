-- `live_box::meeting::full_refused` meets its contract: 21 before 22.
-- Assumes nothing.
use mathlib.Core.Path.{refl, ap, ◌∙◌}
use native.Mathlib.Omega.{arith}
use lib.ListN.{length}
use borrow.Author.Tests.{le-leb, lt-leb}
use Rattle.input.specs.declared.Refusal.{Refusal}
use Rattle.input.specs.Refusals.{nothing, given, first}
use Rattle.tables.specs.Answers.{refusal_of}
use Rattle.tables.proofs.Firsts.{or_else_first, or_else_second}
use Rattle.tables.proofs.Judging.{refuses}
use Rattle.live_rules.specs.Limits.{most_held, most_accepted}
use Rattle.live_rules.specs.Taking.{full_refused}
use Rattle.live_box.proofs.meeting.full_refused.Goals as goal

pub returns-then-accepted-ge-MOST_ACCEPTED : goal.returns-then-accepted-ge-MOST_ACCEPTED
unfolding full_refused first given
returns-then-accepted-ge-MOST_ACCEPTED c live class size accepted packets =
    refuses c.refusal.ensures (omega arith)
    (rw (le-leb most_accepted live.accepted (omega arith)) (or_else_first (refusal_of 21 0 0) _ (λ none. omega arith)))

pub returns-then-packets-ge-MOST_HELD : goal.returns-then-packets-ge-MOST_HELD
unfolding full_refused first given nothing
returns-then-packets-ge-MOST_HELD c live class size accepted packets =
    refuses c.refusal-then-packets-ge-MOST_HELD.ensures (omega arith)
    (rw (lt-leb most_accepted live.accepted (omega arith), le-leb most_held (length live.packets) (omega arith))
    (or_else_second nothing _ refl ∙ or_else_first (refusal_of 22 0 0) _ (λ none. omega arith)))

pub returns : goal.returns
unfolding full_refused first given nothing
returns c live class size accepted packets = (
  rw (lt-leb most_accepted live.accepted (omega arith), lt-leb most_held (length live.packets) (omega arith))
      (ap (λ (r : Refusal). r.number) (or_else_second nothing _ refl ∙ or_else_second nothing nothing refl)),
  refl,
)
