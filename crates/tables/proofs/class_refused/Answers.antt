-- `tables::class_refused` meets its contract: each answer by the tests on its way.
-- Assumes nothing.
use mathlib.Core.Path.{◌≡◌, refl}
use mathlib.Core.Bool.{true, false, not}
use Rattle.input.specs.Shares.{allowed}
use Rattle.input.specs.Refusals.{class_refused, doubled, first, or_else, given, nothing}
use native.Mathlib.Omega.{arith}
use Rattle.tables.proofs.Judging.{refuses}
use Rattle.tables.proofs.Tests.{tests}
use Rattle.tables.proofs.class_refused.Goals as goal

pub returns-then-identifier-eq0 : goal.returns-then-identifier-eq0
unfolding class_refused doubled first or_else given nothing
returns-then-identifier-eq0 c = refuses c.refusal.ensures (omega arith) (search tests)

pub returns-then-identifier-gt-MOST_IDENTIFIER : goal.returns-then-identifier-gt-MOST_IDENTIFIER
unfolding class_refused doubled first or_else given nothing
returns-then-identifier-gt-MOST_IDENTIFIER c = refuses c.refusal-then-identifier-gt-MOST_IDENTIFIER.ensures (omega arith) (search tests)

pub returns-then-earlier-r : goal.returns-then-earlier-r
unfolding class_refused doubled first or_else given nothing
returns-then-earlier-r c = refuses c.refusal-then-earlier-r.ensures (omega arith) (search tests)

pub returns-then-parent-r : goal.returns-then-parent-r
unfolding class_refused doubled first or_else given nothing
returns-then-parent-r c = refuses c.refusal-then-parent-r.ensures (omega arith) (search tests)

pub returns-then-not-allowed : goal.returns-then-not-allowed
unfolding class_refused doubled first or_else given nothing
returns-then-not-allowed c =
    let other : not (allowed c.args.share) ≡ true =
    rw (← c.allowed.ensures, c.if-not-allowed.true)
    in refuses c.refusal-then-not-allowed.ensures (omega arith) (search (tests, other))

pub returns-then-depth-gt-MOST_DEPTH : goal.returns-then-depth-gt-MOST_DEPTH
unfolding class_refused doubled first or_else given nothing
returns-then-depth-gt-MOST_DEPTH c =
    let fine : not (allowed c.args.share) ≡ false =
    rw (← c.allowed.ensures, c.if-not-allowed.false)
    in refuses c.refusal-then-depth-gt-MOST_DEPTH.ensures (omega arith) (search (tests, fine))

pub returns : goal.returns
unfolding class_refused doubled first or_else given nothing
returns c =
    let fine : not (allowed c.args.share) ≡ false =
    rw (← c.allowed.ensures, c.if-not-allowed.false)
    in (search (tests, fine), refl)
