-- `Heaps::hang` meets its contract: what remains to be melded is all that was to be melded at first.
-- Assumes nothing.
use Prim.Native.Nat.{◌-◌, ◌+◌}
use mathlib.Core.Path.{◌≡◌, sym, ◌∙◌}
use native.Mathlib.Omega.{arith}
use borrow.Author.Rules.{rules}
use Rattle.heaps.specs.Sizes.{most_members}
use Rattle.heaps.proofs.Turns.{hung_done, hung_stops, hung_goes}
use Rattle.heaps.proofs.Heaps.hang.Goals as goal

pub returns-then-x-eq0 : goal.returns-then-x-eq0
returns-then-x-eq0 c =
    record {
      links_after = sym (hung_stops _ _ _ _ _ _ (most_members - c.loop-turn._turn) (omega arith) c.if-x-eq0.true) ∙ c.loop-turn.invariant.1;
      roots_stay = c.loop-turn.invariant.2;
    }

pub loop-turn-preserved : goal.loop-turn-preserved
loop-turn-preserved c =
    let fewer : most_members - (c.loop-turn._turn + 1) ≡ most_members - c.loop-turn._turn - 1 = omega arith in (
      search rules,
      rw fewer (sym (hung_goes _ _ _ _ _ _ (most_members - c.loop-turn._turn) (omega arith) c.if-x-eq0.false _ _ c.in_order-top.ensures.first c.in_order-top.ensures.second))
          ∙ c.loop-turn.invariant.1,
      c.loop-turn.invariant.2,
    )

pub returns : goal.returns
returns c =
    record {
      links_after = sym (hung_done _ _ _ _ _ _ (most_members - c.loop-turn._turn) (omega arith)) ∙ c.loop-turn.invariant.1;
      roots_stay = c.loop-turn.invariant.2;
    }
