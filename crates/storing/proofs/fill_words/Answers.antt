-- `fill_words` meets its contract: a row more at each turn, so long as it fits.
-- Assumes nothing.
use Prim.Native.Nat.{ℕ, ◌+◌}
use mathlib.Core.Path.{◌≡◌, sym}
use mathlib.Core.Bool.{Bool}
use lib.Dec.{leb}
use lib.ListN.{get_or}
use borrow.Author.Tests.{le-leb, lt-leb}
use Rattle.input.specs.Classes.{zeros}
use Rattle.live_rules.proofs.Rows.{rows_none}
use Rattle.live_rules.proofs.Alls.{all_none, all_more, all_fails}
use Rattle.storing.proofs.Turns.{read_turn}
use native.Mathlib.Omega.{arith}
use Rattle.storing.proofs.fill_words.Goals as goal

pub loop-r-init : goal.loop-r-init
unfolding zeros
loop-r-init c = (all_none _, rows_none c.args.at c.args.state.now)

pub returns-then-word-most : goal.returns-then-word-most
returns-then-word-most c = let s = c.args in let test : ℕ → Bool = λ (i : ℕ). leb (get_or s.state.now (s.at + i) 0) s.most in record { value = sym (all_fails s.n test c.loop-r.r (omega arith) (lt-leb (get_or s.state.now (s.at + c.loop-r.r) 0) s.most (omega arith))); list_after = λ never. let z : ◌≡◌ {A = ℕ} 0 1 = cc in absurd (omega arith) }

pub loop-r-preserved : goal.loop-r-preserved
loop-r-preserved c =
    let s = c.args in
    let test : ℕ → Bool = λ (i : ℕ). leb (get_or s.state.now (s.at + i) 0) s.most in (
      all_more c.loop-r.r test c.loop-r.invariant.0 (le-leb (get_or s.state.now (s.at + c.loop-r.r) 0) s.most (omega arith)),
      read_turn c.loop-r.list s.state.now s.at c.loop-r.r _ (omega arith) (omega arith) c.shorter.ensures c.loop-r.invariant.1,
    )
