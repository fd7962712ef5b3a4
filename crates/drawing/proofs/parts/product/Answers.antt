-- `product` meets its contract: what is multiplied so far and what is left give all of it.
-- Assumes nothing.
use Prim.Native.Nat.{◌+◌, ◌*◌}
use mathlib.Core.Path.{◌≡◌}
use native.Mathlib.Omega.{arith}
use Rattle.drawing.specs.Parts.{part}
use Rattle.drawing.proofs.Numbers.{fits, grows, one_more, at_last}
use Rattle.drawing.proofs.parts.product.Goals as goal

pub overflow_mul-product : goal.overflow_mul-product
overflow_mul-product c =
    let at = c.loop in
    let most = grows at.product c.min-part.result at.counter (omega (arith, c.min-part.ensures)) at.invariant.most in
    omega (arith, fits (at.product * c.min-part.result) (at.counter + 1) (omega (arith, c.requires)) most)

pub loop-preserved : goal.loop-preserved
unfolding part
loop-preserved c =
    let at = c.loop in
    record {
      most = grows at.product c.min-part.result at.counter (omega (arith, c.min-part.ensures)) at.invariant.most;
      value = λ tree eP eS.
          rw (c.min-part.ensures, c.word.ensures, c.word-at.ensures, ← eP, ← eS)
          (one_more tree _ at.product at.at _ at.counter (omega arith) (at.invariant.value tree eP eS));
    }

pub returns : goal.returns
returns c =
    let at = c.loop in
    record {
      most = let end : at.counter ≡ c.args.steps = omega arith in rw end at at.invariant.most;
      value = λ tree eP eS. at_last tree _ at.product at.at _ at.counter (omega arith) (at.invariant.value tree eP eS);
    }
