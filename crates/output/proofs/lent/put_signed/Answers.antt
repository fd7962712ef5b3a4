-- `output::put_signed` meets its contract: below 0 the minus and the number without its sign, else the number.
-- Assumes nothing.
use mathlib.Core.Path.{◌≡◌, ap, ◌∙◌}
use lib.IntN.{nat_abs}
use mir.Syntax.{w64}
use mir.Val.{to_z, of_z}
use mir.ValLaws.{to_z-of_z}
use Rattle.output.proofs.Pages.{then}
use Rattle.output.proofs.Numbers.{below_zero, not_below_zero}
use Rattle.output.proofs.lent.put_signed.Goals as goal

pub returns-then-n-lt0 : goal.returns-then-n-lt0
returns-then-n-lt0 c =
    let n = c.args.n in
    let same : to_z w64 (of_z w64 n) ≡ n = to_z-of_z w64 n c.ranges.n in
    let sign = below_zero n (rw same at c.if-n-lt0.true) in
    let size : c.unsigned_abs.result ≡ nat_abs n = c.unsigned_abs.ensures.value ∙ ap nat_abs same in
    rw (sign, ← size) (then _ _ _ c.put_byte-used.ensures c.put_number.ensures)

pub returns : goal.returns
returns c =
    let n = c.args.n in
    let same : to_z w64 (of_z w64 n) ≡ n = to_z-of_z w64 n c.ranges.n in
    let sign = not_below_zero n (rw same at c.if-n-lt0.false) in
    let size : c.unsigned_abs-2.result ≡ nat_abs n = c.unsigned_abs-2.ensures.value ∙ ap nat_abs same in
    rw (sign, ← size) c.put_number-2.ensures
