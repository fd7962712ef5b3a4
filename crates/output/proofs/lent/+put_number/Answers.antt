-- `output::put_number` meets its contract: the last digit stands after those of the tenth.
-- Assumes nothing.
use native.Mathlib.Omega.{arith}
use Rattle.output.proofs.Pages.{then}
use Rattle.output.proofs.Numbers.{digits_one, last_digit}
use Rattle.output.proofs.lent.+put_number.Goals as goal

pub returns-then-n-lt10 : goal.returns-then-n-lt10
returns-then-n-lt10 t c = rw (digits_one c.args.n (omega arith)) c.put_byte.ensures

pub returns : goal.returns
returns t c = rw (last_digit c.args.n (omega arith) (omega arith)) (then _ _ _ c.put_number-used.ensures c.put_byte-2.ensures)
