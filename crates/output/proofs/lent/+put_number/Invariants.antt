-- The measure of `output::put_number` is the number: its tenth is less where it is 10 or more.
use Rattle.output.proofs.lent.+put_number.Given as goal

abbrev pub decreases-put_number : goal.decreases-put_number
decreases-put_number l = l.n
