-- `meet` meets its contract: one bit is set, and no other moves.
-- Assumes nothing.
use mathlib.Core.Path.{◌∙◌}
use native.Mathlib.Omega.{arith}
use lib.ListN.{length-set}
use Rattle.soundness.proofs.Bitwise.{unmet, met_more}
use Rattle.soundness.proofs.seen.meet.Goals as goal

pub with_bit-requires : goal.with_bit-requires
with_bit-requires c = record { k_lt_word_bits = omega arith; k_value = rw c.wide-at.ensures.0 (unmet c.args.table.now c.args.x c.requires.not_met) }

pub returns : goal.returns
returns c = let table = c.args.table.now in let x = c.args.x in let unset = unmet table x c.requires.not_met in record { met_after = λ y. rw (c.with_bit.ensures, c.wide-at.ensures.0) (met_more table x (omega arith) unset y); table_stays_full = length-set table c.wide-at.result _ ∙ c.requires.table_full }
