-- `with_bit` meets its contract: a bit that is unset leaves room for its power.
-- Assumes nothing.
use Rattle.soundness.proofs.Bitwise.{one_shifted, bit_fits}
use Rattle.soundness.proofs.seen.with_bit.Goals as goal

pub overflow_add-result : goal.overflow_add-result
overflow_add-result c =
    record {
      fits = rw (one_shifted c.args.k c.requires.k_lt_word_bits) (bit_fits c.args.word c.args.k 64 c.ranges.word.fits c.requires.k_lt_word_bits c.requires.k_value);
    }
