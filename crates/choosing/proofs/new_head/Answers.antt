-- `choosing::new_head` meets its contract: one more charge is within the tags' leeway.
-- Assumes nothing.
use Rattle.choosing.proofs.Ticks.{charged_fits}
use Rattle.choosing.proofs.new_head.Goals as goal

pub overflow_add-rows : goal.overflow_add-rows
overflow_add-rows c =
    record { fits = rw (c.next_start-start.ensures, c.charge.ensures) (charged_fits c.requires.leeway _ _ _ _ _ c.requires.length_le_most_bytes) }
