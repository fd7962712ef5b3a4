-- `load_state` meets its contract: the words are those of the bytes that were read, or stay.
-- Assumes nothing.
use borrow.Author.Rules.{rules}
use Rattle.state_files.proofs.Again.{whole, otherwise, unread}
use Rattle.state_files.proofs.loading.load_state.Goals as goal

pub returns-in_err-size : goal.returns-in_err-size
returns-in_err-size g c = unread _ _ c.from_residual.ensures.0

pub returns-then-size-ne-STATE_BYTES : goal.returns-then-size-ne-STATE_BYTES
returns-then-size-ne-STATE_BYTES g c = otherwise _

pub returns : goal.returns
returns g c = whole _ _ _ (search rules) c.read_words.ensures
