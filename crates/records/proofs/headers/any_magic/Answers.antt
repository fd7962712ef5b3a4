-- `records::headers::any_magic` meets its contract: in one byte order or in the other.
-- Assumes nothing.
use Rattle.records.proofs.headers.any_magic.Goals as goal

pub returns-then-magic : goal.returns-then-magic
returns-then-magic c = rw (← c.magic.ensures, c.if-magic.true)

pub returns : goal.returns
returns c = rw (← c.magic.ensures, c.if-magic.false) c.magic-2.ensures
