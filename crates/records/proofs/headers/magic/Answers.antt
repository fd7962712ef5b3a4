-- `records::headers::magic` meets its contract: one magic number or the other.
-- Assumes nothing.
use borrow.Author.Tests.{eq-eqb, ne_eqb}
use Rattle.pcap.specs.Headers.{micro_magic, magic}
use Rattle.records.proofs.headers.magic.Goals as goal

pub returns-then-first : goal.returns-then-first
unfolding magic
returns-then-first c = let word = c.word-first in rw (← word.ensures, eq-eqb word.result micro_magic c.if-first.true)

pub returns : goal.returns
unfolding magic
returns c = let word = c.word-first in rw (← word.ensures, ne_eqb word.result micro_magic c.if-first.false)
