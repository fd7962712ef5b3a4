-- `queues::length_of` meets its contract: a word that names no packet has the length 0.
-- Assumes nothing.
use borrow.Author.Rules.{rules}
use mathlib.Core.Path.{sym}
use Rattle.queues.specs.Words.{length_of}
use Rattle.queues.proofs.Words.{length_some}
use Rattle.queues.proofs.length_of.Goals as goal

pub returns-then-word-eq0 : goal.returns-then-word-eq0
unfolding length_of
returns-then-word-eq0 c = search rules

pub returns : goal.returns
returns c = rw c.wide.ensures.0 (sym (length_some _ _ c.if-word-eq0.false))
