-- `queues::follow` meets its contract: a word that names no packet leaves the links as they are.
-- Assumes nothing.
use borrow.Author.Rules.{rules}
use mathlib.Core.Path.{sym}
use Rattle.queues.specs.Words.{followed}
use Rattle.queues.proofs.Words.{followed_some}
use Rattle.queues.proofs.follow.Goals as goal

pub returns-then-last-eq0 : goal.returns-then-last-eq0
unfolding followed
returns-then-last-eq0 c = search rules

pub returns : goal.returns
returns c = rw c.wide.ensures.0 (sym (followed_some _ _ _ c.if-last-eq0.false))
