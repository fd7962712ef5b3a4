-- Tests from facts, for answers that go by the tests on their way.
-- Assumes nothing.
use borrow.Author.Rules.{rules}
use borrow.Author.Tests.{eq-eqb, ne_eqb, lt-ltb, le-ltb, le-leb, lt-leb}

pub ruleset tests = (rules, eq-eqb, ne_eqb, lt-ltb, le-ltb, le-leb, lt-leb)
