-- `find_packet` meets its contract: the first word of the names that is this one.
-- Assumes nothing.
use Prim.Native.Nat.{ℕ, ◌+◌, ◌-◌}
use mathlib.Core.Path.{◌≡◌, sym, ap, ◌∙◌}
use mathlib.Core.Logic.{◌≢◌}
use native.Mathlib.Omega.{arith}
use lib.ListN.{take, drop}
use borrow.Author.Rules.{rules}
use borrow.Author.Tests.{tests}
use Rattle.std.proofs.lemmas.Iterator.{IsFirst-from_position, YieldsList-from_slice}
use Rattle.live_rules.specs.Layout.{words_at, names_at}
use Rattle.live_rules.specs.State.{packets_at}
use Rattle.live_rules.proofs.Packets.{names_listed}
use Rattle.storing.proofs.Packets.{finds_first}
use Rattle.storing.proofs.find_packet.Goals as goal

pub returns : goal.returns
unfolding words_at
returns c =
    let s = c.args in
    let words = words_at names_at s.m s.state.now in
    let e : names_at + s.m - names_at ≡ s.m = omega arith in
    finds_first s.name (packets_at s.m s.state.now) words c.position.result (sym (names_listed s.m s.state.now (omega arith) (omega arith)))
    (IsFirst-from_position _ _ c.position.result (λ x. x ≡ s.name) (λ x. x ≢ s.name) c.position.ensures.ran
    (YieldsList-from_slice words (c.iter.ensures.rest ∙ ap (λ (k : ℕ). take k (drop names_at s.state.now)) e))
    (λ x q k. search (rules, tests))
    (λ x q k. search (rules, tests)))
