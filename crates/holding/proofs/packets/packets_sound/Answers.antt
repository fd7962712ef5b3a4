-- `holding::packets::packets_sound` meets its contract: the packets passed fit, and the least name that the next may have is kept.
-- Assumes nothing.
use mathlib.Core.Path.{◌≡◌, refl, sym, ◌∙◌}
use native.Mathlib.Numerals.{add-one}
use Rattle.live_rules.specs.Soundness.{all}
use Rattle.holding.specs.Packets.{fits_at, least_at}
use Rattle.live_rules.proofs.Alls.{all_fails}
use Rattle.holding.proofs.Fitting.{packets_fit, fits_turn, fits_bounds}
use native.Mathlib.Omega.{arith}
use Rattle.holding.proofs.packets.packets_sound.Goals as goal

pub loop-i-init : goal.loop-i-init
unfolding all least_at
loop-i-init c = (refl, refl)

pub returns-then-not-fits : goal.returns-then-not-fits
returns-then-not-fits c =
    let at = c.loop-i in
    let s = c.args in
    λ tree same marked.
    let fails = fits_turn s.n s.senders.now s.limit s.words.now at.i at.least at.invariant.0
    ∙ sym c.fits.ensures ∙ c.if-not-fits.true in
    sym (all_fails s.m (fits_at s.n s.senders.now s.limit s.words.now) at.i (omega arith) fails)
    ∙ packets_fit tree s.n s.senders.now same marked s.limit s.words.now s.m

pub overflow_add-least : goal.overflow_add-least
overflow_add-least c =
    let at = c.loop-i in
    let s = c.args in
    let holds = sym c.fits.ensures ∙ c.if-not-fits.false in
    let bounds = fits_bounds s.n s.senders.now s.limit _ _ _ _ holds in
    omega arith

pub loop-i-preserved : goal.loop-i-preserved
unfolding all least_at
loop-i-preserved c =
    let at = c.loop-i in
    let s = c.args in
    let holds = fits_turn s.n s.senders.now s.limit s.words.now at.i at.least at.invariant.0
    ∙ sym c.fits.ensures ∙ c.if-not-fits.false in
    (rw (add-one, add-one), rw (add-one, at.invariant.1, holds))

pub returns : goal.returns
returns c =
    let at = c.loop-i in
    let s = c.args in
    let end : at.i ≡ s.m = omega arith in
    λ tree same marked.
    sym (rw end at at.invariant.1) ∙ packets_fit tree s.n s.senders.now same marked s.limit s.words.now s.m
