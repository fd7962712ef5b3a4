-- `next_packet` meets its contract: what remains to be looked through has the same queue.
-- Assumes nothing.
use mathlib.Core.Path.{refl, sym, ◌∙◌}
use native.Mathlib.Numerals.{add-one}
use Rattle.hierarchy.specs.Next.{next_of}
use Rattle.storing.proofs.Packets.{next_here, next_later, next_none, next_word, worded_in}
use native.Mathlib.Omega.{arith}
use Rattle.storing.proofs.next_packet.Goals as goal

pub next_at-requires : goal.next_at-requires
next_at-requires c =
    let worded = worded_in c.args.m c.args.state.now c.loop-i.i (omega arith) c.requires.worded in
    (worded.0, omega (arith, worded.1))

pub returns-then-state-i : goal.returns-then-state-i
returns-then-state-i c =
    let s = c.args in
    let worded = worded_in s.m s.state.now c.loop-i.i (omega arith) c.requires.worded in
    let mine = c.if-state-i.true ∙ c.counted-wanted.ensures in (
      rw (← c.loop-i.invariant)
          (next_word c.next_at.result.word c.next_at.result.size _ _ c.next_at.ensures.0 c.next_at.ensures.1
          ∙ sym (next_here s.m s.state.now s.class c.loop-i.i (omega arith) mine)),
      omega (arith, worded.1, c.next_at.ensures.1),
    )

pub loop-i-preserved : goal.loop-i-preserved
loop-i-preserved c =
    let s = c.args in
    rw (add-one c.loop-i.i)
    (sym (next_later s.m s.state.now s.class c.loop-i.i (omega arith) (λ mine. c.if-state-i.false (mine ∙ sym c.counted-wanted.ensures)))
    ∙ c.loop-i.invariant)

pub returns : goal.returns
unfolding next_of
returns c =
    let s = c.args in
    (rw (← c.loop-i.invariant, next_none s.m s.state.now s.class c.loop-i.i (omega arith)) refl, omega arith)
