-- `fill` meets its contract: what remains of the template, put on the page as it is, is all of it put on the page as it was.
-- Assumes nothing.
use Prim.Native.Nat.{suc}
use mathlib.Core.List.{[]}
use mathlib.Core.Path.{◌≡◌, ◌∙◌}
use native.Mathlib.Omega.{arith}
use lib.ListN.{get_or, drop, drop_of_length-le}
use Rattle.output.specs.Pages.{page_of, with_text}
use Rattle.sentences.specs.Filled.{filled_from}
use Rattle.sentences.proofs.Marks.{given, at_mark, at_byte, turn}
use Rattle.sentences.proofs.lent.fill.Goals as goal
use Rattle.sentences.proofs.lent.fill.Goals.{then-byte-eq-MARK, else-byte-eq-MARK}

pub loop-byte-init : goal.loop-byte-init
loop-byte-init c = rw c.iter-numbers.ensures.rest

pub loop-byte-preserved : goal.loop-byte-preserved
loop-byte-preserved c =
    let template = c.args.template.now in
    let i = c.loop-byte.byte-index in
    let later = drop (suc i) template in
    elim c.if-byte-eq-MARK.branch [
      | then-byte-eq-MARK w ↦
          let numbers = c.loop-byte.numbers.rest.now in
          let taken = given w.next.result c.loop-byte.numbers w.next.new.self w.next.ensures.steps in
          let number : w.unwrap_or.result ≡ get_or numbers 0 0 = rw w.copied.ensures at w.unwrap_or.ensures ∙ taken.0 in
          rw (w.page-is, w.used-is, w.numbers-is, taken.1)
          (turn template i _ numbers _ (page_of c.loop-byte.page c.loop-byte.used) _ _ (omega arith) (at_mark _ later numbers w.if-byte-eq-MARK.true)
          (rw number at w.put_number-used.ensures) c.loop-byte.invariant)
      | else-byte-eq-MARK w ↦
          rw (w.page-is, w.used-is, w.numbers-is)
          (turn template i _ c.loop-byte.numbers.rest.now _ (page_of c.loop-byte.page c.loop-byte.used) _ _ (omega arith)
          (at_byte _ later c.loop-byte.numbers.rest.now w.if-byte-eq-MARK.false) w.put_byte-used.ensures c.loop-byte.invariant)
    ]

pub returns : goal.returns
unfolding with_text filled_from
returns c =
    let template = c.args.template.now in
    let none : drop c.loop-byte.byte-index template ≡ [] = drop_of_length-le template {i = c.loop-byte.byte-index} (omega arith) in
    rw none at c.loop-byte.invariant
