-- `fill` meets its contract: a byte more each time, and the row whose line ends with it.
-- Assumes nothing.
use mathlib.Core.Path.{◌≡◌, refl, ap, ◌∙◌}
use native.Mathlib.Omega.{arith}
use lib.ListN.{length, take, length-take}
use lib.Seq.{take-length}
use Rattle.forms.specs.declared.Scan.{Scan}
use Rattle.input.specs.Lent.{table_of}
use Rattle.forms.specs.Faults.{read_text, with_bytes, table_in}
use Rattle.csv_text.proofs.Turns.{lines_most, scan_turn, fill_start, fill_turn}
use borrow.Author.Rules.{rules}
use Rattle.csv_text.proofs.scans.fill.Goals as goal

pub loop-byte-init : goal.loop-byte-init
unfolding read_text with_bytes
loop-byte-init c =
    let args = c.args in
    (c.unread-scan.ensures, fill_start (table_of args.identifiers.now args.parents.now args.shares.now), refl, refl, refl)

pub keep-scan-requires : goal.keep-scan-requires
keep-scan-requires c =
    let at = c.loop-byte in
    let text = c.args.text.now in
    omega (arith, lines_most (take at.byte-index text), ap (λ (scan : Scan). scan.lines) at.invariant.0, length-take at.byte-index text)

pub loop-byte-preserved : goal.loop-byte-preserved
loop-byte-preserved c =
    let at = c.loop-byte in
    let args = c.args in
    let lent = table_of args.identifiers.now args.parents.now args.shares.now in (
      c.keep-scan.ensures.0 ∙ scan_turn args.text.now at.byte-index at.scan (omega arith) at.invariant.0,
      c.keep-scan.ensures.1 ∙ fill_turn args.text.now lent _ at.scan at.byte-index (omega arith) c.requires at.invariant.0 at.invariant.1,
      search rules,
      search rules,
      search rules,
    )

pub returns : goal.returns
unfolding table_in
returns c =
    let at = c.loop-byte in
    let text = c.args.text.now in
    let end : at.byte-index ≡ length text = omega arith in
    rw (end, take-length text) at at.invariant.1
