-- `put_packet` meets its contract: the names and the moments of its line.
-- Assumes nothing.
use Prim.Native.Nat.{ℕ, ◌+◌}
use mathlib.Core.Path.{ap, ◌∙◌}
use native.Mathlib.Omega.{arith}
use Rattle.input.specs.Lent.{events_of}
use Rattle.output.specs.Pages.{with_text}
use Rattle.output.proofs.Pages.{then}
use Rattle.timetable.proofs.Arrivals.{record_known}
use Rattle.timetable.proofs.Lines.{line_parts, finished_at}
use Rattle.timetable.proofs.lent.put_packet.Goals as goal

pub overflow_add-free : goal.overflow_add-free
overflow_add-free c = omega (arith, c.requires.2 c.record_at-record.result)

pub returns : goal.returns
returns c =
    let args = c.args in
    let self = args.packets in
    let stamps = self.stamps.now in
    let events = events_of self.classes.now self.lengths.now in
    let known = c.record_at-record.ensures ∙ record_known self.classes.now self.lengths.now self.records.now c.requires.1 args.place in
    let time = ap (λ (n : ℕ). c.max-sent.result + n) c.sending.ensures.0 in
    record {
      line = then _ _ _ c.put_names-used.ensures c.put_moments.ensures
          ∙ ap (with_text _)
          (line_parts stamps self.rate events _ _ _ _ _ _ _ _ known c.word-class.ensures c.word-length.ensures c.arrived_at-arrived.ensures
          c.max-sent.ensures time);
      free = finished_at stamps self.rate events _ _ _ _ _ _ _ known c.word-length.ensures c.arrived_at-arrived.ensures c.max-sent.ensures time;
      most = omega (arith, c.requires.2 c.record_at-record.result, c.arrived_at-arrived.ensures, c.max-sent.ensures, c.sending.ensures.1, c.word-length.type_inv);
    }
