-- How many bytes the lines of packets have at most, whatever their numbers are: no number has more than 20 digits.
-- Assumes nothing.
use Prim.Native.Nat.{ℕ, ◌*◌, ◌≤◌}
use mathlib.Core.List.{List, [], ◌∷◌, ◌++◌}
use native.Mathlib.Omega.{arith}
use lib.ListN.{length, length-append}
use Rattle.input.specs.Events.{Events, class_word, length_word}
use Rattle.input.specs.declared.Answer.{Answer}
use Rattle.output.specs.Quoted.{bytes_of}
use Rattle.output.proofs.Numbers.{decimal_length}
use Rattle.forms.specs.Bytes.{line_end}
use Rattle.forms.specs.Texts.{answer_text}
use Rattle.forms.proofs.Room.{answer_room}
use Rattle.pcap.specs.Printed.{record_of, arrived_at, sent_at, free_after, packet_heading, packet_line, packet_lines}
use Rattle.timetable.specs.Free.{most_packets}

module _ (stamps : List ℕ) (rate : ℕ) (events : Events) where
  line_room : (free i : ℕ) → length (packet_line stamps rate events free i) ≤ 148
  unfolding packet_line
  line_room free i =
      let packet = decimal_length i in
      let number = decimal_length (record_of events i) in
      let class = decimal_length (class_word events i) in
      let bytes = decimal_length (length_word events i) in
      let arrived = decimal_length (arrived_at stamps events i) in
      let sent = decimal_length (sent_at stamps events free i) in
      let finished = decimal_length (free_after stamps rate events free i) in
      simp length-append (omega arith)

  lines_room : (free : ℕ) (order : List ℕ) → length (packet_lines stamps rate events free order) ≤ 148 * length order
  unfolding packet_lines
  lines_room free [] = omega arith
  lines_room free (i ∷ later) =
      let here = line_room free i in
      let rest = lines_room (free_after stamps rate events free i) later in
      simp length-append (omega arith)

  -- 75,776 bytes hold the lines of as many packets as are put at a time
  pub packets_room : (free : ℕ) (order : List ℕ) → length order ≤ most_packets → length (packet_lines stamps rate events free order) ≤ 75776
  packets_room free order few = let lines = lines_room free order in omega arith

-- and 512 hold an answer with the heading
pub heading_room : (answer : Answer) → length (answer_text answer ++ packet_heading ++ line_end) ≤ 512
unfolding packet_heading bytes_of
heading_room answer = let first = answer_room answer in simp length-append (omega arith)
