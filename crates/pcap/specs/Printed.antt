-- What is printed of a replayed capture: the answer and, where it is done, a line for each packet in the order of sending.
use Rattle.std.specs.Prelude.{ℕ, zero, suc, ◌+◌, ◌-◌, max, cond, List, [], ◌∷◌, ◌++◌, eqb, get_or, take}
use Rattle.input.specs.declared.Answer.{Answer}
use Rattle.input.specs.Events.{Events, class_word, length_word, event}
use Rattle.rules.specs.Promise.{one_arrival}
use Rattle.output.specs.Numbers.{decimal}
use Rattle.output.specs.Quoted.{bytes_of}
use Rattle.forms.specs.Bytes.{comma, line_end}
use Rattle.forms.specs.Texts.{answer_text}
use Rattle.pcap.specs.Lists.{sending}

-- the record of the packet that arrives at place i: as many arrived before it
unfoldable pub record_of : Events → ℕ → ℕ
record_of events zero = 0
record_of events (suc i) = record_of events i + one_arrival (event events i)

-- when it arrives by the records' stamps, counted from the first one
unfoldable pub arrived_at : List ℕ → Events → ℕ → ℕ
arrived_at stamps events i = get_or stamps (record_of events i) 0 - get_or stamps 0 0

-- when it goes on the line that is free from then on: at once, or when it has arrived
abbrev pub sent_at : List ℕ → Events → ℕ → ℕ → ℕ
sent_at stamps events free i = max free (arrived_at stamps events i)

-- when the line is free again
unfoldable pub free_after : List ℕ → ℕ → Events → ℕ → ℕ → ℕ
free_after stamps rate events free i = sent_at stamps events free i + sending rate (length_word events i)

unfoldable pub packet_heading : List ℕ
packet_heading = bytes_of "packet,record,class,length,arrived,sent,finished"

unfoldable pub packet_line : List ℕ → ℕ → Events → ℕ → ℕ → List ℕ
packet_line stamps rate events free i =
    decimal i ++ comma ∷ decimal (record_of events i) ++ comma ∷ decimal (class_word events i) ++ comma ∷ decimal (length_word events i)
    ++ comma ∷ decimal (arrived_at stamps events i) ++ comma ∷ decimal (sent_at stamps events free i)
    ++ comma ∷ decimal (free_after stamps rate events free i) ++ line_end

-- the lines of these packets, one sent after the other
unfoldable pub packet_lines : List ℕ → ℕ → Events → ℕ → List ℕ → List ℕ
packet_lines stamps rate events free [] = []
packet_lines stamps rate events free (i ∷ later) =
    packet_line stamps rate events free i ++ packet_lines stamps rate events (free_after stamps rate events free i) later

unfoldable pub capture_text : Answer → List ℕ → ℕ → Events → List ℕ → List ℕ
capture_text answer stamps rate events order =
    answer_text answer
    ++ cond (eqb answer.number 0) (packet_heading ++ line_end ++ packet_lines stamps rate events 0 (take answer.count order)) []
