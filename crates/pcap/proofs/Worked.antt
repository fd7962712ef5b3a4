-- Captures worked from the definitions: the four layouts, each refusal at its edge, code points, a whole replay, and moments that meet.
-- Assumes nothing.
use Prim.Native.Nat.{ℕ, zero, suc, ◌+◌, ◌*◌, ◌-◌}
use mathlib.Core.Path.{◌≡◌, refl}
use mathlib.Core.Bool.{Bool, true, false, cond}
use mathlib.Core.List.{List, [], ◌∷◌, ◌++◌, map, reverse}
use lib.ListN.{length, take, drop, set, replicate}
use lib.IntN.{pos}
use Rattle.input.specs.declared.Refusal.{Refusal}
use Rattle.input.specs.declared.Answer.{Answer}
use Rattle.input.specs.Shares.{rounded_up}
use Rattle.input.specs.Refusals.{nothing, given, or_else, first, first_below}
use Rattle.input.specs.Classes.{Table, tree_of}
use Rattle.input.specs.Lent.{table_of, events_of}
use Rattle.rules.specs.Outcome.{over}
use Rattle.rules.proofs.Computing.{computing}
use Rattle.octets.specs.Octets.{bytes_in, number_of}
use Rattle.output.specs.Numbers.{digits, decimal}
use Rattle.output.specs.Quoted.{bytes_of}
use Rattle.forms.specs.Bytes.{answer_heading}
use Rattle.forms.specs.Texts.{answer_text}
use Rattle.pcap.specs.declared.Sorting.{Sorting}
use Rattle.pcap.specs.Headers
use Rattle.pcap.specs.Records
use Rattle.pcap.specs.Faults
use Rattle.pcap.specs.Lists
use Rattle.pcap.specs.Outcomes
use Rattle.pcap.specs.Printed

-- ── captures made for it ──

-- a number of so many bytes, the highest first or the lowest
unfoldable pub bytes : Bool → ℕ → ℕ → List ℕ
bytes big size n = cond big (reverse (bytes_in size n)) (bytes_in size n)

-- magic number, version and link type, with all else 0
unfoldable pub header : Bool → ℕ → ℕ → ℕ → ℕ → List ℕ
header big magic major minor link =
    bytes big 4 magic ++ bytes big 2 major ++ bytes big 2 minor ++ replicate 12 0 ++ bytes big 4 link

-- an IPv4 header alone, with this code point
unfoldable pub ipv4 : ℕ → List ℕ
ipv4 point = 69 ∷ point * 4 ∷ replicate 18 0

-- seconds, fraction, original length and the packet as far as it is included
unfoldable pub record_with : Bool → ℕ → ℕ → ℕ → List ℕ → List ℕ
record_with big seconds fraction original packet =
    bytes big 4 seconds ++ bytes big 4 fraction ++ bytes big 4 (length packet) ++ bytes big 4 original ++ packet

-- the second packet comes 15 microseconds after the first, one of them in the next second
unfoldable pub two : Bool → Bool → List ℕ
two big nano =
    header big (cond nano 2712812621 2712847316) 2 4 101
    ++ record_with big 7 (cond nano 999990999 999990) 100 (ipv4 46)
    ++ record_with big 8 (cond nano 5000 5) 1500 (ipv4 8)

unfoldable pub sorting : Sorting
sorting = record { first = 10; second = 20; third = 30 }

-- ── layouts ──

-- byte order and resolution change nothing
pub layouts_agree :
    map (λ (big : Bool). Outcomes.arrivals_of (two big false) sorting) (false ∷ true ∷ [])
    ++ map (λ (big : Bool). Outcomes.arrivals_of (two big true) sorting) (false ∷ true ∷ [])
    ≡ replicate 4 (record { stamps = 7999990 ∷ 8000005 ∷ []; classes = 10 ∷ 20 ∷ []; lengths = 100 ∷ 1500 ∷ [] })
unfolding
    two header record_with ipv4 bytes sorting bytes_in number_of Headers.word_at Headers.half_at Headers.magic Headers.layout_of Records.field_at Records.offset Records.ended
    Records.records_below Records.record_count Records.packet_at Records.microseconds Records.stamp_at Records.code_point Records.class_for
    Outcomes.arrivals_below Outcomes.arrivals_of
layouts_agree = refl

-- ── code points and sending times ──

pub points_sorted :
    map (Records.class_for sorting) (0 ∷ 7 ∷ 8 ∷ 39 ∷ 40 ∷ 45 ∷ 46 ∷ 47 ∷ 48 ∷ 63 ∷ [])
    ≡ 30 ∷ 30 ∷ 20 ∷ 20 ∷ 30 ∷ 30 ∷ 10 ∷ 30 ∷ 10 ∷ 10 ∷ []
unfolding sorting Records.class_for
points_sorted = refl

-- a packet of 100 bytes at 1,250,000, 3, 7 and 4,294,967,295 bytes a second
pub times_rounded :
    map (λ (rate : ℕ). Lists.sending rate 100) (1250000 ∷ 3 ∷ 7 ∷ 4294967295 ∷ []) ≡ 80 ∷ 33333334 ∷ 14285715 ∷ 1 ∷ []
unfolding Lists.sending rounded_up
times_rounded = refl

-- ── refusals at their edges ──

-- a refusal with no second place
abbrev at : ℕ → ℕ → Refusal
at number place = record { number = number; place = place; second = 0 }

unfoldable pub refused : List ℕ → Refusal
refused capture = Faults.capture_refused capture 1250000

-- one record after a good file header
unfoldable pub one : List ℕ → List ℕ
one packet = header false 2712847316 2 4 101 ++ record_with false 7 0 100 packet

-- two records with these stamps, in nanoseconds
unfoldable pub stamped : ℕ → ℕ → List ℕ
stamped first second =
    header true 2712812621 2 4 101 ++ record_with true 7 first 100 (ipv4 0) ++ record_with true 7 second 100 (ipv4 0)

pub captures_refused :
    map refused
    (two true true
    ∷ take 24 (two false false)
    ∷ take 23 (two false false)
    ∷ header false 168627466 2 4 101
    ∷ header false 2712847316 2 3 101
    ∷ header true 2712847316 4 2 101
    ∷ header false 2712847316 2 4 1
    ∷ header false 2712847316 2 4 65637
    ∷ take 39 (two false false)
    ∷ take 40 (two false false)
    ∷ take 59 (two false false)
    ∷ take 60 (two false false)
    ∷ take 95 (two false false)
    ∷ one (take 19 (ipv4 0))
    ∷ one (set (ipv4 0) 0 101)
    ∷ one (set (ipv4 0) 0 68)
    ∷ stamped 2000 1999
    ∷ stamped 2999 2000
    ∷ [])
    ≡ nothing ∷ nothing ∷ at 31 0 ∷ at 32 0 ∷ at 33 0 ∷ at 33 0 ∷ at 34 0 ∷ at 34 0 ∷ at 35 0 ∷ at 36 0 ∷ at 36 0 ∷ nothing ∷ at 36 1 ∷ at 37 0 ∷ at 37 0
    ∷ at 37 0 ∷ at 38 1 ∷ nothing ∷ []
unfolding
    refused two one stamped header record_with ipv4 bytes bytes_in number_of Headers.word_at Headers.half_at Headers.magic Headers.layout_of Records.field_at Records.offset Records.ended
    Records.packet_at Records.microseconds Records.stamp_at Records.ip_version Records.header_words Faults.record_place Faults.header_refused Faults.not_ipv4
    Faults.begun_refused Faults.record_refused Faults.records_refused Faults.capture_refused nothing given or_else first first_below
captures_refused = refl

pub no_rate : Faults.capture_refused [] 0 ≡ at 30 0
unfolding
    Faults.capture_refused Faults.header_refused Faults.records_refused Headers.word_at Headers.half_at Headers.magic Headers.layout_of number_of nothing given or_else first first_below
no_rate = refl

-- ── lists ──

-- two classes of equal shares
abbrev halves : Table
halves = table_of (1 ∷ 10 ∷ 20 ∷ []) (0 ∷ 1 ∷ 1 ∷ []) (0 ∷ 420 ∷ 420 ∷ [])

-- a packet of 100 bytes takes 80 microseconds: the second one comes just as it is finished, or a microsecond before
pub moments_met :
    map (λ (stamp : ℕ). Lists.list_of (tree_of halves) (Lists.arrivals_with (0 ∷ stamp ∷ []) (10 ∷ 20 ∷ []) (100 ∷ 100 ∷ [])) 1250000) (80 ∷ 79 ∷ [])
    ≡ events_of (10 ∷ 0 ∷ 20 ∷ 0 ∷ []) (100 ∷ 0 ∷ 100 ∷ 0 ∷ []) ∷ events_of (10 ∷ 20 ∷ 0 ∷ 0 ∷ []) (100 ∷ 100 ∷ 0 ∷ 0 ∷ []) ∷ []
unfolding
    computing Lists.sending Lists.finishes Lists.class_next Lists.packet_length Lists.length_next Lists.moment_next Lists.due_next Lists.proceeds Lists.progress Lists.listed Lists.list_of
moments_met = refl

-- ── a whole replay ──

unfoldable pub lent : Outcomes.CaptureLent
lent =
    record {
      capture = two false false;
      sorting = sorting;
      rate = 1250000;
      table = halves;
      list = events_of (replicate 5 7) (replicate 5 7);
      order = replicate 5 7;
      report = replicate 16 7;
      lags = replicate 4 (pos 7);
      working = replicate 5 7;
    }

pub replayed :
    Outcomes.captured lent
    ≡ record {
      list = events_of (10 ∷ 20 ∷ 0 ∷ 0 ∷ 7 ∷ []) (100 ∷ 1500 ∷ 0 ∷ 0 ∷ 7 ∷ []);
      run = record {
        answer = record { number = 0; place = 0; second = 0; count = 2 };
        order = 0 ∷ 1 ∷ 7 ∷ 7 ∷ 7 ∷ [];
        report = 1600 ∷ 0 ∷ 0 ∷ 1344000 ∷ 0 ∷ 100 ∷ 0 ∷ 168000 ∷ 0 ∷ 0 ∷ 1500 ∷ 84000 ∷ 2604000 ∷ 0 ∷ 0 ∷ 7 ∷ [];
        lags = pos 0 ∷ pos 0 ∷ pos 0 ∷ pos 7 ∷ [];
        working = 0 ∷ 0 ∷ 0 ∷ 0 ∷ 7 ∷ [];
      };
    }
unfolding
    computing lent two header record_with ipv4 bytes sorting bytes_in number_of Headers.word_at Headers.half_at Headers.magic Headers.layout_of Records.field_at Records.offset Records.ended
    Records.records_below Records.record_count Records.packet_at Records.microseconds Records.stamp_at Records.ip_version Records.header_words Records.code_point Records.class_for
    Faults.record_place Faults.header_refused Faults.not_ipv4 Faults.begun_refused Faults.record_refused Faults.records_refused Faults.capture_refused
    Lists.sending Lists.finishes Lists.class_next Lists.packet_length Lists.length_next Lists.moment_next Lists.due_next Lists.proceeds Lists.progress Lists.listed Lists.list_of
    Outcomes.arrivals_below Outcomes.arrivals_of Outcomes.captured_list Outcomes.run_lent Outcomes.list_refused Outcomes.before_run Outcomes.list_over Outcomes.having_run Outcomes.captured
replayed = refl

pub printed :
    Printed.capture_text (record { number = 0; place = 0; second = 0; count = 2 }) (7999990 ∷ 8000005 ∷ []) 1250000
    (events_of (10 ∷ 20 ∷ 0 ∷ 0 ∷ []) (100 ∷ 1500 ∷ 0 ∷ 0 ∷ [])) (0 ∷ 1 ∷ 7 ∷ [])
    ≡ bytes_of "answer,place,second,count\r\n0,0,0,2\r\npacket,record,class,length,arrived,sent,finished\r\n0,0,10,100,0,0,80\r\n1,1,20,1500,15,80,1280\r\n"
unfolding
    computing Printed.record_of Printed.arrived_at Printed.free_after Printed.packet_heading Printed.packet_line Printed.packet_lines Printed.capture_text Lists.sending answer_text answer_heading
    decimal digits bytes_of
printed = refl
