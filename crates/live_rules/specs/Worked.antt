-- Worked days of a live box: what is lent, and calls one after the other, each with what it must answer and leave.
use Rattle.std.specs.Prelude.{ℕ, zero, suc, ◌≡◌, true, false, List, [], ◌∷◌, map, length, take, drop, set, replicate, ℤ, pos, negsuc}
use Rattle.std.proofs.lemmas.List.Edits.{sets}
use Rattle.input.specs.declared.Event.TheVariants.{Arrival, Finish}
use Rattle.input.specs.Classes.{zeros, tree_of}
use Rattle.rules.specs.Worked.{Row, Words, row, packet, finish, lend, halves}
use Rattle.live_rules.specs.declared.LiveAnswer.{LiveAnswer}
use Rattle.live_rules.specs.Layout
use Rattle.live_rules.specs.Limits.{most_held}
use Rattle.live_rules.specs.State.{Held, Live}
use Rattle.live_rules.specs.Soundness.{sound}
use Rattle.live_rules.specs.Taking.{event_refused, took}
use Rattle.live_rules.specs.Outcomes.{fresh_outcome, event_outcome, report_outcome}

-- ── calls ──

pub data Call : Type 0 where
  -- a fresh state of these rows: number, place, second place
  Fresh : List Row → ℕ → ℕ → ℕ → Call
  -- an event: number, place, second place, count, packet
  Event : Words → ℕ → ℕ → ℕ → ℕ → ℕ → Call
  -- a report: number, and the first words of both slices, which have held sevens
  Report : ℕ → List ℕ → List ℤ → Call
  -- no call: words of the state, from a place on
  State : ℕ → List ℕ → Call

unfoldable pub of_fresh : List Row → LiveAnswer → Call
of_fresh rows answer = Fresh rows answer.number answer.place answer.second

unfoldable pub of_event : Words → LiveAnswer → Call
of_event event answer = Event event answer.number answer.place answer.second answer.count answer.packet

-- the calls on lent words, with what they answer and leave
unfoldable pub called : List ℕ → List Call → List Call
called words [] = []
called words (Fresh rows number place second ∷ later) =
    let left = fresh_outcome (lend rows []).table words in
    of_fresh rows left.answer ∷ called left.words later
called words (Event event number place second count packet ∷ later) =
    let left = event_outcome words event.class event.length in
    of_event event left.answer ∷ called left.words later
called words (Report number report lags ∷ later) =
    let told = report_outcome words (replicate 1281 7) (replicate 257 (pos 7)) in
    Report told.answer.number (take (length report) told.report) (take (length lags) told.lags) ∷ called words later
called words (State at state ∷ later) = State at (take (length state) (drop at words)) ∷ called words later

-- what is lent, and the calls on it
pub record Day : Type 0 where
  pub lent : List ℕ
  pub calls : List Call

-- each call of each day comes back as it stands
abbrev pub ComeOut : List Day → Type 0
ComeOut days = map (λ (day : Day). called day.lent day.calls) days ≡ map (λ (day : Day). day.calls) days

-- ── what is lent ──

-- a word more than is needed, all sevens
unfoldable pub sevens : List ℕ
sevens = replicate (suc Layout.state_words) 7

-- two classes of equal shares, made of sevens
unfoldable pub made : List ℕ
made = (fresh_outcome (lend halves []).table sevens).words

-- ── the days ──

-- P1's events, and between them some that are refused, which change nothing and are not counted: names are 0 to 5 as in P1. After four of
-- its events the report and the lags are P2's
unfoldable pub as_in_the_run : Day
as_in_the_run =
    record {
      lent = sevens;
      calls =
          Fresh halves 0 0 0
          ∷ Event finish 14 0 0 0 0
          ∷ Event (packet 10 100) 0 0 0 1 0
          ∷ Event (packet 99 100) 11 0 0 0 0
          ∷ Event (packet 20 100) 0 0 0 0 0
          ∷ Event (packet 1 100) 12 0 0 0 0
          ∷ Event (packet 10 9001) 13 0 0 0 0
          ∷ Event (packet 10 100) 0 0 0 0 0
          ∷ Event (packet 0 1) 13 0 0 0 0
          ∷ Event finish 0 0 0 1 1
          ∷ Report 0 (100 ∷ 0 ∷ 0 ∷ 168000 ∷ 2 ∷ 100 ∷ 168000 ∷ 336000 ∷ 0 ∷ 1 ∷ 0 ∷ 84000 ∷ 252000 ∷ 0 ∷ 1 ∷ 7 ∷ [])
          (pos 0 ∷ negsuc 41999 ∷ pos 42000 ∷ pos 7 ∷ [])
          ∷ Event finish 0 0 0 1 2
          ∷ Event finish 0 0 0 0 0
          ∷ Report 0 (300 ∷ 0 ∷ 0 ∷ 252000 ∷ 0 ∷ 200 ∷ 168000 ∷ 336000 ∷ 0 ∷ 0 ∷ 100 ∷ 84000 ∷ 252000 ∷ 0 ∷ 0 ∷ 7 ∷ [])
          (pos 0 ∷ pos 0 ∷ pos 0 ∷ pos 7 ∷ [])
          -- the seventh event that is accepted
          ∷ Event (packet 20 1) 0 0 0 1 6
          ∷ [];
    }

-- which words are written: those in use, by a fresh state and by an event; none where either is refused
unfoldable pub words_in_use : Day
words_in_use =
    record {
      lent = sevens;
      calls =
          Fresh (row 1 0 0 ∷ row 10 1 420 ∷ row 10 1 420 ∷ []) 5 2 1
          ∷ State Layout.rows_word (7 ∷ 7 ∷ 7 ∷ [])
          ∷ Fresh halves 0 0 0
          ∷ State Layout.rows_word (3 ∷ 0 ∷ 7 ∷ [])
          ∷ State Layout.identifiers_at (1 ∷ 10 ∷ 20 ∷ 7 ∷ [])
          ∷ State Layout.parents_at (0 ∷ 0 ∷ 0 ∷ 7 ∷ [])
          ∷ State Layout.depths_at (0 ∷ 1 ∷ 1 ∷ 7 ∷ [])
          ∷ State Layout.shares_at (0 ∷ 420 ∷ 420 ∷ 7 ∷ [])
          ∷ State Layout.held_at (0 ∷ 0 ∷ 0 ∷ 7 ∷ [])
          ∷ State Layout.classes_at (7 ∷ 7 ∷ [])
          ∷ Event (packet 20 100) 0 0 0 1 0
          ∷ Event (packet 10 50) 0 0 0 0 0
          ∷ Event (packet 99 50) 11 0 0 0 0
          ∷ State Layout.rows_word (3 ∷ 2 ∷ 7 ∷ [])
          ∷ State Layout.starts_at (0 ∷ 84000 ∷ 0 ∷ 7 ∷ [])
          ∷ State Layout.finishes_at (0 ∷ 168000 ∷ 168000 ∷ 7 ∷ [])
          ∷ State Layout.virtuals_at (84000 ∷ 0 ∷ 0 ∷ 7 ∷ [])
          ∷ State Layout.heads_at (1 ∷ 2 ∷ 1 ∷ 7 ∷ [])
          ∷ State Layout.head_lengths_at (100 ∷ 50 ∷ 100 ∷ 7 ∷ [])
          ∷ State Layout.head_classes_at (2 ∷ 1 ∷ 2 ∷ 7 ∷ [])
          ∷ State Layout.held_at (2 ∷ 1 ∷ 1 ∷ 7 ∷ [])
          ∷ State Layout.classes_at (2 ∷ 1 ∷ 7 ∷ [])
          ∷ State Layout.lengths_at (100 ∷ 50 ∷ 7 ∷ [])
          ∷ State Layout.names_at (0 ∷ 1 ∷ 7 ∷ [])
          -- the gap is closed; what stood last is out of use, and stays
          ∷ Event finish 0 0 0 1 1
          ∷ State Layout.bytes_at (100 ∷ 0 ∷ 100 ∷ 7 ∷ [])
          ∷ State Layout.held_at (1 ∷ 1 ∷ 0 ∷ 7 ∷ [])
          ∷ State Layout.classes_at (1 ∷ 1 ∷ 7 ∷ [])
          ∷ State Layout.names_at (1 ∷ 1 ∷ 7 ∷ [])
          -- class 20 has a backlog again, and counts from here
          ∷ Event (packet 10 50) 0 0 0 0 0
          ∷ Event (packet 20 10) 0 0 0 0 0
          ∷ State Layout.since_at (0 ∷ 0 ∷ 100 ∷ 7 ∷ [])
          ∷ State Layout.parent_since_at (0 ∷ 0 ∷ 100 ∷ 7 ∷ [])
          ∷ State Layout.names_at (1 ∷ 3 ∷ 4 ∷ 7 ∷ [])
          -- its packet passes one that came before it
          ∷ Event finish 0 0 0 1 4
          ∷ State Layout.names_at (3 ∷ 4 ∷ 4 ∷ 7 ∷ [])
          ∷ Event finish 0 0 0 1 3
          ∷ State Layout.names_at (3 ∷ 4 ∷ 4 ∷ 7 ∷ [])
          ∷ State Layout.held_at (1 ∷ 1 ∷ 0 ∷ 7 ∷ [])
          ∷ Event finish 0 0 0 0 0
          ∷ [];
    }

-- a word too few: nothing is made, taken or told, and whether the state is sound is not asked
unfoldable pub too_short : Day
too_short =
    record {
      lent = take 6911 sevens;
      calls = Fresh halves 3 0 0 ∷ Event (packet 10 100) 3 0 0 0 0 ∷ Report 3 (7 ∷ []) (pos 7 ∷ []) ∷ [];
    }

-- words that were never made, and a state with one word that is wrong: row 2 is a class of a row that is not there
unfoldable pub never_made : Day
never_made = record { lent = sevens; calls = Event finish 20 0 0 0 0 ∷ Report 20 (7 ∷ []) (pos 7 ∷ []) ∷ [] }

unfoldable pub damaged : Day
damaged =
    record {
      lent = sets made 514 (3 ∷ []);
      calls =
          Event (packet 99 0) 20 0 0 0 0
          ∷ Report 20 (7 ∷ []) (pos 7 ∷ [])
          -- it can be made anew
          ∷ Fresh halves 0 0 0
          ∷ Event (packet 10 100) 0 0 0 1 0
          ∷ [];
    }

-- one packet less was accepted than can be: the last one has the name 4,294,967,292. After it arrivals are refused, after 11 to 13, and
-- finishes are not
unfoldable pub last_packet : Day
last_packet =
    record {
      lent = sets made Layout.accepted_word (2147483646 ∷ []);
      calls =
          Event (packet 10 100) 0 0 0 1 4294967292
          ∷ Event (packet 99 100) 11 0 0 0 0
          ∷ Event (packet 20 0) 13 0 0 0 0
          ∷ Event (packet 20 100) 21 0 0 0 0
          ∷ Event finish 0 0 0 0 0
          ∷ Event finish 14 0 0 0 0
          ∷ Event (packet 20 100) 21 0 0 0 0
          ∷ [];
    }

unfoldable pub days : List Day
days = as_in_the_run ∷ words_in_use ∷ too_short ∷ never_made ∷ damaged ∷ last_packet ∷ []

-- ── a full box, as a state ──

-- so many packets of class 10, with names from one on
unfoldable pub held_from : ℕ → ℕ → List Held
held_from name zero = []
held_from name (suc n) = record { class = 1; length = 100; name = name } ∷ held_from (suc name) n

-- the root and class 10 have the same
unfoldable pub both : ℕ → List ℕ
both n = set (set zeros 0 n) 1 n

-- so many packets arrived for class 10, and none has left; the first is on the line
unfoldable pub holding : ℕ → Live
holding n =
    record {
      tree = tree_of (lend halves []).table;
      rows = record {
        starts = zeros;
        finishes = set zeros 1 168000;
        virtuals = set zeros 0 84000;
        heads = both 1;
        head_lengths = both 100;
        head_classes = both 1;
      };
      bytes = zeros;
      held = both n;
      since = zeros;
      parent_since = zeros;
      packets = held_from 0 n;
      accepted = n;
    }

-- with as many as can be it is sound, and with one more it is not; it refuses a packet, and does not once the line has finished one
abbrev pub FullUp : Type 0
FullUp =
    (map sound (holding most_held ∷ holding (suc most_held) ∷ []) ≡ true ∷ false ∷ [])
    × ((event_refused (holding most_held) 100 (Arrival 20 100)).number ≡ 22)
    × ((event_refused (took (holding most_held) Finish) 100 (Arrival 20 100)).number ≡ 0)
