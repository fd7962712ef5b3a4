-- What an event that is taken leaves: its answer and every word, from what each call stores.
-- Assumes nothing.
use Prim.Native.Nat.{ℕ, suc, pred, ◌+◌, ◌*◌, ◌-◌, ◌<◌, ◌≤◌}
use mathlib.Core.Path.{◌≡◌, refl, sym, ap, ap₂, subst, ◌∙◌}
use mathlib.Core.Logic.{◌≢◌}
use mathlib.Core.List.{List, [], ◌∷◌, ◌++◌}
use native.Mathlib.Omega.{arith}
use native.Mathlib.Numerals.{add-one}
use lib.ListN.{length, get_or, take, drop}
use Rattle.std.specs.Prelude.{Option, None, Some, IsSome}
use Rattle.arrays.specs.declared.RowArrays.{RowArrays}
use Rattle.arrays.specs.declared.CountArrays.{CountArrays}
use Rattle.moving.specs.Arrays.{went}
use Rattle.input.specs.declared.Event.{Event}
use Rattle.input.specs.declared.Event.TheVariants.{Arrival, Finish}
use Rattle.input.specs.Limits.{most_rows, most_bytes}
use Rattle.input.specs.Classes.{row_of}
use Rattle.rules.specs.Box.{head, head_class, left}
use Rattle.rules.specs.Steps.{arrival, departure, step}
use Rattle.hierarchy.specs.Next.{next_of}
use Rattle.live_rules.specs.Layout.{held_at, state_words}
use Rattle.live_rules.specs.State.{Held, Live, queue, box_of, events, packets_at, live_with, live_in, packets_stored, stored}
use Rattle.live_rules.specs.Taking.{box_after, without, packets_after, accepted_after, took}
use Rattle.live_rules.specs.Outcomes.{doing}
use Rattle.live_rules.proofs.Packets.{packets_length}
use Rattle.live_laws.specs.Holds.{Holds}
use Rattle.live_laws.proofs.EventStored.{event_stored, event_packets}
use Rattle.live_laws.proofs.After.{queue_held}
use Rattle.live_laws.proofs.Finishing.{line_class_sends, line_first}
use Rattle.storing.specs.Packets.{Finds, place_of, left_out, Worded}
use Rattle.storing.proofs.Packets.{without_place}
use Rattle.state.specs.declared.State.{State}
use Rattle.state.specs.Opened.{Opened}
use Rattle.taking.specs.Moved.{ArrivalComes, FinishComes, MovedTo}
use Rattle.taking.specs.Taken.{ArrivalTakes, FinishTakes, Keeps, rows_kept, left_of, taken}
use Rattle.taking.proofs.Behind.{place_led, queue_behind, fitting_worded}

-- ── the rows after it ──

-- the state after an event keeps them
pub took_keeps :
    (live : Live) (event : Event) (accepted : ℕ) (sent : Option ℕ) (rows : RowArrays) (counts : CountArrays)
    → accepted_after live.accepted event ≡ accepted → MovedTo (box_after live event) sent rows counts → Keeps (took live event) accepted rows counts
unfolding took
took_keeps live event accepted sent rows counts counted to =
    record {
      accepted_is = counted;
      rows_are = to.rows_are;
      counts_are =
          record {
            bytes = to.counts_are.bytes;
            held = to.counts_are.held;
            since = to.counts_are.since;
            parent_since = to.counts_are.parent_since;
          };
    }

-- ── the words ──

module _ (words : List ℕ) (inside : state_words ≤ length words) where
  -- the packets that stand in the words are those of the state
  pub packets_read : (m : ℕ) → m ≡ length (live_in words).packets → packets_at m words ≡ (live_in words).packets
  unfolding live_in live_with
  packets_read m counted =
      ap (λ (m : ℕ). packets_at m words) (counted ∙ packets_length (get_or words held_at 0) words)

  -- they stay while the rows are stored
  pub packets_kept :
      (n m : ℕ) (live : Live) → n ≤ most_rows → m ≡ length (live_in words).packets → packets_at m (rows_kept n live words) ≡ (live_in words).packets
  unfolding rows_kept
  packets_kept n m live few counted = event_packets m n live words few ∙ packets_read m counted

  -- what is stored then is the state after the event
  pub all_stored :
      (event : Event) (n : ℕ) → (live_in words).tree.rows ≤ most_rows → n ≡ (live_in words).tree.rows → (packets : List Held)
      → packets ≡ packets_after (live_in words) event
      → packets_stored packets (rows_kept n (took (live_in words) event) words) ≡ stored (took (live_in words) event) words
  unfolding rows_kept took
  all_stored event n few rows packets are =
      rw (rows, are) (sym (event_stored words (took (live_in words) event) inside few refl))

  -- the answer and the words
  pub all_left :
      (event : Event) (sent : Option ℕ) (rows : RowArrays) (counts : CountArrays) (after : List ℕ)
      → MovedTo (box_after (live_in words) event) sent rows counts → after ≡ stored (took (live_in words) event) words
      → left_of (doing (went sent)) after ≡ taken words event
  unfolding taken
  all_left event sent rows counts after to are = rw (to.sent_is, are) refl

few_rows : (live : Live) (state : State) → Holds live → Opened live state → state.rows_count ≤ most_rows
few_rows live state holds opened = let few = holds.counted.few_rows in let rows = opened.rows in omega arith

-- ── an arrival ──

module _ (live : Live) (state : State) (k size name : ℕ) (takes : ArrivalTakes live state k size) (named : name ≡ 2 * state.accepted - state.packets) where
  name_so : name ≡ events live
  unfolding events
  name_so = rw (named, takes.opened.accepted, takes.opened.packets) refl

  pub arrival_comes : ArrivalComes live state k size name
  arrival_comes =
      record {
        holds = takes.holds;
        opened = takes.opened;
        sender = takes.sender;
        some_bytes = takes.some_bytes;
        few_bytes = takes.few_bytes;
        name_is = name_so;
      }

  arrival_moved :
      (class : ℕ) → row_of live.tree class ≡ k → (sent : Option ℕ) (rows : RowArrays) (counts : CountArrays)
      → MovedTo (arrival live.tree name k size (box_of live)) sent rows counts → MovedTo (box_after live (Arrival class size)) sent rows counts
  unfolding box_after step
  arrival_moved class row sent rows counts to = rw (row, ← name_so) to

module _
    (words : List ℕ) (inside : state_words ≤ length words) (state : State) (k size name : ℕ) (takes : ArrivalTakes (live_in words) state k size)
    (named : name ≡ 2 * state.accepted - state.packets) (sent : Option ℕ) (rows : RowArrays) (counts : CountArrays)
    (to : MovedTo (arrival (live_in words).tree name k size (box_of (live_in words))) sent rows counts) (class : ℕ) (row : row_of (live_in words).tree class ≡ k) (between after : List ℕ) where
  abbrev live : Live
  live = live_in words

  abbrev new : Held
  new = record { class = k; length = size; name = name }

  joined : live.packets ++ new ∷ [] ≡ packets_after live (Arrival class size)
  unfolding packets_after
  joined = rw (row, ← name_so live state k size name takes named) refl

  pub arrival_left :
      ((other : Live) → Keeps other (state.accepted + 1) rows counts → between ≡ rows_kept state.rows_count other words)
      → ((packets : List Held) → packets_at state.packets between ≡ packets → after ≡ packets_stored (packets ++ new ∷ []) between)
      → left_of (doing (went sent)) after ≡ taken words (Arrival class size)
  unfolding accepted_after
  arrival_left rows_stored put =
      let opened = takes.opened in
      let moved_so = arrival_moved live state k size name takes named class row sent rows counts to in
      let counted : suc live.accepted ≡ state.accepted + 1 = ap suc (sym opened.accepted) ∙ sym (add-one state.accepted) in
      let kept = rows_stored (took live (Arrival class size)) (took_keeps live (Arrival class size) (state.accepted + 1) sent rows counts counted moved_so) in
      let few = few_rows live state takes.holds opened in
      let stay : packets_at state.packets between ≡ live.packets
      = ap (packets_at state.packets) kept
      ∙ packets_kept words inside state.rows_count state.packets (took live (Arrival class size)) few opened.packets in
      all_left words inside (Arrival class size) sent rows counts after moved_so
      (put live.packets stay ∙ ap (packets_stored (live.packets ++ new ∷ [])) kept
      ∙ all_stored words inside (Arrival class size) state.rows_count takes.holds.counted.few_rows opened.rows (live.packets ++ new ∷ []) joined)

-- ── the line's finish ──

one_less : (n : ℕ) → n - 1 ≡ pred n
one_less n = omega arith

module _ (live : Live) (state : State) (takes : FinishTakes live state) where
  abbrev c : ℕ
  c = head_class live.rows 0

  pub line_some : 1 ≤ get_or state.rows.heads 0 0
  line_some = rw takes.opened.heads (some_head (head live.rows 0) takes.busy)
    where
      some_head : (n : ℕ) → n ≢ 0 → 1 ≤ n
      some_head n some = omega arith

  abbrev line_name : ℕ
  line_name = pred (head live.rows 0)

  -- the name that is looked for is the line's
  pub name_of_line : get_or state.rows.heads 0 0 - 1 ≡ line_name
  name_of_line = rw takes.opened.heads (one_less (head live.rows 0))

  pub class_of_line : get_or state.rows.head_classes 0 0 ≡ c
  class_of_line = ap (λ (xs : List ℕ). get_or xs 0 0) takes.opened.head_classes

  pub line_inside : place_of line_name live.packets < length live.packets
  line_inside =
      place_led live.tree (events live) line_name c 0 live.packets takes.holds.fitting (line_first live takes.holds takes.busy)

  pub packets_worded : Worded live.packets
  unfolding events
  packets_worded =
      let few = takes.holds.counted.few_accepted in
      fitting_worded live.tree (events live) 0 live.packets (omega arith) takes.holds.fitting

  next_so : take 1 (left (box_of live)) ≡ take 1 (queue (drop (suc (place_of line_name live.packets)) live.packets) c)
  unfolding box_of
  next_so =
      rw (
        queue_held live takes.holds c (line_class_sends live takes.holds takes.busy).inside,
        queue_behind live.tree (events live) line_name c 0 live.packets takes.holds.fitting (line_first live takes.holds takes.busy),
      )
      refl

  pub finish_comes :
      (next size : ℕ) → size ≤ most_bytes
      → next_of next size ≡ take 1 (queue (drop (suc (place_of line_name live.packets)) live.packets) c) → FinishComes live state next size
  finish_comes next size few is =
      record { holds = takes.holds; opened = takes.opened; busy = takes.busy; few_bytes = few; next_is = next_so ∙ sym is }

-- what is found in the words
module _ (words : List ℕ) (inside : state_words ≤ length words) (state : State) (takes : FinishTakes (live_in words) state) where
  abbrev here : Live
  here = live_in words

  abbrev line : ℕ
  line = pred (head here.rows 0)

  held_read : packets_at state.packets words ≡ here.packets
  held_read = packets_read words inside state.packets takes.opened.packets

  pub held_worded : Worded (packets_at state.packets words)
  held_worded = rw held_read (packets_worded here state takes)

  -- it is found
  line_there : (name : ℕ) → name ≡ get_or state.rows.heads 0 0 - 1 → place_of name (packets_at state.packets words) ≡ place_of line here.packets
  line_there name named = ap₂ place_of (named ∙ name_of_line here state takes) held_read

  pub line_is_some :
      (name : ℕ) → name ≡ get_or state.rows.heads 0 0 - 1 → (r : Option ℕ) → Finds name (packets_at state.packets words) r → IsSome r
  line_is_some name named None beyond =
      let within = line_inside here state takes in
      let there = line_there name named in
      let same = ap length held_read in
      absurd (omega (arith, beyond))
  line_is_some name named (Some i) found = refl

  pub place_found :
      (name at : ℕ) (r : Option ℕ) → Finds name (packets_at state.packets words) r → r ≡ Some at → at ≡ place_of name (packets_at state.packets words)
  place_found name at r finds is = (subst (Finds name (packets_at state.packets words)) is finds).1

  module _
      (name at : ℕ) (named : name ≡ get_or state.rows.heads 0 0 - 1) (found : at ≡ place_of name (packets_at state.packets words)) where
    pub line_found : at ≡ place_of line here.packets
    line_found = found ∙ ap₂ place_of (named ∙ name_of_line here state takes) held_read

    pub line_held : at < state.packets
    line_held =
        let within = line_inside here state takes in
        let is = line_found in
        let held = takes.opened.packets in
        omega arith

    pub next_comes :
        (class next size : ℕ) → class ≡ get_or state.rows.head_classes 0 0 → size ≤ most_bytes
        → next_of next size ≡ take 1 (queue (drop (at + 1) (packets_at state.packets words)) class) → FinishComes here state next size
    next_comes class next size classed few is =
        finish_comes here state takes next size few
        (is
        ∙ rw (
          add-one at,
          line_found,
          held_read,
          classed,
          class_of_line here state takes,
        )
        refl)

module _
    (words : List ℕ) (inside : state_words ≤ length words) (state : State) (takes : FinishTakes (live_in words) state) (sent : Option ℕ)
    (rows : RowArrays) (counts : CountArrays) (to : MovedTo (departure (live_in words).tree (box_of (live_in words))) sent rows counts) (between after : List ℕ) where
  pub finish_left :
      (at : ℕ) → at ≡ place_of (pred (head (live_in words).rows 0)) (live_in words).packets
      → ((other : Live) → Keeps other state.accepted rows counts → between ≡ rows_kept state.rows_count other words)
      → after ≡ packets_stored (left_out at (packets_at state.packets between)) between
      → left_of (doing (went sent)) after ≡ taken words Finish
  unfolding accepted_after box_after step packets_after
  finish_left at found rows_stored taken_out =
      let live = live_in words in
      let opened = takes.opened in
      let name = pred (head live.rows 0) in
      let kept = rows_stored (took live Finish) (took_keeps live Finish state.accepted sent rows counts (sym opened.accepted) to) in
      let few = few_rows live state takes.holds opened in
      let stay : packets_at state.packets between ≡ live.packets
      = ap (packets_at state.packets) kept ∙ packets_kept words inside state.rows_count state.packets (took live Finish) few opened.packets in
      let rest : left_out at (packets_at state.packets between) ≡ without name live.packets
      = ap₂ left_out found stay ∙ sym (without_place name live.packets) in
      all_left words inside Finish sent rows counts after to
      (taken_out ∙ ap (packets_stored (left_out at (packets_at state.packets between))) kept
      ∙ all_stored words inside Finish state.rows_count takes.holds.counted.few_rows opened.rows (left_out at (packets_at state.packets between)) rest)
