-- One event of the list: what refuses it, what its step may take for granted, and how far the list has come then.
-- Assumes nothing.
use Prim.Native.Nat.{ℕ, zero, suc, ◌+◌, ◌-◌, ◌*◌, ◌^◌, ◌≤◌, ◌<◌}
use mathlib.Core.Path.{◌≡◌, refl, sym, ap, ◌∙◌, subst}
use mathlib.Core.Bool.{Bool, true, false, cond, ◌||◌}
use mathlib.Core.List.{List}
use native.Mathlib.Decide.{dec_lt}
use native.Mathlib.Numerals.{add-one}
use native.Mathlib.Omega.{arith}
use lib.Dec.{eqb}
use lib.ListN.{get_or, set, take, drop}
use lib.Seq.{get_or-drop}
use Rattle.input.specs.Limits.{most_events, most_bytes}
use Rattle.input.specs.Classes.{Tree}
use Rattle.input.specs.Events.{Events, decode}
use Rattle.input.specs.EventRows.{row_for}
use Rattle.input.specs.Lent.{events_of}
use Rattle.rules.specs.Box.{Rows, head, head_length}
use Rattle.rules.specs.Refused.{idle, event_refused}
use Rattle.laws.specs.History.{Accepted}
use Rattle.laws.proofs.Run.Sizes.{heads_below}
use Rattle.std.specs.Prelude.{Ok}
use Rattle.input.specs.declared.Refusal.{Refusal}
use Rattle.input.specs.Refusals.{meeting_refused}
use Rattle.arrays.specs.declared.CountArrays.{CountArrays}
use Rattle.choosing.specs.Filed.{Filing, Keeps}
use Rattle.tables.specs.Judged.{Refuses, Judged}
use Rattle.events.specs.State.{Fit, Coming, Gone}
use Rattle.pcap.specs.Lists.{Stamped, Arrivals, Progress, arrivals_with, sending, finishes, moment_next, due_next, proceeds, progress, listed}
use Rattle.pcap.proofs.Listing.{coming, listed_count, event_listed, box_listed, refused_listed}
use Rattle.listing.specs.declared.next.Next.{Next}
use Rattle.listing.specs.Next.{NextIs}
use Rattle.listing.specs.declared.Turn.{Turn}
use Rattle.listing.specs.Reached.{Ground, Roomy, Reached}
use Rattle.input.proofs.Charges.{rounded_most}
use Rattle.listing.proofs.Growing.{now_longer, fit_longer, idle_now, listed_next}

-- no more packets have arrived than there were events
pub few_come : (tree : Tree) (arrivals : Arrivals) (rate i : ℕ) → (progress tree arrivals rate i).arrived ≤ i
unfolding progress proceeds
few_come tree arrivals rate zero = omega arith
few_come tree arrivals rate (suc i) = go (finishes arrivals (progress tree arrivals rate i)) (few_come tree arrivals rate i)
  where
    go : (b : Bool) → (progress tree arrivals rate i).arrived ≤ i → (progress tree arrivals rate i).arrived + cond b 0 1 ≤ suc i
    go true before = omega arith
    go false before = omega arith

arrived_next : (tree : Tree) (arrivals : Arrivals) (rate i : ℕ)
    → (progress tree arrivals rate (suc i)).arrived ≡ (progress tree arrivals rate i).arrived + cond (finishes arrivals (progress tree arrivals rate i)) 0 1
unfolding progress proceeds
arrived_next tree arrivals rate i = refl

due_later : (tree : Tree) (arrivals : Arrivals) (rate i : ℕ)
    → (progress tree arrivals rate (suc i)).due
    ≡ due_next arrivals rate (progress tree arrivals rate i) (progress tree arrivals rate (suc i)).box
unfolding progress proceeds
due_later tree arrivals rate i = refl

-- the words beyond some place, by a list that is the same from a later place on
beyond : (links links' : List ℕ) (n : ℕ) → drop n links' ≡ drop n links → (j : ℕ) → n ≤ j → get_or links' j 0 ≡ get_or links j 0
beyond links links' n same j from = go (j - n) (omega arith)
  where
    go : (d : ℕ) → j ≡ n + d → get_or links' j 0 ≡ get_or links j 0
    go d is = rw is (sym (get_or-drop n links' d 0) ∙ ap (λ (rest : List ℕ). get_or rest d 0) same ∙ get_or-drop n links d 0)

-- the same list by another name
pub comes_as :
    {Filed : Filing} {tree : Tree} {list other : Events} {i row sent : ℕ} {a : Rows} {c : CountArrays} {lasts links order : List ℕ} → list ≡ other
    → Coming Filed tree list i row sent a c lasts links order → Coming Filed tree other i row sent a c lasts links order
comes_as {Filed} {tree} {list} {other} {i} {row} {sent} {a} {c} {lasts} {links} {order} same comes =
    subst (λ (x : Events). Coming Filed tree x i row sent a c lasts links order) same comes

pub gone_as :
    {Filed : Filing} {tree : Tree} {list other : Events} {i sent : ℕ} {a : Rows} {c : CountArrays} {lasts links links' order order' : List ℕ} → list ≡ other
    → Gone Filed tree list i sent a c lasts links links' order order' → Gone Filed tree other i sent a c lasts links links' order order'
gone_as {Filed} {tree} {list} {other} {i} {sent} {a} {c} {lasts} {links} {links'} {order} {order'} same gone =
    subst (λ (x : Events). Gone Filed tree x i sent a c lasts links links' order order') same gone

module _
    {Filed : Filing} (keeps : Keeps Filed) {tree : Tree} {identifiers : List ℕ} {senders : List Bool} (ground : Ground tree identifiers senders) {stamps pclasses plengths : List ℕ}
    (stamped : Stamped stamps) {rate i : ℕ} {turn : Turn} {a : Rows} {c : CountArrays} {lasts links order classes lengths : List ℕ}
    (room : Roomy i links order classes lengths)
    (reached : Reached Filed tree (arrivals_with stamps pclasses plengths) rate i turn a c lasts links classes lengths)
  where
    abbrev arrivals : Arrivals
    arrivals = arrivals_with stamps pclasses plengths

    abbrev now : Progress
    now = progress tree arrivals rate i

    abbrev list : ℕ → Events
    list n = listed tree arrivals rate n

    abbrev idles : Bool
    idles = eqb (head a 0) 0

    pub idle_is : idle now.box ≡ idles
    idle_is = idle_now tree arrivals rate i a reached.now.rows_are

    pub few_arrived : turn.arrived ≤ most_events
    few_arrived = omega (arith, few_come tree arrivals rate i, reached.arrived_are, room.events_room)

    ok : Accepted tree (list i) i
    ok = record { sound = ground.fit.accepted.sound; each = reached.fine }

    module _ {next : Next} (next_is : NextIs stamps pclasses plengths now next) where
      event_is : decode next.class next.length ≡ coming tree arrivals rate i
      event_is = rw (next_is.class, next_is.length)

      -- what is lent of the list's lengths, the next one among them, is those of the list so far
      pub lent_list : events_of (list (suc i)).classes (take (i + 1) (set lengths i next.length)) ≡ list (suc i)
      lent_list =
          let written = listed_next tree arrivals rate i classes lengths room.classes_room room.lengths_room reached.classes_are reached.lengths_are in
          rw (add-one, next_is.length, written.1)

      pub moment_low : next.moment ≤ 2 ^ 53 + i * 2 ^ 34
      unfolding moment_next
      moment_low = rw next_is.moment (by (finishes arrivals now))
        where
          by : (b : Bool) → cond b now.due (get_or stamps now.arrived 0) ≤ 2 ^ 53 + i * 2 ^ 34
          by true = omega (arith, reached.due_low, reached.due_is)
          by false = omega (arith, stamped now.arrived)

      abbrev met : Refusal
      met = meeting_refused tree i next.length (decode next.class next.length) idles

      met_is : met ≡ event_refused tree (list (suc i)) i
      met_is = rw (refused_listed tree arrivals rate (suc i) i (omega arith), next_is.class, next_is.length, idle_is)

      pub refuses_next : (r : Refusal) → Refuses met r → Refuses (event_refused tree (list (suc i)) i) r
      refuses_next r refuses = rw (← met_is) refuses

      module _ {row : ℕ} (passed : Judged met (row_for tree (decode next.class next.length)) (Ok row)) where
        fine_next : (j : ℕ) → j < suc i → (event_refused tree (list (suc i)) j).number ≡ 0
        fine_next j before = go (dec_lt j i)
          where
            go : Dec (j < i) → (event_refused tree (list (suc i)) j).number ≡ 0
            go (yes earlier) =
                rw (refused_listed tree arrivals rate (suc i) j before, ← refused_listed tree arrivals rate i j earlier) (reached.fine j earlier)
            go (no last) = let same : j ≡ i = omega arith in rw (same, ← met_is) passed.0

        fit_next : Fit tree (list (suc i))
        fit_next = fit_longer tree arrivals rate (suc i) (omega (arith, room.events_room)) ground.fit fine_next

        pub comes : Coming Filed tree (list (suc i)) i row turn.sent a c lasts links order
        comes =
            record {
              fit = fit_next;
              inside = omega (arith, listed_count tree arrivals rate (suc i));
              row_is = passed.1 ∙ ap (row_for tree) (event_is ∙ sym (event_listed tree arrivals rate (suc i) i (omega arith)));
              links_room = omega (arith, listed_count tree arrivals rate (suc i), room.links_room);
              order_room = omega (arith, listed_count tree arrivals rate (suc i), room.order_room);
              now = now_longer tree arrivals rate i ok keeps reached.unlinked reached.now;
            }

        module _
            {Filed' : Filing} {b : Rows} {d : CountArrays} {sent' : ℕ} {lasts' links' order' : List ℕ}
            (gone : Gone Filed' tree (list (suc i)) i sent' b d lasts' links links' order order') where
          -- the packet on the line then is no longer than a packet may be
          pub line_length : head_length b 0 ≤ most_bytes
          line_length =
              rw (← gone.now.rows_are)
              (heads_below tree (list (suc i)) (suc i) 0 (record { sound = ok.sound; each = fine_next }) ok.sound.some_rows)

          due_is : (due' : ℕ) → due' ≡ cond (next.finish || idles) (next.moment + sending rate (head_length b 0)) turn.due
              → due' ≡ (progress tree arrivals rate (suc i)).due
          unfolding due_next
          due_is due' is =
              is
              ∙ rw (
                due_later tree arrivals rate i,
                ← box_listed tree arrivals rate (suc i) (suc i) (omega arith),
                gone.now.rows_are,
                next_is.finish,
                next_is.moment,
                idle_is,
                reached.due_is,
              )

          due_low : (due' : ℕ) → due' ≡ cond (next.finish || idles) (next.moment + sending rate (head_length b 0)) turn.due → due' ≤ 2 ^ 53 + suc i * 2 ^ 34
          unfolding sending
          due_low due' is = rw is (go (next.finish || idles))
            where
              go : (b' : Bool) → cond b' (next.moment + sending rate (head_length b 0)) turn.due ≤ 2 ^ 53 + suc i * 2 ^ 34
              go true = omega (arith, moment_low, rounded_most (head_length b 0 * 1000000) rate, line_length)
              go false = omega (arith, reached.due_low)

          pub goes_on : {arrived' due' : ℕ} → arrived' ≡ turn.arrived + cond next.finish 0 1
              → due' ≡ cond (next.finish || idles) (next.moment + sending rate (head_length b 0)) turn.due
              → Reached Filed' tree arrivals rate (suc i) (record { arrived = arrived'; due = due'; sent = sent' }) b d lasts' links' (set classes i next.class) (set lengths i next.length)
          goes_on {arrived'} {due'} arrived_is is =
              let written = listed_next tree arrivals rate i classes lengths room.classes_room room.lengths_room reached.classes_are reached.lengths_are in
              record {
                fine = fine_next;
                arrived_are = arrived_is ∙ rw (arrived_next tree arrivals rate i, next_is.finish, reached.arrived_are);
                due_is = due_is due' is;
                due_low = due_low due' is;
                now = gone.now;
                unlinked = λ j from.
                    beyond links links' (suc i) (rw (listed_count tree arrivals rate (suc i)) at gone.links_rest) j from ∙ reached.unlinked j (omega arith);
                classes_are = rw next_is.class written.0;
                lengths_are = rw next_is.length written.1;
              }
