-- The list that arrivals make is whole: each event of it is a finish of what is on the line, or the next packet's arrival; it has an arrival
-- and a finish for each packet, and its moments never go back.
-- Assumes nothing.
use Prim.Native.Nat.{ℕ, zero, suc, ◌+◌, ◌*◌, ◌≤◌, ◌<◌}
use mathlib.Core.Path.{◌≡◌, refl, sym, ap, ◌∙◌}
use mathlib.Core.Logic.{◌≢◌}
use mathlib.Core.Bool.{Bool, true, false, cond, not, ◌&&◌, ◌||◌, true≢false, false≢true}
use native.Mathlib.Decide.{ℕ_discrete}
use native.Mathlib.Numerals.{add-one, unary_clauses}
use native.Mathlib.Omega.{arith}
use lib.Dec.{leb, ltb, eqb}
use borrow.Author.Tests.{eqb-true, eqb-false, eq-eqb, ne_eqb, leb-true, leb-false, not-false}
use Rattle.input.specs.declared.Event.{Event}
use Rattle.input.specs.declared.Event.TheVariants.{Arrival, Finish}
use Rattle.input.specs.Limits.{least_bytes, most_bytes}
use Rattle.input.specs.Classes.{Tree, row_of, sends}
use Rattle.input.specs.Events.{Events, count, class_word, length_word, decode, event}
use Rattle.input.specs.declared.Refusal.{Refusal}
use Rattle.input.specs.Refusals.{nothing, given, or_else, first, packet_refused, meeting_refused}
use Rattle.rules.specs.Box.{head_length, has_head}
use Rattle.rules.specs.Steps.{after}
use Rattle.rules.specs.Refused.{idle, event_refused}
use Rattle.rules.specs.Promise.{within, for_part, one_arrival, one_finish, arrived, finish_count}
use Rattle.laws.specs.Sound.{ArrivalFits}
use Rattle.laws.specs.History.{Accepted}
use Rattle.laws.proofs.Tree.Paths.{root_within}
use Rattle.laws.proofs.Tree.Trees.{arrival_fits}
use Rattle.laws.proofs.Event.Turns.{fewer}
use Rattle.laws.proofs.Run.History.{idle_counted, busy_counted}
use Rattle.pcap.specs.Lists.{Arrivals, Progress, packets, stamp_of, class_of, length_of, finishes, class_next, packet_length, length_next, moment_next, due_next, sending, proceeds, progress, listed}
use Rattle.pcap.proofs.Listing.{at, events, coming, coming_refused, listed_count, event_listed, class_listed, box_listed, refused_listed}

-- words that are not refused are a packet's for its class
named : (tree : Tree) (class length i : ℕ) (idles : Bool)
    → (meeting_refused tree i (packet_length class length) (decode class (packet_length class length)) idles).number ≡ 0
    → decode class (packet_length class length) ≡ Arrival class length
unfolding packet_length decode meeting_refused first or_else given
named tree class length i idles fine = go (eqb class 0) fine
  where
    go : (b : Bool) → (meeting_refused tree i (cond b 1 length) (cond b Finish (Arrival class (cond b 1 length))) idles).number ≡ 0
        → cond b Finish (Arrival class (cond b 1 length)) ≡ Arrival class length
    go true fine = absurd (omega arith)
    go false fine = refl

-- no finish of a busy line after the last arrival: the line is idle
idle_then : (busy end due : Bool) → end ≡ true → (not (not busy) && (end || due)) ≡ false → busy ≡ false
idle_then true true due last is = absurd (true≢false is)
idle_then true false due last is = absurd (false≢true last)
idle_then false end due last is = refl

module _ (tree : Tree) (arrivals : Arrivals) (rate : ℕ) where
  abbrev now : ℕ → Progress
  now i = at tree arrivals rate i

  -- ── what comes ──

  pub finish_comes : (i : ℕ) → finishes arrivals (now i) ≡ true → coming tree arrivals rate i ≡ Finish
  unfolding class_next decode
  finish_comes i is = rw is

  class_comes : (i : ℕ) → finishes arrivals (now i) ≡ false → class_next arrivals (now i) ≡ class_of arrivals (now i).arrived
  unfolding class_next
  class_comes i is = rw is

  length_comes : (i : ℕ) → finishes arrivals (now i) ≡ false
      → length_next arrivals (now i) ≡ packet_length (class_of arrivals (now i).arrived) (length_of arrivals (now i).arrived)
  unfolding length_next
  length_comes i is = rw is

  pub arrival_comes : (i : ℕ) → finishes arrivals (now i) ≡ false → (coming_refused tree arrivals rate i).number ≡ 0
      → coming tree arrivals rate i ≡ Arrival (class_of arrivals (now i).arrived) (length_of arrivals (now i).arrived)
  arrival_comes i is fine =
      let j = (now i).arrived in
      rw (class_comes i is, length_comes i is)
      (named tree (class_of arrivals j) (length_of arrivals j) i (idle (now i).box) (rw (class_comes i is, length_comes i is) at fine))

  -- ── counting ──

  either_none : (b : Bool) → ◌≡◌ {A = ℕ} (cond b 0 0) 0
  either_none true = refl
  either_none false = refl

  module _ (n : ℕ) where
    abbrev list : Events
    list = events tree arrivals rate n

    fine_at : (i : ℕ) → i < n → Accepted tree list (suc i) → (coming_refused tree arrivals rate i).number ≡ 0
    fine_at i inside ok = rw (← refused_listed tree arrivals rate n i inside) (ok.each i (omega arith))

    -- an arrival is for a row of the tree
    for_all : (i : ℕ) → i < n → Accepted tree list (suc i) → finishes arrivals (now i) ≡ false → for_part tree list 0 i ≡ true
    unfolding for_part meeting_refused
    for_all i inside ok is =
        let come = arrival_comes i is (fine_at i inside ok) in
        let fits =
        arrival_fits tree ok.sound i (length_next arrivals (now i)) (class_of arrivals (now i).arrived) (length_of arrivals (now i).arrived) (idle (now i).box)
        (rw come at (fine_at i inside ok)) in
        rw (class_listed tree arrivals rate n i inside, class_comes i is)
        (root_within tree ok.sound _ fits.sender.inside)

    -- the packets that have arrived, and the finishes besides, are the events so far
    pub came : (i : ℕ) → i ≤ n → Accepted tree list i
        → ((now i).arrived ≡ arrived tree list 0 i) × ((now i).arrived + finish_count list i ≡ i)
    unfolding progress proceeds arrived finish_count one_arrival one_finish
    came zero inside ok = (refl, refl)
    came (suc i) inside ok = go (came i (omega arith) (fewer tree list i (suc i) (omega arith) ok)) (finishes arrivals (now i)) refl
      where
        go : ((now i).arrived ≡ arrived tree list 0 i) × ((now i).arrived + finish_count list i ≡ i) → (b : Bool) → finishes arrivals (now i) ≡ b
            → ((now i).arrived + cond b 0 1 ≡ arrived tree list 0 i + cond (for_part tree list 0 i) (one_arrival (event list i)) 0)
            × ((now i).arrived + cond b 0 1 + (finish_count list i + one_finish (event list i)) ≡ suc i)
        go before true is =
            rw (event_listed tree arrivals rate n i inside, finish_comes i is, either_none (for_part tree list 0 i))
            (omega (arith, before), omega (arith, before))
        go before false is =
            rw (event_listed tree arrivals rate n i inside, arrival_comes i is (fine_at i inside ok), for_all i inside ok is)
            (omega (arith, before), omega (arith, before))

    -- ── as many as there are ──

    abbrev all : ℕ
    all = packets arrivals

    -- where the next event is no finish, a packet is still to come
    pub still_one : (i : ℕ) → i < n → i < 2 * all → Accepted tree list i → (now i).arrived ≤ all → finishes arrivals (now i) ≡ false → (now i).arrived < all
    unfolding finishes idle
    still_one i inside early ok few is = go (ℕ_discrete (now i).arrived all)
      where
        go : Dec ((now i).arrived ≡ all) → (now i).arrived < all
        go (no other) = omega arith
        go (yes same) =
            let counted = came i (omega arith) ok in
            let none =
            idle_counted tree list i ok
            (rw (box_listed tree arrivals rate n i (omega arith))
            (idle_then (has_head (now i).box.rows 0) (eqb (now i).arrived all) _ (eq-eqb (now i).arrived all same) is)) in
            absurd (omega (arith, counted))

    pub few_arrived : (i : ℕ) → i ≤ n → i ≤ 2 * all → Accepted tree list i → (now i).arrived ≤ all
    unfolding progress proceeds
    few_arrived zero inside early ok = omega arith
    few_arrived (suc i) inside early ok =
        let passed = fewer tree list i (suc i) (omega arith) ok in
        go passed (few_arrived i (omega arith) (omega arith) passed) (finishes arrivals (now i)) refl
      where
        go : Accepted tree list i → (now i).arrived ≤ all → (b : Bool) → finishes arrivals (now i) ≡ b → (now i).arrived + cond b 0 1 ≤ all
        go passed before true is = omega (arith, before)
        go passed before false is = omega (arith, still_one i inside (omega arith) passed before is)

-- ── moments ──

-- no stamp is before the one above it
abbrev pub Ascending : Arrivals → Type 0
Ascending arrivals = (k : ℕ) → suc k < packets arrivals → stamp_of arrivals k ≤ stamp_of arrivals (suc k)

module _ (tree : Tree) (arrivals : Arrivals) (rate : ℕ) where
  abbrev when : ℕ → ℕ
  when i = moment_next arrivals (at tree arrivals rate i)

  abbrev busy : ℕ → Type 0
  busy i = idle (at tree arrivals rate i).box ≡ false

  -- the next moments are not before that of event i: not when the line's packet is finished, nor when the next one arrives
  not_before : Ascending arrivals → (i : ℕ) → (now tree arrivals rate i).arrived ≤ packets arrivals
      → (busy (suc i) → when i ≤ (now tree arrivals rate (suc i)).due)
      × ((now tree arrivals rate (suc i)).arrived < packets arrivals → when i ≤ stamp_of arrivals (now tree arrivals rate (suc i)).arrived)
  unfolding progress proceeds moment_next due_next finishes
  not_before ascending i few = go (idle x.box) (eqb x.arrived all) refl (leb x.due (stamp_of arrivals x.arrived)) refl
    where
      x : Progress
      x = now tree arrivals rate i

      all : ℕ
      all = packets arrivals

      go : (idles end : Bool) → eqb x.arrived all ≡ end → (due : Bool) → leb x.due (stamp_of arrivals x.arrived) ≡ due
          → (busy (suc i)
          → cond (not idles && (end || due)) x.due (stamp_of arrivals x.arrived)
          ≤ cond ((not idles && (end || due)) || idles)
          (cond (not idles && (end || due)) x.due (stamp_of arrivals x.arrived) + sending rate (head_length (now tree arrivals rate (suc i)).box.rows 0)) x.due)
          × (x.arrived + cond (not idles && (end || due)) 0 1 < all
          → cond (not idles && (end || due)) x.due (stamp_of arrivals x.arrived)
          ≤ stamp_of arrivals (x.arrived + cond (not idles && (end || due)) 0 1))
      go true end last due early = ((λ some. omega arith), (λ more. rw add-one (ascending x.arrived (omega arith))))
      go false true last due early = ((λ some. omega arith), (λ more. absurd (omega (arith, eqb-true x.arrived all last))))
      go false false last true early = ((λ some. omega arith), (λ more. simp unary_clauses (leb-true x.due (stamp_of arrivals x.arrived) early)))
      go false false last false early =
          ((λ some. omega (arith, leb-false x.due (stamp_of arrivals x.arrived) early)), (λ more. rw add-one (ascending x.arrived (omega arith))))

  -- so moments never go back
  pub moments_ascend : Ascending arrivals → (n i : ℕ) → suc i < n → suc i < 2 * packets arrivals → Accepted tree (events tree arrivals rate n) (suc i)
      → when i ≤ when (suc i)
  unfolding moment_next finishes
  moments_ascend ascending n i inside early ok = go (finishes arrivals next) refl
    where
      next : Progress
      next = now tree arrivals rate (suc i)

      few : next.arrived ≤ packets arrivals
      few = few_arrived tree arrivals rate n (suc i) (omega arith) (omega arith) ok

      before : (now tree arrivals rate i).arrived ≤ packets arrivals
      before = few_arrived tree arrivals rate n i (omega arith) (omega arith) (fewer tree _ i (suc i) (omega arith) ok)

      later :
          (busy (suc i) → when i ≤ next.due) × (next.arrived < packets arrivals → when i ≤ stamp_of arrivals next.arrived)
      later = not_before ascending i before

      busy_then : (idles b : Bool) → (not idles && b) ≡ true → idles ≡ false
      busy_then true b is = absurd (false≢true is)
      busy_then false b is = refl

      go : (b : Bool) → finishes arrivals next ≡ b → when i ≤ cond b next.due (stamp_of arrivals next.arrived)
      go true is = later.0 (busy_then (idle next.box) _ is)
      go false is = later.1 (still_one tree arrivals rate n (suc i) inside early ok few is)

  -- ── never a finish of nothing ──

  given_not : (b : Bool) (number place : ℕ) → number ≢ 14 → (given b number place).number ≢ 14
  unfolding given nothing
  given_not true number place other = other
  given_not false number place other = omega arith

  or_else_not : (a b : Refusal) → a.number ≢ 14 → b.number ≢ 14 → (or_else a b).number ≢ 14
  unfolding or_else
  or_else_not a b one other = go (eqb a.number 0)
    where
      go : (test : Bool) → (cond test b a).number ≢ 14
      go true = other
      go false = one

  words_not : (class length i : ℕ) (idles : Bool)
      → (meeting_refused tree i (packet_length class length) (decode class (packet_length class length)) idles).number ≢ 14
  unfolding packet_length decode meeting_refused packet_refused first or_else given nothing
  words_not class length i idles = go (eqb class 0)
    where
      k : ℕ
      k = row_of tree class

      bad : Bool
      bad = ltb length least_bytes || ltb most_bytes length

      go : (b : Bool) → (meeting_refused tree i (cond b 1 length) (cond b Finish (Arrival class (cond b 1 length))) idles).number ≢ 14
      go true = omega arith
      go false =
          or_else_not (given (eqb k tree.rows) 11 i) (packet_refused i (sends tree k) length) (given_not (eqb k tree.rows) 11 i (omega arith))
          (or_else_not (given (not (sends tree k)) 12 i) (or_else (given bad 13 i) nothing) (given_not (not (sends tree k)) 12 i (omega arith))
          (or_else_not (given bad 13 i) nothing (given_not bad 13 i (omega arith)) (omega arith)))

  finish_not : (i word : ℕ) (idles b : Bool) → (not idles && b) ≡ true → (meeting_refused tree i word Finish idles).number ≢ 14
  unfolding meeting_refused first given nothing
  finish_not i word true b is = absurd (false≢true is)
  finish_not i word false b is =
      or_else_not (given (not (eqb word 0)) 13 i) (or_else (given false 14 i) nothing) (given_not (not (eqb word 0)) 13 i (omega arith))
      (or_else_not (given false 14 i) nothing (omega arith) (omega arith))

  -- a finish comes only where a packet is on the line, so no event of the list is refused with 14, whatever the packets
  pub never_fourteen : (n i : ℕ) → i < n → (event_refused tree (events tree arrivals rate n) i).number ≢ 14
  unfolding finishes
  never_fourteen n i inside = rw (refused_listed tree arrivals rate n i inside) (go (finishes arrivals (now tree arrivals rate i)) refl)
    where
      x : Progress
      x = now tree arrivals rate i

      go : (b : Bool) → finishes arrivals x ≡ b → (coming_refused tree arrivals rate i).number ≢ 14
      go true is = rw (finish_comes tree arrivals rate i is) (finish_not i (length_next arrivals x) (idle x.box) _ is)
      go false is =
          rw (class_comes tree arrivals rate i is, length_comes tree arrivals rate i is)
          (words_not (class_of arrivals x.arrived) (length_of arrivals x.arrived) i (idle x.box))
