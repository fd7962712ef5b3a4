-- The list grows by one event: what the arrays are by the shorter list they are by the longer one, and an event that is not refused goes on.
-- Assumes nothing.
use Prim.Native.Nat.{ℕ, suc, ◌≤◌, ◌<◌}
use mathlib.Core.Path.{◌≡◌, refl, sym, ap, ◌∙◌}
use mathlib.Core.Bool.{Bool, true, false, not}
use mathlib.Core.List.{List, [], ◌∷◌}
use native.Mathlib.Omega.{arith}
use lib.Dec.{eqb}
use lib.ListN.{length, get_or, set, take}
use lib.Seq.{take-suc-set}
use Rattle.input.specs.Limits.{most_events}
use Rattle.input.specs.Classes.{Tree, row_of}
use Rattle.input.specs.Events.{Events}
use Rattle.input.specs.Lent.{events_of}
use Rattle.rules.specs.Box.{Packet, Rows, head, has_head}
use Rattle.rules.specs.Steps.{after}
use Rattle.rules.specs.Refused.{idle, event_refused}
use Rattle.laws.specs.Kept.{InLine}
use Rattle.laws.specs.History.{Accepted}
use Rattle.laws.specs.Named.{class_for}
use Rattle.laws.proofs.Run.Sizes.{small_kept}
use Rattle.laws.proofs.Run.Waited.{box_named}
use Rattle.arrays.specs.declared.CountArrays.{CountArrays}
use Rattle.choosing.specs.Filed.{Filing, Keeps}
use Rattle.events.specs.Links.{Chain, Linked}
use Rattle.events.specs.State.{Fit, Now}
use Rattle.pcap.specs.Lists.{Arrivals, class_next, length_next, listed}
use Rattle.pcap.proofs.Listing.{at, listed_count, listed_even, class_listed, length_listed, box_listed, refused_listed}

module _ (tree : Tree) (arrivals : Arrivals) (rate : ℕ) where
  abbrev list : ℕ → Events
  list n = listed tree arrivals rate n

  -- a queue of packets that arrived before is as good a chain by a longer list
  chain_longer : (links : List ℕ) (k i most least : ℕ) (queue : List Packet) → InLine i most least queue → Chain tree (list i) links k queue
      → Chain tree (list (suc i)) links k queue
  unfolding InLine Chain
  chain_longer links k i most least [] line chain = tt
  chain_longer links k i most least (packet ∷ later) line chain =
      let class = class_listed tree arrivals rate (suc i) packet.place (omega (arith, line.1)) ∙ sym (class_listed tree arrivals rate i packet.place line.1) in
      let bytes = length_listed tree arrivals rate (suc i) packet.place (omega (arith, line.1)) ∙ sym (length_listed tree arrivals rate i packet.place line.1) in (
        chain.0,
        ap (row_of tree) class ∙ chain.1,
        bytes ∙ chain.2,
        chain_longer links k i most (suc packet.place) later line.4 chain.3,
      )

  module _ (i : ℕ) (ok : Accepted tree (list i) i) where
    same_box : after tree (list (suc i)) i ≡ after tree (list i) i
    same_box = box_listed tree arrivals rate (suc i) i (omega arith) ∙ sym (box_listed tree arrivals rate i i (omega arith))

    ok_longer : Accepted tree (list (suc i)) i
    ok_longer =
        record {
          sound = ok.sound;
          each = λ j before.
              rw (refused_listed tree arrivals rate (suc i) j (omega arith), ← refused_listed tree arrivals rate i j before) (ok.each j before);
        }

    filed_longer : (Filed : Filing) → Keeps Filed → (a : Rows) → (after tree (list i) i).rows ≡ a → Filed tree (class_for tree (list i)) a 0
        → Filed tree (class_for tree (list (suc i))) a 0
    filed_longer Filed keeps a is filed =
        keeps.renamed tree (class_for tree (list i)) (class_for tree (list (suc i))) a (rw (← is, ← same_box) (box_named tree (list (suc i)) i ok_longer)) filed

    linked_longer : (lasts links : List ℕ) → ((j : ℕ) → i ≤ j → get_or links j 0 ≡ 0)
        → Linked tree (list i) i (after tree (list i) i) lasts links → Linked tree (list (suc i)) i (after tree (list (suc i)) i) lasts links
    linked_longer lasts links unlinked linked =
        let kept = small_kept tree (list i) i ok in
        rw same_box
        (record {
          lasts_full = linked.lasts_full;
          chains = λ k sender. chain_longer links k i _ 0 _ (kept.queues_kept k sender) (linked.chains k sender);
          lasts_are = linked.lasts_are;
          unlinked = λ j from below. unlinked j from;
        })

    pub now_longer :
        {Filed : Filing} {sent : ℕ} {a : Rows} {c : CountArrays} {lasts links : List ℕ} → Keeps Filed
        → ((j : ℕ) → i ≤ j → get_or links j 0 ≡ 0) → Now Filed tree (list i) i sent a c lasts links
        → Now Filed tree (list (suc i)) i sent a c lasts links
    now_longer {Filed} {sent} {a} {c} keeps unlinked now =
        record {
          filed = filed_longer Filed keeps a now.rows_are now.filed;
          rows_are = rw same_box now.rows_are;
          counts_are = rw same_box now.counts_are;
          sent_are = rw same_box now.sent_are;
          linked = linked_longer _ _ unlinked now.linked;
        }

  -- an accepted table with events that are not refused
  pub fit_longer : (n : ℕ) → n ≤ most_events → Fit tree (events_of [] []) → ((j : ℕ) → j < n → (event_refused tree (list n) j).number ≡ 0) → Fit tree (list n)
  fit_longer n few ground fine =
      record {
        accepted = record { sound = ground.accepted.sound; each = λ j before. fine j (omega (arith, listed_count tree arrivals rate n)) };
        as_long = listed_even tree arrivals rate n ∙ sym (listed_count tree arrivals rate n);
        few = omega (arith, listed_count tree arrivals rate n);
        inside = ground.inside;
        root = ground.root;
        shallow = ground.shallow;
        parts = ground.parts;
      }

  -- whether the line is idle is read off the root's head
  pub idle_now : (i : ℕ) (a : Rows) → (after tree (list i) i).rows ≡ a → idle (at tree arrivals rate i).box ≡ eqb (head a 0) 0
  unfolding idle has_head
  idle_now i a is = rw (← box_listed tree arrivals rate i i (omega arith), is) (not_not (eqb (head a 0) 0))
    where
      not_not : (b : Bool) → not (not b) ≡ b
      not_not true = refl
      not_not false = refl

  -- the next event written behind the list
  pub listed_next : (i : ℕ) (classes lengths : List ℕ) → i < length classes → i < length lengths → take i classes ≡ (list i).classes → take i lengths ≡ (list i).lengths
      → (take (suc i) (set classes i (class_next arrivals (at tree arrivals rate i))) ≡ (list (suc i)).classes)
      × (take (suc i) (set lengths i (length_next arrivals (at tree arrivals rate i))) ≡ (list (suc i)).lengths)
  unfolding listed
  listed_next i classes lengths some more classes_are lengths_are = (
    take-suc-set classes i _ some ∙ rw classes_are,
    take-suc-set lengths i _ more ∙ rw lengths_are,
  )
