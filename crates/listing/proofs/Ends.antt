-- Where the list begins and ends: before the first event, at one that is refused, and after the last.
-- Assumes nothing.
use Prim.Native.Nat.{ℕ, zero, suc, ◌*◌, ◌≤◌, ◌<◌}
use mathlib.Core.Path.{◌≡◌, refl, sym, ◌∙◌}
use mathlib.Core.List.{List}
use native.Mathlib.Omega.{arith}
use lib.ListN.{replicate, take}
use borrow.Author.Tests.{eq-eqb}
use Rattle.input.specs.declared.Refusal.{Refusal}
use Rattle.input.specs.Limits.{most_rows, most_events}
use Rattle.input.specs.Classes.{Tree}
use Rattle.input.specs.EventRows.{no_rows}
use Rattle.input.specs.Refusals.{nothing, or_else, first_below}
use Rattle.rules.specs.Box.{fresh}
use Rattle.rules.specs.Outcome.{over}
use Rattle.rules.specs.Refused.{event_refused}
use Rattle.laws.specs.Named.{class_for}
use Rattle.laws.proofs.Event.Outset.{replicate_at}
use Rattle.rules.specs.Box.{Rows}
use Rattle.arrays.specs.declared.CountArrays.{CountArrays}
use Rattle.arrays.specs.Arrays.{no_counts}
use Rattle.choosing.specs.Filed.{Filing}
use Rattle.tables.specs.Judged.{Refuses}
use Rattle.tables.proofs.Judging.{at_place}
use Rattle.engine.proofs.Opening.{fresh_now}
use Rattle.pcap.specs.Lists.{Arrivals, packets, progress, listed, list_of}
use Rattle.pcap.proofs.Listing.{refused_listed}
use Rattle.listing.specs.declared.Turn.{Turn}
use Rattle.listing.specs.Reached.{Reached, Made}

pub outset :
    (Filed : Filing) (tree : Tree) (arrivals : Arrivals) (rate : ℕ) (turn : Turn) (a : Rows) (c : CountArrays) (links classes lengths : List ℕ)
    → turn ≡ record { arrived = 0; due = 0; sent = 0 } → links ≡ no_rows
    → Filed tree (class_for tree (listed tree arrivals rate 0)) fresh.rows 0 → a ≡ fresh.rows → c ≡ no_counts
    → Reached Filed tree arrivals rate 0 turn a c (replicate most_rows 0) links classes lengths
unfolding listed progress over no_rows
outset Filed tree arrivals rate turn a c links classes lengths first none filed rows counts =
    rw first
    (record {
      fine = λ j before. absurd (omega arith);
      arrived_are = refl;
      due_is = refl;
      due_low = omega arith;
      now = fresh_now Filed tree (listed tree arrivals rate 0) a c links links filed rows counts refl;
      unlinked = λ j from. rw none (replicate_at most_events j 0);
      classes_are = refl;
      lengths_are = refl;
    })

below_fine : (at : ℕ → Refusal) (n : ℕ) → ((i : ℕ) → i < n → (at i).number ≡ 0) → (first_below at n).number ≡ 0
unfolding first_below nothing or_else
below_fine at zero each = refl
below_fine at (suc n) each = rw (eq-eqb (first_below at n).number 0 (below_fine at n (λ i before. each i (omega arith)))) (each n (omega arith))

module _ (tree : Tree) (arrivals : Arrivals) (rate : ℕ) where
  abbrev all : ℕ
  all = 2 * packets arrivals

  abbrev at : ℕ → Refusal
  at = event_refused tree (list_of tree arrivals rate)

  at_is : (n i : ℕ) → i < n → i < all → event_refused tree (listed tree arrivals rate n) i ≡ at i
  unfolding list_of
  at_is n i inside early = refused_listed tree arrivals rate n i inside ∙ sym (refused_listed tree arrivals rate all i early)

  fine_so_far : (i : ℕ) → i ≤ all → ((j : ℕ) → j < i → (event_refused tree (listed tree arrivals rate i) j).number ≡ 0) → (first_below at i).number ≡ 0
  fine_so_far i early fine = below_fine at i (λ j before. rw (← at_is i j before (omega arith)) (fine j before))

  -- an event that is refused is the first
  pub refused_at : (i : ℕ) → i < all → ((j : ℕ) → j < i → (event_refused tree (listed tree arrivals rate i) j).number ≡ 0)
      → (r : Refusal) → Refuses (event_refused tree (listed tree arrivals rate (suc i)) i) r → Refuses (first_below at all) r
  refused_at i early fine r refuses =
      at_place at i all r early (fine_so_far i (omega arith) fine) (rw (at_is (suc i) i (omega arith) early) at refuses)

  -- after the last event nothing is refused, and the list is whole
  pub refused_none : (i : ℕ) → i ≡ all → ((j : ℕ) → j < i → (event_refused tree (listed tree arrivals rate i) j).number ≡ 0)
      → (classes lengths : List ℕ)
      → take i classes ≡ (listed tree arrivals rate i).classes → take i lengths ≡ (listed tree arrivals rate i).lengths
      → Made tree arrivals rate classes lengths
  unfolding list_of
  refused_none i is fine classes lengths classes_are lengths_are =
      record {
        none = rw is at (fine_so_far i (omega arith) fine);
        classes_are = rw is at classes_are;
        lengths_are = rw is at lengths_are;
      }
