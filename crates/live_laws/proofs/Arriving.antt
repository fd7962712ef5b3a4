-- The state after an arrival that is not refused.
-- Assumes nothing.
use Prim.Native.Nat.{ℕ, suc, ◌<◌}
use mathlib.Core.Path.{◌≡◌, sym, subst}
use mathlib.Core.List.{[], ◌∷◌}
use native.Mathlib.Omega.{arith}
use lib.ListN.{length, get_or, length-append}
use Rattle.input.specs.declared.Event.TheVariants.{Arrival}
use Rattle.input.specs.Limits.{most_rows, most_bytes}
use Rattle.input.specs.Classes.{row_of}
use Rattle.rules.specs.Box.{held_by}
use Rattle.rules.specs.Steps.{arrival, step}
use Rattle.laws.specs.Sound.{ArrivalFits}
use Rattle.laws.specs.Kept.{Kept}
use Rattle.laws.specs.Sizes.{Sized, Marked}
use Rattle.laws.proofs.Tree.Paths.{root_within}
use Rattle.laws.proofs.Event.OneEvent.{arrival_held}
use Rattle.laws.proofs.Event.Keeping.{arrival_kept}
use Rattle.laws.proofs.Event.Sized.{arrival_sized, arrival_forward, arrival_marked}
use Rattle.live_rules.specs.Limits.{most_held, most_accepted}
use Rattle.live_rules.specs.State.{Live, box_of, gone, events}
use Rattle.live_rules.specs.Taking.{box_after, packets_after, accepted_after, took}
use Rattle.live_laws.specs.Holds.{Counted, Holds}
use Rattle.live_laws.specs.Unordered.{unordered}
use Rattle.live_laws.proofs.Queues.{queues_joined, fitting_joined}
use Rattle.live_laws.proofs.Classless.{arrival_classless}
use Rattle.live_laws.proofs.Unused.{arrival_rowed}
use Rattle.live_laws.proofs.After.{largest, After, box_rowed, box_classless, queue_held, before_sized, before_forward}

module _ (live : Live) (holds : Holds live) (class size : ℕ) (fits : ArrivalFits live.tree class size) where
  abbrev k : ℕ
  k = row_of live.tree class

  arrival_box : box_of (took live (Arrival class size)) ≡ unordered (box_after live (Arrival class size))
  unfolding took box_of unordered box_after step arrival packets_after
  arrival_box =
      let inside = fits.sender.inside in
      let room = holds.counted.few_rows in
      rw (queues_joined live.packets (record { class = k; length = size; name = events live }) most_rows (omega arith), queue_held live holds k inside)

  pub arrival_longer : length (packets_after live (Arrival class size)) ≡ suc (length live.packets)
  unfolding packets_after
  arrival_longer =
      let longer = length-append live.packets (record { class = k; length = size; name = events live } ∷ []) in
      omega arith

  arrival_later : events (took live (Arrival class size)) ≡ suc (events live)
  unfolding took events accepted_after
  arrival_later = let longer = arrival_longer in let few = holds.counted.held_accepted in omega arith

  pub arrival_gone : gone (took live (Arrival class size)) ≡ gone live
  unfolding took gone accepted_after
  arrival_gone = let longer = arrival_longer in let few = holds.counted.held_accepted in omega arith

  arrival_held_all : held_by (box_after live (Arrival class size)) 0 ≡ length (packets_after live (Arrival class size))
  unfolding box_after step box_of
  arrival_held_all =
      let longer = arrival_longer in
      let all = holds.shaped.held_all in
      let more = arrival_held live.tree holds.treed.sound largest (events live) (box_of live) holds.kept k size fits.sender 0 holds.counted.some_rows in
      let root : held_by (arrival live.tree (events live) k size (box_of live)) 0 ≡ suc (get_or live.held 0 0)
      = rw (root_within live.tree holds.treed.sound k fits.sender.inside) at more in
      omega arith

  arrival_counted : live.accepted < most_accepted → length live.packets < most_held → Counted (took live (Arrival class size))
  unfolding took accepted_after
  arrival_counted few_accepted few_held =
      let longer = arrival_longer in
      let before = holds.counted in
      record {
        some_rows = before.some_rows;
        few_rows = before.few_rows;
        few_held = omega arith;
        held_accepted = omega arith;
        few_accepted = omega arith;
      }

  arrival_now : Kept live.tree largest (suc (events live)) (arrival live.tree (events live) k size (box_of live))
  arrival_now =
      arrival_kept live.tree holds.treed.sound largest (λ j positive inside. omega arith) (events live) (box_of live) holds.kept k size
      fits.sender fits.some_bytes fits.few_bytes

  pub arrival_after : live.accepted < most_accepted → length live.packets < most_held → After live (Arrival class size)
  unfolding box_after step packets_after
  arrival_after few_accepted few_held =
      let sound = holds.treed.sound in
      record {
        box_same = arrival_box;
        later = arrival_later;
        held_all = arrival_held_all;
        rowed = arrival_rowed live.tree sound (events live) k size fits.sender.inside (box_of live) arrival_now.rows_full (box_rowed live holds);
        counted = arrival_counted few_accepted few_held;
        fitting =
            fitting_joined live.tree (events live) 0 k size live.packets (omega arith) fits.sender fits.some_bytes fits.few_bytes
            holds.fitting;
        kept = arrival_now;
        classless = arrival_classless live.tree (events live) k size (box_of live) (box_classless live holds);
        sized =
            subst (λ (n : ℕ). Sized live.tree most_bytes n (arrival live.tree (events live) k size (box_of live)).rows) (sym arrival_gone)
            (arrival_sized live.tree sound most_bytes (events live) (box_of live) holds.kept k size fits.sender fits.some_bytes
            fits.few_bytes (gone live) (before_sized live holds));
        forward =
            arrival_forward live.tree sound most_bytes (events live) (box_of live) holds.kept k size fits.sender fits.some_bytes
            (before_forward live holds);
        marked =
            subst (λ (n : ℕ). Marked live.tree most_bytes n (arrival live.tree (events live) k size (box_of live))) (sym arrival_gone)
            (arrival_marked live.tree sound most_bytes (events live) (box_of live) holds.kept k size fits.sender fits.some_bytes
            (gone live) holds.marked);
      }
