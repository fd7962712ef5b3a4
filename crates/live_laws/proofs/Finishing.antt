-- The state after a finish that is not refused: the packet on the line is the first of its class's queue, and goes.
-- Assumes nothing.
use Prim.Native.Nat.{ℕ, suc, pred}
use mathlib.Core.Path.{◌≡◌, sym, subst, ◌∙◌}
use mathlib.Core.Logic.{◌≢◌}
use mathlib.Core.List.{List, [], ◌∷◌}
use native.Mathlib.Omega.{arith}
use lib.ListN.{length, get_or}
use Rattle.input.specs.declared.Event.TheVariants.{Finish}
use Rattle.input.specs.Limits.{most_rows, most_bytes}
use Rattle.rules.specs.Box.{Packet, Rows, head, head_class, held_by}
use Rattle.rules.specs.Steps.{departure, step}
use Rattle.laws.specs.Sound.{Sender}
use Rattle.laws.specs.Kept.{Kept, HeadOf}
use Rattle.laws.specs.Sizes.{Sized, Marked}
use Rattle.laws.proofs.Tree.Paths.{root_within}
use Rattle.laws.proofs.Event.OneEvent.{line_sender}
use Rattle.laws.proofs.Event.Keeping.{class_head, departure_kept, departure_held}
use Rattle.laws.proofs.Event.Sized.{departure_sized, departure_forward, departure_marked}
use Rattle.live_rules.specs.State.{Live, queue, box_of, gone, events}
use Rattle.live_rules.specs.Taking.{box_after, packets_after, accepted_after, took}
use Rattle.live_laws.specs.Holds.{Counted, Holds}
use Rattle.live_laws.specs.Unordered.{unordered}
use Rattle.live_laws.proofs.Queues.{Led, queues_without, without_length, fitting_without}
use Rattle.live_laws.proofs.Classless.{departure_classless}
use Rattle.live_laws.proofs.Unused.{BoxRowed, departure_rowed}
use Rattle.live_laws.proofs.After.{largest, After, box_rowed, box_classless, queue_held, before_sized, before_forward}

-- a class's head is the first of its queue
head_led : (a : Rows) (k name : ℕ) (line : List Packet) → name ≢ 0 → head a k ≡ name → HeadOf a k line → Led (pred name) line
unfolding HeadOf Led
head_led a k name [] some same front = absurd (some (sym same ∙ front))
head_led a k name (packet ∷ later) some same front = omega arith

module _ (live : Live) (holds : Holds live) (busy : head live.rows 0 ≢ 0) where
  -- the class of the packet on the line
  abbrev c : ℕ
  c = head_class live.rows 0

  pub line_class_sends : Sender live.tree c
  unfolding box_of
  line_class_sends = line_sender live.tree holds.treed.sound largest (events live) (box_of live) holds.kept busy

  -- the packet on the line is the first of its class's queue
  pub line_first : Led (pred (head live.rows 0)) (queue live.packets c)
  unfolding box_of
  line_first =
      let same = class_head live.tree holds.treed.sound live.rows holds.kept.settled 0 holds.counted.some_rows busy in
      let front = rw (queue_held live holds c line_class_sends.inside) at (holds.kept.heads_kept c line_class_sends) in
      head_led live.rows c (head live.rows 0) (queue live.packets c) busy same.packet_same front

  finish_box : box_of (took live Finish) ≡ unordered (box_after live Finish)
  unfolding took box_of unordered box_after step departure packets_after
  finish_box =
      let inside = line_class_sends.inside in
      let room = holds.counted.few_rows in
      rw (
        queues_without live.tree (events live) (pred (head live.rows 0)) c 0 most_rows live.packets (omega arith) holds.fitting line_first,
        queue_held live holds c inside,
      )

  -- one packet less
  pub finish_shorter : suc (length (packets_after live Finish)) ≡ length live.packets
  unfolding packets_after
  finish_shorter = without_length live.tree (events live) (pred (head live.rows 0)) c 0 live.packets holds.fitting line_first

  finish_later : events (took live Finish) ≡ suc (events live)
  unfolding took events accepted_after
  finish_later = let shorter = finish_shorter in let few = holds.counted.held_accepted in omega arith

  pub finish_gone : gone (took live Finish) ≡ suc (gone live)
  unfolding took gone accepted_after
  finish_gone = let shorter = finish_shorter in let few = holds.counted.held_accepted in omega arith

  box_busy : head (box_of live).rows 0 ≢ 0
  unfolding box_of
  box_busy = busy

  finish_held_all : held_by (box_after live Finish) 0 ≡ length (packets_after live Finish)
  unfolding box_after step box_of
  finish_held_all =
      let sound = holds.treed.sound in
      let shorter = finish_shorter in
      let all = holds.shaped.held_all in
      let fewer =
      departure_held live.tree sound largest (λ j positive inside. omega arith) (events live) (box_of live) holds.kept box_busy 0
      holds.counted.some_rows in
      let root : get_or live.held 0 0 ≡ suc (held_by (departure live.tree (box_of live)) 0)
      = rw (root_within live.tree sound c line_class_sends.inside) at fewer in
      omega arith

  finish_counted : Counted (took live Finish)
  unfolding took accepted_after
  finish_counted =
      let shorter = finish_shorter in
      let before = holds.counted in
      record {
        some_rows = before.some_rows;
        few_rows = before.few_rows;
        few_held = omega arith;
        held_accepted = omega arith;
        few_accepted = before.few_accepted;
      }

  finish_now : Kept live.tree largest (suc (events live)) (departure live.tree (box_of live))
  finish_now =
      departure_kept live.tree holds.treed.sound largest (λ j positive inside. omega arith) (events live) (box_of live) holds.kept box_busy

  finish_rowed : BoxRowed live.tree.rows (departure live.tree (box_of live))
  unfolding box_of
  finish_rowed =
      departure_rowed live.tree holds.treed.sound (box_of live) line_class_sends.inside finish_now.rows_full (box_rowed live holds)

  pub finish_after : After live Finish
  unfolding box_after step packets_after
  finish_after =
      let sound = holds.treed.sound in
      record {
        box_same = finish_box;
        later = finish_later;
        held_all = finish_held_all;
        rowed = finish_rowed;
        counted = finish_counted;
        fitting = fitting_without live.tree (events live) 0 (pred (head live.rows 0)) live.packets holds.fitting;
        kept = finish_now;
        classless = departure_classless live.tree (box_of live) (box_classless live holds);
        sized =
            subst (λ (n : ℕ). Sized live.tree most_bytes n (departure live.tree (box_of live)).rows) (sym finish_gone)
            (departure_sized live.tree sound most_bytes (events live) (box_of live) holds.kept box_busy (gone live) (before_sized live holds));
        forward =
            departure_forward live.tree sound most_bytes (events live) (box_of live) holds.kept box_busy (before_forward live holds);
        marked =
            subst (λ (n : ℕ). Marked live.tree most_bytes n (departure live.tree (box_of live))) (sym finish_gone)
            (departure_marked live.tree sound most_bytes (events live) (box_of live) holds.kept box_busy (gone live) holds.marked);
      }
