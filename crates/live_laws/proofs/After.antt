-- What is to be shown of the state after an event, so that it has what a sound state has; and what its box has before the event.
-- Assumes nothing.
use Prim.Native.Nat.{ℕ, suc, ◌≤◌, ◌<◌}
use mathlib.Core.Path.{◌≡◌, sym, subst, ◌∙◌}
use native.Mathlib.Decide.{dec_le}
use native.Mathlib.Omega.{arith}
use lib.ListN.{length}
use Rattle.input.specs.declared.Event.{Event}
use Rattle.input.specs.Limits.{most_rows, most_bytes}
use Rattle.input.specs.Classes.{Tree}
use Rattle.rules.specs.Box.{Box, head, head_class, held_by, queue_of}
use Rattle.laws.specs.Kept.{Kept, held_below}
use Rattle.laws.specs.Sizes.{Sized, Forward, Marked}
use Rattle.live_rules.specs.State.{Live, queue, box_of, gone, events}
use Rattle.live_rules.specs.Taking.{box_after, packets_after, took}
use Rattle.live_laws.specs.Holds.{Fitting, Counted, Holds}
use Rattle.live_laws.specs.Unordered.{unordered}
use Rattle.live_laws.proofs.Queues.{queues_at}
use Rattle.live_laws.proofs.Classless.{Classless}
use Rattle.live_laws.proofs.Unused.{BoxRowed}

-- no packet of any class exceeds what is accepted
abbrev pub largest : ℕ → ℕ
largest r = most_bytes

-- ── the box without its order ──

unordered_kept : (tree : Tree) (big : ℕ → ℕ) (now : ℕ) (box : Box) → Kept tree big now box → Kept tree big now (unordered box)
unfolding unordered held_below
unordered_kept tree big now box kept =
    record {
      rows_full = kept.rows_full;
      bytes_full = kept.bytes_full;
      held_full = kept.held_full;
      since_full = kept.since_full;
      parent_since_full = kept.parent_since_full;
      queues_full = kept.queues_full;
      settled = kept.settled;
      heads_small = kept.heads_small;
      queues_kept = kept.queues_kept;
      heads_kept = kept.heads_kept;
      held_sender = kept.held_sender;
      held_inner = kept.held_inner;
      sender_virtual = kept.sender_virtual;
      root_start = kept.root_start;
      root_finish = kept.root_finish;
    }

unordered_marked : (tree : Tree) (most gone : ℕ) (box : Box) → Marked tree most gone box → Marked tree most gone (unordered box)
unfolding unordered
unordered_marked tree most gone box marked =
    record { bytes_most = marked.bytes_most; since_most = marked.since_most; parent_since_most = marked.parent_since_most }

-- ── what is to be shown of an event ──

-- of the box after it, with the packets and the counts of the state
pub record After (live : Live) (e : Event) : Type 0 where
  pub box_same : box_of (took live e) ≡ unordered (box_after live e)
  pub later : events (took live e) ≡ suc (events live)
  pub held_all : held_by (box_after live e) 0 ≡ length (packets_after live e)
  pub rowed : BoxRowed live.tree.rows (box_after live e)
  pub counted : Counted (took live e)
  pub fitting : Fitting live.tree (suc (events live)) 0 (packets_after live e)
  pub kept : Kept live.tree largest (suc (events live)) (box_after live e)
  pub classless : Classless (box_after live e).rows
  pub sized : Sized live.tree most_bytes (gone (took live e)) (box_after live e).rows
  pub forward : Forward live.tree (box_after live e).rows
  pub marked : Marked live.tree most_bytes (gone (took live e)) (box_after live e)

pub after_holds : (live : Live) → Holds live → (e : Event) → After live e → Holds (took live e)
unfolding took
after_holds live holds e after =
    record {
      shaped =
          record {
            identifiers = holds.shaped.identifiers;
            parents = holds.shaped.parents;
            depths = holds.shaped.depths;
            shares = holds.shaped.shares;
            rows = after.rowed.rows;
            bytes = after.rowed.bytes;
            held = after.rowed.held;
            since = after.rowed.since;
            parent_since = after.rowed.parent_since;
            held_all = after.held_all;
          };
      counted = after.counted;
      treed = holds.treed;
      fitting = subst (λ (n : ℕ). Fitting live.tree n 0 (packets_after live e)) (sym after.later) after.fitting;
      kept =
          subst (λ (n : ℕ). Kept live.tree largest n (box_of (took live e))) (sym after.later)
          (subst (λ (box : Box). Kept live.tree largest (suc (events live)) box) (sym after.box_same)
          (unordered_kept live.tree largest (suc (events live)) (box_after live e) after.kept));
      classless = λ r inside none. after.classless.none r none;
      sized = after.sized;
      forward = after.forward;
      marked =
          subst (λ (box : Box). Marked live.tree most_bytes (gone (took live e)) box) (sym after.box_same)
          (unordered_marked live.tree most_bytes (gone (took live e)) (box_after live e) after.marked);
    }

-- ── a state that holds ──

module _ (live : Live) (holds : Holds live) where
  pub box_rowed : BoxRowed live.tree.rows (box_of live)
  unfolding box_of
  box_rowed =
      record {
        rows = holds.shaped.rows;
        bytes = holds.shaped.bytes;
        held = holds.shaped.held;
        since = holds.shaped.since;
        parent_since = holds.shaped.parent_since;
      }

  -- no class beyond the rows in use either
  pub box_classless : Classless (box_of live).rows
  unfolding box_of
  box_classless =
      record {
        as_long = holds.shaped.rows.head_classes.full ∙ sym holds.shaped.rows.heads.full;
        none = λ r idles. at r idles (dec_le live.tree.rows r);
      }
    where
      at : (r : ℕ) → head live.rows r ≡ 0 → Dec (live.tree.rows ≤ r) → head_class live.rows r ≡ 0
      at r idles (yes beyond) = holds.shaped.rows.head_classes.unused r beyond
      at r idles (no inside) = holds.classless r (omega arith) idles

  pub queue_held : (k : ℕ) → k < live.tree.rows → queue_of (box_of live) k ≡ queue live.packets k
  unfolding box_of
  queue_held k inside = queues_at live.packets most_rows k (omega (arith, holds.counted.few_rows))

  -- what is said of the rows of the state is said of the rows of its box
  pub before_sized : Sized live.tree most_bytes (gone live) (box_of live).rows
  unfolding box_of
  before_sized = holds.sized

  pub before_forward : Forward live.tree (box_of live).rows
  unfolding box_of
  before_forward = holds.forward
