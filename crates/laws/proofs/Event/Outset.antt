-- Before the first event the box is well kept: nothing is held and every tag is zero.
-- Assumes nothing.
use Prim.Native.Nat.{ℕ, zero, suc, ◌≤◌, ◌<◌}
use mathlib.Core.Path.{◌≡◌, refl, sym, ap, subst, ◌∙◌}
use mathlib.Core.Bool.{Bool, true, false, cond}
use mathlib.Core.List.{List, []}
use native.Mathlib.Omega.{arith}
use lib.ListN.{length, get_or, replicate, length-replicate}
use Rattle.input.specs.Limits.{most_rows}
use Rattle.input.specs.Classes.{Tree, zeros, parent, child}
use Rattle.rules.specs.Box.{Packet, fresh, held_by, queue_of}
use Rattle.laws.specs.Sound.{Sound}
use Rattle.laws.specs.Moves.{Settled}
use Rattle.laws.specs.Kept.{Kept, InLine, HeadOf, held_below, Fair}
use Rattle.laws.proofs.Tree.Trees.{zeros_full}
use Rattle.laws.proofs.Level.Levels.{zero_even}
use Rattle.laws.proofs.Event.Holding.{sum_none}

-- every entry of a list of one thing, with that for what is missing, is that thing
pub replicate_at : {A : Type 0} (n i : ℕ) (x : A) → get_or (replicate n x) i x ≡ x
replicate_at zero i x = refl
replicate_at (suc n) zero x = refl
replicate_at (suc n) (suc i) x = replicate_at n i x

pub zeros_at : (i : ℕ) → get_or zeros i 0 ≡ 0
unfolding zeros
zeros_at i = replicate_at most_rows i 0

pub empty_queue : (k : ℕ) → queue_of fresh k ≡ []
unfolding fresh
empty_queue k = replicate_at most_rows k []

module _ (tree : Tree) where
  fresh_settled : Settled tree fresh.rows
  unfolding fresh
  fresh_settled =
      record {
        idle_below = λ p none j kid. zeros_at j;
        from_child = λ p inner has. absurd (has (zeros_at p));
        of_sender = λ r inside has. absurd (has (zeros_at r));
        of_part = λ r inside has. absurd (has (zeros_at r));
        no_length = λ r inside none. zeros_at r;
        some_length = λ r inside has. absurd (has (zeros_at r));
        tagged = λ r positive inside has. absurd (has (zeros_at r));
      }

  fresh_below : (p : ℕ) → held_below tree fresh p ≡ 0
  unfolding held_below fresh
  fresh_below p = sum_none tree.rows (λ j. cond (child tree p j) (held_by fresh j) 0) (λ j inside. go j (child tree p j))
    where
      go : (j : ℕ) (b : Bool) → cond b (get_or zeros j 0) 0 ≡ 0
      go j true = zeros_at j
      go j false = refl

module _ (tree : Tree) (sound : Sound tree) (big : ℕ → ℕ) (wider : (j : ℕ) → 0 < j → j < tree.rows → big j ≤ big (parent tree j)) where
  pub fresh_kept : Kept tree big 0 fresh
  unfolding fresh InLine HeadOf
  fresh_kept =
      record {
        rows_full =
            record {
              starts_full = zeros_full;
              finishes_full = zeros_full;
              virtuals_full = zeros_full;
              heads_full = zeros_full;
              head_lengths_full = zeros_full;
              head_classes_full = zeros_full;
            };
        bytes_full = zeros_full;
        held_full = zeros_full;
        since_full = zeros_full;
        parent_since_full = zeros_full;
        queues_full = length-replicate {A = List Packet} most_rows [];
        settled = fresh_settled tree;
        heads_small = λ r inside. let none = zeros_at r in omega arith;
        queues_kept = λ k sender. subst (λ (q : List Packet). InLine 0 (big k) 0 q) (sym (empty_queue k)) tt;
        heads_kept = λ k sender. subst (λ (q : List Packet). HeadOf fresh.rows k q) (sym (empty_queue k)) (zeros_at k);
        held_sender = λ k sender. zeros_at k ∙ sym (ap length (empty_queue k));
        held_inner = λ p inner. zeros_at p ∙ sym (fresh_below tree p);
        sender_virtual = λ k sender. zeros_at k;
        root_start = zeros_at 0;
        root_finish = zeros_at 0;
      }

  pub fresh_fair : Fair tree big fresh.rows
  unfolding fresh
  fresh_fair p t inner = zero_even tree sound big wider fresh.rows p inner zeros_at zeros_at zeros_at (zeros_at p) t
