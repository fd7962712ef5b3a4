-- A fresh state, made of a table that is not refused, has what a sound state has.
-- Assumes nothing.
use Prim.Native.Nat.{ℕ, zero, suc, ◌≤◌, ◌<◌}
use mathlib.Core.Path.{◌≡◌, refl, sym, ap, subst, ◌∙◌}
use mathlib.Core.List.{List, []}
use native.Mathlib.Omega.{arith}
use lib.ListN.{length, get_or, set, replicate, length-replicate}
use lib.Seq.{get_or-set_other, ext_get_or}
use Rattle.input.specs.Limits.{most_rows, most_bytes}
use Rattle.input.specs.Classes.{Table, place_of, earlier, parent_of, zeros, with_row, read, tree_of, parent, share, row_of}
use Rattle.input.specs.Refusals.{rows_refused, table_refused}
use Rattle.input.proofs.Filled.{filled_length}
use Rattle.rules.specs.Box.{Packet, Box, fresh}
use Rattle.laws.specs.Sound.{Sound}
use Rattle.laws.specs.Kept.{Kept}
use Rattle.laws.specs.Sizes.{Marked}
use Rattle.laws.proofs.Tree.Trees.{zeros_full, tree_rows, tree_names, parent_at, share_at, depth_read, root_bare}
use Rattle.laws.proofs.Tree.Trees as trees
use Rattle.laws.proofs.Tree.OnAir.{some_identifier, small, own_place}
use Rattle.laws.proofs.Event.Outset.{replicate_at, zeros_at, fresh_kept}
use Rattle.laws.proofs.Event.Sized.{fresh_sized, fresh_forward, fresh_marked}
use Rattle.live_rules.specs.State.{queue, queues, box_of, gone, events, fresh_live}
use Rattle.live_laws.specs.Holds.{Rowed, Shaped, Treed, Fitting, Counted, Holds}
use Rattle.live_laws.proofs.Queues.{queues_length, queues_at}
use Rattle.live_laws.proofs.After.{largest}

-- ── the box ──

-- no packets, no queues
queues_none : (n : ℕ) → queues [] n ≡ replicate n []
unfolding queue
queues_none n =
    ext_get_or [] (queues [] n) (replicate n []) (queues_length [] n ∙ sym (length-replicate {A = List Packet} n []))
    (λ k inside. queues_at [] n k (omega (arith, queues_length [] n)) ∙ sym (replicate_at n k []))

-- it is the run's fresh box
pub fresh_box : (table : Table) → box_of (fresh_live table) ≡ fresh
unfolding box_of fresh_live fresh
fresh_box table = rw (queues_none most_rows)

-- ── lists filled from row 0 on, and zero behind ──

zero_rowed : (n : ℕ) → Rowed n zeros
zero_rowed n = record { full = zeros_full; unused = λ r beyond. zeros_at r }

filled_beyond :
    (filled : ℕ → List ℕ) (entry : ℕ → ℕ) → ((n : ℕ) → filled (suc n) ≡ set (filled n) n (entry n)) → (n r : ℕ) → n ≤ r
    → get_or (filled n) r 0 ≡ get_or (filled 0) r 0
filled_beyond filled entry step zero r beyond = refl
filled_beyond filled entry step (suc n) r beyond =
    rw (step n) (get_or-set_other (filled n) n r (entry n) 0 (λ same. omega arith) ∙ filled_beyond filled entry step n r (omega arith))

filled_rowed :
    (filled : ℕ → List ℕ) (entry : ℕ → ℕ) → ((n : ℕ) → filled (suc n) ≡ set (filled n) n (entry n)) → filled 0 ≡ zeros
    → (n : ℕ) → Rowed n (filled n)
filled_rowed filled entry step outset n =
    record {
      full = filled_length filled entry step n ∙ ap length outset ∙ zeros_full;
      unused = λ r beyond. filled_beyond filled entry step n r beyond ∙ ap (λ (xs : List ℕ). get_or xs r 0) outset ∙ zeros_at r;
    }

module _ (table : Table) where
  abbrev n : ℕ
  n = length table.identifiers

  parents_rowed : Rowed (tree_of table).rows (tree_of table).parents
  unfolding tree_of read with_row
  parents_rowed = rw (tree_rows table) (filled_rowed (λ n. (read table n).parents) (parent_of table) (λ n. refl) refl n)

  depths_rowed : Rowed (tree_of table).rows (tree_of table).depths
  unfolding tree_of read with_row depth_read
  depths_rowed = rw (tree_rows table) (filled_rowed (λ n. (read table n).depths) (depth_read table) (λ n. refl) refl n)

  shares_rowed : Rowed (tree_of table).rows (tree_of table).shares
  unfolding tree_of read with_row
  shares_rowed = rw (tree_rows table) (filled_rowed (λ n. (read table n).shares) (λ r. get_or table.shares r 0) (λ n. refl) refl n)

-- ── the tree ──

module _ (table : Table) (rows_ok : (rows_refused table).number ≡ 0) (table_ok : (table_refused table).number ≡ 0) where
  fresh_sound : Sound (tree_of table)
  fresh_sound = trees.sound table rows_ok table_ok

  some : 0 < length table.identifiers
  some = omega (arith, fresh_sound.some_rows, tree_rows table)

  few : length table.identifiers ≤ most_rows
  few = omega (arith, fresh_sound.few_rows, tree_rows table)

  -- a row of the tree is one of the table
  listed : (r : ℕ) → r < (tree_of table).rows → r < length table.identifiers
  listed r inside = omega (arith, tree_rows table)

  -- row 0 stands before every row, and has no share
  root_parent : parent (tree_of table) 0 ≡ 0
  unfolding tree_of parent_of earlier place_of
  root_parent = parent_at table (length table.identifiers) few 0 some

  root_share : share (tree_of table) 0 ≡ 0
  unfolding tree_of
  root_share = share_at table (length table.identifiers) few 0 some ∙ root_bare table table_ok some

  fresh_treed : Treed (tree_of table)
  unfolding row_of
  fresh_treed =
      record {
        sound = fresh_sound;
        root_parent = root_parent;
        root_share = root_share;
        some = λ r inside. rw (tree_names table) (some_identifier table table_ok r (listed r inside));
        few = λ r inside. rw (tree_names table) (small table table_ok r (listed r inside));
        apart = λ r inside. rw (tree_names table) (own_place table table_ok r (listed r inside));
      }

  -- ── the whole ──

  fresh_shaped : Shaped (fresh_live table)
  unfolding fresh_live fresh
  fresh_shaped =
      let n = (tree_of table).rows in
      record {
        identifiers = fresh_sound.named;
        parents = parents_rowed table;
        depths = depths_rowed table;
        shares = shares_rowed table;
        rows =
            record {
              starts = zero_rowed n;
              finishes = zero_rowed n;
              virtuals = zero_rowed n;
              heads = zero_rowed n;
              head_lengths = zero_rowed n;
              head_classes = zero_rowed n;
            };
        bytes = zero_rowed n;
        held = zero_rowed n;
        since = zero_rowed n;
        parent_since = zero_rowed n;
        held_all = zeros_at 0;
      }

  fresh_counted : Counted (fresh_live table)
  unfolding fresh_live
  fresh_counted =
      record {
        some_rows = fresh_sound.some_rows;
        few_rows = fresh_sound.few_rows;
        few_held = omega arith;
        held_accepted = omega arith;
        few_accepted = omega arith;
      }

  fresh_box_kept : Kept (tree_of table) largest 0 (box_of (fresh_live table))
  fresh_box_kept =
      subst (λ (box : Box). Kept (tree_of table) largest 0 box) (sym (fresh_box table))
      (fresh_kept (tree_of table) fresh_sound largest (λ j positive inside. omega arith))

  pub fresh_holds : Holds (fresh_live table)
  unfolding fresh_live fresh events gone Fitting
  fresh_holds =
      record {
        shaped = fresh_shaped;
        counted = fresh_counted;
        treed = fresh_treed;
        fitting = tt;
        kept = fresh_box_kept;
        classless = λ r inside none. zeros_at r;
        sized = fresh_sized (tree_of table) most_bytes;
        forward = fresh_forward (tree_of table);
        marked =
            subst (λ (box : Box). Marked (tree_of table) most_bytes 0 box) (sym (fresh_box table)) (fresh_marked (tree_of table) most_bytes);
      }
