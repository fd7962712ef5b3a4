-- What a sound state has that was read, as the steps ask for it; and the rows after a step, as they are handed on.
-- Assumes nothing.
use Prim.Native.Nat.{ℕ}
use mathlib.Core.Path.{◌≡◌, refl, sym, subst}
use native.Mathlib.Omega.{arith}
use Rattle.input.specs.Classes.{Tree}
use Rattle.rules.specs.Box.{Box}
use Rattle.std.specs.Prelude.{Option}
use Rattle.arrays.specs.declared.RowArrays.{RowArrays}
use Rattle.arrays.specs.declared.CountArrays.{CountArrays}
use Rattle.arrays.specs.Arrays.{rows_in, tree_in}
use Rattle.hierarchy.specs.Sizes.{Small}
use Rattle.steps.specs.Ready.{Ready}
use Rattle.live_rules.specs.State.{Live, box_of, events}
use Rattle.live_laws.specs.Holds.{Holds}
use Rattle.live_laws.proofs.Narrowing.{narrow, fits}
use Rattle.moving.specs.Arrays.{Arrays, Able, Arrives, Finishes, Done}
use Rattle.state.specs.declared.State.{State}
use Rattle.state.specs.Opened.{Opened}
use Rattle.taking.specs.Moved.{ArrivalComes, FinishComes, MovedTo}

-- ── a sound state is ready for a step ──

module _ (live : Live) (holds : Holds live) where
  rows_small : Small live.rows
  rows_small =
      let sizes = fits live holds in
      record {
        starts = sizes.starts;
        finishes = sizes.finishes;
        virtuals = sizes.virtuals;
        head_lengths = (narrow live holds).head_lengths;
      }

  ready : Ready live.tree.parents live.tree.depths live.rows live.bytes live.held
  ready =
      let few = narrow live holds in
      record {
        inside = λ r. let row = few.parents r in omega arith;
        shallow = few.depths;
        small = rows_small;
        bytes_small = λ r inside. (fits live holds).bytes r;
        held_small = λ r inside. let most = few.held r in omega arith;
      }

  pub able : Able live.tree (events live) (box_of live)
  unfolding box_of events
  able =
      let few = holds.counted.few_accepted in
      record { sound = holds.treed.sound; kept = holds.kept; ready = ready; few = omega arith }

-- ── the arrays that were read ──

-- the tree that the arrays make, with the identifiers of the state
abbrev pub tree_read : Live → State → Tree
tree_read live state = tree_in state.rows_count live.tree.identifiers state.tree

module _ (live : Live) (state : State) (opened : Opened live state) where
  pub tree_same : tree_read live state ≡ live.tree
  tree_same = rw (opened.rows, opened.parents, opened.depths, opened.shares) refl

  pub arrays_read : Arrays (box_of live) (rows_in state.rows) state.counts
  unfolding box_of
  arrays_read =
      record {
        rows_are =
            rw (opened.starts, opened.finishes, opened.virtuals, opened.heads, opened.head_lengths, opened.head_classes) refl;
        counts_are =
            record {
              bytes = sym opened.bytes;
              held = sym opened.held;
              since = sym opened.since;
              parent_since = sym opened.parent_since;
            };
      }

-- ── an arrival ──

module _ (live : Live) (state : State) (k size name : ℕ) (comes : ArrivalComes live state k size name) where
  pub arrives : Arrives (tree_read live state) name k size (box_of live)
  arrives =
      subst (λ (tree : Tree). Arrives tree name k size (box_of live)) (sym (tree_same live state comes.opened))
      (record {
        able = rw comes.name_is (able live comes.holds);
        sender = comes.sender;
        some_bytes = comes.some_bytes;
        few_bytes = comes.few_bytes;
      })

-- ── the line's finish ──

module _ (live : Live) (state : State) (next size : ℕ) (comes : FinishComes live state next size) where
  pub finishes : Finishes (tree_read live state) (events live) next size (box_of live)
  unfolding box_of
  finishes =
      subst (λ (tree : Tree). Finishes tree (events live) next size (box_of live)) (sym (tree_same live state comes.opened))
      (record {
        able = able live comes.holds;
        busy = comes.busy;
        few_bytes = comes.few_bytes;
        next_is = comes.next_is;
      })

-- ── the rows after the event ──

-- the rows of the box that a step makes of a tree, which is the state's
pub moved_to :
    (live : Live) (tree : Tree) → tree ≡ live.tree → (step : Tree → Box) (sent : Option ℕ) (rows : RowArrays) (counts : CountArrays)
    → Done (box_of live).order (step tree) sent (rows_in rows) counts → MovedTo (step live.tree) sent rows counts
unfolding box_of
moved_to live tree same step sent rows counts done =
    subst (λ (tree : Tree). MovedTo (step tree) sent rows counts) same
    (record { rows_are = done.arrays.rows_are; counts_are = done.arrays.counts_are; sent_is = sym done.order_is })
