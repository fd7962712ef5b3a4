-- What the steps ask of the arrays, from the laws' bounds: no tag, byte count or packet count of an accepted run is large.
-- Assumes nothing.
use Prim.Native.Nat.{ℕ, ◌*◌, ◌≤◌, ◌<◌, ◌^◌}
use mathlib.Core.Path.{◌≡◌}
use mathlib.Core.List.{List}
use native.Mathlib.Decide.{dec_lt}
use native.Mathlib.Omega.{arith}
use Rattle.input.specs.Limits.{most_bytes, scale}
use Rattle.input.specs.Classes.{Tree}
use Rattle.input.specs.Events.{Events, count}
use Rattle.rules.specs.Box.{Box, Rows, start, finish, virtual, head_length, bytes_of, held_by}
use Rattle.rules.specs.Steps.{after}
use Rattle.laws.specs.History.{Accepted}
use Rattle.laws.proofs.Event.Turns.{fewer}
use Rattle.laws.proofs.Run.Sizes.{tags_below, heads_below, bytes_below, held_below}
use Rattle.laws.proofs.Run.Unwritten.{nothing_beyond}
use Rattle.arrays.specs.declared.CountArrays.{CountArrays}
use Rattle.choosing.specs.Filed.{Filing}
use Rattle.hierarchy.specs.Sizes.{most_tag, Small}
use Rattle.counts.specs.Counts.{most_finished}
use Rattle.steps.specs.Ready.{Ready}
use Rattle.events.specs.State.{Fit, Now}

module _ (tree : Tree) (events : Events) (fit : Fit tree events) (i : ℕ) (before : i ≤ count events) where
  abbrev box : Box
  box = after tree events i

  ok : Accepted tree events i
  ok = fewer tree events i (count events) before fit.accepted

  -- a bound on the tree's rows is one on all
  all_rows : (f : ℕ → ℕ) (m : ℕ) → ((r : ℕ) → r < tree.rows → f r ≤ m) → ((r : ℕ) → tree.rows ≤ r → f r ≡ 0) → (r : ℕ) → f r ≤ m
  all_rows f m inside beyond r = go (dec_lt r tree.rows)
    where
      go : Dec (r < tree.rows) → f r ≤ m
      go (yes low) = inside r low
      go (no high) = omega (arith, beyond r (omega arith))

  tags : i * (scale * most_bytes) ≤ most_tag
  tags = omega (arith, fit.few)

  small : Small box.rows
  small =
      let below = tags_below tree events i ok in
      record {
        starts = all_rows (start box.rows) most_tag (λ r inside. omega (arith, below.starts_below r inside, tags)) (λ r high. (nothing_beyond tree events i ok r high).start_none);
        finishes = all_rows (finish box.rows) most_tag (λ r inside. omega (arith, below.finishes_below r inside, tags)) (λ r high. (nothing_beyond tree events i ok r high).finish_none);
        virtuals = all_rows (virtual box.rows) most_tag (λ r inside. omega (arith, below.virtuals_below r inside, tags)) (λ r high. (nothing_beyond tree events i ok r high).virtual_none);
        head_lengths = all_rows (head_length box.rows) most_bytes (λ r inside. heads_below tree events i r ok inside) (λ r high. (nothing_beyond tree events i ok r high).length_none);
      }

  pub bytes_small : (r : ℕ) → bytes_of box r ≤ most_finished
  bytes_small =
      all_rows (bytes_of box) most_finished (λ r inside. omega (arith, bytes_below tree events i r ok inside, fit.few))
      (λ r high. (nothing_beyond tree events i ok r high).bytes_none)

  held_small : (r : ℕ) → held_by box r ≤ 2 ^ 31
  held_small =
      all_rows (held_by box) (2 ^ 31) (λ r inside. omega (arith, held_below tree events i r ok inside, fit.few))
      (λ r high. (nothing_beyond tree events i ok r high).held_none)

  ready : Ready tree.parents tree.depths box.rows box.bytes box.held
  ready =
      record {
        inside = fit.inside;
        shallow = fit.shallow;
        small = small;
        bytes_small = λ r inside. bytes_small r;
        held_small = λ r inside. held_small r;
      }

  -- so it is of arrays that are the box's
  pub ready_now :
      {Filed : Filing} {sent : ℕ} {a : Rows} {c : CountArrays} {lasts links : List ℕ}
      → Now Filed tree events i sent a c lasts links → Ready tree.parents tree.depths a c.bytes c.held
  ready_now now =
      rw (← now.rows_are, ← now.counts_are.bytes, ← now.counts_are.held) ready
