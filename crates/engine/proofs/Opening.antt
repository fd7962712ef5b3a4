-- The run's first state and its last: arrays of zeros, a cleared working slice, and what is read of the box then.
-- Assumes nothing.
use Prim.Native.Nat.{ℕ, zero, suc, ◌<◌}
use mathlib.Core.Path.{◌≡◌, refl, sym, ap, ◌∙◌}
use mathlib.Core.List.{List, ◌++◌}
use native.Mathlib.Omega.{arith}
use lib.ListN.{length, get_or, drop, replicate, length-replicate, get_or-append}
use lib.Seq.{drop-append_seam}
use Rattle.input.specs.Limits.{most_rows}
use Rattle.input.specs.Classes.{Tree, zeros, parent}
use Rattle.input.specs.Events.{Events, count}
use Rattle.rules.specs.Box.{Rows, fresh}
use Rattle.rules.specs.Steps.{after}
use Rattle.rules.specs.Outcome.{over}
use Rattle.laws.proofs.Event.Outset.{replicate_at, zeros_at, empty_queue}
use Rattle.laws.proofs.Tree.Trees.{zeros_full}
use Rattle.laws.specs.Named.{class_for}
use Rattle.arrays.specs.declared.RowArrays.{RowArrays}
use Rattle.arrays.specs.declared.CountArrays.{CountArrays}
use Rattle.arrays.specs.Arrays.{rows_in, no_counts}
use Rattle.choosing.specs.Filed.{Filing}
use Rattle.laws.proofs.Run.Sizes.{since_below, parent_since_below}
use Rattle.counts.specs.Counts.{AtMost, most_finished, Counts}
use Rattle.report.specs.Shown.{Shown}
use Rattle.report.specs.Lags.{Past}
use Rattle.events.specs.Links.{last_word, Chain}
use Rattle.events.specs.State.{Fit, Now}
use Rattle.events.proofs.Fits.{bytes_small}

-- ── a cleared slice ──

cleared_at : (n j : ℕ) (lent : List ℕ) → j < n → get_or (over (replicate n 0) lent) j 0 ≡ 0
unfolding over
cleared_at n j lent inside =
    let size = length-replicate {A = ℕ} n 0 in
    get_or-append (replicate n 0) (drop (length (replicate n 0)) lent) 0 j (omega arith) ∙ replicate_at n j 0

pub cleared_rest : (n : ℕ) (lent cleared : List ℕ) → cleared ≡ over (replicate n 0) lent → drop n cleared ≡ drop n lent
unfolding over
cleared_rest n lent cleared is =
    let size = length-replicate {A = ℕ} n 0 in
    let zeroes : List ℕ = replicate n 0 in
    rw is
    (ap (λ (m : ℕ). drop m (zeroes ++ drop (length zeroes) lent)) (sym size)
    ∙ drop-append_seam zeroes (drop (length zeroes) lent) ∙ ap (λ (m : ℕ). drop m lent) size)

-- used in its first words and cleared, it is as if it had not been used
pub cleared_again : (n : ℕ) (lent used cleared : List ℕ) → drop n used ≡ drop n lent → cleared ≡ over (replicate n 0) used
    → cleared ≡ over (replicate n 0) lent
unfolding over
cleared_again n lent used cleared rest is =
    let size = length-replicate {A = ℕ} n 0 in
    is ∙ rw (size, rest)

-- ── before the first event ──

pub fresh_now :
    (Filed : Filing) (tree : Tree) (events : Events) (a : Rows) (c : CountArrays) (lent links : List ℕ) → Filed tree (class_for tree events) fresh.rows 0
    → a ≡ fresh.rows → c ≡ no_counts
    → links ≡ over (replicate (count events) 0) lent
    → Now Filed tree events 0 0 a c (replicate most_rows 0) links
unfolding after fresh zeros Chain last_word no_counts
fresh_now Filed tree events a c lent links filed rows counts cleared =
    record {
      filed = rw rows filed;
      rows_are = sym rows;
      counts_are = rw counts (record { bytes = refl; held = refl; since = refl; parent_since = refl });
      sent_are = refl;
      linked =
          record {
            lasts_full = zeros_full;
            chains = λ k sender. rw (empty_queue k) tt;
            lasts_are = λ k sender. rw (empty_queue k) (zeros_at k);
            unlinked = λ j from below. rw cleared (cleared_at (count events) j lent below);
          };
    }

pub fresh_order : (tree : Tree) (events : Events) (lent : List ℕ) → lent ≡ over (after tree events 0).order lent
unfolding after fresh over
fresh_order tree events lent = refl

-- ── after the last event ──

past : (tree : Tree) (events : Events) (c : CountArrays) → Fit tree events → Counts (after tree events (count events)) c → Past tree.rows tree.parents c
past tree events c fit counts =
    record {
      own_grew = λ r inside. rw (← counts.since, ← counts.bytes) (since_below tree events (count events) r fit.accepted inside);
      above_grew = λ r inside. rw (← counts.parent_since, ← counts.bytes) (parent_since_below tree events (count events) r fit.accepted (above r inside) inside);
    }
  where
    -- the root is its own parent
    above : (r : ℕ) → r < tree.rows → parent tree r < tree.rows
    above zero inside = omega (arith, fit.root)
    above (suc r) inside = fit.accepted.sound.parent_row (suc r) (omega arith) inside

module _
    {Filed : Filing} {tree : Tree} {events : Events} {sent : ℕ} {rows : RowArrays} {c : CountArrays} {lasts links : List ℕ}
    (now : Now Filed tree events (count events) sent (rows_in rows) c lasts links) where
  pub shown : Shown (after tree events (count events)) rows c
  shown =
      record {
        starts = ap (λ (a : Rows). a.starts) now.rows_are;
        finishes = ap (λ (a : Rows). a.finishes) now.rows_are;
        virtuals = ap (λ (a : Rows). a.virtuals) now.rows_are;
        bytes = now.counts_are.bytes;
        held = now.counts_are.held;
      }

  module _ (fit : Fit tree events) where
    pub past_now : Past tree.rows tree.parents c
    past_now = past tree events c fit now.counts_are

    pub bytes_now : AtMost most_finished c.bytes
    bytes_now r inside = rw (← now.counts_are.bytes) (bytes_small tree events fit (count events) (omega arith) r)
