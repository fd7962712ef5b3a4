-- A lag by the events and the order: the moment from which it counts, what was finished since, and how large it can be.
-- Assumes nothing.
use Prim.Native.Nat.{ℕ, suc, pred, ◌+◌, ◌*◌, ◌-◌, ◌≤◌, ◌<◌}
use mathlib.Core.Path.{◌≡◌, sym, subst, ◌∙◌}
use mathlib.Core.Logic.{◌⊎◌, inl, inr}
use mathlib.Core.List.{List}
use native.Mathlib.Decide.{ℕ_discrete, dec_lt}
use native.Mathlib.Nat.{pos_of_ne-zero}
use native.Mathlib.Omega.{arith}
use lib.IntN.{pos}
use Rattle.input.specs.Limits.{ticks, whole}
use Rattle.input.specs.Classes.{Tree, parent, share}
use Rattle.input.specs.Events.{Events}
use Rattle.rules.specs.Box.{bytes_of, held_by}
use Rattle.rules.specs.Steps.{after}
use Rattle.rules.specs.Outcome.{lag}
use Rattle.rules.specs.Promise.{largest, bytes_for, finished_in, holds, Backlogged}
use Rattle.laws.specs.Rounding.{rounded_ticks}
use Rattle.laws.specs.History.{Accepted, Since, LagSince}
use Rattle.laws.proofs.Run.History.{holds_held}
use Rattle.laws.proofs.Share.Stretch.{bytes_in}
use Rattle.laws.proofs.Share.Promise.{backlog, lag_counted, no_lag, lag_bound}

module _ (tree : Tree) (events : Events) (last : ℕ) (ok : Accepted tree events last) where
  -- what a row finished since an earlier moment
  finished_since :
      (m r : ℕ) → m < last → r < tree.rows
      → bytes_of (after tree events last) r - bytes_of (after tree events m) r
      ≡ bytes_for tree events r (finished_in events (after tree events last).order m last)
  finished_since m r before inside = omega (arith, bytes_in tree events last ok m last r (omega arith) (omega arith) inside)

  pub lag_since :
      (r : ℕ) → 0 < r → r < tree.rows → 0 < held_by (after tree events last) r
      → LagSince tree events (after tree events last).order r last (lag tree (after tree events last) r)
  unfolding Backlogged
  lag_since r positive inside holding =
      let since = backlog tree events last ok r last inside (omega arith) holding in
      let m = since.from in
      record {
        from = m;
        earlier = since.earlier;
        empty = holds_held tree events m last r (omega arith) ok inside ∙ since.empty;
        backlogged = λ i low high. rw (holds_held tree events (suc i) last r high ok inside) (since.keeps (suc i) (omega arith) high);
        lag_is =
            lag_counted tree events last ok r last positive holding since
            ∙ rw (
              finished_since m (parent tree r) since.earlier (ok.sound.parent_row r positive inside),
              finished_since m r since.earlier inside,
            );
      }

  -- ── how large it can be ──

  abbrev order : List ℕ
  order = (after tree events last).order

  -- the last empty moment by the events and the order is where the backlog began
  one_moment :
      (r from : ℕ) → r < tree.rows → from ≤ last → holds tree events order r from ≡ 0 → Backlogged tree events order r from last
      → (since : Since tree events r last) → from ≡ since.from
  unfolding Backlogged
  one_moment r from inside earlier empty backlogged since = go (dec_lt from since.from) (dec_lt since.from from)
    where
      go : Dec (from < since.from) → Dec (since.from < from) → from ≡ since.from
      go (yes before) other =
          let is : suc (pred since.from) ≡ since.from = omega arith in
          let some = subst (λ (i : ℕ). 0 < holds tree events order r i) is (backlogged (pred since.from) (omega arith) (omega (arith, since.earlier))) in
          let none = holds_held tree events since.from last r (omega (arith, since.earlier)) ok inside ∙ since.empty in
          absurd (omega arith)
      go (no late) (yes after_it) =
          let some = since.keeps from after_it earlier in
          let held = holds_held tree events from last r earlier ok inside in
          absurd (omega arith)
      go (no late) (no early) = omega arith

  -- there is such a moment for every row
  pub last_empty : (r : ℕ) → r < tree.rows → (from : ℕ) × (from ≤ last) × (holds tree events order r from ≡ 0) × Backlogged tree events order r from last
  unfolding Backlogged
  last_empty r inside = go (ℕ_discrete (held_by (after tree events last) r) 0)
    where
      go :
          Dec (held_by (after tree events last) r ≡ 0)
          → (from : ℕ) × (from ≤ last) × (holds tree events order r from ≡ 0) × ((i : ℕ) → from ≤ i → i < last → 0 < holds tree events order r (suc i))
      go (yes none) = (last, omega arith, holds_held tree events last last r (omega arith) ok inside ∙ none, λ i low high. absurd (omega arith))
      go (no some) =
          let since = backlog tree events last ok r last inside (omega arith) (pos_of_ne-zero some) in (
            since.from,
            omega (arith, since.earlier),
            holds_held tree events since.from last r (omega (arith, since.earlier)) ok inside ∙ since.empty,
            λ i low high. rw (holds_held tree events (suc i) last r high ok inside) (since.keeps (suc i) (omega arith) high),
          )

  -- at most two largest packets and the ticks of what the row finished from a moment on
  abbrev Bound : ℕ → ℕ → ℕ → Type 0
  Bound r from lagging =
      ticks * lagging ≤ ticks * (2 * whole * largest events last) + share tree r * rounded_ticks tree events (finished_in events order from last) r

  -- a lag above 0 is at most two largest packets and the rounding of the packets that the row finished since then, in ticks
  pub lag_most :
      (r from lagging : ℕ) → r < tree.rows → from ≤ last → holds tree events order r from ≡ 0 → Backlogged tree events order r from last
      → lag tree (after tree events last) r ≡ pos lagging
      → ticks * lagging ≤ ticks * (2 * whole * largest events last) + share tree r * rounded_ticks tree events (finished_in events order from last) r
  lag_most r from lagging inside earlier empty backlogged is = go (ℕ_discrete r 0) (ℕ_discrete (held_by (after tree events last) r) 0)
    where
      nothing : (r ≡ 0) ⊎ (held_by (after tree events last) r ≡ 0) → Bound r from lagging
      nothing quiet =
          let zero_is = sym (no_lag tree events last ok r last quiet) ∙ is in
          let none : 0 ≡ lagging = cc in
          omega arith

      go : Dec (r ≡ 0) → Dec (held_by (after tree events last) r ≡ 0) → Bound r from lagging
      go (yes root) held = nothing (inl root)
      go (no row) (yes none) = nothing (inr none)
      go (no row) (no some) =
          let since = backlog tree events last ok r last inside (omega arith) (pos_of_ne-zero some) in
          rw (one_moment r from inside earlier empty backlogged since)
          (lag_bound tree events last ok r last lagging (pos_of_ne-zero row) inside (omega arith) (pos_of_ne-zero some) since is)
