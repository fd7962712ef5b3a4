-- An input that is not refused: its tree, its events and its slices are what a run asks.
-- Assumes nothing.
use Prim.Native.Nat.{ℕ, zero, suc, ◌*◌, ◌≤◌, ◌<◌}
use mathlib.Core.Path.{◌≡◌, refl, sym, ◌∙◌}
use mathlib.Core.Bool.{not, ◌||◌}
use mathlib.Core.List.{List}
use mathlib.Mathlib.Data.Bool.Basic.{or-eq-false-eq-eq-false-and-eq-false as or-is-false}
use native.Mathlib.Decide.{dec_lt}
use native.Mathlib.Omega.{arith}
use lib.Dec.{eqb, ltb}
use lib.ListN.{length, get_or, set, take, length-take}
use lib.Seq.{get_or-set_other}
use borrow.Author.Tests.{eqb-true, ltb-false, not-false}
use Rattle.input.specs.Limits.{most_rows, most_depth, whole, report_words}
use Rattle.input.specs.Classes.{Table, Tree, zeros, with_row, read, tree_of, earlier, parent_of, share}
use Rattle.input.specs.Events.{Events, count}
use Rattle.input.specs.Refusals.{Room, nothing, first, rows_refused, events_refused, room_refused, root_refused, row_refused, table_refused}
use Rattle.rules.specs.Refused.{refused}
use Rattle.laws.specs.Sound.{Sound}
use Rattle.laws.proofs.Tree.Trees.{share_whole, first_none, given_none, place_most, tree_rows, tree_names, parent_at, share_at, row_passes, table_passes, accepted}
use Rattle.laws.proofs.Event.Outset.{zeros_at}
use Rattle.report.specs.Shown.{Sending}
use Rattle.tables.specs.Sized.{Sized}
use Rattle.tables.specs.Answers.{arrays_of, senders_below}
use Rattle.checks.specs.Counted.{lengths_refused}
use Rattle.tables.proofs.Firsts.{or_else_second}
use Rattle.tables.proofs.Answering.{sized}
use Rattle.checks.proofs.Rooted.{known}
use Rattle.checks.proofs.Whole.{whole_listed}
use Rattle.arrays.specs.declared.TreeArrays.{TreeArrays}
use Rattle.arrays.specs.Arrays.{tree_in}
use Rattle.events.specs.State.{Fit}

tree_parts : (t : Tree) (n : ℕ) (identifiers : List ℕ) → n ≡ t.rows → identifiers ≡ t.identifiers → tree_in n identifiers (arrays_of t) ≡ t
tree_parts t n identifiers r i = rw (r, i)

-- ── a table as it is read ──

module _ (table : Table) where
  -- a list that is written row by row has nothing from the last row on
  unread : (list : Tree → List ℕ) (entry : ℕ → ℕ) → list (read table 0) ≡ zeros
      → ((r : ℕ) → list (read table (suc r)) ≡ set (list (read table r)) r (entry r))
      → (n j : ℕ) → n ≤ j → get_or (list (read table n)) j 0 ≡ 0
  unread list entry none next zero j beyond = rw none (zeros_at j)
  unread list entry none next (suc n) j beyond =
      rw (next n) (get_or-set_other (list (read table n)) n j (entry n) 0 (omega arith) ∙ unread list entry none next n j (omega arith))

  parents_unread : (n j : ℕ) → n ≤ j → get_or (read table n).parents j 0 ≡ 0
  unfolding read with_row
  parents_unread = unread (λ (tree : Tree). tree.parents) _ refl (λ r. refl)

  depths_unread : (n j : ℕ) → n ≤ j → get_or (read table n).depths j 0 ≡ 0
  unfolding read with_row
  depths_unread = unread (λ (tree : Tree). tree.depths) _ refl (λ r. refl)

  shares_unread : (n j : ℕ) → n ≤ j → get_or (read table n).shares j 0 ≡ 0
  unfolding read with_row
  shares_unread = unread (λ (tree : Tree). tree.shares) _ refl (λ r. refl)

  abbrev rows : ℕ
  rows = length table.identifiers

  -- the arrays of a table that was read are its tree
  pub same_tree : (t : TreeArrays) → t ≡ arrays_of (tree_of table) → tree_in rows table.identifiers t ≡ tree_of table
  same_tree t same = rw same (tree_parts (tree_of table) rows table.identifiers (sym (tree_rows table)) (sym (tree_names table)))

  module _ (few : rows ≤ most_rows) where
    parent_low : (r : ℕ) → r < rows → get_or (tree_of table).parents r 0 ≤ r
    unfolding tree_of parent_of earlier
    parent_low r inside =
        let before = take r table.identifiers in
        rw (parent_at table rows few r inside) (omega (arith, place_most (get_or table.parent_identifiers r 0) before, length-take r table.identifiers))

    parents_inside : (r : ℕ) → get_or (tree_of table).parents r 0 < most_rows
    unfolding tree_of
    parents_inside r = go (dec_lt r rows)
      where
        go : Dec (r < rows) → get_or (tree_of table).parents r 0 < most_rows
        go (yes low) = omega (arith, parent_low r low)
        go (no high) = omega (arith, parents_unread rows r (omega arith))

  module _ (sound : Sound (tree_of table)) where
    depths_low : (r : ℕ) → get_or (tree_of table).depths r 0 ≤ most_depth
    unfolding tree_of
    depths_low r = go (dec_lt r rows)
      where
        go : Dec (r < rows) → get_or (tree_of table).depths r 0 ≤ most_depth
        go (yes low) = sound.shallow r (omega (arith, tree_rows table))
        go (no high) = omega (arith, depths_unread rows r (omega arith))

    shares_low : get_or table.shares 0 0 ≡ 0 → (r : ℕ) → get_or (tree_of table).shares r 0 ≤ whole
    unfolding tree_of
    shares_low root zero =
        let some : 0 < rows = omega (arith, tree_rows table, sound.some_rows) in
        let few : rows ≤ most_rows = omega (arith, tree_rows table, sound.few_rows) in
        omega (arith, share_at table rows few 0 some)
    shares_low root (suc r) = go (dec_lt (suc r) rows)
      where
        go : Dec (suc r < rows) → get_or (tree_of table).shares (suc r) 0 ≤ whole
        go (yes low) = share_whole (share (tree_of table) (suc r)) (sound.share_allowed (suc r) (omega arith) (omega (arith, tree_rows table)))
        go (no high) = omega (arith, shares_unread rows (suc r) (omega arith))

-- ── an input that is not refused ──

-- the slices have room for the results
pub record Roomy (table : Table) (events : Events) (room : Room) : Type 0 where
  pub order_room : count events ≤ room.order
  pub working_room : count events ≤ room.working
  pub report_room : report_words * length table.identifiers ≤ room.report
  pub lags_room : length table.identifiers ≤ room.lags

module _ (table : Table) (events : Events) (room : Room) (ok : (refused table events room).number ≡ 0) where
  rows_ok : (rows_refused table).number ≡ 0
  unfolding refused
  rows_ok = (first_none _ ok).0

  events_ok : (events_refused events).number ≡ 0
  unfolding refused
  events_ok = (first_none _ ok).1.0

  room_ok : (room_refused (length table.identifiers) (count events) room).number ≡ 0
  unfolding refused
  room_ok = (first_none _ ok).1.1.0

  table_ok : (table_refused table).number ≡ 0
  table_ok = table_passes table events room ok

  lengths_ok : (lengths_refused table events room).number ≡ 0
  unfolding lengths_refused first nothing
  lengths_ok =
      rw (or_else_second (rows_refused table) _ rows_ok, or_else_second (events_refused events) _ events_ok, or_else_second (room_refused (length table.identifiers) (count events) room) _ room_ok)

  whole_table : Sized table
  whole_table = sized table rows_ok

  -- the root has no share
  root_share : get_or table.shares 0 0 ≡ 0
  unfolding row_refused root_refused
  root_share =
      let root = first_none _ (row_passes table table_ok 0 whole_table.some) in
      let a = eqb (get_or table.parent_identifiers 0 0) 0 in
      let b = eqb (get_or table.shares 0 0) 0 in
      eqb-true (get_or table.shares 0 0) 0 (not-false b ((or-is-false (not a) (not b)).0 (given_none _ _ _ root.1.1.0)).1)

  pub fit : Fit (tree_of table) events
  fit =
      let all = accepted table events room ok in
      let listed = whole_listed table events room lengths_ok in
      record {
        accepted = all;
        as_long = listed.even;
        few = listed.few;
        inside = parents_inside table whole_table.most;
        root = omega (arith, parent_low table whole_table.most 0 whole_table.some);
        shallow = depths_low table all.sound;
        parts = shares_low table all.sound root_share;
      }

  pub roomy : Roomy table events room
  unfolding room_refused
  roomy =
      let n = length table.identifiers in
      let a = ltb room.order (count events) in
      let b = ltb room.working (count events) in
      let c = ltb room.report (report_words * n) in
      let d = ltb room.lags n in
      let all = (or-is-false (a || b || c) d).0 (given_none _ _ _ room_ok) in
      let three = (or-is-false (a || b) c).0 all.0 in
      let two = (or-is-false a b).0 three.0 in
      record {
        order_room = ltb-false room.order (count events) two.0;
        working_room = ltb-false room.working (count events) two.1;
        report_room = ltb-false room.report (report_words * n) three.1;
        lags_room = ltb-false room.lags n all.1;
      }

  pub sending : Sending (tree_of table) (length table.identifiers) (senders_below (tree_of table) (tree_of table).rows)
  sending r inside = sym ((known table rows_ok table_ok).sending r inside)
