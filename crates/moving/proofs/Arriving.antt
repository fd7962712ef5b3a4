-- An arrival on arrays: what its steps may take for granted, and that the arrays are those of the next box then.
-- Assumes nothing.
use Prim.Native.Nat.{ℕ, suc, ◌+◌, ◌<◌}
use mathlib.Core.Path.{◌≡◌, refl, sym, ap, ◌∙◌}
use mathlib.Core.Bool.{Bool, true, false, cond}
use mathlib.Core.List.{List, ◌++◌}
use native.Mathlib.Omega.{arith}
use lib.Dec.{eqb, lit<}
use Rattle.input.specs.Limits.{most_rows}
use Rattle.input.specs.Classes.{Tree, depth}
use Rattle.rules.specs.Box.{Rows, Box, head}
use Rattle.rules.specs.declared.Why.TheVariants.{Arrived}
use Rattle.rules.specs.Steps.{arrives as goes_in}
use Rattle.rules.specs.Steps.{new_head, up, arrival}
use Rattle.laws.specs.Sound.{Sound}
use Rattle.std.specs.Prelude.{Option}
use Rattle.arrays.specs.declared.CountArrays.{CountArrays}
use Rattle.looking.specs.declared.Looking.{Looking}
use Rattle.arrays.specs.Arrays.{has_head_of}
use Rattle.looking.specs.Listed.{Listed}
use Rattle.looking.proofs.Parts.{head_part}
use Rattle.choosing.specs.Filed.{Filing, AllListed}
use Rattle.choosing.specs.Sizes.{Leeway, most_charge}
use Rattle.choosing.proofs.Ticks.{less_leeway}
use Rattle.hierarchy.specs.Sizes.{most_climb}
use Rattle.hierarchy.specs.Climbing.{Climbs, Settles, front_row, front_rows}
use Rattle.hierarchy.proofs.Enough.{small_leeway, new_head_leeway}
use Rattle.counts.specs.Counts.{Counts}
use Rattle.queues.specs.Words.{sent_word}
use Rattle.queues.proofs.Words.{sent_arrived}
use Rattle.steps.specs.Ready.{Ready}
use Rattle.moving.specs.Arrays.{Arrays, Arrives, Done, went}

-- the arrays are as ready for a step as the box
pub ready_arrays :
    (tree : Tree) (box : Box) (a : Rows) (c : CountArrays) → Arrays box a c
    → Ready tree.parents tree.depths box.rows box.bytes box.held → Ready tree.parents tree.depths a c.bytes c.held
ready_arrays tree box a c arrays ready =
    rw (← arrays.rows_are, ← arrays.counts_are.bytes, ← arrays.counts_are.held) ready

module _
    {tree : Tree} {place k size : ℕ} {box : Box} {a : Rows} {c : CountArrays}
    (arrives : Arrives tree place k size box) (arrays : Arrays box a c) where
  sound : Sound tree
  sound = arrives.able.sound

  pub ready : Ready tree.parents tree.depths a c.bytes c.held
  ready = ready_arrays tree box a c arrays arrives.able.ready

  pub few_rows : k < most_rows
  few_rows = omega (arith, arrives.sender.inside, sound.few_rows)

  abbrev front : Rows
  front = front_rows tree place k size a

  abbrev from : ℕ
  from = front_row a.heads k

  pub few_from : from < most_rows
  unfolding front_row
  few_from = go (has_head_of a.heads k)
    where
      go : (b : Bool) → cond b 0 k < most_rows
      go true = omega arith
      go false = few_rows

  -- what an arrival leaves is what the way up leaves from there
  up_arrival : up (depth tree from) tree Arrived from front ≡ (arrival tree place k size box).rows
  unfolding arrival goes_in up front_rows front_row
  up_arrival = rw (arrays.rows_are, head_part a k) (go (has_head_of a.heads k))
    where
      first : Rows
      first = new_head tree Arrived k (suc place) size k a

      go :
          (b : Bool)
          → up (depth tree (cond b 0 k)) tree Arrived (cond b 0 k) (cond b a first) ≡ cond b a (up (depth tree k) tree Arrived k first)
      go true = rw sound.root_depth
      go false = refl

  from_inside : from < tree.rows
  unfolding front_row
  from_inside = go (has_head_of a.heads k)
    where
      go : (b : Bool) → cond b 0 k < tree.rows
      go true = sound.some_rows
      go false = arrives.sender.inside

  -- the way up may begin there, whatever the rows have
  pub front_climbs :
      (class_of : ℕ → ℕ) (b : Rows) (row : ℕ) (looking : Looking) → row ≡ from → Listed tree.rows tree.parents looking.firsts looking.listed
      → Climbs (AllListed looking) tree class_of b row (depth tree row)
  front_climbs class_of b row looking row_is listed =
      record { sound = sound; inside = rw row_is from_inside; deep = refl; filed = listed }

  front_enough : Leeway most_climb front
  unfolding front_rows
  front_enough = go (has_head_of a.heads k)
    where
      enough : Leeway (most_climb + most_charge) a
      enough = small_leeway (most_climb + most_charge) a (lit< tt) ready.small

      go : (b : Bool) → Leeway most_climb (cond b a (new_head tree Arrived k (suc place) size k a))
      go true = less_leeway (most_climb + most_charge) most_climb a (omega arith) enough
      go false = new_head_leeway most_climb tree a enough Arrived k (suc place) size k arrives.few_bytes

  pub front_leeway : (b : Rows) → b ≡ front → Leeway most_climb b
  front_leeway b is = rw is front_enough

  arrival_sent : (b : Rows) → (arrival tree place k size box).rows ≡ b → (arrival tree place k size box).order ≡ box.order ++ sent_word (eqb (head a 0) 0) (head b 0)
  unfolding arrival
  arrival_sent b rows = ap (λ (xs : List ℕ). box.order ++ xs) (sent_arrived box.rows _ ∙ rw (rows, arrays.rows_are))

  pub arrived :
      (Filed : Filing) (class_of : ℕ → ℕ) (before b : Rows) (row : ℕ) (c' : CountArrays) (sent : Option ℕ) → row ≡ from → before ≡ front
      → Settles Filed tree class_of (up (depth tree row) tree Arrived row before) b
      → Counts (arrival tree place k size box) c' → went sent ≡ sent_word (eqb (head a 0) 0) (head b 0)
      → Done box.order (arrival tree place k size box) sent b c'
  arrived Filed class_of before b row c' sent row_is before_is settles counts sends =
      let rows : (arrival tree place k size box).rows ≡ b = sym (settles.rows_are ∙ rw (row_is, before_is) up_arrival) in
      record {
        arrays = record { rows_are = rows; counts_are = counts };
        order_is = arrival_sent b rows ∙ ap (λ (xs : List ℕ). box.order ++ xs) (sym sends);
      }
