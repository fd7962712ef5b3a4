-- The line's finish on arrays: what its steps may take for granted, and that the arrays are those of the next box then.
-- Assumes nothing.
use Prim.Native.Nat.{ℕ, ◌+◌, ◌<◌}
use mathlib.Core.Path.{◌≡◌, refl, sym, ap, ◌∙◌}
use mathlib.Core.Bool.{true}
use mathlib.Core.List.{List, [], ◌++◌}
use native.Mathlib.Omega.{arith}
use lib.Dec.{lit<}
use Rattle.input.specs.Limits.{most_rows, most_bytes}
use Rattle.input.specs.Classes.{Tree, depth}
use Rattle.rules.specs.Box.{Rows, Box, head, head_class, line_class, left}
use Rattle.rules.specs.declared.Why.TheVariants.{Finished}
use Rattle.rules.specs.Steps.{up, leaves, renews, goes_on, departure}
use Rattle.laws.specs.Sound.{Sound, Sender}
use Rattle.laws.proofs.Path.DeparturePath.{leaves_idle}
use Rattle.laws.proofs.Event.OneEvent.{line_sender}
use Rattle.std.specs.Prelude.{Option}
use Rattle.arrays.specs.declared.CountArrays.{CountArrays}
use Rattle.looking.specs.declared.Looking.{Looking}
use Rattle.looking.specs.Listed.{Listed}
use Rattle.choosing.specs.Filed.{Filing, AllListed}
use Rattle.choosing.specs.Sizes.{Leeway, most_charge}
use Rattle.hierarchy.specs.Sizes.{most_climb}
use Rattle.hierarchy.specs.Climbing.{Climbs, Settles}
use Rattle.hierarchy.proofs.Enough.{small_leeway}
use Rattle.hierarchy.proofs.Later.{renews_first, renews_leeway}
use Rattle.counts.specs.Counts.{Counts}
use Rattle.queues.specs.Words.{sent_word}
use Rattle.queues.proofs.Words.{sent_finished}
use Rattle.steps.specs.Ready.{Ready}
use Rattle.steps.proofs.Leaving.{leaves_small}
use Rattle.moving.specs.Arrays.{Arrays, Finishes, Done, went}
use Rattle.moving.proofs.Arriving.{ready_arrays}

module _
    {tree : Tree} {place next size : ℕ} {box : Box} {a : Rows} {c : CountArrays}
    (finishes : Finishes tree place next size box) (arrays : Arrays box a c) where
  sound : Sound tree
  sound = finishes.able.sound

  pub ready : Ready tree.parents tree.depths a c.bytes c.held
  ready = ready_arrays tree box a c arrays finishes.able.ready

  line_sends : Sender tree (line_class box)
  line_sends = line_sender tree sound (λ (r : ℕ). most_bytes) place box finishes.able.kept finishes.busy

  class_is : head_class a 0 ≡ line_class box
  class_is = rw arrays.rows_are

  pub class_few : head_class a 0 < most_rows
  class_few = omega (arith, class_is, line_sends.inside, sound.few_rows)

  -- the packet leaves every row on its path, and then its class goes on with the next
  abbrev onward : ℕ → Rows
  onward class = renews tree class (left box) (leaves tree class a)

  up_departure : up (depth tree (head_class a 0)) tree Finished (head_class a 0) (onward (head_class a 0)) ≡ (departure tree box).rows
  unfolding departure goes_on
  up_departure = rw arrays.rows_are

  -- the way up may begin there, whatever the rows have
  pub onward_climbs :
      (class_of : ℕ → ℕ) (b : Rows) (class : ℕ) (looking : Looking) → class ≡ head_class a 0
      → Listed tree.rows tree.parents looking.firsts looking.listed → Climbs (AllListed looking) tree class_of b class (depth tree class)
  onward_climbs class_of b class looking is listed =
      record {
        sound = sound;
        inside = omega (arith, class_is, line_sends.inside);
        deep = refl;
        filed = listed;
      }

  pub onward_leeway : (b : Rows) (class : ℕ) → b ≡ onward class → Leeway most_climb b
  onward_leeway b class rows =
      let gone = leaves tree class a in
      let enough = small_leeway (most_climb + most_charge) gone (lit< tt) (leaves_small tree class a ready.small) in
      rw (rows, renews_first, finishes.next_is) (renews_leeway tree class gone most_climb next size finishes.few_bytes enough)

  departure_sent : (b : Rows) → (departure tree box).rows ≡ b → (departure tree box).order ≡ box.order ++ sent_word true (head b 0)
  unfolding departure
  departure_sent b rows =
      let kept = finishes.able.kept in
      let none = leaves_idle tree sound box.rows kept.rows_full kept.settled finishes.busy [] tt in
      ap (λ (xs : List ℕ). box.order ++ xs) (sent_finished (leaves tree (line_class box) box.rows) _ none ∙ rw rows)

  pub finished :
      (Filed : Filing) (class_of : ℕ → ℕ) (before b : Rows) (class : ℕ) (c' : CountArrays) (sent : Option ℕ) → class ≡ head_class a 0
      → before ≡ onward class → Settles Filed tree class_of (up (depth tree class) tree Finished class before) b
      → Counts (departure tree box) c' → went sent ≡ sent_word true (head b 0) → Done box.order (departure tree box) sent b c'
  finished Filed class_of before b class c' sent is before_is settles counts sends =
      let rows : (departure tree box).rows ≡ b = sym (settles.rows_are ∙ rw (before_is, is) up_departure) in
      record {
        arrays = record { rows_are = rows; counts_are = counts };
        order_is = departure_sent b rows ∙ ap (λ (xs : List ℕ). box.order ++ xs) (sym sends);
      }
