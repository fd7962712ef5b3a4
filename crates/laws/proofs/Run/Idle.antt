-- The line is never idle while a packet waits; so a finish of nothing is found by counting, without the box.
-- Assumes nothing.
use Prim.Native.Nat.{ℕ, ◌≤◌, ◌<◌}
use mathlib.Core.Path.{◌≡◌, refl, sym, ◌∙◌, ap}
use mathlib.Core.Logic.{◌≢◌}
use mathlib.Core.Bool.{Bool, true, false, not}
use native.Mathlib.Decide.{ℕ_discrete}
use native.Mathlib.Nat.{pos_of_ne-zero}
use native.Mathlib.Omega.{arith}
use lib.Dec.{leb, eqb}
use borrow.Author.Tests.{le-leb, lt-leb, eq-eqb, ne_eqb}
use Rattle.input.specs.Classes.{Tree, parent}
use Rattle.input.specs.Events.{Events}
use Rattle.rules.specs.Box.{Box, head, has_head, held_by}
use Rattle.rules.specs.Steps.{after}
use Rattle.rules.specs.Refused.{idle}
use Rattle.rules.specs.Promise.{finish_count, arrived}
use Rattle.laws.specs.Sound.{Sound}
use Rattle.laws.specs.Kept.{Kept}
use Rattle.laws.specs.History.{Accepted}
use Rattle.laws.proofs.Level.Heads.{some_has, none_has}
use Rattle.laws.proofs.Tree.Paths.{climb, its_parent}
use Rattle.laws.proofs.Event.Largest.{accepted_wider}
use Rattle.laws.proofs.Event.Keeping.{holds_head, holds_none, kept}
use Rattle.laws.proofs.Run.History.{idle_counted, busy_counted}

-- a row that holds a packet has ancestors with a head, the root among them
pub line_busy :
    (tree : Tree) → Sound tree → (big : ℕ → ℕ) → ((j : ℕ) → 0 < j → j < tree.rows → big j ≤ big (parent tree j))
    → (now : ℕ) (box : Box) → Kept tree big now box → (r : ℕ) → r < tree.rows → 0 < held_by box r → head box.rows 0 ≢ 0
line_busy tree sound big wider now box well r inside some idles =
    holds_head tree sound big wider now box well r inside some (climb tree sound (λ x. head box.rows x ≡ 0) idles down r inside)
  where
    down : (x : ℕ) → 0 < x → x < tree.rows → head box.rows (parent tree x) ≡ 0 → head box.rows x ≡ 0
    down x positive below above = well.settled.idle_below (parent tree x) above x (its_parent tree sound x positive below)

module _ (tree : Tree) (events : Events) where
  -- after every event: if a packet is held anywhere, one is on the line
  pub never_idle :
      (n r : ℕ) → Accepted tree events n → r < tree.rows → 0 < held_by (after tree events n) r → head (after tree events n).rows 0 ≢ 0
  never_idle n r ok inside =
      line_busy tree ok.sound _ (accepted_wider tree events n ok) n (after tree events n) (kept tree events n n (omega arith) ok) r inside

  -- so one is on the line exactly where the root holds one
  pub busy_is_held : (n : ℕ) → Accepted tree events n → has_head (after tree events n).rows 0 ≡ not (eqb (held_by (after tree events n) 0) 0)
  busy_is_held n ok = go (ℕ_discrete (held_by (after tree events n) 0) 0)
    where
      go : Dec (held_by (after tree events n) 0 ≡ 0) → has_head (after tree events n).rows 0 ≡ not (eqb (held_by (after tree events n) 0) 0)
      go (yes empty) =
          let none =
          holds_none tree ok.sound _ (accepted_wider tree events n ok) n (after tree events n) (kept tree events n n (omega arith) ok) 0
          ok.sound.some_rows empty in
          none_has (after tree events n).rows 0 none ∙ sym (ap not (eq-eqb (held_by (after tree events n) 0) 0 empty))
      go (no some) =
          let busy = never_idle n 0 ok ok.sound.some_rows (pos_of_ne-zero some) in
          some_has (after tree events n).rows 0 busy ∙ sym (ap not (ne_eqb (held_by (after tree events n) 0) 0 some))

  -- whether the line is idle after n accepted events is a matter of counting arrivals and finishes
  pub idle_is_counted : (n : ℕ) → Accepted tree events n → idle (after tree events n) ≡ leb (arrived tree events 0 n) (finish_count events n)
  unfolding idle
  idle_is_counted n ok = go (has_head (after tree events n).rows 0) refl
    where
      go : (b : Bool) → has_head (after tree events n).rows 0 ≡ b → not b ≡ leb (arrived tree events 0 n) (finish_count events n)
      go true busy = sym (lt-leb (arrived tree events 0 n) (finish_count events n) (busy_counted tree events n ok busy))
      go false idles =
          let same = idle_counted tree events n ok idles in
          sym (le-leb (arrived tree events 0 n) (finish_count events n) (omega arith))
