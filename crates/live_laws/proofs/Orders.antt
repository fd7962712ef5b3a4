-- A step of a box does not look at its order, and adds one packet to it or none; nor do the report and the lags look at it.
-- Assumes nothing.
use Prim.Native.Nat.{ℕ, pred}
use mathlib.Core.Path.{◌≡◌, refl}
use mathlib.Core.Logic.{◌⊎◌, inl, inr}
use mathlib.Core.Bool.{Bool, true, false, cond, not, ◌&&◌}
use mathlib.Core.List.{List, [], ◌∷◌, ◌++◌}
use Rattle.input.specs.declared.Event.{Event}
use Rattle.input.specs.declared.Event.TheVariants.{Arrival, Finish}
use Rattle.input.specs.Classes.{Tree}
use Rattle.rules.specs.Box.{Rows, Box, head, has_head}
use Rattle.rules.specs.Steps.{sent, arrival, departure, step}
use Rattle.rules.specs.Outcome.{row_report, lag}
use Rattle.live_rules.specs.State.{Live, box_of}
use Rattle.live_rules.specs.Taking.{box_after}
use Rattle.live_laws.specs.Unordered.{unordered}

-- ── without its order ──

module _ (tree : Tree) (place : ℕ) where
  pub step_unordered : (e : Event) (box : Box) → unordered (step tree place e (unordered box)) ≡ unordered (step tree place e box)
  unfolding step arrival departure unordered
  step_unordered (Arrival class size) box = refl
  step_unordered Finish box = refl

  pub step_order : (e : Event) (box : Box) → (step tree place e box).order ≡ box.order ++ (step tree place e (unordered box)).order
  unfolding step arrival departure unordered
  step_order (Arrival class size) box = refl
  step_order Finish box = refl

-- nor do the report and the lags
module _ (tree : Tree) (box : Box) (r : ℕ) where
  pub unordered_report : row_report tree (unordered box) r ≡ row_report tree box r
  unfolding row_report unordered
  unordered_report = refl

  pub unordered_lag : lag tree (unordered box) r ≡ lag tree box r
  unfolding lag unordered
  unordered_lag = refl

-- ── one packet or none ──

-- a list of at most one
abbrev pub AtMostOne : List ℕ → Type 0
AtMostOne xs = (xs ≡ []) ⊎ ((x : ℕ) × (xs ≡ x ∷ []))

sent_one : (before now : Rows) → AtMostOne (sent before now)
unfolding sent
sent_one before now = go (not (has_head before 0) && has_head now 0)
  where
    go : (b : Bool) → AtMostOne (cond b (pred (head now 0) ∷ []) [])
    go true = inr (pred (head now 0), refl)
    go false = inl refl

pub after_one : (live : Live) (e : Event) → AtMostOne (box_after live e).order
unfolding box_after step arrival departure box_of
after_one live (Arrival class size) = sent_one _ _
after_one live Finish = sent_one _ _
