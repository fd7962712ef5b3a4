-- The order: what a step writes is what the rules send, and after n events it has at most n words.
-- Assumes nothing.
use Prim.Native.Nat.{ℕ, zero, suc, pred, ◌≤◌, ◌<◌}
use mathlib.Core.Path.{◌≡◌, sym, ◌∙◌}
use mathlib.Core.Bool.{Bool, true, false, cond, not, ◌&&◌}
use mathlib.Core.List.{List, [], ◌∷◌, ◌++◌}
use native.Mathlib.Omega.{arith}
use lib.Dec.{eqb}
use lib.ListN.{length, length-append}
use lib.Seq.{sets}
use Rattle.input.specs.declared.Event.{Event}
use Rattle.input.specs.declared.Event.TheVariants.{Arrival, Finish}
use Rattle.input.specs.Classes.{Tree}
use Rattle.input.specs.Events.{Events, event}
use Rattle.rules.specs.Box.{Rows, Box, fresh, head, has_head}
use Rattle.rules.specs.Steps.{sent, arrival, departure, step, after}
use Rattle.rules.specs.Outcome.{over}
use Rattle.rules.proofs.Over.{over_more}
use Rattle.queues.specs.Words.{sent_word}

sent_most : (a b : Rows) → length (sent a b) ≤ 1
unfolding sent
sent_most a b = go (not (has_head a 0) && has_head b 0)
  where
    go : (b' : Bool) → length (cond b' (pred (head b 0) ∷ []) []) ≤ 1
    go true = omega arith
    go false = omega arith

-- ── the order ──

longer : (order more : List ℕ) (n : ℕ) → length order ≤ n → length more ≤ 1 → length (order ++ more) ≤ suc n
longer order more n before one = omega (arith, length-append order more)

step_most : (tree : Tree) (place n : ℕ) (e : Event) (box : Box) → length box.order ≤ n → length (step tree place e box).order ≤ suc n
unfolding step arrival departure
step_most tree place n (Arrival class bytes) box before = longer box.order _ n before (sent_most _ _)
step_most tree place n Finish box before = longer box.order _ n before (sent_most _ _)

pub order_most : (tree : Tree) (events : Events) (n : ℕ) → length (after tree events n).order ≤ n
unfolding after fresh
order_most tree events zero = omega arith
order_most tree events (suc n) = step_most tree n n (event events n) (after tree events n) (order_most tree events n)

-- more words after those that are written
pub order_more :
    (written more lent order next : List ℕ) (n : ℕ) → n ≡ length written → n < length order → length lent ≡ length order → length more ≤ 1
    → order ≡ over written lent → next ≡ sets order n more → next ≡ over (written ++ more) lent
order_more written more lent order next n size room same one was is =
    is ∙ over_more written more lent order n (sym size) (omega arith) was

pub sent_word_most : (idle : Bool) (head : ℕ) → length (sent_word idle head) ≤ 1
unfolding sent_word
sent_word_most idle head = go (idle && not (eqb head 0))
  where
    go : (b : Bool) → length (cond b (pred head ∷ []) []) ≤ 1
    go true = omega arith
    go false = omega arith
