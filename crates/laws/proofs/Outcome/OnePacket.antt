-- One largest packet a step is not enough, nor are nineteen tenths of one: two lists whose line passes those numbers, computed.
-- Assumes nothing.
use Prim.Native.Nat.{ℕ, zero, suc, ◌+◌, ◌*◌, ◌≤◌, ◌<◌}
use mathlib.Core.Path.{◌≡◌, refl}
use mathlib.Core.Bool.{Bool, true, ◌&&◌, and-eq-true_iff}
use mathlib.Core.List.{List, [], ◌∷◌, ◌++◌}
use native.Mathlib.Decide.{ℕ_discrete}
use native.Mathlib.Omega.{arith}
use lib.Dec.{ltb}
use lib.ListN.{replicate}
use borrow.Author.Tests.{ltb-true}
use Rattle.input.specs.Classes.{Tree, tree_of}
use Rattle.input.specs.Events.{Events, count}
use Rattle.rules.specs.Outcome.{Lent, outcome}
use Rattle.rules.specs.Promise.{largest, bytes_for, line_bytes, finished_in, holds, Backlogged, Ratio, line_most, ticks_for, Promised}
use Rattle.rules.specs.Worked.{row, packet, finish, lend}
use Rattle.rules.proofs.Computing.{computing}
use Rattle.laws.proofs.Outcome.Run.{sent}

-- ── a backlog, tested ──

-- row r holds a packet after each of the n events from place a on
unfoldable holding : Tree → Events → List ℕ → ℕ → ℕ → ℕ → Bool
holding tree events order r a zero = true
holding tree events order r a (suc n) = holding tree events order r a n && ltb 0 (holds tree events order r (suc (a + n)))

backlogged :
    (tree : Tree) (events : Events) (order : List ℕ) (r a n : ℕ) → holding tree events order r a n ≡ true → Backlogged tree events order r a (a + n)
unfolding holding Backlogged
backlogged tree events order r a zero passes i from to = absurd (omega arith)
backlogged tree events order r a (suc n) passes i from to =
    let both = (and-eq-true_iff (holding tree events order r a n) (ltb 0 (holds tree events order r (suc (a + n))))).0 passes in
    go both.1 (backlogged tree events order r a n both.0 i from) (ℕ_discrete i (a + n))
  where
    go :
        ltb 0 (holds tree events order r (suc (a + n))) ≡ true → (i < a + n → 0 < holds tree events order r (suc i)) → Dec (i ≡ a + n)
        → 0 < holds tree events order r (suc i)
    go last earlier (yes is) = rw is (ltb-true 0 (holds tree events order r (suc (a + n))) last)
    go last earlier (no other) = earlier (omega arith)

-- ── what is counted in a run ──

abbrev tree : Lent → Tree
tree lent = tree_of lent.table

-- the packets finished in a stretch
abbrev finished_by : Lent → ℕ → ℕ → List ℕ
finished_by lent a b = finished_in lent.events (sent (outcome lent)) a b

abbrev largest_of : Lent → ℕ
largest_of lent = largest lent.events (count lent.events)

-- ── one packet ──

-- class 20's short packet is sent first and class 30's long one after it, since class 20's next is not yet in time. Then class 10's packet
-- arrives, but class 20's next is due before it: 200 bytes pass class 10, where one packet a step allows 175
unfoldable pub passed_by : Lent
passed_by =
    lend (row 1 0 0 ∷ row 10 1 480 ∷ row 20 1 350 ∷ row 30 1 10 ∷ [])
    (packet 20 10 ∷ packet 30 100 ∷ packet 20 100 ∷ finish ∷ packet 10 100 ∷ finish ∷ finish ∷ [])

not_below : (x y : ℕ) → ltb y x ≡ true → x ≤ y → ⊥
not_below x y passes below = let above = ltb-true y x passes in omega arith

-- the run is done; class 10, in row 1, holds a packet after each of the last three events; the line passes the number
pub one_is_not_enough :
    ((outcome passed_by).answer.number ≡ 0) × Backlogged (tree passed_by) passed_by.events (sent (outcome passed_by)) 1 4 7
    × (Promised (tree passed_by) passed_by.events (sent (outcome passed_by)) 1 (largest_of passed_by) (ticks_for (tree passed_by) passed_by.events) 1 4 7 → ⊥)
unfolding computing holding passed_by
one_is_not_enough = (refl, backlogged (tree passed_by) passed_by.events (sent (outcome passed_by)) 1 4 3 refl, not_below _ _ refl)

-- ── nineteen tenths of a packet ──

-- class 10, with a small share, has its first packet sent early, so that its second starts late; class 20 and class 30 use up what is
-- theirs until that start, class 40's long packet is sent just before it, and class 20 and class 30 again come first until the finish
unfoldable pub passed_longer : Lent
passed_longer =
    lend (row 1 0 0 ∷ row 10 1 72 ∷ row 20 1 720 ∷ row 30 1 45 ∷ row 40 1 3 ∷ [])
    (packet 20 1
    ∷ packet 10 100
    ∷ packet 10 100
    ∷ packet 20 98
    ∷ replicate 19 (packet 20 100)
    ++ packet 30 64
    ∷ packet 30 60
    ∷ packet 40 100
    ∷ replicate 25 finish)

abbrev tenths : ℕ → ℕ → ℕ → ℕ → Ratio
tenths packets k a b =
    line_most (tree passed_longer) packets (largest_of passed_longer)
    (λ r. 10 * ticks_for (tree passed_longer) passed_longer.events (finished_by passed_longer a b) r) k
    (10 * bytes_for (tree passed_longer) passed_longer.events k (finished_by passed_longer a b))

-- the same for class 10 from its first packet's finish to the end: ten times what the line finished passes the number from ten times
-- class 10's own bytes with nineteen largest packets a step
pub nineteen_tenths_are_not_enough :
    ((outcome passed_longer).answer.number ≡ 0)
    × Backlogged (tree passed_longer) passed_longer.events (sent (outcome passed_longer)) 1 28 51
    × ((tenths 19 1 28 51).numerator < 10 * line_bytes passed_longer.events (finished_by passed_longer 28 51) * (tenths 19 1 28 51).denominator)
unfolding computing holding passed_longer
nineteen_tenths_are_not_enough =
    (refl, backlogged (tree passed_longer) passed_longer.events (sent (outcome passed_longer)) 1 28 23 refl, ltb-true _ _ refl)
