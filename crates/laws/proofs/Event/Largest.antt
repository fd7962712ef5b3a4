-- The largest packet of a row's part of the tree, over events that are not refused.
-- Assumes nothing.
use Prim.Native.Nat.{ℕ, zero, suc, ◌≤◌, ◌<◌}
use mathlib.Core.Path.{◌≡◌, refl}
use mathlib.Core.Bool.{Bool, true, false, cond}
use native.Mathlib.Decide.{ℕ_discrete}
use native.Mathlib.Omega.{arith}
use Rattle.input.specs.Classes.{Tree, parent}
use Rattle.input.specs.Events.{Events, class_word, length_word}
use Rattle.rules.specs.Promise.{within, for_part, largest}
use Rattle.laws.specs.Sound.{ArrivalFits}
use Rattle.laws.specs.History.{Accepted, largest_for}
use Rattle.laws.proofs.Path.Tests.{cond_most}
use Rattle.laws.proofs.Tree.Paths.{its_parent, parent_within}
use Rattle.laws.proofs.Event.Turns.{class_at, fewer, turn}

-- the parts' largest packets in the first n events, by row
abbrev pub parts_largest : Tree → Events → ℕ → ℕ → ℕ
parts_largest tree events n r = largest_for tree events r n

-- a packet is at most the largest of every part that its class is in
pub largest_covers :
    (tree : Tree) (events : Events) (r i n : ℕ) → i < n → for_part tree events r i ≡ true → length_word events i ≤ largest_for tree events r n
unfolding largest_for
largest_covers tree events r i zero before is = absurd (omega arith)
largest_covers tree events r i (suc n) before is = go (ℕ_discrete i n) (λ earlier. largest_covers tree events r i n earlier is)
  where
    go : Dec (i ≡ n) → (i < n → length_word events i ≤ largest_for tree events r n) → length_word events i ≤ largest_for tree events r (suc n)
    go (yes same) rest = rw (← same, is) (omega arith)
    go (no other) rest = let earlier = rest (omega arith) in omega arith

-- a part's largest packet is at most the largest
pub part_largest : (tree : Tree) (events : Events) (r n : ℕ) → largest_for tree events r n ≤ largest events n
unfolding largest_for largest
part_largest tree events r zero = omega arith
part_largest tree events r (suc n) =
    let earlier = part_largest tree events r n in
    let last = cond_most (for_part tree events r n) (length_word events n) 0 (length_word events n) (omega arith) (omega arith) in
    omega arith

-- a wider part's largest packet is at least as large
pub accepted_wider :
    (tree : Tree) (events : Events) (n : ℕ) → Accepted tree events n → (j : ℕ) → 0 < j → j < tree.rows
    → largest_for tree events j n ≤ largest_for tree events (parent tree j) n
unfolding largest_for for_part
accepted_wider tree events zero ok j positive inside = omega arith
accepted_wider tree events (suc n) ok j positive inside =
    let earlier = accepted_wider tree events n (fewer tree events n (suc n) (omega arith) ok) j positive inside in
    let last = turn tree events (suc n) ok n (omega arith) (λ box. Wider) (λ is fits. arrives fits (within tree j class) refl) (λ is none busy. finishes none) in
    omega arith
  where
    class : ℕ
    class = class_at tree events n

    Wider : Type 0
    Wider = cond (within tree j class) (length_word events n) 0 ≤ cond (within tree (parent tree j) class) (length_word events n) 0

    arrives :
        ArrivalFits tree (class_word events n) (length_word events n) → (b : Bool) → within tree j class ≡ b
        → cond b (length_word events n) 0 ≤ cond (within tree (parent tree j) class) (length_word events n) 0
    arrives fits true on =
        rw (parent_within tree ok.sound (parent tree j) j class fits.sender.inside (its_parent tree ok.sound j positive inside) on)
        (omega arith)
    arrives fits false off = omega arith

    finishes : length_word events n ≡ 0 → Wider
    finishes none = cond_most (within tree j class) (length_word events n) 0 _ (omega arith) (omega arith)
