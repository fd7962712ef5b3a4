-- Conservation: what the box counts is what can be counted from the events and the order, and the order is first in, first out.
-- Assumes nothing.
use Prim.Native.Nat.{ℕ, zero, suc, ◌+◌, ◌≤◌, ◌<◌}
use mathlib.Core.Path.{◌≡◌, refl, sym, ◌∙◌, subst}
use mathlib.Core.Logic.{◌≢◌, ⊎_elim}
use mathlib.Core.Bool.{true, false, cond}
use mathlib.Core.List.{List, [], ◌∷◌, ◌++◌, append-nil, append_assoc}
use native.Mathlib.Decide.{le_ind}
use native.Mathlib.Omega.{arith}
use lib.ListN.{length, get_or, take, length-append}
use lib.Seq.{take-append_seam, take-append-le, take_at}
use Rattle.input.specs.declared.Event.{Event}
use Rattle.input.specs.declared.Event.TheVariants.{Arrival, Finish}
use Rattle.input.specs.Classes.{Tree}
use Rattle.input.specs.Events.{Events, event}
use Rattle.rules.specs.Box.{Box, has_head, bytes_of, held_by}
use Rattle.rules.specs.Steps.{arrival, departure, step, after}
use Rattle.rules.specs.Refused.{idle, event_refused}
use Rattle.rules.specs.Promise.{within, for_part, one_finish, one_arrival, finish_count, arrived, packets_for, bytes_for, finished, holds}
use Rattle.laws.specs.Sound.{Sender}
use Rattle.laws.specs.History.{Accepted, arrivals_of, only_for}
use Rattle.laws.proofs.Tree.Paths.{self_within, root_within}
use Rattle.laws.proofs.Tree.Trees.{arrival_fits}
use Rattle.laws.proofs.Path.Tests.{cond_self}
use Rattle.laws.proofs.Event.Turns.{class_at, Arrives, met, fewer}
use Rattle.laws.proofs.Run.Orders.{All, all_middle, twice, only_twice, arrivals_ascend, Ascending}
use Rattle.laws.proofs.Run.Counting.{on_line, on_line_length, ForSender, counted, order_sent, order_first, arrived_all, idle_line_holds_none, busy_line_holds}

-- one event more, whichever it is
step_order : (tree : Tree) (n : ℕ) (e : Event) (box : Box) → (more : List ℕ) × ((step tree n e box).order ≡ box.order ++ more)
unfolding step arrival departure
step_order tree n (Arrival class length) box = (_, refl)
step_order tree n Finish box = (_, refl)

module _ (tree : Tree) (events : Events) where
  Grown : ℕ → ℕ → Type 0
  Grown n m = (rest : List ℕ) × ((after tree events m).order ≡ (after tree events n).order ++ rest)

  next_grown : (n m : ℕ) → Grown n m → Grown n (suc m)
  unfolding Grown after
  next_grown n m (rest, so_far) =
      let more = step_order tree m (event events m) (after tree events m) in
      (rest ++ more.0, rw (more.1, so_far, append_assoc))

  grown : (n m : ℕ) → n ≤ m → Grown n m
  unfolding Grown
  grown n m earlier = le_ind (Grown n) ([], rw append-nil) (λ i from so_far. next_grown n i so_far) m earlier

  -- the order only grows, and holds as many packets as were finished, and one more while the line is busy
  pub order_grows : (n m : ℕ) → n ≤ m → Accepted tree events m → take (length (after tree events n).order) (after tree events m).order ≡ (after tree events n).order
  unfolding Grown
  order_grows n m earlier ok = let more = grown n m earlier in rw more.1 (take-append_seam (after tree events n).order more.0)

  pub order_length : (n : ℕ) → Accepted tree events n → length (after tree events n).order ≡ finish_count events n + cond (has_head (after tree events n).rows 0) 1 0
  order_length n ok =
      let run = counted tree events n ok in
      rw (run.1.order_parts, length-append, run.1.done_length, on_line_length)

  -- the same finished packets at any later moment
  finished_same : (n m : ℕ) → n ≤ m → Accepted tree events m → finished events (after tree events m).order n ≡ finished events (after tree events n).order n
  unfolding Grown finished
  finished_same n m earlier ok =
      let more = grown n m earlier in
      let long : finish_count events n ≤ length (after tree events n).order = omega (arith, order_length n (fewer tree events n m earlier ok)) in
      rw more.1 (take-append-le (finish_count events n) (after tree events n).order more.0 long)

  finished_done :
      (n m : ℕ) (earlier : n ≤ m) (ok : Accepted tree events m)
      → finished events (after tree events m).order n ≡ (counted tree events n (fewer tree events n m earlier ok)).0
  unfolding finished
  finished_done n m earlier ok =
      let run = counted tree events n (fewer tree events n m earlier ok) in
      finished_same n m earlier ok
      ∙ rw run.1.order_parts (take_at run.0 (on_line (after tree events n).rows) (finish_count events n) run.1.done_length)

  -- bytes and packets, for every row
  pub bytes_counted :
      (n m r : ℕ) → n ≤ m → Accepted tree events m → r < tree.rows
      → bytes_of (after tree events n) r ≡ bytes_for tree events r (finished events (after tree events m).order n)
  bytes_counted n m r earlier ok inside =
      rw (finished_done n m earlier ok) ((counted tree events n (fewer tree events n m earlier ok)).1.bytes_agree r inside)

  pub held_counted :
      (n m r : ℕ) → n ≤ m → Accepted tree events m → r < tree.rows
      → arrived tree events r n ≡ packets_for tree events r (finished events (after tree events m).order n) + held_by (after tree events n) r
  held_counted n m r earlier ok inside =
      rw (finished_done n m earlier ok) ((counted tree events n (fewer tree events n m earlier ok)).1.held_agree r inside)

  pub holds_held :
      (n m r : ℕ) → n ≤ m → Accepted tree events m → r < tree.rows
      → holds tree events (after tree events m).order r n ≡ held_by (after tree events n) r
  unfolding holds
  holds_held n m r earlier ok inside = omega (arith, held_counted n m r earlier ok inside)

  -- first in, first out: what was sent of a class is the first of its arrivals, in their order
  pub first_in_first_out :
      (n k : ℕ) → Accepted tree events n → Sender tree k
      → only_for tree events k (after tree events n).order ≡ take (length (only_for tree events k (after tree events n).order)) (arrivals_of tree events k n)
  first_in_first_out n k ok sender =
      let first = order_first tree events n ok k sender in
      rw (← first.1) (sym (take-append_seam (only_for tree events k (after tree events n).order) first.0))

  -- no packet goes on the line twice
  pub once :
      (n i j : ℕ) → Accepted tree events n → i < j → j < length (after tree events n).order
      → get_or (after tree events n).order i 0 ≢ get_or (after tree events n).order j 0
  unfolding for_part
  once n i j ok before inside same =
      let order = (after tree events n).order in
      let x = get_or order i 0 in
      let k = class_at tree events x in
      let (front, middle, back, parts) = twice order i j before inside same in
      let all = subst (λ xs. All (ForSender tree events) xs) parts (order_sent tree events n ok) in
      let sends = all_middle (ForSender tree events) front x (middle ++ x ∷ back) all in
      let first = order_first tree events n ok k sends in
      let ascend = subst (λ xs. Ascending 0 n xs) (sym first.1) (arrivals_ascend tree events k n) in
      only_twice tree events k n front x middle back first.0 (self_within tree ok.sound k)
      (subst (λ xs. Ascending 0 n (only_for tree events k xs ++ first.0)) parts ascend)

  -- each event that is accepted is the arrival of one packet or the finish of one
  one_counted :
      (n i : ℕ) → Accepted tree events n → i < n → cond (for_part tree events 0 i) (one_arrival (event events i)) 0 + one_finish (event events i) ≡ 1
  unfolding event_refused for_part one_arrival one_finish
  one_counted n i ok before = ⊎_elim arrives finishes (met events i)
    where
      arrives : Arrives events i → cond (for_part tree events 0 i) (one_arrival (event events i)) 0 + one_finish (event events i) ≡ 1
      arrives is =
          let fits = arrival_fits tree ok.sound i _ _ _ (idle (after tree events i)) (rw is at (ok.each i before)) in
          rw (is, root_within tree ok.sound (class_at tree events i) fits.sender.inside)

      finishes : event events i ≡ Finish → cond (for_part tree events 0 i) (one_arrival (event events i)) 0 + one_finish (event events i) ≡ 1
      finishes is = rw (is, cond_self {A = ℕ} (within tree 0 (class_at tree events i)) 0)

  pub all_counted : (n : ℕ) → Accepted tree events n → arrived tree events 0 n + finish_count events n ≡ n
  unfolding arrived finish_count
  all_counted zero ok = refl
  all_counted (suc n) ok =
      let earlier = all_counted n (fewer tree events n (suc n) (omega arith) ok) in
      let last = one_counted (suc n) n ok (omega arith) in
      omega arith

  -- the line is idle exactly where every packet that arrived is finished
  pub idle_counted : (n : ℕ) → Accepted tree events n → has_head (after tree events n).rows 0 ≡ false → arrived tree events 0 n ≡ finish_count events n
  idle_counted n ok idle = omega (arith, arrived_all tree events n ok, idle_line_holds_none tree events n ok idle)

  pub busy_counted : (n : ℕ) → Accepted tree events n → has_head (after tree events n).rows 0 ≡ true → finish_count events n < arrived tree events 0 n
  busy_counted n ok busy = omega (arith, arrived_all tree events n ok, busy_line_holds tree events n ok busy)
