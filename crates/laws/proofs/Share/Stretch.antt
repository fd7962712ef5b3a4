-- A stretch of a run: the paces while a row holds packets, where a backlog begins, and what the stretch finishes.
-- Assumes nothing.
use Prim.Native.Nat.{ℕ, suc, ◌+◌, ◌*◌, ◌-◌, ◌≤◌, ◌<◌}
use mathlib.Core.Path.{◌≡◌, refl, sym, ◌∙◌, ap}
use mathlib.Core.Logic.{◌≢◌}
use mathlib.Core.List.{List, [], ◌∷◌, ◌++◌}
use native.Mathlib.Nat.{mul-le-mul_left}
use native.Mathlib.Decide.{le_ind}
use native.Mathlib.Omega.{arith}
use lib.ListN.{get_or, take, drop, take-append-drop}
use lib.Seq.{take-take}
use Rattle.input.specs.Classes.{Tree, parent, share}
use Rattle.input.specs.Events.{Events, length_word}
use Rattle.rules.specs.Box.{Box, head, bytes_of, held_by}
use Rattle.rules.specs.Steps.{departure, after}
use Rattle.rules.specs.Promise.{within, finish_count, arrived, packets_for, bytes_for, finished, finished_in}
use Rattle.laws.specs.Sound.{Kid}
use Rattle.laws.specs.Kept.{Kept}
use Rattle.laws.specs.History.{Accepted, Keeps}
use Rattle.laws.specs.Rounding.{rounding}
use Rattle.laws.specs.Pace.{OwnPace, WholePace, Paced}
use Rattle.laws.proofs.Tree.Paths.{parent_is_inner}
use Rattle.laws.proofs.Event.Turns.{class_at, turn}
use Rattle.laws.proofs.Event.Largest.{parts_largest, accepted_wider}
use Rattle.laws.proofs.Event.OneEvent.{arrival_held, arrival_bytes, arrival_since, arrival_parent_since, mark_stays, mark_set}
use Rattle.laws.proofs.Event.Keeping.{holds_head, departure_fewer, kept}
use Rattle.laws.proofs.Run.History.{bytes_counted, held_counted}
use Rattle.laws.proofs.Share.Pace.{arrival_paced, departure_paced}

-- ── what a stretch finishes ──

finish_grows : (events : Events) (a b : ℕ) → a ≤ b → finish_count events a ≤ finish_count events b
unfolding finish_count
finish_grows events a b order =
    le_ind (λ (n : ℕ). finish_count events a ≤ finish_count events n) (omega arith) (λ n earlier below. omega arith) b order

bytes_append : (tree : Tree) (events : Events) (r : ℕ) (xs ys : List ℕ) → bytes_for tree events r (xs ++ ys) ≡ bytes_for tree events r xs + bytes_for tree events r ys
unfolding bytes_for
bytes_append tree events r [] ys = omega arith
bytes_append tree events r (x ∷ xs) ys = let later = bytes_append tree events r xs ys in omega arith

packets_append :
    (tree : Tree) (events : Events) (r : ℕ) (xs ys : List ℕ) → packets_for tree events r (xs ++ ys) ≡ packets_for tree events r xs + packets_for tree events r ys
unfolding packets_for
packets_append tree events r [] ys = omega arith
packets_append tree events r (x ∷ xs) ys = let later = packets_append tree events r xs ys in omega arith

-- what is finished by the end of a stretch was finished before it or is finished in it
finished_parts :
    (events : Events) (order : List ℕ) (a b : ℕ) → a ≤ b → finished events order b ≡ finished events order a ++ finished_in events order a b
unfolding finished finished_in
finished_parts events order a b before =
    let from = finish_count events a in
    let by_then = take (finish_count events b) order in
    sym (take-append-drop from by_then)
    ∙ ap (λ (xs : List ℕ). xs ++ drop from by_then) (take-take from (finish_count events b) order (finish_grows events a b before))

-- the packets of a stretch, by the order
packets_in :
    (tree : Tree) (events : Events) (order : List ℕ) (a b r : ℕ) → a ≤ b
    → packets_for tree events r (finished events order b)
    ≡ packets_for tree events r (finished events order a) + packets_for tree events r (finished_in events order a b)
packets_in tree events order a b r before =
    ap (packets_for tree events r) (finished_parts events order a b before)
    ∙ packets_append tree events r (finished events order a) (finished_in events order a b)

-- the bytes of a stretch, counted from the order, are what the box counted at its end and not yet at its beginning
pub bytes_in :
    (tree : Tree) (events : Events) (last : ℕ) → Accepted tree events last → (a b r : ℕ) → a ≤ b → b ≤ last → r < tree.rows
    → bytes_of (after tree events b) r ≡ bytes_of (after tree events a) r + bytes_for tree events r (finished_in events (after tree events last).order a b)
bytes_in tree events last ok a b r order earlier inside =
    let whole_order = (after tree events last).order in
    bytes_counted tree events b last r earlier ok inside
    ∙ ap (bytes_for tree events r) (finished_parts events whole_order a b order)
    ∙ bytes_append tree events r (finished events whole_order a) (finished_in events whole_order a b)
    ∙ ap (λ (x : ℕ). x + bytes_for tree events r (finished_in events whole_order a b)) (sym (bytes_counted tree events a last r (omega arith) ok inside))

-- ── while a row holds packets ──

-- two boxes between which p's child j held packets all the time and finished n
pub record Stretched (tree : Tree) (one two : Box) (p j n : ℕ) : Type 0 where
  pub own : OwnPace tree one two j n
  pub top : WholePace one two p
  pub grows : bytes_of one j ≤ bytes_of two j
  pub parent_grows : bytes_of one p ≤ bytes_of two p

module _ (tree : Tree) (events : Events) (last : ℕ) (ok : Accepted tree events last) where
  well : (i : ℕ) → i ≤ last → Kept tree (parts_largest tree events last) i (after tree events i)
  well i earlier = kept tree events i last earlier ok

  -- a row that holds a packet has a head
  pub head_at : (i r : ℕ) → i ≤ last → r < tree.rows → 0 < held_by (after tree events i) r → head (after tree events i).rows r ≢ 0
  head_at i r earlier inside = holds_head tree ok.sound _ (accepted_wider tree events last ok) i _ (well i earlier) r inside

  -- ── paces ──

  paced : (i : ℕ) → i < last → Paced tree (after tree events i) (after tree events (suc i))
  paced i before =
      turn tree events last ok i before (Paced tree (after tree events i))
      (λ is fits. arrival_paced tree ok.sound _ (accepted_wider tree events last ok) i _ (well i (omega arith)) _ _ fits.sender fits.some_bytes)
      (λ is none busy. departure_paced tree ok.sound _ (accepted_wider tree events last ok) i _ (well i (omega arith)) busy)

  -- the packets that row r finished in a stretch
  abbrev pub finishes : ℕ → ℕ → ℕ → ℕ
  finishes r m n = packets_for tree events r (finished_in events (after tree events last).order m n)

  -- a stretch that begins earlier finishes no fewer
  pub finishes_more : (r m n l : ℕ) → m ≤ n → n ≤ l → finishes r n l ≤ finishes r m l
  finishes_more r m n l early late =
      let whole_order = (after tree events last).order in
      let all = packets_in tree events whole_order m l r (omega arith) in
      let later = packets_in tree events whole_order n l r late in
      let first = packets_in tree events whole_order m n r early in
      omega arith

  -- one event more: packets that a row no longer holds are finished
  pub finishes_on : (r m i : ℕ) → r < tree.rows → m ≤ i → i < last → finishes r m i + (held_by (after tree events i) r - held_by (after tree events (suc i)) r) ≤ finishes r m (suc i)
  unfolding arrived
  finishes_on r m i inside from before =
      let whole_order = (after tree events last).order in
      let so_far = packets_in tree events whole_order m i r from in
      let next = packets_in tree events whole_order m (suc i) r (omega arith) in
      let one = packets_in tree events whole_order i (suc i) r (omega arith) in
      let held = held_counted tree events i last r (omega arith) ok inside in
      let then_held = held_counted tree events (suc i) last r before ok inside in
      omega arith

  -- both paces are kept, however many events pass
  pub stretch :
      (p j m n : ℕ) → Kid tree p j → m ≤ n → n ≤ last → Keeps tree events j m n
      → Stretched tree (after tree events m) (after tree events n) p j (finishes j m n)
  stretch p j m n kid order =
      le_ind (λ (n : ℕ). n ≤ last → Keeps tree events j m n → Stretched tree (after tree events m) (after tree events n) p j (finishes j m n))
      (λ earlier keeps. omega arith)
      (λ i from before earlier keeps.
      let so_far = before (omega arith) (λ x low high. keeps x low (omega arith)) in
      let next = paced i earlier in
      let inner = parent_is_inner tree ok.sound p j kid in
      let own = next.own j kid.positive kid.inside (keeps i from (omega arith)) (keeps (suc i) (omega arith) (omega arith)) in
      let top = next.top p inner in
      let below = next.grows j kid.inside in
      let above = next.grows p inner.inside in
      let grain = share tree j * rounding (share tree j) in
      let counted = mul-le-mul_left grain (finishes_on j m i kid.inside from earlier) in
      omega arith)
      n order

  -- ── backlogs ──

  -- a row that held a packet keeps its marks
  pub marks_stay :
      (i r : ℕ) → i < last → r < tree.rows → 0 < held_by (after tree events i) r
      → (get_or (after tree events (suc i)).since r 0 ≡ get_or (after tree events i).since r 0)
      × (get_or (after tree events (suc i)).parent_since r 0 ≡ get_or (after tree events i).parent_since r 0)
  unfolding departure
  marks_stay i r before inside holds =
      let box = after tree events i in
      let keeps = well i (omega arith) in
      let k = class_at tree events i in
      turn tree events last ok i before
      (λ next. (get_or next.since r 0 ≡ get_or box.since r 0) × (get_or next.parent_since r 0 ≡ get_or box.parent_since r 0))
      (λ is fits. (
        arrival_since tree ok.sound _ i box keeps k (length_word events i) fits.sender r inside
            ∙ mark_stays (within tree r k) (held_by box r) (bytes_of box r) (get_or box.since r 0) holds,
        arrival_parent_since tree ok.sound _ i box keeps k (length_word events i) fits.sender r inside
            ∙ mark_stays (within tree r k) (held_by box r) (bytes_of box (parent tree r)) (get_or box.parent_since r 0) holds,
      ))
      (λ is none busy. (refl, refl))

  -- a row that holds a packet now and held none before: its backlog begins, and the event finished nothing
  pub wakes :
      (i r : ℕ) → i < last → r < tree.rows → held_by (after tree events i) r ≡ 0 → 0 < held_by (after tree events (suc i)) r
      → (get_or (after tree events (suc i)).since r 0 ≡ bytes_of (after tree events i) r)
      × (get_or (after tree events (suc i)).parent_since r 0 ≡ bytes_of (after tree events i) (parent tree r))
      × ((x : ℕ) → bytes_of (after tree events (suc i)) x ≡ bytes_of (after tree events i) x)
  wakes i r before inside empty =
      let box = after tree events i in
      let keeps = well i (omega arith) in
      let k = class_at tree events i in
      turn tree events last ok i before
      (λ next. 0 < held_by next r
      → (get_or next.since r 0 ≡ bytes_of box r) × (get_or next.parent_since r 0 ≡ bytes_of box (parent tree r))
      × ((x : ℕ) → bytes_of next x ≡ bytes_of box x))
      (λ is fits holds.
      let held = rw (arrival_held tree ok.sound _ i box keeps k (length_word events i) fits.sender r inside) at holds in (
        arrival_since tree ok.sound _ i box keeps k (length_word events i) fits.sender r inside
            ∙ mark_set (within tree r k) (held_by box r) (bytes_of box r) (get_or box.since r 0) empty held,
        arrival_parent_since tree ok.sound _ i box keeps k (length_word events i) fits.sender r inside
            ∙ mark_set (within tree r k) (held_by box r) (bytes_of box (parent tree r)) (get_or box.parent_since r 0) empty held,
        arrival_bytes tree ok.sound _ i box keeps k (length_word events i) fits.sender,
      ))
      (λ is none busy holds.
      let fewer = departure_fewer tree ok.sound _ (accepted_wider tree events last ok) i box keeps busy r inside in
      absurd (omega arith))
