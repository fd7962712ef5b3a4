-- A table and an event list that are not refused: what follows from that.
-- Assumes nothing.
use Prim.Native.Nat.{ℕ, zero, suc, ◌+◌, ◌*◌, ◌-◌, ◌/◌, ◌%◌, ◌≤◌, ◌<◌}
use mathlib.Core.Path.{◌≡◌, refl, sym, ◌∙◌, ap, subst}
use mathlib.Core.Logic.{◌≢◌}
use mathlib.Core.Bool.{Bool, true, false, cond, not, ◌||◌}
use mathlib.Core.List.{List, [], ◌∷◌}
use mathlib.Mathlib.Data.Bool.Basic.{or-eq-false-eq-eq-false-and-eq-false as or-is-false}
use native.Mathlib.Nat.{add-mul, add-sub_of_le, div-add-mod, mul_assoc, mul-le-mul_left, lt_of_mul-lt-mul_left}
use native.Mathlib.Decide.{ℕ_discrete}
use native.Mathlib.Omega.{arith}
use lib.Dec.{T, ltb, eqb}
use lib.ListN.{length, get_or, take, length-take, length-replicate}
use borrow.Author.Tests.{ltb-false, eqb-true, eqb-false, eq-eqb, ne_eqb, not-false}
use Rattle.input.specs.declared.Event.TheVariants.{Arrival, Finish}
use Rattle.input.specs.declared.Refusal.{Refusal}
use Rattle.input.specs.Limits.{least_rows, most_rows, most_depth, least_bytes, most_bytes, whole, scale}
use Rattle.input.specs.Shares.{allowed, charge}
use Rattle.input.specs.Classes.{Table, place_of, earlier, parent_of, zeros, with_row, read, tree_of}
use Rattle.input.specs.Classes.{Tree, parent, depth, share, row_of, sends, children_share}
use Rattle.input.specs.Events.{Events, count}
use Rattle.rules.specs.Box.{Box, has_head}
use Rattle.input.specs.Refusals.{given, or_else, first, first_below, Room, rows_refused, root_refused, class_refused, row_refused}
use Rattle.input.specs.Refusals.{shares_refused, table_refused, packet_refused, meeting_refused}
use Rattle.rules.specs.Refused.{idle, event_refused, refused}
use Rattle.input.proofs.Filled.{filled_at}
use Rattle.input.proofs.Charges.{allowed_parts, rounded_covers, rounded_close}
use Rattle.laws.specs.Sound.{Sound, ArrivalFits}
use Rattle.laws.specs.Rounding.{rounding}
use Rattle.laws.specs.History.{Accepted}
use Rattle.laws.proofs.Tree.Paths.{sends_sender}

-- ── shares ──

-- an allowed share, and what it is charged: never less than the packet's part of the scale, and by less than a tick more
pub share_positive : (w : ℕ) → T (allowed w) → 0 < w
share_positive w ok = (allowed_parts w ok).0

pub share_whole : (w : ℕ) → T (allowed w) → w ≤ whole
share_whole w ok = (allowed_parts w ok).1

module _ (w l : ℕ) (ok : T (allowed w)) where
  pub charge_covers : scale * l ≤ w * charge l w
  unfolding charge
  charge_covers = rounded_covers (scale * l) w (share_positive w ok)

  charge_close : w * charge l w < scale * l + w
  unfolding charge
  charge_close = rounded_close (scale * l) w (share_positive w ok)

  -- so by none where the share divides the scale
  charge_exact : scale % w ≡ 0 → w * charge l w ≤ scale * l
  charge_exact none =
      let divided = div-add-mod scale w in
      let parts : scale ≡ w * (scale / w) = omega arith in
      let packet : scale * l ≡ w * (scale / w * l) = ap (λ (x : ℕ). x * l) parts ∙ mul_assoc w (scale / w) l in
      let close = charge_close in
      let below : charge l w < suc (scale / w * l) = lt_of_mul-lt-mul_left w (omega arith) in
      let times = mul-le-mul_left {m = charge l w} {n = scale / w * l} w (omega arith) in
      omega arith

  pub charge_rounded : w * charge l w ≤ scale * l + w * rounding w
  unfolding rounding
  charge_rounded = go (ℕ_discrete (scale % w) 0)
    where
      go : Dec (scale % w ≡ 0) → w * charge l w ≤ scale * l + w * cond (eqb (scale % w) 0) 0 1
      go (yes none) = let exact = charge_exact none in rw (eq-eqb (scale % w) 0 none) (omega arith)
      go (no left) = let close = charge_close in rw (ne_eqb (scale % w) 0 left) (omega arith)

-- a tick at most, and none where the share divides the scale
pub rounding_most : (w : ℕ) → rounding w ≤ 1
unfolding rounding
rounding_most w = go (eqb (scale % w) 0)
  where
    go : (divides : Bool) → cond divides 0 1 ≤ 1
    go true = omega arith
    go false = omega arith

pub rounding_none : (w : ℕ) → scale % w ≡ 0 → rounding w ≡ 0
unfolding rounding
rounding_none w none = rw (eq-eqb (scale % w) 0 none)

-- a share and what is left of the whole
pub share_rest : (w x : ℕ) → w ≤ whole → w * x + (whole - w) * x ≡ whole * x
share_rest w x part = sym (add-mul w (whole - w) x) ∙ ap (λ (n : ℕ). n * x) (add-sub_of_le part)

-- ── no refusal ──

-- where the first of two refusals is none, neither refuses
pub or_none : (x y : Refusal) → (or_else x y).number ≡ 0 → (x.number ≡ 0) × (y.number ≡ 0)
unfolding or_else
or_none x y ok = go (eqb x.number 0) refl ok
  where
    go : (b : Bool) → eqb x.number 0 ≡ b → (cond b y x).number ≡ 0 → (x.number ≡ 0) × (y.number ≡ 0)
    go true e ok = (eqb-true x.number 0 e, ok)
    go false e ok = absurd (eqb-false x.number 0 e ok)

-- none of a list refuses
abbrev pub None : List Refusal → Type 0
None [] = Unit
None (x ∷ xs) = (x.number ≡ 0) × None xs

pub first_none : (xs : List Refusal) → (first xs).number ≡ 0 → None xs
unfolding first
first_none [] ok = tt
first_none (x ∷ xs) ok = let both = or_none x (first xs) ok in (both.0, first_none xs both.1)

-- nor at any place where the first of many is none
pub below_none : (at : ℕ → Refusal) (n : ℕ) → (first_below at n).number ≡ 0 → (i : ℕ) → i < n → (at i).number ≡ 0
unfolding first_below
below_none at zero ok i below = absurd (omega arith)
below_none at (suc n) ok i below =
    let both = or_none (first_below at n) (at n) ok in
    go (below_none at n both.0 i) both.1 (ℕ_discrete i n)
  where
    go : (i < n → (at i).number ≡ 0) → (at n).number ≡ 0 → Dec (i ≡ n) → (at i).number ≡ 0
    go earlier last (yes e) = rw e last
    go earlier last (no other) = earlier (omega arith)

-- a test that would refuse has failed
pub given_none : (test : Bool) (number place : ℕ) → (given test (suc number) place).number ≡ 0 → test ≡ false
unfolding given
given_none true number place ok = absurd (omega arith)
given_none false number place ok = refl

-- ── places in a list ──

-- no place is past the list's end
pub place_most : (x : ℕ) (ys : List ℕ) → place_of x ys ≤ length ys
unfolding place_of
place_most x [] = omega arith
place_most x (y ∷ ys) = go (eqb x y) (place_most x ys)
  where
    go : (b : Bool) → place_of x ys ≤ length ys → cond b 0 (suc (place_of x ys)) ≤ suc (length ys)
    go true most = omega arith
    go false most = omega arith

pub zeros_full : length zeros ≡ most_rows
unfolding zeros
zeros_full = length-replicate {A = ℕ} most_rows 0

-- ── a table as it is read ──

module _ (table : Table) where
  -- the depth that row r gets when it is read
  unfoldable pub depth_read : ℕ → ℕ
  depth_read r = cond (eqb r 0) 0 (suc (depth (read table r) (parent_of table r)))

  -- each list of the tree, after the first n rows
  read_rows : (n : ℕ) → (read table n).rows ≡ n
  unfolding read with_row
  read_rows zero = refl
  read_rows (suc n) = refl

  read_identifiers : (n : ℕ) → (read table n).identifiers ≡ table.identifiers
  unfolding read with_row
  read_identifiers zero = refl
  read_identifiers (suc n) = read_identifiers n

  pub tree_rows : (tree_of table).rows ≡ length table.identifiers
  unfolding tree_of
  tree_rows = read_rows (length table.identifiers)

  pub tree_names : (tree_of table).identifiers ≡ table.identifiers
  unfolding tree_of
  tree_names = read_identifiers (length table.identifiers)

  -- where a row's parent is found, it is read before the row
  parent_earlier : (r : ℕ) → parent_of table r ≢ r → parent_of table r < r
  unfolding parent_of earlier
  parent_earlier r found =
      let before = take r table.identifiers in
      let most = place_most (get_or table.parent_identifiers r 0) before in
      let short = length-take r table.identifiers in
      omega arith

  module _ (n : ℕ) (few : n ≤ most_rows) where
    pub parent_at : (r : ℕ) → r < n → parent (read table n) r ≡ parent_of table r
    unfolding read with_row
    parent_at r below = filled_at (λ n. (read table n).parents) (parent_of table) (λ n. refl) 0 n r below (rw zeros_full few)

    pub share_at : (r : ℕ) → r < n → share (read table n) r ≡ get_or table.shares r 0
    unfolding read with_row
    share_at r below = filled_at (λ n. (read table n).shares) (λ r. get_or table.shares r 0) (λ n. refl) 0 n r below (rw zeros_full few)

    pub depth_at : (r : ℕ) → r < n → depth (read table n) r ≡ depth_read r
    unfolding read with_row depth_read
    depth_at r below = filled_at (λ n. (read table n).depths) depth_read (λ n. refl) 0 n r below (rw zeros_full few)

  -- a row is one deeper than its parent: the rows that are read later leave both depths as they were
  depth_below :
      (n r : ℕ) → n ≤ most_rows → 0 < r → r < n → parent_of table r ≢ r
      → depth (read table n) r ≡ suc (depth (read table n) (parent (read table n) r))
  unfolding depth_read
  depth_below n r few positive below found =
      let before = parent_earlier r found in
      let other : r ≢ 0 = omega arith in
      let there = depth_at r (omega arith) (parent_of table r) before in
      let here = depth_at n few (parent_of table r) (omega arith) in
      depth_at n few r below ∙ rw (ne_eqb r 0 other, parent_at n few r below, here) (ap suc there)

  -- ── a table that is not refused ──

  rows_fit : (rows_refused table).number ≡ 0 → (least_rows ≤ length table.identifiers) × (length table.identifiers ≤ most_rows)
  unfolding rows_refused
  rows_fit ok =
      let rows = length table.identifiers in
      let unequal = not (eqb (length table.parent_identifiers) rows) || not (eqb (length table.shares) rows) in
      let last = (or-is-false (unequal || ltb rows least_rows) (ltb most_rows rows)).0 (given_none _ _ _ ok) in
      let third = (or-is-false unequal (ltb rows least_rows)).0 last.0 in
      (ltb-false rows least_rows third.1, ltb-false most_rows rows last.1)

class_fits :
    (r identifier other parent share depth : ℕ) → (class_refused r identifier other parent share depth).number ≡ 0
    → (parent ≢ r) × T (allowed share) × (depth ≤ most_depth)
unfolding class_refused
class_fits r identifier other parent share depth ok =
    let all = first_none _ ok in
    let found = given_none (eqb parent r) _ _ all.1.1.1.0 in
    let share_ok = not-false (allowed share) (given_none _ _ _ all.1.1.1.1.0) in
    let shallow = given_none (ltb most_depth depth) _ _ all.1.1.1.1.1.0 in
    (eqb-false parent r found, subst T (sym share_ok) tt, ltb-false most_depth depth shallow)

-- where a table is not refused, no row is, and no sum of shares
module _ (table : Table) (fine : (table_refused table).number ≡ 0) where
  abbrev n : ℕ
  n = length table.identifiers

  both : ((first_below (row_refused table) n).number ≡ 0) × ((first_below (shares_refused table) n).number ≡ 0)
  unfolding table_refused
  both = or_none (first_below (row_refused table) n) (first_below (shares_refused table) n) fine

  pub row_passes : (r : ℕ) → r < n → (row_refused table r).number ≡ 0
  row_passes = below_none (row_refused table) n both.0

  -- the root has no share
  pub root_bare : 0 < n → get_or table.shares 0 0 ≡ 0
  unfolding row_refused root_refused
  root_bare some =
      let all = first_none _ (row_passes 0 some) in
      let a = eqb (get_or table.parent_identifiers 0 0) 0 in
      let b = eqb (get_or table.shares 0 0) 0 in
      eqb-true (get_or table.shares 0 0) 0 (not-false b ((or-is-false (not a) (not b)).0 (given_none _ _ _ all.1.1.0)).1)

  sum_passes : (p : ℕ) → p < n → (shares_refused table p).number ≡ 0
  sum_passes = below_none (shares_refused table) n both.1

-- a table that is not refused is read as a sound tree
pub sound : (table : Table) → (rows_refused table).number ≡ 0 → (table_refused table).number ≡ 0 → Sound (tree_of table)
unfolding tree_of row_refused shares_refused depth_read
sound table rows_ok table_ok =
    record {
      some_rows = omega (arith, rows, size.0);
      few_rows = omega (arith, rows, few);
      named = ap length (read_identifiers table n) ∙ sym rows;
      root_depth = root;
      parent_row = λ r positive inside. in_rows r positive (low r inside);
      deeper = λ r positive inside. depth_below table n r few positive (low r inside) (fits r positive (low r inside)).0;
      shallow = λ r inside. shallow r (low r inside);
      share_allowed = λ r positive inside.
          subst (λ (w : ℕ). T (allowed w)) (sym (share_at table n few r (low r inside))) (fits r positive (low r inside)).1;
      shares_fit = λ p inside. subst (λ (k : ℕ). children_share (tree_of table) p k ≤ whole) (sym rows) (together p (low p inside));
    }
  where
    n : ℕ
    n = length table.identifiers

    size : (least_rows ≤ n) × (n ≤ most_rows)
    size = rows_fit table rows_ok

    few : n ≤ most_rows
    few = size.1

    rows : (tree_of table).rows ≡ n
    rows = read_rows table n

    low : (r : ℕ) → r < (tree_of table).rows → r < n
    low r inside = omega (arith, rows)

    fits :
        (r : ℕ) → 0 < r → r < n
        → (parent_of table r ≢ r) × T (allowed (get_or table.shares r 0)) × (depth (tree_of table) r ≤ most_depth)
    fits zero positive below = absurd (omega arith)
    fits (suc r) positive below = class_fits (suc r) _ _ _ _ _ (row_passes table table_ok (suc r) below)

    in_rows : (r : ℕ) → 0 < r → r < n → parent (tree_of table) r < (tree_of table).rows
    in_rows r positive below =
        omega (arith, rows, parent_at table n few r below, parent_earlier table r (fits r positive below).0)

    root : depth (tree_of table) 0 ≡ 0
    root = depth_at table n few 0 (omega (arith, size.0))

    shallow : (r : ℕ) → r < n → depth (tree_of table) r ≤ most_depth
    shallow zero below = omega (arith, root)
    shallow (suc r) below = (fits (suc r) (omega arith) below).2

    together : (p : ℕ) → p < n → children_share (tree_of table) p n ≤ whole
    together p below = ltb-false whole _ (given_none _ _ _ (sum_passes table table_ok p below))

-- an event that is not refused
pub arrival_fits :
    (tree : Tree) → Sound tree → (i word class length : ℕ) (idles : Bool)
    → (meeting_refused tree i word (Arrival class length) idles).number ≡ 0 → ArrivalFits tree class length
unfolding meeting_refused packet_refused row_of
arrival_fits tree sound i word class bytes idles ok =
    let k = row_of tree class in
    let both = or_none (given (eqb k tree.rows) 11 i) (packet_refused i (sends tree k) bytes) ok in
    let found = eqb-false k tree.rows (given_none _ _ _ both.0) in
    let packet = first_none _ both.1 in
    let is_sender = not-false (sends tree k) (given_none _ _ _ packet.0) in
    let most = place_most class tree.identifiers in
    let named = sound.named in
    let size = (or-is-false (ltb bytes least_bytes) (ltb most_bytes bytes)).0 (given_none _ _ _ packet.1.0) in
    record {
      sender = sends_sender tree k (omega arith) is_sender;
      some_bytes = ltb-false bytes least_bytes size.0;
      few_bytes = ltb-false most_bytes bytes size.1;
    }

pub finish_fits :
    (tree : Tree) (i word : ℕ) (box : Box) → (meeting_refused tree i word Finish (idle box)).number ≡ 0
    → (word ≡ 0) × (has_head box.rows 0 ≡ true)
unfolding meeting_refused idle
finish_fits tree i word box ok =
    let all = first_none _ ok in
    (eqb-true word 0 (not-false (eqb word 0) (given_none _ _ _ all.0)), not-false (has_head box.rows 0) (given_none _ _ _ all.1.0))

-- an input that is not refused
pub table_passes : (table : Table) (events : Events) (room : Room) → (refused table events room).number ≡ 0 → (table_refused table).number ≡ 0
unfolding refused
table_passes table events room ok = (first_none _ ok).1.1.1.0

pub accepted : (table : Table) (events : Events) (room : Room) → (refused table events room).number ≡ 0 → Accepted (tree_of table) events (count events)
unfolding refused
accepted table events room ok =
    let all = first_none _ ok in
    record {
      sound = sound table all.0 (table_passes table events room ok);
      each = below_none (event_refused (tree_of table) events) (count events) all.1.1.1.1.0;
    }
