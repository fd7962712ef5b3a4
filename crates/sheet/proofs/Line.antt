-- What a figure says of a run: in the stretch the whole line finished no more than it.
-- Assumes nothing.
use Prim.Native.Nat.{ℕ, zero, suc, ◌+◌, ◌*◌, ◌%◌, ◌≤◌, ◌<◌}
use mathlib.Core.Path.{◌≡◌, refl}
use mathlib.Core.Logic.{⊎_elim}
use mathlib.Core.Bool.{true, and-eq-true_iff}
use mathlib.Core.List.{List}
use native.Mathlib.Nat.{mul-le-mul_left, mul-le-mul_right, le_of_mul-le-mul_right, le_refl, le_trans}
use native.Mathlib.Omega.{arith}
use lib.Dec.{eqb}
use borrow.Author.Tests.{eqb-true}
use Rattle.input.specs.Limits.{scale, packets_a_step, ticks_a_step}
use Rattle.input.specs.Classes.{Tree, tree_of, parent, depth, share}
use Rattle.input.specs.Events.{Events, count}
use Rattle.input.specs.Shares.{rounded_up}
use Rattle.input.proofs.Charges.{rounded_covers}
use Rattle.rules.specs.Outcome.{Lent, Outcome, room_of, Ran}
use Rattle.rules.specs.Promise.{Ratio, within, line_most, largest, packets_for, bytes_for, line_bytes, finished_in, Backlogged}
use Rattle.rules.specs.Promise.{ticks_for, no_ticks, Promised}
use Rattle.laws.specs.Sound.{Sound}
use Rattle.laws.specs.Rounding.{Exact}
use Rattle.laws.proofs.Tree.Trees.{accepted}
use Rattle.laws.proofs.Tree.Paths.{at_root, below_root, nearer, only_root}
use Rattle.laws.proofs.Share.LineMost.{no_less}
use Rattle.laws.proofs.Outcome.Results.{not_refused}
use Rattle.laws.proofs.Outcome.Run.{sent, share_is_a_number, exact_share_is_a_number}
use Rattle.sheet.specs.Paper.{Figure}
use Rattle.sheet.specs.Paper.{worked, dividing}
use Rattle.sheet.proofs.Same.{Stands, same}

-- ── from the number to the figure ──

-- what is at most a fraction is at most a figure that is the same number
below_figure : (x : ℕ) (f : Figure) (q : Ratio) → Stands f q → x * q.denominator ≤ q.numerator → x * f.denominator ≤ f.numerator
below_figure x f q stands below =
    let scaled = mul-le-mul_right f.denominator below in
    let same_number = stands.crosswise in
    let turned : x * f.denominator * q.denominator ≤ f.numerator * q.denominator = omega arith in
    le_of_mul-le-mul_right turned stands.ratio_some

below_rounded : (x n d : ℕ) → 0 < d → x * d ≤ n → x ≤ rounded_up n d
below_rounded x n d some below =
    let covers = rounded_covers n d some in
    let scaled : x * d ≤ rounded_up n d * d = omega arith in
    le_of_mul-le-mul_right scaled some

-- ── shares that divide the scale ──

-- where each share on the steps up to the root divides it, so does each on the row's path
path_divides :
    (tree : Tree) → Sound tree → (d k : ℕ) → k < tree.rows → depth tree k ≡ d → dividing d tree.parents tree.shares k ≡ true → Exact tree k
unfolding dividing
path_divides tree sound zero k inside deep divides r positive on =
    let root = only_root tree sound r (rw (at_root tree sound k inside deep) at on) in absurd (omega arith)
path_divides tree sound (suc d) k inside deep divides r positive on =
    let below = below_root tree sound k d deep in
    let deeper = sound.deeper k below inside in
    let both = (and-eq-true_iff (eqb (scale % share tree k) 0) (dividing d tree.parents tree.shares (parent tree k))).0 divides in
    ⊎_elim (λ (here : k ≡ r). rw here at (eqb-true (scale % share tree k) 0 both.0))
    (path_divides tree sound d (parent tree k) (sound.parent_row k below inside) (omega arith) both.1 r positive)
    (nearer tree sound r k below inside on)

-- ── the whole line ──

module _ (lent : Lent) (left : Outcome) (ran : Ran lent left) (done : left.answer.number ≡ 0) where
  abbrev tree : Tree
  tree = tree_of lent.table

  abbrev events : Events
  events = lent.events

  -- the packets finished in a stretch
  abbrev sent_in : ℕ → ℕ → List ℕ
  sent_in a b = finished_in events (sent left) a b

  -- and their bytes
  abbrev line_in : ℕ → ℕ → ℕ
  line_in a b = line_bytes events (sent_in a b)

  -- a stretch over which row k holds a packet after each event; a packet length that no packet is above; and bytes that those which
  -- the row finished are not above
  pub record Stretch (k a b most own : ℕ) : Type 0 where
    pub inside : k < tree.rows
    pub order : a ≤ b
    pub ended : b ≤ count events
    pub backlogged : Backlogged tree events (sent left) k a b
    pub largest_most : largest events (count events) ≤ most
    pub bytes_most : bytes_for tree events k (sent_in a b) ≤ own

  -- no row on k's path below the root finished more packets than so many
  abbrev PacketsMost : ℕ → ℕ → ℕ → ℕ → Type 0
  PacketsMost k a b packets = (r : ℕ) → 0 < r → within tree r k ≡ true → packets_for tree events r (sent_in a b) ≤ packets

  -- the figure for row k, worked up to the whole line
  abbrev line_figure : ℕ → ℕ → ℕ → ℕ → Figure
  line_figure most more k own = worked (depth tree k) tree.parents tree.shares most more k own

  sound : Sound tree
  sound = (accepted lent.table events (room_of lent) (not_refused lent left ran done)).sound

  module _ (k a b most own : ℕ) (stretch : Stretch k a b most own) where
    figure_stands :
        (more : ℕ) → (line_figure most more k own).fits ≡ true
        → Stands (line_figure most more k own) (line_most tree packets_a_step most (λ r. more) k own)
    unfolding line_most
    figure_stands more = same (depth tree k) tree most more k own

    -- what is promised with no more ticks than so many
    promised_below :
        (by : List ℕ → ℕ → ℕ) (more : ℕ) → Promised tree events (sent left) packets_a_step (largest events (count events)) by k a b
        → ((r : ℕ) → 0 < r → within tree r k ≡ true → by (sent_in a b) r ≤ more) → (line_figure most more k own).fits ≡ true
        → line_in a b * (line_figure most more k own).denominator ≤ (line_figure most more k own).numerator
    promised_below by more promised fewer fits =
        let grown =
        no_less tree sound packets_a_step (largest events (count events)) packets_a_step most (by (sent_in a b)) (λ r. more)
        (mul-le-mul_left packets_a_step stretch.largest_most) k (bytes_for tree events k (sent_in a b)) own stretch.inside fewer stretch.bytes_most in
        below_figure (line_in a b) (line_figure most more k own) (line_most tree packets_a_step most (λ r. more) k own) (figure_stands more fits)
        (rw (← grown.denominators) (le_trans promised grown.numerators))

    in_whole_bytes :
        (more : ℕ) → (line_figure most more k own).fits ≡ true
        → line_in a b * (line_figure most more k own).denominator ≤ (line_figure most more k own).numerator
        → line_in a b ≤ rounded_up (line_figure most more k own).numerator (line_figure most more k own).denominator
    in_whole_bytes more fits =
        below_rounded (line_in a b) (line_figure most more k own).numerator (line_figure most more k own).denominator (figure_stands more fits).figure_some

    -- what the whole line finished is at most the figure with a tick for each of so many packets and two more, where no row on the path
    -- finished more packets than those
    pub line_below_exactly :
        (packets : ℕ) → PacketsMost k a b packets → (line_figure most (packets + ticks_a_step) k own).fits ≡ true
        → line_in a b * (line_figure most (packets + ticks_a_step) k own).denominator ≤ (line_figure most (packets + ticks_a_step) k own).numerator
    unfolding ticks_for
    line_below_exactly packets few =
        promised_below (ticks_for tree events) (packets + ticks_a_step)
        (share_is_a_number lent left ran done k a b stretch.inside stretch.order stretch.ended stretch.backlogged)
        (λ r positive on. let its = few r positive on in omega arith)

    -- the same in whole bytes
    pub line_below :
        (packets : ℕ) → PacketsMost k a b packets → (line_figure most (packets + ticks_a_step) k own).fits ≡ true
        → line_in a b
        ≤ rounded_up (line_figure most (packets + ticks_a_step) k own).numerator (line_figure most (packets + ticks_a_step) k own).denominator
    line_below packets few fits = in_whole_bytes (packets + ticks_a_step) fits (line_below_exactly packets few fits)

    -- where each share on the path divides the scale it is at most the figure without ticks, however many packets were finished
    pub line_below_without_ticks_exactly :
        dividing (depth tree k) tree.parents tree.shares k ≡ true → (line_figure most 0 k own).fits ≡ true
        → line_in a b * (line_figure most 0 k own).denominator ≤ (line_figure most 0 k own).numerator
    unfolding no_ticks
    line_below_without_ticks_exactly divides =
        promised_below no_ticks 0
        (exact_share_is_a_number lent left ran done k a b stretch.inside stretch.order stretch.ended stretch.backlogged
        (path_divides tree sound (depth tree k) k stretch.inside refl divides))
        (λ r positive on. le_refl 0)

    pub line_below_without_ticks :
        dividing (depth tree k) tree.parents tree.shares k ≡ true → (line_figure most 0 k own).fits ≡ true
        → line_in a b ≤ rounded_up (line_figure most 0 k own).numerator (line_figure most 0 k own).denominator
    line_below_without_ticks divides fits = in_whole_bytes 0 fits (line_below_without_ticks_exactly divides fits)
