-- The packets held: the test of them says what they have, and no more; the queues that they make.
-- Assumes nothing.
use Prim.Native.Nat.{ℕ, zero, suc, ◌≤◌, ◌<◌}
use mathlib.Core.Path.{◌≡◌, refl, sym, ap, ◌∙◌}
use mathlib.Core.Bool.{Bool, true, false, cond}
use mathlib.Core.List.{List, [], ◌∷◌, ◌++◌}
use native.Mathlib.Decide.{ℕ_discrete}
use native.Mathlib.Omega.{arith}
use lib.Dec.{leb, ltb, eqb}
use lib.ListN.{length, get_or, length-append, get_or-append}
use lib.Seq.{get_or_at}
use borrow.Author.Tests.{ltb-true, leb-true, lt-ltb, le-leb}
use Rattle.input.specs.Limits.{least_bytes, most_bytes}
use Rattle.input.specs.Classes.{Tree, sends}
use Rattle.laws.specs.Sound.{Sender}
use Rattle.laws.specs.Kept.{InLine}
use Rattle.laws.proofs.Tree.Paths.{sends_sender}
use Rattle.laws.proofs.Event.Queues.{in_line_wider}
use Rattle.live_rules.specs.State.{Held, queue, queues}
use Rattle.live_rules.specs.Soundness.{packet_sound, packets_sound, in_order}
use Rattle.live_laws.specs.Holds.{Fitting}
use Rattle.live_rules.proofs.Alls.{both_true, true_both}

-- ── the test ──

packet_fits : (tree : Tree) (packet : Held) → packet_sound tree packet ≡ true → Sender tree packet.class × (0 < packet.length) × (packet.length ≤ most_bytes)
unfolding packet_sound
packet_fits tree packet pass =
    let first = both_true (ltb packet.class tree.rows) _ pass in
    let second = both_true (sends tree packet.class) _ first.1 in
    let third = both_true (leb least_bytes packet.length) _ second.1 in (
      sends_sender tree packet.class (ltb-true packet.class tree.rows first.0) second.0,
      leb-true least_bytes packet.length third.0,
      leb-true packet.length most_bytes third.1,
    )

fits_packet : (tree : Tree) (packet : Held) → Sender tree packet.class → 0 < packet.length → packet.length ≤ most_bytes → packet_sound tree packet ≡ true
unfolding packet_sound
fits_packet tree packet sender some few =
    true_both (ltb packet.class tree.rows) _ (lt-ltb packet.class tree.rows sender.inside)
    (true_both (sends tree packet.class) _ sender.sender
    (true_both (leb least_bytes packet.length) _ (le-leb least_bytes packet.length some) (le-leb packet.length most_bytes few)))

pub packets_fit :
    (tree : Tree) (limit least : ℕ) (packets : List Held) → packets_sound tree packets ≡ true → in_order limit least packets ≡ true
    → Fitting tree limit least packets
unfolding packets_sound in_order Fitting
packets_fit tree limit least [] sound order = tt
packets_fit tree limit least (packet ∷ later) sound order =
    let each = both_true (packet_sound tree packet) (packets_sound tree later) sound in
    let fits = packet_fits tree packet each.0 in
    let from = both_true (leb least packet.name) _ order in
    let below = both_true (ltb packet.name limit) (in_order limit (suc packet.name) later) from.1 in (
      fits.0,
      fits.1,
      fits.2,
      leb-true least packet.name from.0,
      ltb-true packet.name limit below.0,
      packets_fit tree limit (suc packet.name) later each.1 below.1,
    )

pub fit_packets : (tree : Tree) (limit least : ℕ) (packets : List Held) → Fitting tree limit least packets → packets_sound tree packets ≡ true
unfolding packets_sound Fitting
fit_packets tree limit least [] fits = refl
fit_packets tree limit least (packet ∷ later) fits =
    true_both (packet_sound tree packet) (packets_sound tree later) (fits_packet tree packet fits.0 fits.1 fits.2)
    (fit_packets tree limit (suc packet.name) later fits.5)

pub fit_order : (tree : Tree) (limit least : ℕ) (packets : List Held) → Fitting tree limit least packets → in_order limit least packets ≡ true
unfolding in_order Fitting
fit_order tree limit least [] fits = refl
fit_order tree limit least (packet ∷ later) fits =
    true_both (leb least packet.name) _ (le-leb least packet.name fits.3)
    (true_both (ltb packet.name limit) (in_order limit (suc packet.name) later) (lt-ltb packet.name limit fits.4)
    (fit_order tree limit (suc packet.name) later fits.5))

-- ── the queues ──

-- a class's packets are in line, as all packets are
pub queue_in_line :
    (tree : Tree) (limit least : ℕ) (packets : List Held) → Fitting tree limit least packets → (k : ℕ)
    → InLine limit most_bytes least (queue packets k)
unfolding Fitting queue InLine
queue_in_line tree limit least [] fits k = tt
queue_in_line tree limit least (packet ∷ later) fits k =
    go (eqb packet.class k) (queue_in_line tree limit (suc packet.name) later fits.5 k)
  where
    go :
        (b : Bool) → InLine limit most_bytes (suc packet.name) (queue later k)
        → InLine limit most_bytes least (cond b (record { place = packet.name; length = packet.length } ∷ queue later k) (queue later k))
    go true line = (fits.3, fits.4, fits.1, fits.2, line)
    go false line =
        in_line_wider limit limit most_bytes (suc packet.name) least (queue later k) (omega arith) (omega (arith, fits.3)) line
