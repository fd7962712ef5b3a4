-- The parts of a sound state: the first that fails decides, and past the others the rows do.
-- Assumes nothing.
use mathlib.Core.Path.{◌≡◌, refl, sym, ap, ◌∙◌}
use mathlib.Core.Bool.{Bool, true, false, ◌&&◌, and_assoc}
use Rattle.live_rules.specs.State.{Live, events}
use Rattle.live_rules.specs.Soundness.{all, few, tree_sound, packets_sound, in_order, row_sound, sound}
use Rattle.live_rules.proofs.Alls.{both_true}

-- what cannot be true is false
pub refuted : (b : Bool) → (b ≡ true → ⊥) → b ≡ false
refuted true never = absurd (never refl)
refuted false never = refl

-- of four that are all true each is
pub four_true : (a b c d : Bool) → (a && (b && (c && d))) ≡ true → (a ≡ true) × (b ≡ true) × (c ≡ true) × (d ≡ true)
four_true a b c d all_so =
    let first = both_true a (b && (c && d)) all_so in
    let second = both_true b (c && d) first.1 in
    let third = both_true c d second.1 in
    (first.0, second.0, third.0, third.1)

module _ (live : Live) where
  -- the packets and the order of their names, which one walk tests
  abbrev pub packets_so : Bool
  packets_so = packets_sound live.tree live.packets && in_order (events live) 0 live.packets

  pub few_fails : few live ≡ false → sound live ≡ false
  unfolding sound
  few_fails counts = rw counts

  pub tree_fails : few live ≡ true → tree_sound live.tree ≡ false → sound live ≡ false
  unfolding sound
  tree_fails counts tree = rw (counts, tree)

  pub packets_fail : few live ≡ true → tree_sound live.tree ≡ true → packets_so ≡ false → sound live ≡ false
  unfolding sound
  packets_fail counts tree packets =
      let rows = all live.tree.rows (row_sound live) in
      rw (counts, tree)
      (sym (and_assoc (packets_sound live.tree live.packets) (in_order (events live) 0 live.packets) rows)
      ∙ ap (λ (b : Bool). b && rows) packets)

  pub rows_decide :
      few live ≡ true → tree_sound live.tree ≡ true → packets_so ≡ true → sound live ≡ all live.tree.rows (row_sound live)
  unfolding sound
  rows_decide counts tree packets =
      let rows = all live.tree.rows (row_sound live) in
      rw (counts, tree)
      (sym (and_assoc (packets_sound live.tree live.packets) (in_order (events live) 0 live.packets) rows)
      ∙ ap (λ (b : Bool). b && rows) packets)
