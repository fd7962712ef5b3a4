-- How far a row's tags rise: a charge, a raised virtual time and the ticks by which that passes over a packet keep within the tags' leeway.
-- Assumes nothing.
use Prim.Native.Nat.{ℕ, ◌+◌, ◌*◌, ◌≤◌, ◌<◌, ◌^◌, max}
use mathlib.Core.Bool.{Bool, true, false, cond}
use mathlib.Core.List.{List, []}
use native.Mathlib.Omega.{arith}
use lib.Dec.{eqb}
use Rattle.words.proofs.Entries.{entry_set}
use Rattle.rules.specs.declared.Why.{Why}
use Rattle.rules.specs.declared.Why.TheVariants.{Finished, Arrived}
use Rattle.input.specs.Limits.{ticks, most_bytes}
use Rattle.input.specs.Shares.{charge}
use Rattle.input.proofs.Charges.{charge_most}
use Rattle.input.specs.Classes.{Tree, parent}
use Rattle.rules.specs.Box.{Rows, start, virtual, head}
use Rattle.rules.specs.Steps.{with_virtual, next_start, waits, least, raised}
use Rattle.input.specs.Lent.{tree_with}
use Rattle.arrays.specs.Arrays.{next_start_of}
use Rattle.choosing.specs.Sizes.{Leeway, most_charge, most_passed}
use Rattle.looking.proofs.Parts.{next_start_part}

pub less_leeway : (m n : ℕ) (rows : Rows) → n ≤ m → Leeway m rows → Leeway n rows
less_leeway m n rows less leeway =
    record {
      starts = λ i. let h = leeway.starts i in omega arith;
      finishes = λ i. let h = leeway.finishes i in omega arith;
      virtuals = λ i. let h = leeway.virtuals i in omega arith;
      head_lengths = leeway.head_lengths;
    }

module _ (n : ℕ) (tree : Tree) (rows : Rows) (leeway : Leeway n rows) where
  pub next_start_leeway : (why : Why) (r : ℕ) → next_start tree why r rows + n < 2 ^ 64
  unfolding next_start
  next_start_leeway Finished r = leeway.finishes r
  next_start_leeway Arrived r = let a = leeway.finishes r in let b = leeway.virtuals (parent tree r) in omega arith

  pub raised_leeway : (p : ℕ) → raised tree rows p + n < 2 ^ 64
  unfolding raised
  raised_leeway p = go (eqb first 0)
    where
      first : ℕ
      first = least (waits tree rows p) (start rows) (head rows) tree.rows

      go : (none : Bool) → cond none (virtual rows p) (max (virtual rows p) (start rows first)) + n < 2 ^ 64
      go true = leeway.virtuals p
      go false = let a = leeway.virtuals p in let b = leeway.starts first in omega arith

-- a row's finish, charged from where its next packet starts, fits
pub charged_fits : {rows : Rows} → Leeway most_charge rows
    → (parents : List ℕ) (why : Why) (r length share : ℕ) → length ≤ most_bytes
    → next_start_of parents rows.finishes rows.virtuals why r + charge length share < 2 ^ 64
charged_fits {rows} leeway parents why r length share short =
    let small = next_start_leeway most_charge (tree_with 0 [] parents [] []) rows leeway why r in
    let same = next_start_part (tree_with 0 [] parents [] []) rows why r in
    let cheap = charge_most length share in
    omega arith

pub passed_leeway : (n v : ℕ) (rows : Rows) → v + (n + most_passed) < 2 ^ 64 → Leeway (n + most_passed) rows
    → (p length : ℕ) → length ≤ most_bytes → Leeway n (with_virtual p (v + ticks * length) rows)
unfolding with_virtual
passed_leeway n v rows small leeway p length short =
    record {
      starts = rest.starts;
      finishes = rest.finishes;
      virtuals = λ i. entry_set (λ (t : ℕ). t + n < 2 ^ 64) rows.virtuals p (v + ticks * length) i (omega arith) (rest.virtuals i);
      head_lengths = leeway.head_lengths;
    }
  where
    rest : Leeway n rows
    rest = less_leeway (n + most_passed) n rows (omega arith) leeway
