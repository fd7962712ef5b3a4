-- An accepted table: no two rows are one on the air, which rows send is as the check has written it, and the path up from each row ends at the root.
-- Assumes nothing.
use Prim.Native.Nat.{ℕ, ◌≤◌, ◌<◌}
use mathlib.Core.Path.{◌≡◌, refl}
use mathlib.Core.Bool.{false}
use native.Mathlib.Omega.{arith}
use lib.ListN.{get_or, length-replicate}
use Rattle.input.specs.Limits.{most_rows}
use Rattle.input.specs.Classes.{Table, Tree, tree_of, sends}
use Rattle.input.specs.Refusals.{rows_refused, table_refused}
use Rattle.input.proofs.Filled.{filled_at}
use Rattle.laws.specs.Sound.{Sound}
use Rattle.laws.proofs.Tree.Paths.{root_within}
use Rattle.laws.proofs.Tree.Trees.{tree_rows, tree_names, sound}
use Rattle.laws.proofs.Tree.OnAir.{apart_on_air}
use Rattle.tables.specs.Answers.{senders_below}
use Rattle.checks.specs.Counted.{Known}

senders_filled : (tree : Tree) (n r : ℕ) → r < n → n ≤ most_rows → get_or (senders_below tree n) r false ≡ sends tree r
unfolding senders_below
senders_filled tree n r below few =
    filled_at (senders_below tree) (sends tree) (λ i. refl) false n r below (rw (length-replicate most_rows false) few)

module _ (table : Table) (sized : (rows_refused table).number ≡ 0) (fine : (table_refused table).number ≡ 0) where
  is_sound : Sound (tree_of table)
  is_sound = sound table sized fine

  pub known : Known (tree_of table) table.identifiers (senders_below (tree_of table) (tree_of table).rows)
  known =
      record {
        rows = tree_rows table;
        names = tree_names table;
        apart = apart_on_air table fine;
        sending = λ r inside. senders_filled (tree_of table) (tree_of table).rows r (omega (arith, tree_rows table)) is_sound.few_rows;
        rooted = λ r inside. root_within (tree_of table) is_sound r (omega (arith, tree_rows table));
      }
