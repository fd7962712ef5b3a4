-- A look through all children finds what the rules pick. Once the child is found a row has chosen: it has no head where there is none, and else
-- takes it.
-- Assumes nothing.
use Prim.Native.Nat.{ℕ}
use mathlib.Core.Path.{◌≡◌, sym, ◌∙◌}
use mathlib.Core.Logic.{◌≢◌}
use borrow.Author.Tests.{eq-eqb, ne_eqb}
use Rattle.input.specs.Classes.{Tree}
use Rattle.rules.specs.declared.Why.{Why}
use Rattle.rules.specs.Box.{Rows}
use Rattle.rules.specs.Steps.{with_head, pick, takes, chooses}
use Rattle.looking.specs.declared.Looking.{Looking}
use Rattle.looking.specs.Nearest.{Chosen as Looked}
use Rattle.looking.proofs.Parts.{raised_part, pick_part}
use Rattle.choosing.specs.Filed.{Filing, AllListed, Found, Chosen}

pub looked :
    (tree : Tree) (class_of : ℕ → ℕ) (a : Rows) (looking : Looking) {p child time : ℕ} → AllListed looking tree class_of a 0
    → Looked tree.rows tree.parents a.starts a.finishes a.virtuals a.heads p child time → Found (AllListed looking) tree class_of a p child time
looked tree class_of a looking {p} filed look =
    let time_is = look.time_is ∙ sym (raised_part tree a p) in
    record {
      time_is = time_is;
      child_is = rw (pick_part, ← time_is) look.child_is;
      filed = λ why. filed;
    }

module _
    {Filed : Filing} {tree : Tree} {class_of : ℕ → ℕ} {a : Rows} {p child time : ℕ} (found : Found Filed tree class_of a p child time)
    (why : Why) (b : Rows) where
  chosen_by : b ≡ chooses tree why p a → Chosen Filed tree class_of why p a b
  chosen_by same = record { rows_are = same; filed = rw same (found.filed why) }

  pub none_taken : child ≡ 0 → b ≡ with_head p 0 0 0 a → Chosen Filed tree class_of why p a b
  unfolding chooses
  none_taken none same = chosen_by (rw (same, eq-eqb (pick tree a p) 0 (sym found.child_is ∙ none)))

  pub one_taken : child ≢ 0 → b ≡ takes tree why p child a → Chosen Filed tree class_of why p a b
  unfolding chooses
  one_taken some same =
      chosen_by (rw (same, ne_eqb (pick tree a p) 0 (λ none. some (found.child_is ∙ none)), found.child_is))
