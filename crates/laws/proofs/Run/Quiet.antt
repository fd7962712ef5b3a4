-- The report shows the plain state: the words that it leaves out, the root's tags and the virtual times of sending classes, are
-- never written, so they are zero in the state too.
-- Assumes nothing.
use Prim.Native.Nat.{ℕ, ◌<◌}
use mathlib.Core.Path.{◌≡◌, refl, sym, ◌∙◌, ap}
use mathlib.Core.Bool.{Bool, true, false, cond}
use mathlib.Core.List.{[], ◌∷◌}
use native.Mathlib.Omega.{arith}
use lib.Dec.{eqb}
use borrow.Author.Tests.{eqb-true}
use Rattle.input.specs.Classes.{Tree, sends}
use Rattle.input.specs.Events.{Events}
use Rattle.rules.specs.Box.{start, finish, virtual, bytes_of, held_by}
use Rattle.rules.specs.Steps.{after}
use Rattle.rules.specs.Outcome.{row_report}
use Rattle.laws.specs.Kept.{Kept}
use Rattle.laws.specs.History.{Accepted}
use Rattle.laws.proofs.Tree.Paths.{sends_sender}
use Rattle.laws.proofs.Event.Largest.{parts_largest}
use Rattle.laws.proofs.Event.Keeping.{kept}

-- leaving out a word that is zero
left_out : (test : Bool) (word : ℕ) → (test ≡ true → word ≡ 0) → cond test 0 word ≡ word
left_out true word none = sym (none refl)
left_out false word none = refl

module _ (tree : Tree) (events : Events) (n : ℕ) (ok : Accepted tree events n) where
  keeps : Kept tree (parts_largest tree events n) n (after tree events n)
  keeps = kept tree events n n (omega arith) ok

  -- the root's tags
  start_shown : (r : ℕ) → cond (eqb r 0) 0 (start (after tree events n).rows r) ≡ start (after tree events n).rows r
  start_shown r = left_out (eqb r 0) _ (λ root. ap (start (after tree events n).rows) (eqb-true r 0 root) ∙ keeps.root_start)

  finish_shown : (r : ℕ) → cond (eqb r 0) 0 (finish (after tree events n).rows r) ≡ finish (after tree events n).rows r
  finish_shown r = left_out (eqb r 0) _ (λ root. ap (finish (after tree events n).rows) (eqb-true r 0 root) ∙ keeps.root_finish)

  -- a sending class's virtual time
  virtual_shown : (r : ℕ) → r < tree.rows → cond (sends tree r) 0 (virtual (after tree events n).rows r) ≡ virtual (after tree events n).rows r
  virtual_shown r inside =
      left_out (sends tree r) _ (λ is. keeps.sender_virtual r (sends_sender tree r inside is))

  -- so a row's words are its plain state
  pub row_shown :
      (r : ℕ) → r < tree.rows
      → row_report tree (after tree events n) r
      ≡ bytes_of (after tree events n) r
      ∷ start (after tree events n).rows r
      ∷ finish (after tree events n).rows r
      ∷ virtual (after tree events n).rows r
      ∷ held_by (after tree events n) r
      ∷ []
  unfolding row_report
  row_shown r inside = rw (start_shown r, finish_shown r, virtual_shown r inside)
