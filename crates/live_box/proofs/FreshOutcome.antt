-- A fresh state: which refusal comes first, and what is left in each case; what is written, group by group.
-- Assumes nothing.
use Prim.Native.Nat.{ℕ, ◌≤◌, ◌<◌}
use mathlib.Core.Path.{◌≡◌, refl, sym, ◌∙◌}
use mathlib.Core.List.{List, [], ◌∷◌}
use native.Mathlib.Omega.{arith}
use lib.Dec.{ltb}
use lib.ListN.{length}
use lib.Seq.{sets}
use borrow.Author.Tests.{lt-ltb, le-ltb, ne_eqb}
use Rattle.std.specs.Prelude.{Result, Ok, Err}
use Rattle.std.specs.Result.{IsErrAnd}
use Rattle.input.specs.declared.Refusal.{Refusal}
use Rattle.input.specs.Classes.{Table, tree_of}
use Rattle.input.specs.Refusals.{nothing, given, or_else, first, rows_refused, table_refused}
use Rattle.arrays.specs.declared.TreeArrays.{TreeArrays}
use Rattle.arrays.specs.Arrays.{tree_in}
use Rattle.laws.proofs.Tree.Trees.{tree_rows, tree_names}
use Rattle.tables.specs.Answers.{refusal_of, arrays_of}
use Rattle.tables.specs.Judged.{Refuses}
use Rattle.tables.proofs.Firsts.{or_else_first, or_else_second}
use Rattle.tables.proofs.Judging.{errs, at_first}
use Rattle.live_rules.specs.Layout.{rows_word, state_words}
use Rattle.live_rules.specs.State.{fresh_live, tree_stored, tags_stored, heads_stored, counts_stored, packets_stored, stored}
use Rattle.live_rules.specs.Outcomes.{fresh_refused, fresh_outcome, Made}
use Rattle.taking.specs.Taken.{left_of}
use Rattle.live_box.specs.Calls.{done_of}

module _ (table : Table) (words : List ℕ) where
  -- ── what is refused, in its order ──

  refusal_left : (r : Refusal) → Refuses (fresh_refused table words) r → Made table words (left_of (done_of (Err r)) words)
  unfolding fresh_outcome
  refusal_left r judged = rw (judged.1, ne_eqb (fresh_refused table words).number 0 judged.0)

  -- a refusal that is handed on
  pub handed_left :
      (e : Refusal) (r : Result (Unit {0}) Refusal) → IsErrAnd r (λ x. x ≡ e) → Refuses (fresh_refused table words) e
      → Made table words (left_of (done_of r) words)
  handed_left e (Ok none) same judged = absurd same
  handed_left e (Err x) same judged = rw same (refusal_left e judged)

  -- 1, by the lengths of the rows
  pub rows_first : (r : Refusal) → Refuses (rows_refused table) r → Refuses (fresh_refused table words) r
  unfolding fresh_refused first
  rows_first r judged = at_first (rows_refused table) _ r judged

  module _ (fine : (rows_refused table).number ≡ 0) where
    behind_rows : fresh_refused table words ≡ or_else (given (ltb (length words) state_words) 3 0) (or_else (table_refused table) nothing)
    unfolding fresh_refused first
    behind_rows = or_else_second (rows_refused table) _ fine

    -- 3, by the room for the state
    pub short_left : (r : Refusal) → r ≡ refusal_of 3 0 0 → length words < state_words → Made table words (left_of (done_of (Err r)) words)
    unfolding given
    short_left r is short =
        let whole : fresh_refused table words ≡ refusal_of 3 0 0 =
        behind_rows ∙ rw (lt-ltb (length words) state_words short) (or_else_first (refusal_of 3 0 0) _ (λ none. omega arith)) in
        refusal_left r (errs (fresh_refused table words) r (is ∙ sym whole) (rw is (λ none. omega arith)))

    module _ (room : state_words ≤ length words) where
      own_refused : fresh_refused table words ≡ or_else (table_refused table) nothing
      unfolding given nothing
      own_refused = behind_rows ∙ rw (le-ltb (length words) state_words room) (or_else_second nothing _ refl)

      -- then the table's own
      pub table_first : (r : Refusal) → Refuses (table_refused table) r → Refuses (fresh_refused table words) r
      table_first r judged = rw own_refused (at_first (table_refused table) nothing r judged)

      -- nothing is refused
      pub made_left :
          (state : List ℕ) → (table_refused table).number ≡ 0 → state ≡ stored (fresh_live table) words
          → Made table words (left_of (done_of (Ok tt)) state)
      unfolding fresh_outcome nothing
      made_left state passed written = rw (own_refused, or_else_second (table_refused table) nothing passed, written)

-- ── what is written ──

module _ (table : Table) (identifiers : List ℕ) (tree : TreeArrays) where
  pub all_written :
      table.identifiers ≡ identifiers → arrays_of (tree_of table) ≡ tree → (words : List ℕ)
      → counts_stored (length identifiers) (fresh_live table)
      (heads_stored (length identifiers) (fresh_live table).rows
      (tags_stored (length identifiers) (fresh_live table).rows
      (tree_stored (tree_in (length identifiers) identifiers tree) (sets words rows_word (length identifiers ∷ 0 ∷ [])))))
      ≡ stored (fresh_live table) words
  unfolding stored fresh_live packets_stored tree_stored
  all_written names same words = rw (← same, tree_rows table, tree_names table, names)
