-- How long the text of an accepted table can be.
-- Assumes nothing.
use Prim.Native.Nat.{ℕ, zero, suc, ◌+◌, ◌*◌, ◌≤◌, ◌<◌}
use mathlib.Core.Path.{◌≡◌, refl, sym, ◌∙◌}
use mathlib.Core.Bool.{Bool, true, false, cond, not}
use mathlib.Core.List.{List, [], ◌∷◌, ◌++◌}
use mathlib.Mathlib.Data.Bool.Basic.{or-eq-false-eq-eq-false-and-eq-false as or-is-false}
use mathlib.Mathlib.Data.Bool.Basic.{and-eq-true-eq-eq-true-and-eq-true as and-is-true}
use native.Mathlib.Omega.{arith}
use lib.Dec.{leb, eqb}
use lib.ListN.{length, get_or, take, length-append}
use lib.Seq.{length-take-le, get_or-take}
use borrow.Author.Tests.{ltb-false, leb-true, eqb-true, eqb-false, not-false}
use Rattle.output.specs.Quoted.{bytes_of}
use Rattle.input.specs.Limits.{most_identifier, least_share, whole}
use Rattle.input.specs.Shares.{allowed}
use Rattle.input.specs.Classes.{Table, place_of, earlier, parent_of}
use Rattle.input.specs.Refusals.{rows_refused, root_refused, class_refused, row_refused, table_refused}
use Rattle.laws.proofs.Tree.Trees.{or_none, first_none, given_none, row_passes, place_most}
use Rattle.tables.proofs.Answering.{sized}
use Rattle.output.specs.Numbers.{decimal}
use Rattle.output.proofs.Numbers.{decimal_most}
use Rattle.forms.specs.Bytes.{line_end, table_heading}
use Rattle.forms.specs.Texts.{row_line, row_lines, table_text}
use Rattle.forms.specs.Outcomes.{Accepted}

-- where a number has a place in a list, it stands there
stands_there : (x : ℕ) (ys : List ℕ) → place_of x ys < length ys → get_or ys (place_of x ys) 0 ≡ x
unfolding place_of
stands_there x [] inside = absurd (omega arith)
stands_there x (y ∷ ys) inside = go (eqb x y) refl inside (stands_there x ys)
  where
    go : (b : Bool) → eqb x y ≡ b → cond b 0 (suc (place_of x ys)) < suc (length ys) → (place_of x ys < length ys → get_or ys (place_of x ys) 0 ≡ x)
        → get_or (y ∷ ys) (cond b 0 (suc (place_of x ys))) 0 ≡ x
    go true e inside later = sym (eqb-true x y e)
    go false e inside later = later (omega arith)

line_length : (a b c : ℕ) → length (row_line a b c) ≡ length (decimal a) + length (decimal b) + length (decimal c) + 4
unfolding row_line
line_length a b c = simp length-append (omega arith)

module _ (table : Table) (fine : (table_refused table).number ≡ 0) where
  abbrev rows : ℕ
  rows = length table.identifiers

  abbrev identifier : ℕ → ℕ
  identifier r = get_or table.identifiers r 0

  abbrev above : ℕ → ℕ
  above r = get_or table.parent_identifiers r 0

  abbrev part : ℕ → ℕ
  part r = get_or table.shares r 0

  identifier_most : (r : ℕ) → r < rows → identifier r ≤ most_identifier
  unfolding row_refused root_refused class_refused
  identifier_most zero inside = ltb-false most_identifier _ (given_none _ _ _ (first_none _ (row_passes table fine 0 inside)).1.0)
  identifier_most (suc r) inside = ltb-false most_identifier _ (given_none _ _ _ (first_none _ (row_passes table fine (suc r) inside)).1.0)

  -- a row's parent is an earlier row
  parent_most : (r : ℕ) → suc r < rows → above (suc r) ≤ most_identifier
  unfolding row_refused class_refused parent_of earlier
  parent_most r inside =
      let before = take (suc r) table.identifiers in
      let place = place_of (above (suc r)) before in
      let found = eqb-false place (suc r) (given_none _ _ _ (first_none _ (row_passes table fine (suc r) inside)).1.1.1.0) in
      let long = length-take-le (suc r) table.identifiers (omega arith) in
      let most = place_most (above (suc r)) before in
      let lower : place < suc r = omega arith in
      let there = sym (get_or-take (suc r) table.identifiers place 0 lower) ∙ stands_there (above (suc r)) before (omega arith) in
      rw (← there) (identifier_most place (omega arith))

  share_most : (r : ℕ) → suc r < rows → part (suc r) ≤ whole
  unfolding row_refused class_refused allowed
  share_most r inside =
      let ok = not-false _ (given_none _ _ _ (first_none _ (row_passes table fine (suc r) inside)).1.1.1.1.0) in
      leb-true (part (suc r)) whole ((and-is-true (leb least_share (part (suc r))) (leb (part (suc r)) whole)).0 ok).1

  root_none : 0 < rows → (above 0 ≡ 0) × (part 0 ≡ 0)
  unfolding row_refused root_refused
  root_none some =
      let both = (or-is-false (not (eqb (above 0) 0)) (not (eqb (part 0) 0))).0 (given_none _ _ _ (first_none _ (row_passes table fine 0 some)).1.1.0) in
      (eqb-true (above 0) 0 (not-false _ both.0), eqb-true (part 0) 0 (not-false _ both.1))

  -- the root's line is shorter by six
  lines_most : (n : ℕ) → suc n ≤ rows → length (row_lines table (suc n)) + 6 ≤ 17 * suc n
  unfolding row_lines
  lines_most zero inside =
      let none = root_none inside in
      let small = identifier_most 0 inside in
      let first = decimal_most (identifier 0) 5 (omega arith) (omega arith) (omega arith) in
      let second = decimal_most (above 0) 1 (omega arith) (omega arith) (omega arith) in
      let third = decimal_most (part 0) 1 (omega arith) (omega arith) (omega arith) in
      rw (line_length (identifier 0) (above 0) (part 0)) (omega arith)
  lines_most (suc n) inside =
      let before = lines_most n (omega arith) in
      let one = identifier_most (suc n) inside in
      let two = parent_most n inside in
      let three = share_most n inside in
      let first = decimal_most (identifier (suc n)) 5 (omega arith) (omega arith) (omega arith) in
      let second = decimal_most (above (suc n)) 5 (omega arith) (omega arith) (omega arith) in
      let third = decimal_most (part (suc n)) 3 (omega arith) (omega arith) (omega arith) in
      rw (length-append (row_lines table (suc n)) _, line_length (identifier (suc n)) (above (suc n)) (part (suc n))) (omega arith)

text_length : (table : Table) → length (table_text table) ≡ 25 + length (row_lines table (length table.identifiers))
unfolding table_text table_heading bytes_of
text_length table = length-append (table_heading ++ line_end) (row_lines table (length table.identifiers))

pub table_most : (table : Table) → Accepted table → length (table_text table) ≤ 4371
table_most table ok =
    let none = or_none (rows_refused table) (table_refused table) ok in
    go (length table.identifiers) refl (sized table none.0).some (sized table none.0).most (lines_most table none.1)
  where
    go : (n : ℕ) → length table.identifiers ≡ n → 0 < length table.identifiers → length table.identifiers ≤ 256
        → ((n : ℕ) → suc n ≤ length table.identifiers → length (row_lines table (suc n)) + 6 ≤ 17 * suc n) → length (table_text table) ≤ 4371
    go zero e some few most = absurd (omega arith)
    go (suc n) e some few most = let rows = most n (omega arith) in rw (text_length table, e) (omega arith)
