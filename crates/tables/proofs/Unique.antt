-- Each contract leaves no choice.
-- Assumes nothing.
use Prim.Native.Nat.{ℕ}
use mathlib.Core.Path.{refl, sym, ◌∙◌, ap}
use mathlib.Core.List.{List}
use native.Mathlib.Omega.{arith}
use Rattle.std.specs.Prelude.{Ok, Err, Some, None}
use Rattle.words.specs.Unique.{Unique}
use Rattle.input.specs.declared.Refusal.{Refusal}
use Rattle.input.specs.Classes.{Table, tree_of}
use Rattle.input.specs.Refusals.{or_else, rows_refused, table_refused}
use Rattle.tables.specs.Judged.{Judged}
use Rattle.tables.specs.Answers.{accepting}
use Rattle.tables.specs.Stated.{Reads, Finds}

pub one_judged : {A : Type 0} (refusal : Refusal) (found : A) → Unique (Judged refusal found)
one_judged refusal found (Ok x) (Ok y) first second = ap Ok (first.1 ∙ sym second.1)
one_judged refusal found (Ok x) (Err r) first second = absurd (second.0 first.0)
one_judged refusal found (Err r) (Ok x) first second = absurd (first.0 second.0)
one_judged refusal found (Err r) (Err s) first second = ap Err (first.1 ∙ sym second.1)

pub one_reading : (table : Table) → Unique (Reads table)
one_reading table = one_judged (or_else (rows_refused table) (table_refused table)) (accepting (tree_of table))

pub one_row : (identifiers : List ℕ) (class : ℕ) → Unique (Finds identifiers class)
one_row identifiers class (Some r) (Some s) first second = ap Some (first.0 ∙ sym second.0)
one_row identifiers class (Some r) None first second = absurd (omega arith)
one_row identifiers class None (Some r) first second = absurd (omega arith)
one_row identifiers class None None first second = refl
