-- A statement on a routine's outcome leaves no choice: no two different outcomes meet it.
use Rattle.std.specs.Prelude.{◌≡◌}

abbrev pub Unique : {A : Type 0} → (A → Type 0) → Type 0
Unique {A} Meets = (one other : A) → Meets one → Meets other → one ≡ other
