-- How a sentence names the file that a refusal is in, where there is one.
-- Assumes nothing.
use Prim.Native.Nat.{ℕ}
use mathlib.Core.Path.{◌≡◌, refl, sym}
use mathlib.Core.Bool.{true, false}
use mathlib.Core.List.{List, [], ◌∷◌, ◌++◌}
use native.Mathlib.Omega.{arith}
use borrow.Author.Tests.{eqb-true}
use Rattle.std.specs.Prelude.{◌==◌}
use lib.ListN.{length}
use Rattle.output.specs.Pages.{Page, Puts, with_text}
use Rattle.output.specs.Quoted.{bytes_of}
use Rattle.sentences.specs.Files.{shown, in_file}

module _ (name : List ℕ) (page page' : Page) where
  pub in_some : false ≡ (length name == 0) → Puts (bytes_of " in " ++ shown name) page page' → Puts (in_file name) page page'
  unfolding in_file
  in_some some puts = go name some puts
    where
      go : (n : List ℕ) → false ≡ (length n == 0) → Puts (bytes_of " in " ++ shown n) page page' → Puts (in_file n) page page'
      go [] some puts = cc
      go (byte ∷ rest) some puts = puts

pub in_none : (name : List ℕ) (page : Page) → true ≡ (length name == 0) → Puts (in_file name) page page
unfolding in_file with_text
in_none [] page none = refl
in_none (byte ∷ name) page none = absurd (let same = eqb-true (length (byte ∷ name)) 0 (sym none) in omega arith)
