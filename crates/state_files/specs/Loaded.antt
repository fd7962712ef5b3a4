-- A state's file in the words lent for it. Which bytes the system gives nothing can say, but the words are those of some file of that size.
use Rattle.std.specs.Prelude.{ℕ, ◌*◌, ◌≡◌, Bool, true, false, List, length, Result, Ok, Err}
use Rattle.rules.specs.Outcome.{over}
use Rattle.live_rules.specs.Layout.{state_words}
use Rattle.octets.specs.Octets.{words_of}
use Rattle.files.specs.declared.Stopped.{Stopped}

-- of the words, before and after: those of a file of so many bytes, or as they were where it has another size or could not be read
unfoldable pub words_read : List ℕ → List ℕ → Result Bool Stopped → List ℕ
words_read bytes before (Ok true) = over (words_of 8 bytes) before
words_read bytes before (Ok false) = before
words_read bytes before (Err stopped) = before

pub record LoadsState (before now : List ℕ) (r : Result Bool Stopped) : Type 0 where
  pub bytes : List ℕ
  pub size : length bytes ≡ 8 * state_words
  pub words : now ≡ words_read bytes before r
