-- What reading leaves of a state's words; a state that was stored is read again.
-- Assumes nothing.
use Prim.Native.Nat.{ℕ, ◌*◌, ◌^◌}
use mathlib.Core.Path.{◌≡◌, refl, sym}
use mathlib.Core.Bool.{true≢false}
use mathlib.Core.List.{List, append-nil}
use native.Mathlib.Omega.{arith}
use lib.ListN.{length, replicate, length-replicate}
use lib.Seq.{drop-length}
use Rattle.rules.specs.Outcome.{over}
use Rattle.live_rules.specs.Layout.{state_words}
use Rattle.octets.specs.Octets.{bytes_of, words_of, AllBelow}
use Rattle.octets.proofs.Laws.{read_written}
use Rattle.std.specs.Prelude.{true, false, Bool, Result, Ok, Err, IsErr}
use Rattle.files.specs.declared.Stopped.{Stopped}
use Rattle.state_files.specs.Loaded.{words_read, LoadsState}

-- ── what reading leaves ──

pub whole :
    (bytes before now : List ℕ) → length bytes ≡ 8 * state_words → now ≡ over (words_of 8 bytes) before → LoadsState before now (Ok true)
unfolding words_read
whole bytes before now size read = record { bytes = bytes; size = size; words = read }

module _ (before : List ℕ) where
  pub otherwise : LoadsState before before (Ok false)
  unfolding words_read
  otherwise = record { bytes = replicate (8 * state_words) 0; size = length-replicate {A = ℕ} (8 * state_words) 0; words = refl }

  pub unread : (r : Result Bool Stopped) → IsErr r → LoadsState before before r
  unfolding words_read
  unread (Ok size) failed = absurd (true≢false (sym failed))
  unread (Err stopped) failed = record { bytes = replicate (8 * state_words) 0; size = length-replicate {A = ℕ} (8 * state_words) 0; words = refl }

-- ── what was stored ──

-- into as many words
pub again :
    (state before : List ℕ) → length before ≡ length state → AllBelow (256 ^ 8) state → words_read (bytes_of 8 state) before (Ok true) ≡ state
unfolding words_read over
again state before size small = rw (read_written 8 state (omega arith) small, ← size, drop-length before) (append-nil state)
