-- One turn of each loop over rows.
-- Assumes nothing.
use Prim.Native.Nat.{ℕ, ◌+◌, ◌<◌}
use mathlib.Core.Path.{◌≡◌, refl, sym}
use mathlib.Core.List.{List}
use native.Mathlib.Numerals.{add-one}
use native.Mathlib.Omega.{arith}
use lib.ListN.{length, get_or, set, take}
use lib.Seq.{take-suc, length-take-le}
use Rattle.input.specs.Limits.{most_rows}
use Rattle.live_rules.specs.Layout.{rows_at}
use Rattle.live_rules.specs.State.{rows_stored}
use Rattle.live_rules.proofs.Stretches.{sets_snoc}
use Rattle.live_rules.proofs.Rows.{rows_more}

-- ── a row more is read ──

pub read_turn :
    (list words : List ℕ) (at r x : ℕ) → r < most_rows → at + r < length words → x ≡ get_or words (at + r) 0 → list ≡ rows_at at r words
    → set list r x ≡ rows_at at (r + 1) words
read_turn list words at r x few inside word before = rw (add-one r, before, word) (rows_more at r words few inside)

-- ── a row more is written ──

pub written_none : (words list : List ℕ) (at : ℕ) → words ≡ rows_stored at 0 list words
unfolding rows_stored
written_none words list at = refl

pub written_turn :
    (state words list : List ℕ) (at r x : ℕ) → r < length list → x ≡ get_or list r 0 → state ≡ rows_stored at r list words
    → set state (at + r) x ≡ rows_stored at (r + 1) list words
unfolding rows_stored
written_turn state words list at r x inside entry before =
    rw (add-one r, before, entry, take-suc list r 0 inside)
    (sym (sets_snoc words at (take r list) r (get_or list r 0) (length-take-le r list (omega arith))))
