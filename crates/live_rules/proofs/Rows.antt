-- A list of rows that is read: the words of the rows in use, then zeros.
-- Assumes nothing.
use Prim.Native.Nat.{ℕ, suc, ◌+◌, ◌-◌, ◌≤◌, ◌<◌}
use mathlib.Core.Path.{◌≡◌, refl, sym, ap, ◌∙◌}
use mathlib.Core.List.{List, ◌++◌}
use native.Mathlib.Decide.{dec_le}
use native.Mathlib.Omega.{arith}
use lib.ListN.{length, get_or, set, take, drop, replicate, length-append, length-drop, length-replicate, get_or-replicate, get_or-append, get_or-eq_default}
use lib.Seq.{drop-cons, append_snoc, set_at, take_at, get_or-take, get_or-drop, get_or-append-add, ext_get_or}
use Rattle.input.specs.Limits.{most_rows}
use Rattle.input.specs.Classes.{zeros}
use Rattle.rules.specs.Outcome.{over}
use Rattle.live_rules.specs.Layout.{words_at, rows_at}
use Rattle.live_rules.proofs.Stretches.{words_length, words_get, words_more}

pub zeros_length : length zeros ≡ most_rows
unfolding zeros
zeros_length = length-replicate {A = ℕ} most_rows 0

pub rows_none : (at : ℕ) (words : List ℕ) → replicate most_rows 0 ≡ rows_at at 0 words
unfolding rows_at words_at over zeros
rows_none at words = refl

pub rows_split : (at n : ℕ) (words : List ℕ) → at + n ≤ length words → rows_at at n words ≡ words_at at n words ++ drop n zeros
unfolding rows_at over
rows_split at n words inside = rw (words_length at n words inside)

-- a row more
pub rows_more :
    (at r : ℕ) (words : List ℕ) → r < most_rows → at + r < length words
    → set (rows_at at r words) r (get_or words (at + r) 0) ≡ rows_at at (suc r) words
rows_more at r words few inside =
    let long = zeros_length in
    let x = get_or words (at + r) 0 in
    rw (rows_split at r words (omega arith), rows_split at (suc r) words (omega arith), words_more at r words inside, drop-cons zeros r 0 (omega arith))
    (set_at (words_at at r words) (get_or zeros r 0) (drop (suc r) zeros) x r (words_length at r words (omega arith))
    ∙ sym (append_snoc (words_at at r words) x (drop (suc r) zeros)))

-- the words of the rows in use
pub rows_first : (at n : ℕ) (words : List ℕ) → at + n ≤ length words → take n (rows_at at n words) ≡ words_at at n words
rows_first at n words inside =
    rw (rows_split at n words inside) (take_at (words_at at n words) (drop n zeros) n (words_length at n words inside))

pub rows_length : (at n : ℕ) (words : List ℕ) → n ≤ most_rows → at + n ≤ length words → length (rows_at at n words) ≡ most_rows
rows_length at n words few inside =
    let long = words_length at n words inside in
    let all = zeros_length in
    rw (rows_split at n words inside) (simp (length-append, length-drop) (omega arith))

-- a row in use has its word
pub rows_get : (at n : ℕ) (words : List ℕ) → at + n ≤ length words → (r : ℕ) → r < n → get_or (rows_at at n words) r 0 ≡ get_or words (at + r) 0
rows_get at n words inside r used =
    let long = words_length at n words inside in
    rw (rows_split at n words inside, get_or-append (words_at at n words) (drop n zeros) 0 r (omega arith)) (words_get at n words r used)

zeros_get : (r : ℕ) → get_or zeros r 0 ≡ 0
unfolding zeros
zeros_get r = go (dec_le most_rows r)
  where
    go : Dec (most_rows ≤ r) → get_or zeros r 0 ≡ 0
    go (yes late) = let long = zeros_length in get_or-eq_default zeros 0 {n = r} (omega arith)
    go (no early) = get_or-replicate {A = ℕ} most_rows r 0 0 (omega arith)

-- a row out of use has zero
pub rows_zero : (at n : ℕ) (words : List ℕ) → at + n ≤ length words → (r : ℕ) → n ≤ r → get_or (rows_at at n words) r 0 ≡ 0
rows_zero at n words inside r unused =
    let long = words_length at n words inside in
    let e : r ≡ length (words_at at n words) + (r - n) = omega arith in
    let f : n + (r - n) ≡ r = omega arith in
    rw (rows_split at n words inside)
    (ap (λ (k : ℕ). get_or (words_at at n words ++ drop n zeros) k 0) e ∙ get_or-append-add (words_at at n words) (drop n zeros) (r - n) 0
    ∙ get_or-drop n zeros (r - n) 0 ∙ ap (λ (k : ℕ). get_or zeros k 0) f ∙ zeros_get r)

-- a list of rows is its first rows and zeros
pub rows_of :
    (at n : ℕ) (words xs : List ℕ) → n ≤ most_rows → at + n ≤ length words → length xs ≡ most_rows → ((r : ℕ) → n ≤ r → get_or xs r 0 ≡ 0)
    → words_at at n words ≡ take n xs → rows_at at n words ≡ xs
rows_of at n words xs few inside long zero_after same =
    let full = rows_length at n words few inside in
    ext_get_or 0 (rows_at at n words) xs (omega arith) (λ r within. go r (dec_le n r))
  where
    go : (r : ℕ) → Dec (n ≤ r) → get_or (rows_at at n words) r 0 ≡ get_or xs r 0
    go r (yes unused) = rows_zero at n words inside r unused ∙ sym (zero_after r unused)
    go r (no used) =
        rows_get at n words inside r (omega arith) ∙ sym (words_get at n words r (omega arith)) ∙ ap (λ (l : List ℕ). get_or l r 0) same
        ∙ get_or-take n xs r 0 (omega arith)
