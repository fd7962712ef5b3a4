-- Words stored from a place on, and read again: what a stretch of words becomes, and what stays.
-- Assumes nothing.
use Prim.Native.Nat.{ℕ, zero, suc, ◌+◌, ◌-◌, ◌≤◌, ◌<◌}
use mathlib.Core.Path.{◌≡◌, refl, ap, ◌∙◌}
use mathlib.Core.List.{List, [], ◌∷◌, ◌++◌, append_assoc}
use native.Mathlib.Omega.{arith}
use lib.ListN.{length, get_or, set, take, drop, length-take, length-drop}
use lib.Seq.{sets, sets-eq, set-get_or, get_or-take, get_or-drop, get_or-set_other, take-suc, take-take, take_at, drop_at, drop-set-lt, drop-set-add, take-set-le, length-take-le}
use Rattle.live_rules.specs.Layout.{words_at}

-- ── reading ──

pub words_length : (at n : ℕ) (words : List ℕ) → at + n ≤ length words → length (words_at at n words) ≡ n
unfolding words_at
words_length at n words inside = simp (length-take, length-drop) (omega arith)

pub words_get : (at n : ℕ) (words : List ℕ) (i : ℕ) → i < n → get_or (words_at at n words) i 0 ≡ get_or words (at + i) 0
unfolding words_at
words_get at n words i early = get_or-take n (drop at words) i 0 early ∙ get_or-drop at words i 0

pub words_none : (at : ℕ) (words : List ℕ) → words_at at 0 words ≡ []
unfolding words_at
words_none at words = refl

-- fewer words
pub words_fewer : (at i n : ℕ) (words : List ℕ) → i ≤ n → take i (words_at at n words) ≡ words_at at i words
unfolding words_at
words_fewer at i n words fewer = take-take i n (drop at words) fewer

-- a word more
pub words_more :
    (at n : ℕ) (words : List ℕ) → at + n < length words → words_at at (suc n) words ≡ words_at at n words ++ get_or words (at + n) 0 ∷ []
unfolding words_at
words_more at n words inside =
    let long = length-drop at words in
    rw (← get_or-drop at words n 0) (take-suc (drop at words) n 0 (omega arith))

-- ── storing ──

-- one list after the other
pub sets_append :
    (words : List ℕ) (at : ℕ) (xs ys : List ℕ) → sets words at (xs ++ ys) ≡ sets (sets words at xs) (at + length xs) ys
sets_append words at [] ys = ap (λ (k : ℕ). sets words k ys) (omega arith)
sets_append words at (x ∷ xs) ys =
    let e : suc at + length xs ≡ at + suc (length xs) = omega arith in
    sets_append (set words at x) (suc at) xs ys ∙ ap (λ (k : ℕ). sets (sets (set words at x) (suc at) xs) k ys) e

-- and then one word
pub sets_snoc :
    (words : List ℕ) (at : ℕ) (xs : List ℕ) (n x : ℕ) → length xs ≡ n → sets words at (xs ++ x ∷ []) ≡ set (sets words at xs) (at + n) x
sets_snoc words at xs n x long = sets_append words at xs (x ∷ []) ∙ ap (λ (k : ℕ). set (sets words at xs) (at + k) x) long

-- what stands there is stored: nothing changes
pub sets_same : (at n : ℕ) (words : List ℕ) → at + n ≤ length words → sets words at (words_at at n words) ≡ words
sets_same at zero words inside = rw words_none
sets_same at (suc n) words inside =
    rw (
      words_more at n words (omega arith),
      sets_snoc words at (words_at at n words) n (get_or words (at + n) 0) (words_length at n words (omega arith)),
      sets_same at n words (omega arith),
    )
    (set-get_or words (at + n) 0)

-- ── what was stored is read ──

pub words_stored : (at n : ℕ) (xs words : List ℕ) → length xs ≡ n → at + n ≤ length words → words_at at n (sets words at xs) ≡ xs
unfolding words_at
words_stored at n xs words long inside =
    rw (sets-eq xs words at (omega arith), append_assoc, drop_at (take at words) (xs ++ drop (at + length xs) words) at (length-take-le at words (omega arith)))
    (take_at xs (drop (at + length xs) words) n long)

-- ── what was not stored stays ──

pub get_early : (words : List ℕ) (to : ℕ) (xs : List ℕ) (i : ℕ) → i < to → get_or (sets words to xs) i 0 ≡ get_or words i 0
get_early words to [] i early = refl
get_early words to (x ∷ xs) i early =
    get_early (set words to x) (suc to) xs i (omega arith) ∙ get_or-set_other words to i x 0 (λ same. omega arith)

pub get_late : (words : List ℕ) (to : ℕ) (xs : List ℕ) (i : ℕ) → to + length xs ≤ i → get_or (sets words to xs) i 0 ≡ get_or words i 0
get_late words to [] i late = refl
get_late words to (x ∷ xs) i late =
    get_late (set words to x) (suc to) xs i (omega arith) ∙ get_or-set_other words to i x 0 (λ same. omega arith)

one_late : (at n : ℕ) (words : List ℕ) (to x : ℕ) → to < at → words_at at n (set words to x) ≡ words_at at n words
unfolding words_at
one_late at n words to x early = ap (take n) (drop-set-lt at words to x early)

one_early : (at n : ℕ) (words : List ℕ) (to x : ℕ) → at + n ≤ to → words_at at n (set words to x) ≡ words_at at n words
unfolding words_at
one_early at n words to x late =
    let e : to ≡ at + (to - at) = omega arith in
    ap (λ (k : ℕ). take n (drop at (set words k x))) e ∙ ap (take n) (drop-set-add at words (to - at) x)
    ∙ take-set-le n (drop at words) (to - at) x (omega arith)

-- a stretch before what is stored
pub words_early :
    (at n : ℕ) (words : List ℕ) (to : ℕ) (xs : List ℕ) → at + n ≤ to → words_at at n (sets words to xs) ≡ words_at at n words
words_early at n words to [] early = refl
words_early at n words to (x ∷ xs) early = words_early at n (set words to x) (suc to) xs (omega arith) ∙ one_early at n words to x early

-- a stretch after what is stored
pub words_late :
    (at n : ℕ) (words : List ℕ) (to : ℕ) (xs : List ℕ) → to + length xs ≤ at → words_at at n (sets words to xs) ≡ words_at at n words
words_late at n words to [] late = refl
words_late at n words to (x ∷ xs) late = words_late at n (set words to x) (suc to) xs (omega arith) ∙ one_late at n words to x (omega arith)
