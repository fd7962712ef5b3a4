-- Words that name a packet, and words that name none.
-- Assumes nothing.
use Prim.Native.Nat.{ℕ, zero, suc, pred, ◌-◌}
use mathlib.Core.Path.{◌≡◌, refl}
use mathlib.Core.Logic.{◌≢◌}
use mathlib.Core.Bool.{Bool, true, false, not}
use mathlib.Core.List.{List, [], ◌∷◌}
use native.Mathlib.Omega.{arith}
use lib.Dec.{eqb}
use lib.ListN.{get_or, set}
use borrow.Author.Tests.{eq-eqb, ne_eqb}
use Rattle.rules.specs.Box.{Rows, head, has_head}
use Rattle.rules.specs.Steps.{sent}
use Rattle.queues.specs.Words.{followed, shortened, length_of, sent_word}

pub followed_some : (links : List ℕ) (n word : ℕ) → n ≢ 0 → followed links n word ≡ set links (n - 1) word
unfolding followed
followed_some links zero word some = absurd (some refl)
followed_some links (suc n) word some = let same : suc n - 1 ≡ n = omega arith in rw same

pub length_some : (lengths : List ℕ) (n : ℕ) → n ≢ 0 → length_of lengths n ≡ get_or lengths (n - 1) 0
unfolding length_of
length_some lengths zero some = absurd (some refl)
length_some lengths (suc n) some = let same : suc n - 1 ≡ n = omega arith in rw same

pub shortened_none : (lasts : List ℕ) (k next : ℕ) → next ≡ 0 → shortened lasts k next ≡ set lasts k 0
unfolding shortened
shortened_none lasts k next none = rw (eq-eqb next 0 none)

pub shortened_some : (lasts : List ℕ) (k next : ℕ) → next ≢ 0 → shortened lasts k next ≡ lasts
unfolding shortened
shortened_some lasts k next some = rw (ne_eqb next 0 some)

pub sent_none : (idle : Bool) (head : ℕ) → head ≡ 0 → sent_word idle head ≡ []
unfolding sent_word
sent_none true head none = rw (eq-eqb head 0 none)
sent_none false head none = refl

pub sent_busy : (idle : Bool) (head : ℕ) → idle ≡ false → sent_word idle head ≡ []
unfolding sent_word
sent_busy idle head busy = rw busy

pub sent_one : (idle : Bool) (head : ℕ) → idle ≡ true → head ≢ 0 → sent_word idle head ≡ (head - 1) ∷ []
unfolding sent_word
sent_one idle head idles some = let same : pred head ≡ head - 1 = omega arith in rw (idles, ne_eqb head 0 some, same)

not_not : (b : Bool) → not (not b) ≡ b
not_not true = refl
not_not false = refl

-- what an event puts on the line: at an arrival the line was idle or not
pub sent_arrived : (a b : Rows) → sent a b ≡ sent_word (eqb (head a 0) 0) (head b 0)
unfolding sent sent_word has_head
sent_arrived a b = rw (not_not (eqb (head a 0) 0))

-- at a finish it is idle
pub sent_finished : (a b : Rows) → head a 0 ≡ 0 → sent a b ≡ sent_word true (head b 0)
unfolding sent sent_word has_head
sent_finished a b none = rw none
