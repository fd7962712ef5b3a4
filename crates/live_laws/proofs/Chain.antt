-- Stretches of words stored one after the other, each behind the last: each is read as it was stored.
-- Assumes nothing.
use Prim.Native.Nat.{ℕ, zero, suc, ◌+◌, ◌≤◌, ◌<◌}
use mathlib.Core.Path.{◌≡◌, refl, ◌∙◌}
use mathlib.Core.List.{List, [], ◌∷◌}
use native.Mathlib.Omega.{arith}
use lib.ListN.{length, get_or}
use lib.Seq.{sets, length-sets}
use Rattle.live_rules.specs.Layout.{words_at}
use Rattle.live_rules.proofs.Stretches.{words_early, words_stored}

pub record Stretch : Type 0 where
  pub at : ℕ
  pub list : List ℕ

unfoldable pub chain : List Stretch → List ℕ → List ℕ
chain [] words = words
chain (one ∷ later) words = chain later (sets words one.at one.list)

-- each begins where the one before it ends, or later; the last ends at `end` at the latest
unfoldable pub Rising : ℕ → ℕ → List Stretch → Type 0
Rising least end [] = least ≤ end
Rising least end (one ∷ later) = (least ≤ one.at) × Rising (one.at + length one.list) end later

pub chain_length : (chained : List Stretch) (words : List ℕ) → length (chain chained words) ≡ length words
unfolding chain
chain_length [] words = refl
chain_length (one ∷ later) words = chain_length later (sets words one.at one.list) ∙ length-sets words one.at one.list

rising_end : (chained : List Stretch) (least end : ℕ) → Rising least end chained → least ≤ end
unfolding Rising
rising_end [] least end rising = rising
rising_end (one ∷ later) least end rising =
    let behind = rising_end later (one.at + length one.list) end rising.1 in
    let begins = rising.0 in
    omega arith

-- what stands before all of them stays
chain_early :
    (chained : List Stretch) (words : List ℕ) (least end : ℕ) → Rising least end chained
    → (at n : ℕ) → at + n ≤ least → words_at at n (chain chained words) ≡ words_at at n words
unfolding chain Rising
chain_early [] words least end rising at n early = refl
chain_early (one ∷ later) words least end rising at n early =
    let begins = rising.0 in
    chain_early later (sets words one.at one.list) (one.at + length one.list) end rising.1 at n (omega arith)
    ∙ words_early at n words one.at one.list (omega arith)

pub chain_read :
    (chained : List Stretch) (words : List ℕ) (least end : ℕ) → Rising least end chained → end ≤ length words
    → (none : Stretch) (k : ℕ) → k < length chained
    → words_at (get_or chained k none).at (length (get_or chained k none).list) (chain chained words) ≡ (get_or chained k none).list
unfolding chain Rising
chain_read [] words least end rising inside none k within = absurd (omega arith)
chain_read (one ∷ later) words least end rising inside none zero within =
    let ends = rising_end later (one.at + length one.list) end rising.1 in
    chain_early later (sets words one.at one.list) (one.at + length one.list) end rising.1 one.at (length one.list) (omega arith)
    ∙ words_stored one.at (length one.list) one.list words refl (omega arith)
chain_read (one ∷ later) words least end rising inside none (suc k) within =
    let long = length-sets words one.at one.list in
    chain_read later (sets words one.at one.list) (one.at + length one.list) end rising.1 (omega arith) none k (omega arith)
