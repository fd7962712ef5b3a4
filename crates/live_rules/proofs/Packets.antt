-- The packets held, as three stretches of words.
-- Assumes nothing.
use Prim.Native.Nat.{ℕ, zero, suc, ◌+◌, ◌≤◌, ◌<◌}
use mathlib.Core.Path.{◌≡◌, refl, sym, ap, ◌∙◌}
use mathlib.Core.List.{List, [], ◌∷◌, ◌++◌, map}
use native.Mathlib.Decide.{ℕ_discrete}
use native.Mathlib.Omega.{arith}
use lib.ListN.{length, get_or, length-append, get_or-append, get_or-map}
use lib.Seq.{sets, get_or_at, ext_get_or}
use Rattle.live_rules.specs.Layout.{classes_at, lengths_at, names_at, state_words, words_at}
use Rattle.live_rules.specs.Limits.{most_held}
use Rattle.live_rules.specs.State.{Held, packets_at}
use Rattle.live_rules.proofs.Stretches.{words_none, words_get, words_more, get_late}

-- the packet at a place
unfoldable pub packet_in : ℕ → List ℕ → Held
packet_in i words =
    record { class = get_or words (classes_at + i) 0; length = get_or words (lengths_at + i) 0; name = get_or words (names_at + i) 0 }

packets_none : (words : List ℕ) → packets_at 0 words ≡ []
unfolding packets_at
packets_none words = refl

pub packets_more : (m : ℕ) (words : List ℕ) → packets_at (suc m) words ≡ packets_at m words ++ packet_in m words ∷ []
unfolding packets_at packet_in
packets_more m words = refl

pub packets_length : (m : ℕ) (words : List ℕ) → length (packets_at m words) ≡ m
unfolding packets_at packet_in
packets_length zero words = refl
packets_length (suc m) words =
    let before = packets_length m words in
    length-append (packets_at m words) (packet_in m words ∷ []) ∙ omega arith

pub packets_get : (m : ℕ) (words : List ℕ) (i : ℕ) (d : Held) → i < m → get_or (packets_at m words) i d ≡ packet_in i words
packets_get zero words i d early = absurd (omega arith)
packets_get (suc m) words i d early = rw (packets_more m words) (go (ℕ_discrete i m) (packets_get m words i d))
  where
    go :
        Dec (i ≡ m) → (i < m → get_or (packets_at m words) i d ≡ packet_in i words)
        → get_or (packets_at m words ++ packet_in m words ∷ []) i d ≡ packet_in i words
    go (yes same) before = rw same (get_or_at (packets_at m words) (packet_in m words) [] d m (packets_length m words))
    go (no other) before =
        let long = packets_length m words in
        get_or-append (packets_at m words) (packet_in m words ∷ []) d i (omega arith) ∙ before (omega arith)

-- ── each of the three lists ──

map_append : (f : Held → ℕ) (ps : List Held) (p : Held) → map f (ps ++ p ∷ []) ≡ map f ps ++ f p ∷ []
map_append f [] p = refl
map_append f (q ∷ ps) p = ap (λ (l : List ℕ). f q ∷ l) (map_append f ps p)

listed :
    (f : Held → ℕ) (at : ℕ) (words : List ℕ) (limit : ℕ) → at + limit ≤ length words
    → ((i : ℕ) → f (packet_in i words) ≡ get_or words (at + i) 0) → (m : ℕ) → m ≤ limit → map f (packets_at m words) ≡ words_at at m words
listed f at words limit inside same zero few = rw (words_none, packets_none)
listed f at words limit inside same (suc m) few =
    rw (
      packets_more m words,
      map_append f (packets_at m words) (packet_in m words),
      words_more at m words (omega arith),
      listed f at words limit inside same m (omega arith),
      same m,
    )

module _ (i : ℕ) (words : List ℕ) where
  pub class_in : (packet_in i words).class ≡ get_or words (classes_at + i) 0
  unfolding packet_in
  class_in = refl

  pub length_in : (packet_in i words).length ≡ get_or words (lengths_at + i) 0
  unfolding packet_in
  length_in = refl

  pub name_in : (packet_in i words).name ≡ get_or words (names_at + i) 0
  unfolding packet_in
  name_in = refl

module _ (m : ℕ) (words : List ℕ) (few : m ≤ most_held) (inside : state_words ≤ length words) where
  pub classes_listed : map (λ (p : Held). p.class) (packets_at m words) ≡ words_at classes_at m words
  classes_listed = listed (λ (p : Held). p.class) classes_at words most_held (omega arith) (λ i. class_in i words) m few

  pub lengths_listed : map (λ (p : Held). p.length) (packets_at m words) ≡ words_at lengths_at m words
  lengths_listed = listed (λ (p : Held). p.length) lengths_at words most_held (omega arith) (λ i. length_in i words) m few

  pub names_listed : map (λ (p : Held). p.name) (packets_at m words) ≡ words_at names_at m words
  names_listed = listed (λ (p : Held). p.name) names_at words most_held (omega arith) (λ i. name_in i words) m few

-- ── the three lists together ──

nobody : Held
nobody = record { class = 0; length = 0; name = 0 }

part_read :
    (f : Held → ℕ) (at m : ℕ) (words : List ℕ) (ps : List Held) → f nobody ≡ 0 → words_at at m words ≡ map f ps
    → (i : ℕ) → i < m → get_or words (at + i) 0 ≡ f (get_or ps i nobody)
part_read f at m words ps none same i within =
    sym (words_get at m words i within) ∙ ap (λ (l : List ℕ). get_or l i 0) same ∙ ap (λ (d : ℕ). get_or (map f ps) i d) (sym none)
    ∙ get_or-map f ps i nobody

-- packets whose three lists stand in the words are read
pub packets_of :
    (m : ℕ) (words : List ℕ) (ps : List Held) → length ps ≡ m
    → words_at classes_at m words ≡ map (λ (p : Held). p.class) ps → words_at lengths_at m words ≡ map (λ (p : Held). p.length) ps
    → words_at names_at m words ≡ map (λ (p : Held). p.name) ps → packets_at m words ≡ ps
unfolding packet_in nobody
packets_of m words ps long classes lengths names =
    let full = packets_length m words in
    ext_get_or nobody (packets_at m words) ps (omega arith) (λ i within. packets_get m words i nobody (omega arith) ∙ go i (omega arith))
  where
    go : (i : ℕ) → i < m → packet_in i words ≡ get_or ps i nobody
    go i within =
        rw (
          part_read (λ (p : Held). p.class) classes_at m words ps refl classes i within,
          part_read (λ (p : Held). p.length) lengths_at m words ps refl lengths i within,
          part_read (λ (p : Held). p.name) names_at m words ps refl names i within,
        )

-- what is stored before them leaves them
pub packets_late : (m : ℕ) (words : List ℕ) (to : ℕ) (xs : List ℕ) → to + length xs ≤ classes_at → packets_at m (sets words to xs) ≡ packets_at m words
unfolding packets_at
packets_late zero words to xs before = refl
packets_late (suc m) words to xs before =
    rw (
      packets_late m words to xs before,
      get_late words to xs (classes_at + m) (omega arith),
      get_late words to xs (lengths_at + m) (omega arith),
      get_late words to xs (names_at + m) (omega arith),
    )
