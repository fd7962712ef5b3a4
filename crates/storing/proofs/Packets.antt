-- What the packets' words become when a packet joins or leaves, and which packet is found.
-- Assumes nothing.
use Prim.Native.Nat.{ℕ, zero, suc, ◌+◌, ◌≤◌, ◌<◌, ◌^◌}
use mathlib.Core.Path.{◌≡◌, refl, sym, ap, ◌∙◌}
use mathlib.Core.Logic.{◌≢◌}
use mathlib.Core.Bool.{Bool, true, false, cond}
use mathlib.Core.List.{List, [], ◌∷◌, ◌++◌, map, append-nil, append_assoc}
use native.Mathlib.Numerals.{add-one}
use native.Mathlib.Omega.{arith}
use lib.Dec.{eqb}
use borrow.Author.Tests.{eq-eqb, ne_eqb, eqb-true}
use lib.ListN.{length, get_or, set, take, drop, length-append, length-set, length-take, length-drop, drop_of_length-le}
use lib.Seq.{sets, length-sets, take-suc, take_all, length-take-le, drop-cons, drop-append-le, slice_empty}
use Rattle.input.specs.Limits.{most_bytes}
use Rattle.hierarchy.specs.Next.{next_of}
use Rattle.live_rules.specs.Layout.{words_at, classes_at, lengths_at, names_at, state_words}
use Rattle.live_rules.specs.Limits.{most_held}
use Rattle.live_rules.specs.State.{Held, packets_at, packets_stored, queue}
use Rattle.live_rules.specs.Taking.{without}
use Rattle.live_rules.proofs.Stretches.{words_length, words_get, words_fewer, words_late, sets_same, sets_snoc, get_late}
use Rattle.live_rules.proofs.Packets.{packet_in, packets_length, packets_get, class_in, length_in, name_in, classes_listed, lengths_listed, names_listed}
use Rattle.std.specs.Prelude.{Option, None, Some}
use Rattle.std.specs.Option.{MatchOption, unwrap_or}
use Rattle.std.specs.List.{AllWithin, HoldsAt}
use Rattle.std.proofs.lemmas.Iterator.{index_from_first}
use Rattle.std.proofs.lemmas.List.{length-map}
use Rattle.storing.specs.Packets.{Finds, place_of, left_out, Worded}

-- ── one list without a word: the gap is closed word by word ──

module _ (words : List ℕ) (at m i : ℕ) where
  abbrev all_of : List ℕ
  all_of = words_at at m words

  -- what stands first once the words behind the gap up to index j have moved down
  unfoldable pub front : ℕ → List ℕ
  front j = take i all_of ++ drop (suc i) (take (suc j) all_of)

  module _ (inside : at + m ≤ length words) (early : i < m) where
    front_length : (j : ℕ) → i ≤ j → j < m → length (front j) ≡ j
    unfolding front
    front_length j late within =
        let long = words_length at m words inside in
        simp (length-append, length-take, length-drop) (omega arith)

    pub closed_none : words ≡ sets words at (front i)
    unfolding front
    closed_none =
        rw (slice_empty (suc i) all_of, append-nil (take i all_of), words_fewer at i m words (omega arith)) (sym (sets_same at i words (omega arith)))

    one_further : (j : ℕ) → i ≤ j → suc j < m → front (suc j) ≡ front j ++ get_or words (at + suc j) 0 ∷ []
    unfolding front
    one_further j late within =
        let long = words_length at m words inside in
        let some = length-take-le (suc j) all_of (omega arith) in
        let x = get_or all_of (suc j) 0 in
        ap (λ (l : List ℕ). take i all_of ++ l)
        (ap (drop (suc i)) (take-suc all_of (suc j) 0 (omega arith)) ∙ drop-append-le (suc i) (take (suc j) all_of) (x ∷ []) (omega arith))
        ∙ sym (append_assoc (take i all_of) (drop (suc i) (take (suc j) all_of)) (x ∷ []))
        ∙ ap (λ (y : ℕ). front j ++ y ∷ []) (words_get at m words (suc j) within)

    -- one word moves down
    pub closed_turn :
        (state : List ℕ) (j : ℕ) → i ≤ j → j + 1 < m → state ≡ sets words at (front j)
        → set state (at + j) (get_or state (at + j + 1) 0) ≡ sets words at (front (j + 1))
    closed_turn state j late within before =
        let long = front_length j late (omega arith) in
        let e : at + j + 1 ≡ at + suc j = omega arith in
        rw (add-one j, before, e, get_late words at (front j) (at + suc j) (omega arith), one_further j late (omega arith))
        (sym (sets_snoc words at (front j) j (get_or words (at + suc j) 0) long))

    pub closed_all : (j : ℕ) → j < m → m ≤ j + 1 → front j ≡ left_out i (words_at at m words)
    unfolding front left_out
    closed_all j within end =
        let long = words_length at m words inside in
        rw (take_all (suc j) all_of (omega arith))

-- ── the three lists together ──

map_append : (f : Held → ℕ) (ps qs : List Held) → map f (ps ++ qs) ≡ map f ps ++ map f qs
map_append f [] qs = refl
map_append f (p ∷ ps) qs = ap (λ (l : List ℕ). f p ∷ l) (map_append f ps qs)

map_take : (f : Held → ℕ) (i : ℕ) (ps : List Held) → map f (take i ps) ≡ take i (map f ps)
map_take f zero ps = refl
map_take f (suc i) [] = refl
map_take f (suc i) (p ∷ ps) = ap (λ (l : List ℕ). f p ∷ l) (map_take f i ps)

map_drop : (f : Held → ℕ) (i : ℕ) (ps : List Held) → map f (drop i ps) ≡ drop i (map f ps)
map_drop f zero ps = refl
map_drop f (suc i) [] = refl
map_drop f (suc i) (p ∷ ps) = map_drop f i ps

map_left : (f : Held → ℕ) (i : ℕ) (ps : List Held) → map f (left_out i ps) ≡ left_out i (map f ps)
unfolding left_out
map_left f i ps = rw (map_append f (take i ps) (drop (suc i) ps), map_take f i ps, map_drop f (suc i) ps)

left_length : (i : ℕ) (xs : List ℕ) → length (left_out i xs) ≤ length xs
unfolding left_out
left_length i xs = simp (length-append, length-take, length-drop) (omega arith)

-- one list with a word more
joined_one :
    (at m x : ℕ) (state words : List ℕ) → at + m ≤ length state → words_at at m state ≡ words_at at m words
    → sets state at (words_at at m words ++ x ∷ []) ≡ set state (at + m) x
joined_one at m x state words inside same =
    rw (← same)
    (sets_snoc state at (words_at at m state) m x (words_length at m state inside)
    ∙ ap (λ (l : List ℕ). set l (at + m) x) (sets_same at m state inside))

module _ (m : ℕ) (words : List ℕ) (inside : state_words ≤ length words) where
  -- a packet more: a word more in each list
  pub packets_joined :
      m < most_held → (packet : Held)
      → set (set (set words (classes_at + m) packet.class) (lengths_at + m) packet.length) (names_at + m) packet.name
      ≡ packets_stored (packets_at m words ++ packet ∷ []) words
  unfolding packets_stored
  packets_joined few packet =
      let ps = packets_at m words in
      let one : List ℕ = set words (classes_at + m) packet.class in
      let two : List ℕ = set one (lengths_at + m) packet.length in
      let long_one = length-set words (classes_at + m) packet.class in
      let long_two = length-set one (lengths_at + m) packet.length in
      let lengths : words_at lengths_at m one ≡ words_at lengths_at m words =
      words_late lengths_at m words (classes_at + m) (packet.class ∷ []) (omega arith) in
      let names : words_at names_at m two ≡ words_at names_at m words =
      words_late names_at m one (lengths_at + m) (packet.length ∷ []) (omega arith)
      ∙ words_late names_at m words (classes_at + m) (packet.class ∷ []) (omega arith) in
      rw (
        map_append (λ (p : Held). p.class) ps (packet ∷ []),
        classes_listed m words (omega arith) inside,
        joined_one classes_at m packet.class words words (omega arith) refl,
        map_append (λ (p : Held). p.length) ps (packet ∷ []),
        lengths_listed m words (omega arith) inside,
        joined_one lengths_at m packet.length one words (omega arith) lengths,
        map_append (λ (p : Held). p.name) ps (packet ∷ []),
        names_listed m words (omega arith) inside,
        joined_one names_at m packet.name two words (omega arith) names,
      )

  -- a packet less: a word less in each list
  pub packets_left :
      m ≤ most_held → (i : ℕ) (one two three : List ℕ)
      → one ≡ sets words classes_at (left_out i (words_at classes_at m words))
      → two ≡ sets one lengths_at (left_out i (words_at lengths_at m one))
      → three ≡ sets two names_at (left_out i (words_at names_at m two))
      → three ≡ packets_stored (left_out i (packets_at m words)) words
  unfolding packets_stored
  packets_left few i one two three first second third =
      let ps = packets_at m words in
      let classes_few = left_length i (words_at classes_at m words) in
      let lengths_few = left_length i (words_at lengths_at m one) in
      let long_one : length one ≡ length words = rw first (length-sets words classes_at (left_out i (words_at classes_at m words))) in
      let classes_long = words_length classes_at m words (omega arith) in
      let lengths_long = words_length lengths_at m one (omega arith) in
      let same : words_at lengths_at m one ≡ words_at lengths_at m words =
      rw first (words_late lengths_at m words classes_at (left_out i (words_at classes_at m words)) (omega arith)) in
      let names_one : words_at names_at m one ≡ words_at names_at m words =
      rw first (words_late names_at m words classes_at (left_out i (words_at classes_at m words)) (omega arith)) in
      let names : words_at names_at m two ≡ words_at names_at m words =
      rw second (words_late names_at m one lengths_at (left_out i (words_at lengths_at m one)) (omega arith)) ∙ names_one in
      rw (
        map_left (λ (p : Held). p.class) i ps,
        classes_listed m words few inside,
        map_left (λ (p : Held). p.length) i ps,
        lengths_listed m words few inside,
        map_left (λ (p : Held). p.name) i ps,
        names_listed m words few inside,
        ← names,
        ← same,
        ← first,
        ← second,
      )
      third

-- ── the packet with a name ──

-- the packets without the one of a name are all but the one at its place
pub without_place : (name : ℕ) (ps : List Held) → without name ps ≡ left_out (place_of name ps) ps
unfolding without place_of left_out
without_place name [] = refl
without_place name (p ∷ ps) = go (eqb p.name name) (without_place name ps)
  where
    go :
        (b : Bool) → without name ps ≡ take (place_of name ps) ps ++ drop (suc (place_of name ps)) ps
        → cond b ps (p ∷ without name ps)
        ≡ take (cond b 0 (suc (place_of name ps))) (p ∷ ps) ++ drop (suc (cond b 0 (suc (place_of name ps)))) (p ∷ ps)
    go true later = refl
    go false later = ap (λ (l : List Held). p ∷ l) later

-- where a packet has the name, its place is one of theirs
pub place_inside : (name : ℕ) (ps : List Held) (k : ℕ) (d : Held) → k < length ps → (get_or ps k d).name ≡ name → place_of name ps < length ps
unfolding place_of
place_inside name [] k d inside same = absurd (omega arith)
place_inside name (p ∷ ps) zero d inside same = rw (eq-eqb p.name name same) (omega arith)
place_inside name (p ∷ ps) (suc k) d inside same = go (eqb p.name name) (place_inside name ps k d (omega arith) same)
  where
    go : (b : Bool) → place_of name ps < length ps → cond b 0 (suc (place_of name ps)) < suc (length ps)
    go true later = omega arith
    go false later = omega arith

-- and the packet there has it
pub place_named : (name : ℕ) (ps : List Held) (d : Held) → place_of name ps < length ps → (get_or ps (place_of name ps) d).name ≡ name
unfolding place_of
place_named name [] d inside = absurd (omega arith)
place_named name (p ∷ ps) d inside = go (eqb p.name name) refl inside (place_named name ps d)
  where
    go :
        (b : Bool) → eqb p.name name ≡ b → cond b 0 (suc (place_of name ps)) < suc (length ps)
        → (place_of name ps < length ps → (get_or ps (place_of name ps) d).name ≡ name)
        → (get_or (p ∷ ps) (cond b 0 (suc (place_of name ps))) d).name ≡ name
    go true same within later = eqb-true p.name name same
    go false other within later = later (omega arith)

-- the index of a name among the words of the names
place_in : ℕ → List ℕ → ℕ
place_in name [] = 0
place_in name (x ∷ xs) = cond (eqb x name) 0 (place_in name xs + 1)

place_listed : (name : ℕ) (ps : List Held) → place_in name (map (λ (p : Held). p.name) ps) ≡ place_of name ps
unfolding place_in place_of
place_listed name [] = refl
place_listed name (p ∷ ps) = rw (place_listed name ps, add-one (place_of name ps))

-- the first of the words that is the name is the packet's
pub finds_first :
    (name : ℕ) (ps : List Held) (words : List ℕ) (r : Option ℕ) → words ≡ map (λ (p : Held). p.name) ps
    → MatchOption r (AllWithin (λ x. x ≢ name) words 0 (length words))
    (λ i. (i < length words) × HoldsAt (λ x. x ≡ name) words i × AllWithin (λ x. x ≢ name) words 0 i)
    → Finds name ps r
unfolding place_in
finds_first name ps words r listed first =
    let long : length words ≡ length ps = rw listed (length-map ps (λ (p : Held). p.name)) in
    let at : place_of name ps ≡ unwrap_or r (length words) =
    sym (place_listed name ps) ∙ rw (← listed) (index_from_first (place_in name) (λ x. x ≡ name) (λ x. x ≢ name) refl
    (λ x xs here. rw (eq-eqb x name here))
    (λ x xs other. rw (ne_eqb x name other)) words r first) in
    told long r first at
  where
    told :
        length words ≡ length ps → (v : Option ℕ)
        → MatchOption v (AllWithin (λ x. x ≢ name) words 0 (length words))
        (λ i. (i < length words) × HoldsAt (λ x. x ≡ name) words i × AllWithin (λ x. x ≢ name) words 0 i)
        → place_of name ps ≡ unwrap_or v (length words) → Finds name ps v
    told long None none at = omega (arith, long, at)
    told long (Some i) some at = (omega (arith, some.0, long), sym at)

module _ (m : ℕ) (words : List ℕ) where
  nobody : Held
  nobody = record { class = 0; length = 0; name = 0 }

  abbrev all_packets : List Held
  all_packets = packets_at m words

  packets_from : (i : ℕ) → i < m → drop i all_packets ≡ packet_in i words ∷ drop (suc i) all_packets
  packets_from i within =
      let long = packets_length m words in
      drop-cons all_packets i nobody (omega arith) ∙ ap (λ (p : Held). p ∷ drop (suc i) all_packets) (packets_get m words i nobody within)

  packets_past : (i : ℕ) → m ≤ i → drop i all_packets ≡ []
  packets_past i past =
      let long = packets_length m words in
      drop_of_length-le all_packets {i = i} (omega arith)

  -- ── the next packet of a class ──

  module _ (class : ℕ) where
    pub next_here :
        (i : ℕ) → i < m → get_or words (classes_at + i) 0 ≡ class
        → take 1 (queue (drop i all_packets) class)
        ≡ record { place = get_or words (names_at + i) 0; length = get_or words (lengths_at + i) 0 } ∷ []
    unfolding queue
    next_here i within same =
        rw (packets_from i within, class_in i words, name_in i words, length_in i words, eq-eqb (get_or words (classes_at + i) 0) class same)

    pub next_later :
        (i : ℕ) → i < m → (get_or words (classes_at + i) 0 ≡ class → ⊥)
        → queue (drop i all_packets) class ≡ queue (drop (suc i) all_packets) class
    unfolding queue
    next_later i within other = rw (packets_from i within, class_in i words, ne_eqb (get_or words (classes_at + i) 0) class other)

    pub next_none : (i : ℕ) → m ≤ i → queue (drop i all_packets) class ≡ []
    unfolding queue
    next_none i past = rw (packets_past i past)

worded_get :
    (ps : List Held) (i : ℕ) (d : Held) → i < length ps → Worded ps → ((get_or ps i d).name + 1 < 2 ^ 32) × ((get_or ps i d).length ≤ most_bytes)
unfolding Worded
worded_get [] i d inside worded = absurd (omega arith)
worded_get (p ∷ ps) zero d inside worded = (worded.0, worded.1)
worded_get (p ∷ ps) (suc i) d inside worded = worded_get ps i d (omega arith) worded.2

pub worded_in :
    (m : ℕ) (words : List ℕ) (i : ℕ) → i < m → Worded (packets_at m words)
    → (get_or words (names_at + i) 0 + 1 < 2 ^ 32) × (get_or words (lengths_at + i) 0 ≤ most_bytes)
worded_in m words i within worded =
    let long = packets_length m words in
    let d : Held = record { class = 0; length = 0; name = 0 } in
    let both = worded_get (packets_at m words) i d (omega arith) worded in
    rw (packets_get m words i d within, name_in i words, length_in i words) at both

-- a name + 1 and a length are the packet of that name
pub next_word : (word size name length : ℕ) → word ≡ name + 1 → size ≡ length → next_of word size ≡ record { place = name; length = length } ∷ []
unfolding next_of
next_word word size name length one two = rw (one, add-one name, two)
