-- The records of a list's places: one place more, and past the last one.
-- Assumes nothing.
use Prim.Native.Nat.{ℕ, zero, suc, ◌+◌, ◌≤◌, ◌<◌, min}
use mathlib.Core.Path.{◌≡◌, sym, ap, ◌∙◌}
use mathlib.Core.List.{List}
use native.Mathlib.Decide.{ℕ_discrete, dec_le}
use native.Mathlib.Omega.{arith}
use lib.ListN.{length, get_or, set, get_or-eq_default}
use lib.Seq.{get_or-set_same, get_or-set_other}
use borrow.Author.Tests.{eq-eqb, ne_eqb}
use Rattle.input.specs.Events.{decode, event}
use Rattle.input.specs.Lent.{events_of}
use Rattle.rules.specs.Promise.{one_arrival}
use Rattle.pcap.specs.Printed.{record_of}
use Rattle.timetable.specs.Counted.{Recorded}

-- ── one event ──

pub none_arrives : (class length : ℕ) → class ≡ 0 → one_arrival (decode class length) ≡ 0
unfolding decode one_arrival
none_arrives class length none = rw (eq-eqb class 0 none)

pub one_arrives : (class length : ℕ) → (class ≡ 0 → ⊥) → one_arrival (decode class length) ≡ 1
unfolding decode one_arrival
one_arrives class length some = rw (ne_eqb class 0 some)

-- ── the records so far ──

-- those of the first n places
abbrev pub Below : List ℕ → List ℕ → ℕ → Type 0
Below classes records n = (lengths : List ℕ) (i : ℕ) → i < n → get_or records i 0 ≡ record_of (events_of classes lengths) i

-- one more, kept at its place
pub kept_at :
    (classes records : List ℕ) (n arrived : ℕ) → n < length records → ((lengths : List ℕ) → arrived ≡ record_of (events_of classes lengths) n)
    → Below classes records n → Below classes (set records n arrived) (suc n)
kept_at classes records n arrived inside counted below lengths i less = go (ℕ_discrete i n)
  where
    go : Dec (i ≡ n) → get_or (set records n arrived) i 0 ≡ record_of (events_of classes lengths) i
    go (yes same) = rw same (get_or-set_same records n arrived 0 inside ∙ counted lengths)
    go (no other) = get_or-set_other records n i arrived 0 other ∙ below lengths i (omega arith)

-- the words after it stay
pub rest_at :
    (records before : List ℕ) (n arrived : ℕ) → ((i : ℕ) → n ≤ i → get_or records i 0 ≡ get_or before i 0)
    → (i : ℕ) → suc n ≤ i → get_or (set records n arrived) i 0 ≡ get_or before i 0
rest_at records before n arrived rest i more = get_or-set_other records n i arrived 0 (λ same. omega arith) ∙ rest i (omega arith)

-- how many have arrived after one event more
pub one_more :
    (classes : List ℕ) (n arrived next : ℕ) → ((lengths : List ℕ) → arrived ≡ record_of (events_of classes lengths) n)
    → ((length : ℕ) → next ≡ arrived + one_arrival (decode (get_or classes n 0) length))
    → (lengths : List ℕ) → next ≡ record_of (events_of classes lengths) (suc n)
unfolding record_of event
one_more classes n arrived next counted after lengths = rw (← counted lengths) (after (get_or lengths n 0))

-- ── past the last place ──

past : (classes lengths : List ℕ) (i : ℕ) → length classes ≤ i → record_of (events_of classes lengths) i ≡ record_of (events_of classes lengths) (length classes)
unfolding record_of event
past classes lengths zero beyond = let none : 0 ≡ length classes = omega arith in ap (record_of (events_of classes lengths)) none
past classes lengths (suc i) beyond = go (dec_le (length classes) i) (past classes lengths i)
  where
    go :
        Dec (length classes ≤ i) → (length classes ≤ i → record_of (events_of classes lengths) i ≡ record_of (events_of classes lengths) (length classes))
        → record_of (events_of classes lengths) (suc i) ≡ record_of (events_of classes lengths) (length classes)
    go (yes more) before =
        let none = none_arrives (get_or classes i 0) (get_or lengths i 0) (get_or-eq_default classes 0 {n = i} more) in
        let same = before more in
        omega arith
    go (no last) before = let here : suc i ≡ length classes = omega arith in ap (record_of (events_of classes lengths)) here

-- at any place
pub record_known :
    (classes lengths records : List ℕ) → Recorded classes records
    → (i : ℕ) → get_or records (min i (length classes)) 0 ≡ record_of (events_of classes lengths) i
record_known classes lengths records kept i = go (dec_le i (length classes))
  where
    go : Dec (i ≤ length classes) → get_or records (min i (length classes)) 0 ≡ record_of (events_of classes lengths) i
    go (yes inside) = let here : min i (length classes) ≡ i = omega arith in rw here (kept lengths i inside)
    go (no beyond) =
        let last : min i (length classes) ≡ length classes = omega arith in
        rw last (kept lengths (length classes) (omega arith) ∙ sym (past classes lengths i (omega arith)))
