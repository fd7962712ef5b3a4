-- `records::headers::header_refused` meets its contract: each answer by the tests on its way.
-- Assumes nothing.
use Prim.Native.Nat.{ℕ}
use mathlib.Core.Path.{◌≡◌, refl, sym, ap, ◌∙◌}
use mathlib.Core.Bool.{not, ◌||◌}
use mathlib.Core.List.{List, [], ◌∷◌}
use native.Mathlib.Omega.{arith}
use lib.Dec.{eqb}
use lib.ListN.{length}
use borrow.Author.Tests.{eq-eqb, ne_eqb, lt-ltb, le-ltb}
use Rattle.input.specs.declared.Refusal.{Refusal}
use Rattle.input.specs.Refusals.{nothing, given, or_else, first}
use Rattle.pcap.specs.Headers.{header_bytes, major_version, minor_version, raw_ip, word_at, half_at}
use Rattle.pcap.specs.Faults.{header_refused}
use Rattle.tables.proofs.Judging.{refuses}
use Rattle.records.proofs.headers.header_refused.Goals as goal

pub returns-then-rate-eq0 : goal.returns-then-rate-eq0
unfolding header_refused first or_else given nothing
returns-then-rate-eq0 c =
    let whole : c.refusal.result ≡ header_refused c.args.capture.now c.args.rate = rw (eq-eqb c.args.rate 0 c.if-rate-eq0.true) c.refusal.ensures in
    refuses c.refusal.ensures (omega arith) (sym whole ∙ c.refusal.ensures)

pub returns-then-capture-lt-HEADER_BYTES : goal.returns-then-capture-lt-HEADER_BYTES
unfolding header_refused first or_else given nothing
returns-then-capture-lt-HEADER_BYTES c =
    let a = c.args in
    let whole : c.refusal-then-capture-lt-HEADER_BYTES.result ≡ header_refused a.capture.now a.rate =
    rw (ne_eqb a.rate 0 c.if-rate-eq0.false, lt-ltb (length a.capture.now) header_bytes c.if-capture-lt-HEADER_BYTES.true)
    c.refusal-then-capture-lt-HEADER_BYTES.ensures in
    refuses c.refusal-then-capture-lt-HEADER_BYTES.ensures (omega arith) (sym whole ∙ c.refusal-then-capture-lt-HEADER_BYTES.ensures)

pub returns-then-not-any_magic : goal.returns-then-not-any_magic
unfolding header_refused first or_else given nothing
returns-then-not-any_magic c =
    let a = c.args in
    let whole : c.refusal-then-not-any_magic.result ≡ header_refused a.capture.now a.rate =
    rw (
      ne_eqb a.rate 0 c.if-rate-eq0.false,
      le-ltb (length a.capture.now) header_bytes c.if-capture-lt-HEADER_BYTES.false,
      ← c.any_magic.ensures,
      c.if-not-any_magic.true,
    )
    c.refusal-then-not-any_magic.ensures in
    refuses c.refusal-then-not-any_magic.ensures (omega arith) (sym whole ∙ c.refusal-then-not-any_magic.ensures)

pub returns-then-half-ne-MAJOR_VERSION : goal.returns-then-half-ne-MAJOR_VERSION
unfolding first or_else given nothing header_refused
returns-then-half-ne-MAJOR_VERSION c =
    let capture : List ℕ = c.args.capture.now in
    let rate : ℕ = c.args.rate in
    let past_magic : header_refused capture rate
    ≡ first
    (given
    (not (eqb (half_at c.layout_of-layout.result.big capture 4) major_version)
    || not (eqb (half_at c.layout_of-layout.result.big capture 6) minor_version)) 33 0
    ∷ given (not (eqb (word_at c.layout_of-layout.result.big capture 20) raw_ip)) 34 0
    ∷ []) = rw (
      ne_eqb rate 0 c.if-rate-eq0.false,
      le-ltb (length capture) header_bytes c.if-capture-lt-HEADER_BYTES.false,
      ← c.any_magic.ensures,
      c.if-not-any_magic.false,
      ← c.layout_of-layout.ensures,
    )
    refl in
    let half = c.half in
    refuses c.refusal-then-half-ne-MAJOR_VERSION.ensures (omega arith)
    (past_magic ∙ rw (← half.ensures, ne_eqb half.result major_version c.if-half-ne-MAJOR_VERSION.true) refl)

pub returns-then-half-ne-MINOR_VERSION : goal.returns-then-half-ne-MINOR_VERSION
unfolding first or_else given nothing header_refused
returns-then-half-ne-MINOR_VERSION c =
    let capture : List ℕ = c.args.capture.now in
    let rate : ℕ = c.args.rate in
    let past_magic : header_refused capture rate
    ≡ first
    (given
    (not (eqb (half_at c.layout_of-layout.result.big capture 4) major_version)
    || not (eqb (half_at c.layout_of-layout.result.big capture 6) minor_version)) 33 0
    ∷ given (not (eqb (word_at c.layout_of-layout.result.big capture 20) raw_ip)) 34 0
    ∷ []) = rw (
      ne_eqb rate 0 c.if-rate-eq0.false,
      le-ltb (length capture) header_bytes c.if-capture-lt-HEADER_BYTES.false,
      ← c.any_magic.ensures,
      c.if-not-any_magic.false,
      ← c.layout_of-layout.ensures,
    )
    refl in
    let minor = c.half-2 in
    refuses c.refusal-then-half-ne-MINOR_VERSION.ensures (omega arith)
    (past_magic
    ∙ rw (
      ← c.half.ensures,
      eq-eqb c.half.result major_version c.if-half-ne-MAJOR_VERSION.false,
      ← minor.ensures,
      ne_eqb minor.result minor_version c.if-half-ne-MINOR_VERSION.true,
    )
    refl)

pub returns-then-word-ne-RAW_IP : goal.returns-then-word-ne-RAW_IP
unfolding first or_else given nothing header_refused
returns-then-word-ne-RAW_IP c =
    let capture : List ℕ = c.args.capture.now in
    let rate : ℕ = c.args.rate in
    let past_magic : header_refused capture rate
    ≡ first
    (given
    (not (eqb (half_at c.layout_of-layout.result.big capture 4) major_version)
    || not (eqb (half_at c.layout_of-layout.result.big capture 6) minor_version)) 33 0
    ∷ given (not (eqb (word_at c.layout_of-layout.result.big capture 20) raw_ip)) 34 0
    ∷ []) = rw (
      ne_eqb rate 0 c.if-rate-eq0.false,
      le-ltb (length capture) header_bytes c.if-capture-lt-HEADER_BYTES.false,
      ← c.any_magic.ensures,
      c.if-not-any_magic.false,
      ← c.layout_of-layout.ensures,
    )
    refl in
    let past_version : header_refused capture rate
    ≡ first (given (not (eqb c.word.result raw_ip)) 34 0 ∷ []) = past_magic
    ∙ rw (
      ← c.half.ensures,
      eq-eqb c.half.result major_version c.if-half-ne-MAJOR_VERSION.false,
      ← c.half-2.ensures,
      eq-eqb c.half-2.result minor_version c.if-half-ne-MINOR_VERSION.false,
      ← c.word.ensures,
    )
    refl in
    refuses c.refusal-then-word-ne-RAW_IP.ensures (omega arith)
    (past_version ∙ rw (ne_eqb c.word.result raw_ip c.if-word-ne-RAW_IP.true) refl)

pub returns : goal.returns
unfolding first or_else given nothing header_refused
returns c =
    let capture : List ℕ = c.args.capture.now in
    let rate : ℕ = c.args.rate in
    let past_magic : header_refused capture rate
    ≡ first
    (given
    (not (eqb (half_at c.layout_of-layout.result.big capture 4) major_version)
    || not (eqb (half_at c.layout_of-layout.result.big capture 6) minor_version)) 33 0
    ∷ given (not (eqb (word_at c.layout_of-layout.result.big capture 20) raw_ip)) 34 0
    ∷ []) = rw (
      ne_eqb rate 0 c.if-rate-eq0.false,
      le-ltb (length capture) header_bytes c.if-capture-lt-HEADER_BYTES.false,
      ← c.any_magic.ensures,
      c.if-not-any_magic.false,
      ← c.layout_of-layout.ensures,
    )
    refl in
    let past_version : header_refused capture rate
    ≡ first (given (not (eqb c.word.result raw_ip)) 34 0 ∷ []) = past_magic
    ∙ rw (
      ← c.half.ensures,
      eq-eqb c.half.result major_version c.if-half-ne-MAJOR_VERSION.false,
      ← c.half-2.ensures,
      eq-eqb c.half-2.result minor_version c.if-half-ne-MINOR_VERSION.false,
      ← c.word.ensures,
    )
    refl in
    let none : header_refused capture rate ≡ nothing = past_version ∙ rw (eq-eqb c.word.result raw_ip c.if-word-ne-RAW_IP.false) refl in
    (ap (λ (r : Refusal). r.number) none, refl)
