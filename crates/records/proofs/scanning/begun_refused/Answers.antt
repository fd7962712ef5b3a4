-- `records::scanning::begun_refused` meets its contract: each answer by the tests on its way.
-- Assumes nothing.
use Prim.Native.Nat.{ℕ, ◌-◌}
use mathlib.Core.Path.{◌≡◌, refl, sym, ◌∙◌, ap}
use mathlib.Core.List.{List, [], ◌∷◌}
use native.Mathlib.Omega.{arith}
use lib.Dec.{ltb}
use lib.ListN.{length}
use borrow.Author.Tests.{lt-ltb, le-ltb}
use Rattle.input.specs.declared.Refusal.{Refusal}
use Rattle.input.specs.Refusals.{nothing, given, first}
use Rattle.pcap.specs.Headers.{record_bytes}
use Rattle.pcap.specs.Records.{packet_at, stamp_at}
use Rattle.pcap.specs.Faults.{not_ipv4, begun_refused}
use Rattle.records.proofs.Given.{holds, fails, fails_last}
use Rattle.tables.proofs.Judging.{refuses}
use Rattle.records.proofs.Laid.{packet_length, in_order}
use Rattle.records.proofs.scanning.begun_refused.Goals as goal

pub returns-then-left-lt-RECORD_BYTES : goal.returns-then-left-lt-RECORD_BYTES
unfolding begun_refused
returns-then-left-lt-RECORD_BYTES c =
    let short = lt-ltb (length c.args.capture.now - c.args.at) record_bytes c.if-left-lt-RECORD_BYTES.true in
    refuses c.refusal.ensures (omega arith) (rw (← c.requires.begins, ← c.record_place-place.ensures.0) (holds _ 35 _ _ short (omega arith)))

pub returns-then-left-included : goal.returns-then-left-included
unfolding begun_refused
returns-then-left-included c =
    let capture : List ℕ = c.args.capture.now in
    let at : ℕ = c.args.at in
    let left : ℕ = length capture - at - record_bytes in
    let place : ℕ = c.record_place-place.result in
    let past_header : begun_refused capture c.args.k
    ≡ first
    (given (ltb left c.included.result) 36 place
    ∷ given (not_ipv4 c.included.result (packet_at capture at)) 37 place
    ∷ given (ltb (stamp_at capture at) c.args.last) 38 place
    ∷ []) = rw (
      in_order capture c.args.k,
      ← c.requires.before,
      ← c.requires.begins,
      ← c.record_place-place.ensures.0,
      ← c.included.ensures.1 c.requires.laid,
    )
    (fails _ 35 _ _ (le-ltb (length capture - at) record_bytes c.if-left-lt-RECORD_BYTES.false)) in
    refuses c.refusal-then-left-included.ensures (omega arith) (past_header ∙ holds _ 36 _ _ (lt-ltb left c.included.result c.if-left-included.true) (omega arith))

pub returns-then-not_ipv4 : goal.returns-then-not_ipv4
unfolding begun_refused
returns-then-not_ipv4 c =
    let capture : List ℕ = c.args.capture.now in
    let at : ℕ = c.args.at in
    let left : ℕ = length capture - at - record_bytes in
    let place : ℕ = c.record_place-place.result in
    let past_header : begun_refused capture c.args.k
    ≡ first
    (given (ltb left c.included.result) 36 place
    ∷ given (not_ipv4 c.included.result (packet_at capture at)) 37 place
    ∷ given (ltb (stamp_at capture at) c.args.last) 38 place
    ∷ []) = rw (
      in_order capture c.args.k,
      ← c.requires.before,
      ← c.requires.begins,
      ← c.record_place-place.ensures.0,
      ← c.included.ensures.1 c.requires.laid,
    )
    (fails _ 35 _ _ (le-ltb (length capture - at) record_bytes c.if-left-lt-RECORD_BYTES.false)) in
    let past_packet : begun_refused capture c.args.k
    ≡ first
    (given c.not_ipv4.result 37 place
    ∷ given (ltb (stamp_at capture at) c.args.last) 38 place
    ∷ []) = let room = c.if-left-included.false in
    let bytes = c.included in
    let laid = c.requires.laid in
    let whole = packet_length capture at bytes.result (bytes.ensures.1 laid) room in
    let judged =
    c.not_ipv4.ensures ∙ ap (λ (packet : List ℕ). not_ipv4 (length packet) packet) (c.packet.ensures laid)
    ∙ ap (λ (n : ℕ). not_ipv4 n (packet_at capture at)) whole
    in
    past_header ∙ fails _ 36 _ _ (le-ltb left bytes.result room) ∙ rw (← judged) refl in refuses c.refusal-then-not_ipv4.ensures (omega arith) (past_packet ∙ holds _ 37 _ _ c.if-not_ipv4.true (omega arith))

pub returns-then-stamp-last : goal.returns-then-stamp-last
unfolding begun_refused
returns-then-stamp-last c =
    let capture : List ℕ = c.args.capture.now in
    let at : ℕ = c.args.at in
    let left : ℕ = length capture - at - record_bytes in
    let place : ℕ = c.record_place-place.result in
    let past_header : begun_refused capture c.args.k
    ≡ first
    (given (ltb left c.included.result) 36 place
    ∷ given (not_ipv4 c.included.result (packet_at capture at)) 37 place
    ∷ given (ltb (stamp_at capture at) c.args.last) 38 place
    ∷ []) = rw (
      in_order capture c.args.k,
      ← c.requires.before,
      ← c.requires.begins,
      ← c.record_place-place.ensures.0,
      ← c.included.ensures.1 c.requires.laid,
    )
    (fails _ 35 _ _ (le-ltb (length capture - at) record_bytes c.if-left-lt-RECORD_BYTES.false)) in
    let past_packet : begun_refused capture c.args.k
    ≡ first
    (given c.not_ipv4.result 37 place
    ∷ given (ltb (stamp_at capture at) c.args.last) 38 place
    ∷ []) = let room = c.if-left-included.false in
    let bytes = c.included in
    let laid = c.requires.laid in
    let whole = packet_length capture at bytes.result (bytes.ensures.1 laid) room in
    let judged =
    c.not_ipv4.ensures ∙ ap (λ (packet : List ℕ). not_ipv4 (length packet) packet) (c.packet.ensures laid)
    ∙ ap (λ (n : ℕ). not_ipv4 n (packet_at capture at)) whole
    in
    past_header ∙ fails _ 36 _ _ (le-ltb left bytes.result room) ∙ rw (← judged) refl in
    let last : ℕ = c.args.last in
    let stamped : ltb c.stamp.result last ≡ ltb (stamp_at capture at) last = ap (λ (n : ℕ). ltb n last) (c.stamp.ensures.1 c.requires.laid) in
    let past_ipv4 : begun_refused capture c.args.k
    ≡ first (given (ltb (stamp_at capture at) last) 38 place ∷ []) = past_packet ∙ fails _ 37 _ _ c.if-not_ipv4.false in
    let late = sym stamped ∙ lt-ltb c.stamp.result last c.if-stamp-last.true in
    refuses c.refusal-then-stamp-last.ensures (omega arith) (past_ipv4 ∙ holds _ 38 _ _ late (omega arith))

pub returns : goal.returns
unfolding begun_refused nothing
returns c =
    let capture : List ℕ = c.args.capture.now in
    let at : ℕ = c.args.at in
    let left : ℕ = length capture - at - record_bytes in
    let place : ℕ = c.record_place-place.result in
    let past_header : begun_refused capture c.args.k
    ≡ first
    (given (ltb left c.included.result) 36 place
    ∷ given (not_ipv4 c.included.result (packet_at capture at)) 37 place
    ∷ given (ltb (stamp_at capture at) c.args.last) 38 place
    ∷ []) = rw (
      in_order capture c.args.k,
      ← c.requires.before,
      ← c.requires.begins,
      ← c.record_place-place.ensures.0,
      ← c.included.ensures.1 c.requires.laid,
    )
    (fails _ 35 _ _ (le-ltb (length capture - at) record_bytes c.if-left-lt-RECORD_BYTES.false)) in
    let past_packet : begun_refused capture c.args.k
    ≡ first
    (given c.not_ipv4.result 37 place
    ∷ given (ltb (stamp_at capture at) c.args.last) 38 place
    ∷ []) = let room = c.if-left-included.false in
    let bytes = c.included in
    let laid = c.requires.laid in
    let whole = packet_length capture at bytes.result (bytes.ensures.1 laid) room in
    let judged =
    c.not_ipv4.ensures ∙ ap (λ (packet : List ℕ). not_ipv4 (length packet) packet) (c.packet.ensures laid)
    ∙ ap (λ (n : ℕ). not_ipv4 n (packet_at capture at)) whole
    in
    past_header ∙ fails _ 36 _ _ (le-ltb left bytes.result room) ∙ rw (← judged) refl in
    let last : ℕ = c.args.last in
    let stamped : ltb c.stamp.result last ≡ ltb (stamp_at capture at) last = ap (λ (n : ℕ). ltb n last) (c.stamp.ensures.1 c.requires.laid) in
    let past_ipv4 : begun_refused capture c.args.k
    ≡ first (given (ltb (stamp_at capture at) last) 38 place ∷ []) = past_packet ∙ fails _ 37 _ _ c.if-not_ipv4.false in
    let fine = sym stamped ∙ le-ltb c.stamp.result last c.if-stamp-last.false in
    (ap (λ (r : Refusal). r.number) (past_ipv4 ∙ fails_last _ 38 _ fine), refl)
