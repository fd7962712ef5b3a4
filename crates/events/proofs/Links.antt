-- Queues stay chains: a packet that joins one is linked to its last, and a packet that leaves one was its first.
-- Assumes nothing.
use Prim.Native.Nat.{ℕ, zero, suc, ◌≤◌, ◌<◌}
use mathlib.Core.Path.{◌≡◌, refl, sym, ap, ◌∙◌, subst}
use mathlib.Core.Logic.{◌≢◌}
use mathlib.Core.List.{List, [], ◌∷◌, ◌++◌, tail}
use native.Mathlib.Decide.{ℕ_discrete}
use native.Mathlib.Omega.{arith}
use lib.ListN.{length, get_or, set, take, drop, length-set}
use lib.Seq.{get_or-set_same, get_or-set_other, drop-set-lt}
use Rattle.input.specs.Classes.{Tree, row_of}
use Rattle.input.specs.Events.{Events, count, class_word, length_word}
use Rattle.rules.specs.Box.{Packet, Box, queue_of, line_class}
use Rattle.rules.specs.Steps.{arrival, departure}
use Rattle.laws.specs.Sound.{Sound, Sender}
use Rattle.laws.specs.Kept.{InLine, Kept}
use Rattle.laws.proofs.Event.Queues.{each_queue}
use Rattle.hierarchy.specs.Next.{next_of}
use Rattle.queues.specs.Words.{followed, shortened, length_of}
use Rattle.events.specs.Links.{first_word, last_word, Chain, Linked}
use Rattle.queues.proofs.Words.{shortened_none, shortened_some}

-- ── one word written ──

followed_other : (links : List ℕ) (n word j : ℕ) → n ≢ suc j → get_or (followed links n word) j 0 ≡ get_or links j 0
unfolding followed
followed_other links zero word j other = refl
followed_other links (suc n) word j other = get_or-set_other links n j word 0 (λ same. other (ap suc (sym same)))

pub followed_beyond : (links : List ℕ) (n word m : ℕ) → n ≤ m → drop m (followed links n word) ≡ drop m links
unfolding followed
followed_beyond links zero word m few = refl
followed_beyond links (suc n) word m few = drop-set-lt m links n word (omega arith)

shortened_full : (lasts : List ℕ) (k next : ℕ) → length (shortened lasts k next) ≡ length lasts
shortened_full lasts k next = go (ℕ_discrete next 0)
  where
    go : Dec (next ≡ 0) → length (shortened lasts k next) ≡ length lasts
    go (yes none) = rw (shortened_none lasts k next none) (length-set lasts k 0)
    go (no some) = rw (shortened_some lasts k next some)

shortened_other : (lasts : List ℕ) (k next j : ℕ) → j ≢ k → get_or (shortened lasts k next) j 0 ≡ get_or lasts j 0
shortened_other lasts k next j apart = go (ℕ_discrete next 0)
  where
    go : Dec (next ≡ 0) → get_or (shortened lasts k next) j 0 ≡ get_or lasts j 0
    go (yes none) = rw (shortened_none lasts k next none) (get_or-set_other lasts k j 0 0 apart)
    go (no some) = rw (shortened_some lasts k next some)

-- ── a queue's first and last ──

pub last_before : (now most least : ℕ) (queue : List Packet) → InLine now most least queue → last_word queue ≤ now
unfolding InLine last_word
last_before now most least [] line = omega arith
last_before now most least (packet ∷ []) line = omega arith
last_before now most least (packet ∷ next ∷ later) line = last_before now most (suc packet.place) (next ∷ later) line.4

last_after : (now most least : ℕ) (packet : Packet) (later : List Packet) → InLine now most least (packet ∷ later) → least < last_word (packet ∷ later)
unfolding InLine last_word
last_after now most least packet [] line = omega arith
last_after now most least packet (next ∷ later) line = let rest = last_after now most (suc packet.place) next later line.4 in omega arith

last_joined : (queue : List Packet) (packet : Packet) → last_word (queue ++ packet ∷ []) ≡ suc packet.place
unfolding last_word
last_joined [] packet = refl
last_joined (first ∷ []) packet = refl
last_joined (first ∷ next ∷ later) packet = last_joined (next ∷ later) packet

pub first_before : (now most least : ℕ) (queue : List Packet) → InLine now most least queue → first_word queue ≤ now
unfolding InLine first_word
first_before now most least [] line = omega arith
first_before now most least (packet ∷ later) line = omega arith

last_left : (lasts : List ℕ) (k : ℕ) (first : Packet) (later : List Packet) → k < length lasts → get_or lasts k 0 ≡ last_word (first ∷ later)
    → get_or (shortened lasts k (first_word later)) k 0 ≡ last_word later
unfolding last_word first_word
last_left lasts k first [] inside last = rw (shortened_none lasts k 0 refl) (get_or-set_same lasts k 0 0 inside)
last_left lasts k first (next ∷ later) inside last = rw (shortened_some lasts k (suc next.place) (omega arith)) last

-- ── chains ──

module _ (tree : Tree) (events : Events) where
  abbrev class_of : ℕ → ℕ
  class_of i = row_of tree (class_word events i)

  -- a link at another class's packet is none of the chain's
  chain_set : (links : List ℕ) (k place word : ℕ) (queue : List Packet) → class_of place ≢ k → Chain tree events links k queue → Chain tree events (set links place word) k queue
  unfolding Chain
  chain_set links k place word [] other chain = tt
  chain_set links k place word (packet ∷ later) other chain = (
    get_or-set_other links place packet.place word 0 (λ same. other (sym (ap class_of same) ∙ chain.1)) ∙ chain.0,
    chain.1,
    chain.2,
    chain_set links k place word later other chain.3,
  )

  last_class : (links : List ℕ) (k : ℕ) (packet : Packet) (later : List Packet) → Chain tree events links k (packet ∷ later)
      → (place : ℕ) × (last_word (packet ∷ later) ≡ suc place) × (class_of place ≡ k)
  unfolding Chain last_word
  last_class links k packet [] chain = (packet.place, refl, chain.1)
  last_class links k packet (next ∷ later) chain = last_class links k next later chain.3

  -- so another class's chain is kept when a packet joins
  chain_kept : (links : List ℕ) (k j word : ℕ) (own queue : List Packet) → j ≢ k → Chain tree events links k own → Chain tree events links j queue
      → Chain tree events (followed links (last_word own) word) j queue
  unfolding followed last_word
  chain_kept links k j word [] queue apart own chain = chain
  chain_kept links k j word (packet ∷ later) queue apart own chain =
      let (place, last, class) = last_class links k packet later own in
      subst (λ (n : ℕ). Chain tree events (followed links n word) j queue) (sym last)
      (chain_set links j place word queue (λ same. apart (sym same ∙ class)) chain)

  chain_joined : (links : List ℕ) (k now most least bytes : ℕ) (queue : List Packet) → InLine now most least queue → Chain tree events links k queue
      → now ≤ length links → get_or links now 0 ≡ 0 → class_of now ≡ k → length_word events now ≡ bytes
      → Chain tree events (followed links (last_word queue) (suc now)) k (queue ++ record { place = now; length = bytes } ∷ [])
  unfolding Chain InLine first_word last_word followed
  chain_joined links k now most least bytes [] line chain room none class long = (none, class, long, tt)
  chain_joined links k now most least bytes (packet ∷ []) line chain room none class long = (
    get_or-set_same links packet.place (suc now) 0 (omega arith),
    chain.1,
    chain.2,
    (get_or-set_other links packet.place now (suc now) 0 (omega arith) ∙ none, class, long, tt),
  )
  chain_joined links k now most least bytes (packet ∷ next ∷ later) line chain room none class long =
      let past = last_after now most (suc packet.place) next later line.4 in (
        followed_other links (last_word (next ∷ later)) (suc now) packet.place (omega arith) ∙ chain.0,
        chain.1,
        chain.2,
        chain_joined links k now most (suc packet.place) bytes (next ∷ later) line.4 chain.3 room none class long,
      )

  chain_tail : (links : List ℕ) (k : ℕ) (queue : List Packet) → Chain tree events links k queue → Chain tree events links k (tail queue)
  unfolding Chain
  chain_tail links k [] chain = tt
  chain_tail links k (packet ∷ later) chain = chain.3

  -- the first packet of a chain, by its word
  pub chain_first : (links : List ℕ) (k : ℕ) (queue : List Packet) → Chain tree events links k queue
      → take 1 queue ≡ next_of (first_word queue) (length_of events.lengths (first_word queue))
  unfolding Chain first_word next_of length_of
  chain_first links k [] chain = refl
  chain_first links k (packet ∷ later) chain = rw chain.2

  pub chain_length : (links : List ℕ) (k now most least : ℕ) (queue : List Packet) → InLine now most least queue → Chain tree events links k queue
      → length_of events.lengths (first_word queue) ≤ most
  unfolding Chain InLine first_word length_of
  chain_length links k now most least [] line chain = omega arith
  chain_length links k now most least (packet ∷ later) line chain = omega arith

-- ── events ──

module _ (tree : Tree) (sound : Sound tree) (events : Events) (big : ℕ → ℕ) (i : ℕ) (box : Box) (kept : Kept tree big i box)
    (inside : i < count events) (lasts links : List ℕ) (linked : Linked tree events i box lasts links) where
  few : (k : ℕ) → Sender tree k → k < length lasts
  few k sender = omega (arith, linked.lasts_full, sender.inside, sound.few_rows)

  -- a packet joins class k's queue
  pub joined : (k bytes : ℕ) → Sender tree k → class_of tree events i ≡ k → length_word events i ≡ bytes → count events ≤ length links
      → Linked tree events (suc i) (arrival tree i k bytes box) (set lasts k (suc i)) (followed links (get_or lasts k 0) (suc i))
  unfolding arrival
  joined k bytes sender class long room =
      rw (linked.lasts_are k sender)
      (record {
        lasts_full = length-set lasts k (suc i) ∙ linked.lasts_full;
        chains =
            each_queue tree sound big i box kept k sender _ (λ j queue. Chain tree events (followed links (last_word (queue_of box k)) (suc i)) j queue)
            (chain_joined tree events links k i (big k) 0 bytes (queue_of box k) (kept.queues_kept k sender) (linked.chains k sender) (omega arith)
            (linked.unlinked i (omega arith) inside) class long)
            (λ j other apart. chain_kept tree events links k j (suc i) (queue_of box k) (queue_of box j) apart (linked.chains k sender) (linked.chains j other));
        lasts_are =
            each_queue tree sound big i box kept k sender _ (λ j queue. get_or (set lasts k (suc i)) j 0 ≡ last_word queue)
            (get_or-set_same lasts k (suc i) 0 (few k sender) ∙ sym (last_joined (queue_of box k) _))
            (λ j other apart. get_or-set_other lasts k j (suc i) 0 apart ∙ linked.lasts_are j other);
        unlinked =
            λ j from below.
            let before = last_before i (big k) 0 (queue_of box k) (kept.queues_kept k sender) in
            followed_other links (last_word (queue_of box k)) (suc i) j (omega arith) ∙ linked.unlinked j (omega arith) below;
      })

  -- the first packet of the line's class leaves its queue
  pub first_left : (first : Packet) (later : List Packet) → Sender tree (line_class box) → queue_of box (line_class box) ≡ first ∷ later
      → Linked tree events (suc i) (departure tree box) (shortened lasts (line_class box) (first_word later)) links
  unfolding departure
  first_left first later sender queued =
      let k = line_class box in
      rw queued
      (record {
        lasts_full = shortened_full lasts k (first_word later) ∙ linked.lasts_full;
        chains =
            each_queue tree sound big i box kept k sender later (λ j queue. Chain tree events links j queue)
            (chain_tail tree events links k (first ∷ later) (rw queued at (linked.chains k sender)))
            (λ j other apart. linked.chains j other);
        lasts_are =
            each_queue tree sound big i box kept k sender later (λ j queue. get_or (shortened lasts k (first_word later)) j 0 ≡ last_word queue)
            (last_left lasts k first later (few k sender) (rw queued at (linked.lasts_are k sender)))
            (λ j other apart. shortened_other lasts k (first_word later) j apart ∙ linked.lasts_are j other);
        unlinked = λ j from below. linked.unlinked j (omega arith) below;
      })
