-- A class's queue and its head: what joining the queue and leaving it keep.
-- Assumes nothing.
use Prim.Native.Nat.{ℕ, suc, pred, ◌≤◌, ◌<◌}
use mathlib.Core.Path.{◌≡◌, refl, ◌∙◌}
use mathlib.Core.Logic.{◌≢◌}
use mathlib.Core.List.{List, [], ◌∷◌, ◌++◌, tail}
use native.Mathlib.Decide.{ℕ_discrete}
use native.Mathlib.Omega.{arith}
use lib.ListN.{length, get_or, set}
use lib.Seq.{get_or-set_same, get_or-set_other}
use Rattle.input.specs.Classes.{Tree}
use Rattle.rules.specs.Box.{Packet, Rows, Box, head, head_length, held_by, queue_of}
use Rattle.laws.specs.Sound.{Sound, Sender}
use Rattle.laws.specs.Moves.{SameHead}
use Rattle.laws.specs.Kept.{InLine, HeadOf, Kept}
use Rattle.laws.proofs.Path.DeparturePath.{NextFits}

-- ── in line ──

-- a queue in line stays so at later events, and from any earlier place on
pub in_line_wider :
    (now now' most least least' : ℕ) (queue : List Packet) → now ≤ now' → least' ≤ least
    → InLine now most least queue → InLine now' most least' queue
unfolding InLine
in_line_wider now now' most least least' [] later earlier ok = tt
in_line_wider now now' most least least' (packet ∷ rest) later earlier ok =
    (omega arith, omega arith, ok.2, ok.3, in_line_wider now now' most (suc packet.place) (suc packet.place) rest later (omega arith) ok.4)

-- the packet of this event joins
pub in_line_joined :
    (now most least length : ℕ) (queue : List Packet) → least ≤ now → 0 < length → length ≤ most
    → InLine now most least queue → InLine (suc now) most least (queue ++ record { place = now; length = length } ∷ [])
unfolding InLine
in_line_joined now most least length [] earlier some small ok = (earlier, omega arith, some, small, tt)
in_line_joined now most least length (packet ∷ rest) earlier some small ok =
    (ok.0, omega arith, ok.2, ok.3, in_line_joined now most (suc packet.place) length rest ok.1 some small ok.4)

pub in_line_tail : (now most least : ℕ) (queue : List Packet) → InLine now most least queue → InLine now most least (tail queue)
unfolding InLine
in_line_tail now most least [] ok = tt
in_line_tail now most least (packet ∷ rest) ok =
    in_line_wider now now most (suc packet.place) least rest (omega arith) (omega arith) ok.4

pub in_line_next : (now most least : ℕ) (queue : List Packet) → InLine now most least queue → NextFits queue
unfolding InLine
in_line_next now most least [] ok = tt
in_line_next now most least (packet ∷ rest) ok = ok.2

pub length_tail : (queue : List Packet) → length (tail queue) ≡ pred (length queue)
length_tail [] = refl
length_tail (packet ∷ rest) = refl

-- ── heads ──

same_head_of : (a b : Rows) (k : ℕ) (queue : List Packet) → SameHead a k b k → HeadOf a k queue → HeadOf b k queue
unfolding HeadOf
same_head_of a b k [] same of = same.packet_same ∙ of
same_head_of a b k (packet ∷ rest) same of = (same.packet_same ∙ of.0, same.length_same ∙ of.1, same.class_same ∙ of.2)

-- a head is no longer than the longest in line
pub head_in_line :
    (a : Rows) (k now most least : ℕ) (queue : List Packet) → head a k ≢ 0 → HeadOf a k queue → InLine now most least queue
    → head_length a k ≤ most
unfolding HeadOf InLine
head_in_line a k now most least [] has of ok = absurd (has of)
head_in_line a k now most least (packet ∷ rest) has of ok = omega arith

-- a head exactly where the queue has a packet
pub idle_empty : (a : Rows) (k : ℕ) (queue : List Packet) → HeadOf a k queue → head a k ≡ 0 → length queue ≡ 0
unfolding HeadOf
idle_empty a k [] of none = refl
idle_empty a k (packet ∷ rest) of none = omega arith

pub busy_some : (a : Rows) (k : ℕ) (queue : List Packet) → HeadOf a k queue → head a k ≢ 0 → 0 < length queue
unfolding HeadOf
busy_some a k [] of has = absurd (has of)
busy_some a k (packet ∷ rest) of has = omega arith

-- ── one queue changes ──

module _
    (tree : Tree) (sound : Sound tree) (big : ℕ → ℕ) (now : ℕ) (box : Box) (kept : Kept tree big now box) (k : ℕ) (sender : Sender tree k)
    (queue : List Packet) where
  -- what is so of class k's new queue and of every other class's queue is so of all queues
  pub each_queue :
      (P : ℕ → List Packet → Type 0) → P k queue → ((j : ℕ) → Sender tree j → j ≢ k → P j (queue_of box j))
      → (j : ℕ) → Sender tree j → P j (get_or (set box.queues k queue) j [])
  each_queue P new others j other = go (ℕ_discrete j k)
    where
      inside : k < length box.queues
      inside = omega (arith, kept.queues_full, sound.few_rows, sender.inside)

      go : Dec (j ≡ k) → P j (get_or (set box.queues k queue) j [])
      go (yes same) = rw (same, get_or-set_same box.queues k queue [] inside) new
      go (no apart) = rw (get_or-set_other box.queues k j queue [] apart) (others j other apart)

-- the box after an event that changes class k's queue and head, and those of no other class
pub record OneQueue (tree : Tree) (big : ℕ → ℕ) (now : ℕ) (box : Box) (k : ℕ) (queue : List Packet) (next : Box) : Type 0 where
  pub queues : next.queues ≡ set box.queues k queue
  pub line : InLine (suc now) (big k) 0 queue
  pub first : HeadOf next.rows k queue
  pub others : (j : ℕ) → Sender tree j → j ≢ k → SameHead box.rows j next.rows j
  pub held : held_by next k ≡ length queue
  pub held_others : (j : ℕ) → Sender tree j → j ≢ k → held_by next j ≡ held_by box j

module _
    (tree : Tree) (sound : Sound tree) (big : ℕ → ℕ) (now : ℕ) (box : Box) (kept : Kept tree big now box) (k : ℕ) (sender : Sender tree k)
    (queue : List Packet) (next : Box) (one : OneQueue tree big now box k queue next) where
  all_queues :
      (P : ℕ → List Packet → Type 0) → P k queue → ((j : ℕ) → Sender tree j → j ≢ k → P j (queue_of box j))
      → (j : ℕ) → Sender tree j → P j (queue_of next j)
  all_queues P new others j other = rw one.queues (each_queue tree sound big now box kept k sender queue P new others j other)

  pub lines_after : (j : ℕ) → Sender tree j → InLine (suc now) (big j) 0 (queue_of next j)
  lines_after =
      all_queues (λ j queue. InLine (suc now) (big j) 0 queue) one.line
      (λ j other apart. in_line_wider now (suc now) (big j) 0 0 (queue_of box j) (omega arith) (omega arith) (kept.queues_kept j other))

  pub heads_after : (j : ℕ) → Sender tree j → HeadOf next.rows j (queue_of next j)
  heads_after =
      all_queues (HeadOf next.rows) one.first
      (λ j other apart. same_head_of box.rows next.rows j (queue_of box j) (one.others j other apart) (kept.heads_kept j other))

  pub counts_after : (j : ℕ) → Sender tree j → held_by next j ≡ length (queue_of next j)
  counts_after =
      all_queues (λ j queue. held_by next j ≡ length queue) one.held
      (λ j other apart. one.held_others j other apart ∙ kept.held_sender j other)
