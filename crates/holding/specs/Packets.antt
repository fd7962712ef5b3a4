-- The packets held, by the words that they stand in: the test of each, and what each class's queue begins with.
use Rattle.std.specs.Prelude.{ℕ, zero, suc, ◌+◌, ◌<◌, ◌^◌, ◌≡◌, Bool, false, ◌&&◌, List, [], ◌∷◌, ltb, leb, length, get_or}
use Rattle.input.specs.Limits.{most_rows, least_bytes, most_bytes}
use Rattle.input.specs.Classes.{Tree, sends}
use Rattle.rules.specs.Box.{Packet}
use Rattle.live_rules.specs.Layout.{classes_at, lengths_at, names_at}
use Rattle.live_rules.specs.State.{Held, queue, packets_at}
use Rattle.live_rules.specs.Soundness.{packets_sound, in_order}
use Rattle.holding.specs.declared.Firsts.{Firsts}

-- ── the packet at a place ──

abbrev pub class_at : List ℕ → ℕ → ℕ
class_at words i = get_or words (classes_at + i) 0

abbrev pub length_at : List ℕ → ℕ → ℕ
length_at words i = get_or words (lengths_at + i) 0

abbrev pub name_at : List ℕ → ℕ → ℕ
name_at words i = get_or words (names_at + i) 0

abbrev pub packet_at : List ℕ → ℕ → Held
packet_at words i = record { class = class_at words i; length = length_at words i; name = name_at words i }

-- ── whether it is sound ──

-- these rows send, among the first n
abbrev pub Senders : Tree → ℕ → List Bool → Type 0
Senders tree n senders = (r : ℕ) → r < n → sends tree r ≡ get_or senders r false

-- a packet by its numbers: of a row that sends, with the bytes of a packet, its name from `least` on and below `limit`
unfoldable pub fits : ℕ → List Bool → ℕ → ℕ → ℕ → ℕ → ℕ → Bool
fits n senders least limit class length name =
    ltb class n
    && (get_or senders class false && (leb least_bytes length && (leb length most_bytes && (leb least name && ltb name limit))))

-- the least name that the packet at a place may have: one more than the name before
unfoldable pub least_at : List ℕ → ℕ → ℕ
least_at words zero = 0
least_at words (suc i) = suc (name_at words i)

unfoldable pub fits_at : ℕ → List Bool → ℕ → List ℕ → ℕ → Bool
fits_at n senders limit words i = fits n senders (least_at words i) limit (class_at words i) (length_at words i) (name_at words i)

-- what `packets_sound` states of its result
abbrev pub PacketsTested : List ℕ → ℕ → ℕ → List Bool → ℕ → Bool → Type 0
PacketsTested words m n senders limit b =
    (tree : Tree) → tree.rows ≡ n → Senders tree n senders
    → b ≡ (packets_sound tree (packets_at m words) && in_order limit 0 (packets_at m words))

-- ── the queues ──

-- the first m packets have classes that there can be, and numbers of 32 bits
pub record Ranged (words : List ℕ) (m : ℕ) : Type 0 where
  pub classes : (i : ℕ) → i < m → class_at words i < most_rows
  pub lengths : (i : ℕ) → i < m → length_at words i < 2 ^ 32
  pub names : (i : ℕ) → i < m → suc (name_at words i) < 2 ^ 32

-- the first of a queue as a head: its place + 1, and its bytes; 0 where there is none
unfoldable pub first_word : List Packet → ℕ
first_word [] = 0
first_word (packet ∷ later) = suc packet.place

unfoldable pub first_size : List Packet → ℕ
first_size [] = 0
first_size (packet ∷ later) = packet.length

-- for each class how many of these packets it has, and the first of them
pub record Tallied (packets : List Held) (counts words sizes : List ℕ) : Type 0 where
  pub count : (k : ℕ) → k < most_rows → get_or counts k 0 ≡ length (queue packets k)
  pub first : (k : ℕ) → k < most_rows → get_or words k 0 ≡ first_word (queue packets k)
  pub size : (k : ℕ) → k < most_rows → get_or sizes k 0 ≡ first_size (queue packets k)

-- what `firsts_of` states of its result
abbrev pub FirstsTold : List ℕ → ℕ → Firsts → Type 0
FirstsTold words m firsts = Tallied (packets_at m words) firsts.counts firsts.words firsts.sizes
