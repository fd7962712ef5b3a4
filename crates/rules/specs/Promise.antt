-- The promise on shares and its words. They look at the table, the events and the order, and at nothing inside the box.
use Rattle.std.specs.Prelude.{ℕ, zero, suc, ◌+◌, ◌*◌, ◌-◌, ◌≤◌, ◌<◌, max, Bool, cond, ◌||◌, List, [], ◌∷◌, eqb, take, drop}
use Rattle.input.specs.declared.Event.{Event}
use Rattle.input.specs.declared.Event.TheVariants.{Arrival, Finish}
use Rattle.input.specs.Limits.{whole, ticks, ticks_a_step}
use Rattle.input.specs.Classes.{Tree, parent, depth, share, row_of}
use Rattle.input.specs.Events.{Events, class_word, length_word, event}

-- ── parts of the tree ──

-- the path from row k, which is at this depth, up to the root has row r
unfoldable pub path_has : ℕ → Tree → ℕ → ℕ → Bool
path_has zero tree k r = eqb k r
path_has (suc d) tree k r = eqb k r || path_has d tree (parent tree k) r

-- row k is in row r's part of the tree: r itself, or below it
unfoldable pub within : Tree → ℕ → ℕ → Bool
within tree r k = path_has (depth tree k) tree k r

-- the packet named i is for a class in row r's part of the tree
unfoldable pub for_part : Tree → Events → ℕ → ℕ → Bool
for_part tree events r i = within tree r (row_of tree (class_word events i))

-- ── counting events ──

-- one for an event of this kind, else none
unfoldable pub one_finish : Event → ℕ
one_finish (Arrival class length) = 0
one_finish Finish = 1

unfoldable pub one_arrival : Event → ℕ
one_arrival (Arrival class length) = 1
one_arrival Finish = 0

-- finishes among the first n events
unfoldable pub finish_count : Events → ℕ → ℕ
finish_count events zero = 0
finish_count events (suc n) = finish_count events n + one_finish (event events n)

-- packets that arrived in row r's part of the tree in the first n events
unfoldable pub arrived : Tree → Events → ℕ → ℕ → ℕ
arrived tree events r zero = 0
arrived tree events r (suc n) = arrived tree events r n + cond (for_part tree events r n) (one_arrival (event events n)) 0

-- the largest packet of the first n events
unfoldable pub largest : Events → ℕ → ℕ
largest events zero = 0
largest events (suc n) = max (largest events n) (length_word events n)

-- ── counting packets ──

-- how many packets of a list are for row r's part of the tree
unfoldable pub packets_for : Tree → Events → ℕ → List ℕ → ℕ
packets_for tree events r [] = 0
packets_for tree events r (i ∷ is) = cond (for_part tree events r i) 1 0 + packets_for tree events r is

-- how many bytes they have
unfoldable pub bytes_for : Tree → Events → ℕ → List ℕ → ℕ
bytes_for tree events r [] = 0
bytes_for tree events r (i ∷ is) = cond (for_part tree events r i) (length_word events i) 0 + bytes_for tree events r is

-- how many bytes a list of packets has, whatever their classes
unfoldable pub line_bytes : Events → List ℕ → ℕ
line_bytes events [] = 0
line_bytes events (i ∷ is) = length_word events i + line_bytes events is

-- the packets finished in the first n events: the line finishes packets in the order in which they went on it
unfoldable pub finished : Events → List ℕ → ℕ → List ℕ
finished events order n = take (finish_count events n) order

-- the packets finished in the stretch of events from place a up to, and without, place b
unfoldable pub finished_in : Events → List ℕ → ℕ → ℕ → List ℕ
finished_in events order a b = drop (finish_count events a) (finished events order b)

-- the packets that row r's part of the tree holds after the first n events
unfoldable pub holds : Tree → Events → List ℕ → ℕ → ℕ → ℕ
holds tree events order r n = arrived tree events r n - packets_for tree events r (finished events order n)

-- row r holds a packet after each event of the stretch
unfoldable pub Backlogged : Tree → Events → List ℕ → ℕ → ℕ → ℕ → Type 0
Backlogged tree events order r a b = (i : ℕ) → a ≤ i → i < b → 0 < holds tree events order r (suc i)

-- ── the number ──

-- a number of bytes as a numerator and a denominator
pub record Ratio : Type 0 where
  pub numerator : ℕ
  pub denominator : ℕ

-- the whole over a share
abbrev pub whole_over : ℕ → Ratio
whole_over share = record { numerator = whole; denominator = share }

-- one step up: so many largest packets more, times a fraction
unfoldable pub step_up : ℕ → ℕ → Ratio → Ratio → Ratio
step_up packets largest times q =
    record {
      numerator = (q.numerator + packets * largest * q.denominator) * times.numerator;
      denominator = q.denominator * times.denominator;
    }

-- so many ticks more
unfoldable pub plus_ticks : ℕ → Ratio → Ratio
plus_ticks more q =
    record { numerator = q.numerator * ticks + more * q.denominator; denominator = q.denominator * ticks }

-- from row k, which is at this depth, step by step up to the root: each time by the whole over the row's share, and then the row's ticks more
unfoldable pub climbed : ℕ → Tree → ℕ → ℕ → (ℕ → ℕ) → ℕ → Ratio → Ratio
climbed zero tree packets largest more k q = q
climbed (suc d) tree packets largest more k q =
    climbed d tree packets largest more (parent tree k) (plus_ticks (more k) (step_up packets largest (whole_over (share tree k)) q))

-- the number for row k from its own bytes: the most that the line may have finished
unfoldable pub line_most : Tree → ℕ → ℕ → (ℕ → ℕ) → ℕ → ℕ → Ratio
line_most tree packets largest more k own = climbed (depth tree k) tree packets largest more k (record { numerator = own; denominator = 1 })

-- the ticks of a row's step where these packets were finished: one for each of its own, and two more
unfoldable pub ticks_for : Tree → Events → List ℕ → ℕ → ℕ
ticks_for tree events sent r = packets_for tree events r sent + ticks_a_step

-- none at any step
unfoldable pub no_ticks : List ℕ → ℕ → ℕ
no_ticks sent r = 0

-- ── the promise ──

-- to row k in a stretch, with so many largest packets a step and ticks by the packets finished and the row: the lengths of all packets
-- finished in it are together at most the number from k's own bytes. That is a fraction, so both sides are taken times its denominator
abbrev pub Promised : Tree → Events → List ℕ → ℕ → ℕ → (List ℕ → ℕ → ℕ) → ℕ → ℕ → ℕ → Type 0
Promised tree events order packets largest more k a b =
    let sent = finished_in events order a b in
    let most = line_most tree packets largest (more sent) k (bytes_for tree events k sent) in
    line_bytes events sent * most.denominator ≤ most.numerator
