-- The queues of the packets held: what a packet that joins does to them, and the first of a class's queue that goes.
-- Assumes nothing.
use Prim.Native.Nat.{ℕ, zero, suc, ◌+◌, ◌≤◌, ◌<◌}
use mathlib.Core.Path.{◌≡◌, refl, sym, ap, ◌∙◌}
use mathlib.Core.Logic.{◌≢◌}
use mathlib.Core.Bool.{Bool, true, false, cond}
use mathlib.Core.List.{List, [], ◌∷◌, ◌++◌, tail}
use native.Mathlib.Decide.{ℕ_discrete}
use native.Mathlib.Omega.{arith}
use lib.Dec.{eqb}
use lib.ListN.{length, get_or, set, length-set, length-append, get_or-append}
use lib.Seq.{get_or-set_same, get_or-set_other, get_or_at, ext_get_or}
use borrow.Author.Tests.{eq-eqb, ne_eqb}
use Rattle.input.specs.Limits.{most_bytes}
use Rattle.input.specs.Classes.{Tree}
use Rattle.rules.specs.Box.{Packet}
use Rattle.laws.specs.Sound.{Sender}
use Rattle.live_rules.specs.State.{Held, queue, queues}
use Rattle.live_rules.specs.Taking.{without}
use Rattle.live_laws.specs.Holds.{Fitting}

-- ── the queues, class by class ──

pub queues_length : (packets : List Held) (n : ℕ) → length (queues packets n) ≡ n
unfolding queues
queues_length packets zero = refl
queues_length packets (suc n) =
    let before = queues_length packets n in
    let longer = length-append (queues packets n) (queue packets n ∷ []) in
    omega arith

pub queues_at : (packets : List Held) (n k : ℕ) → k < n → get_or (queues packets n) k [] ≡ queue packets k
unfolding queues
queues_at packets zero k below = absurd (omega arith)
queues_at packets (suc n) k below = go (ℕ_discrete k n) (queues_at packets n k)
  where
    go :
        Dec (k ≡ n) → (k < n → get_or (queues packets n) k [] ≡ queue packets k)
        → get_or (queues packets n ++ queue packets n ∷ []) k [] ≡ queue packets k
    go (yes same) earlier = rw same (get_or_at (queues packets n) (queue packets n) [] [] n (queues_length packets n))
    go (no apart) earlier =
        let long = queues_length packets n in
        get_or-append (queues packets n) (queue packets n ∷ []) [] k (omega arith) ∙ earlier (omega arith)

-- packets that differ in class k's queue alone
pub queues_one :
    (before after : List Held) (n k : ℕ) (new : List Packet) → k < n → queue after k ≡ new
    → ((j : ℕ) → j ≢ k → queue after j ≡ queue before j) → queues after n ≡ set (queues before n) k new
queues_one before after n k new inside here others =
    ext_get_or [] (queues after n) (set (queues before n) k new) long each
  where
    long : length (queues after n) ≡ length (set (queues before n) k new)
    long = queues_length after n ∙ sym (length-set (queues before n) k new ∙ queues_length before n)

    at : (j : ℕ) → j < n → Dec (j ≡ k) → get_or (queues after n) j [] ≡ get_or (set (queues before n) k new) j []
    at j below (yes same) =
        let room = queues_length before n in
        queues_at after n j below ∙ rw same (here ∙ sym (get_or-set_same (queues before n) k new [] (omega arith)))
    at j below (no apart) =
        queues_at after n j below ∙ others j apart ∙ sym (queues_at before n j below)
        ∙ sym (get_or-set_other (queues before n) k j new [] apart)

    each : (j : ℕ) → j < length (queues after n) → get_or (queues after n) j [] ≡ get_or (set (queues before n) k new) j []
    each j below = at j (omega (arith, queues_length after n)) (ℕ_discrete j k)

-- ── a packet joins ──

-- as its queue has it
abbrev pub queued : Held → Packet
queued packet = record { place = packet.name; length = packet.length }

pub queue_own :
    (packets : List Held) (new : Held) (k : ℕ) → new.class ≡ k → queue (packets ++ new ∷ []) k ≡ queue packets k ++ queued new ∷ []
unfolding queue
queue_own [] new k is = rw (eq-eqb new.class k is)
queue_own (packet ∷ later) new k is = go (eqb packet.class k) (queue_own later new k is)
  where
    go :
        (b : Bool) → queue (later ++ new ∷ []) k ≡ queue later k ++ queued new ∷ []
        → cond b (queued packet ∷ queue (later ++ new ∷ []) k) (queue (later ++ new ∷ []) k)
        ≡ cond b (queued packet ∷ queue later k) (queue later k) ++ queued new ∷ []
    go true rest = ap (λ (rest : List Packet). queued packet ∷ rest) rest
    go false rest = rest

pub queue_other : (packets : List Held) (new : Held) (k : ℕ) → new.class ≢ k → queue (packets ++ new ∷ []) k ≡ queue packets k
unfolding queue
queue_other [] new k is = rw (ne_eqb new.class k is)
queue_other (packet ∷ later) new k is =
    ap (λ (rest : List Packet). cond (eqb packet.class k) (queued packet ∷ rest) rest) (queue_other later new k is)

-- it is the last of its class's queue, and no other queue changes
pub queues_joined :
    (packets : List Held) (new : Held) (n : ℕ) → new.class < n
    → queues (packets ++ new ∷ []) n ≡ set (queues packets n) new.class (queue packets new.class ++ queued new ∷ [])
queues_joined packets new n inside =
    queues_one packets (packets ++ new ∷ []) n new.class (queue packets new.class ++ queued new ∷ []) inside
    (queue_own packets new new.class refl) (λ j apart. queue_other packets new j (λ same. apart (sym same)))

-- ── the first of a queue goes ──

-- the first packet of a queue has this name
unfoldable pub Led : ℕ → List Packet → Type 0
Led name [] = ⊥
Led name (packet ∷ later) = packet.place ≡ name

-- names rise, so the first of a queue has none that is lower than where they begin
led_from :
    (tree : Tree) (limit least name k : ℕ) (packets : List Held) → Fitting tree limit least packets → Led name (queue packets k) → least ≤ name
unfolding Fitting queue Led
led_from tree limit least name k [] fits led = absurd led
led_from tree limit least name k (packet ∷ later) fits led =
    go (eqb packet.class k) (led_from tree limit (suc packet.name) name k later fits.5) led
  where
    go :
        (b : Bool) → (Led name (queue later k) → suc packet.name ≤ name)
        → Led name (cond b (queued packet ∷ queue later k) (queue later k)) → least ≤ name
    go true rest led = omega (arith, fits.3)
    go false rest led = let more = rest led in omega (arith, fits.3)

-- the packets without it
module _ (tree : Tree) (limit name k : ℕ) where
  -- one step of all that follows: the packet at the front is the one, or stands before it in another class's queue
  pub front :
      (P : Type 0) (least : ℕ) (packet : Held) (later : List Held) → Fitting tree limit least (packet ∷ later) → Led name (queue (packet ∷ later) k)
      → (packet.name ≡ name → packet.class ≡ k → P) → (packet.name ≢ name → packet.class ≢ k → Led name (queue later k) → P) → P
  unfolding Fitting queue Led
  front P least packet later fits led one further = go (ℕ_discrete packet.class k)
    where
      go : Dec (packet.class ≡ k) → P
      go (yes same) =
          let its : packet.name ≡ name = rw (eq-eqb packet.class k same) at led in
          one its same
      go (no other) =
          let rest : Led name (queue later k) = rw (ne_eqb packet.class k other) at led in
          let before = led_from tree limit (suc packet.name) name k later fits.5 rest in
          further (λ same. omega arith) other rest

  pub none_led : Led name (queue [] k) → ⊥
  unfolding Led queue
  none_led led = led

  pub without_length :
      (least : ℕ) (packets : List Held) → Fitting tree limit least packets → Led name (queue packets k) → suc (length (without name packets)) ≡ length packets
  unfolding Fitting without
  without_length least [] fits led = absurd (none_led led)
  without_length least (packet ∷ later) fits led =
      front (suc (length (without name (packet ∷ later))) ≡ length (packet ∷ later)) least packet later fits led
      (λ same class. rw (eq-eqb packet.name name same))
      (λ apart class rest. rw (ne_eqb packet.name name apart) (ap suc (without_length (suc packet.name) later fits.5 rest)))

  without_own :
      (least : ℕ) (packets : List Held) → Fitting tree limit least packets → Led name (queue packets k)
      → queue (without name packets) k ≡ tail (queue packets k)
  unfolding Fitting without queue
  without_own least [] fits led = absurd (none_led led)
  without_own least (packet ∷ later) fits led =
      front (queue (without name (packet ∷ later)) k ≡ tail (queue (packet ∷ later) k)) least packet later fits led
      (λ same class. rw (eq-eqb packet.name name same, eq-eqb packet.class k class))
      (λ apart class rest. rw (ne_eqb packet.name name apart, ne_eqb packet.class k class) (without_own (suc packet.name) later fits.5 rest))

  without_other :
      (j : ℕ) → j ≢ k → (least : ℕ) (packets : List Held) → Fitting tree limit least packets → Led name (queue packets k)
      → queue (without name packets) j ≡ queue packets j
  unfolding Fitting without queue
  without_other j other least [] fits led = absurd (none_led led)
  without_other j other least (packet ∷ later) fits led =
      front (queue (without name (packet ∷ later)) j ≡ queue (packet ∷ later) j) least packet later fits led
      (λ same class. rw (eq-eqb packet.name name same, ne_eqb packet.class j (λ also. other (sym also ∙ class))))
      (λ apart class rest.
      rw (ne_eqb packet.name name apart)
      (ap (λ (rest : List Packet). cond (eqb packet.class j) (queued packet ∷ rest) rest) (without_other j other (suc packet.name) later fits.5 rest)))

  pub queues_without :
      (least n : ℕ) (packets : List Held) → k < n → Fitting tree limit least packets → Led name (queue packets k)
      → queues (without name packets) n ≡ set (queues packets n) k (tail (queue packets k))
  queues_without least n packets inside fits led =
      queues_one packets (without name packets) n k (tail (queue packets k)) inside (without_own least packets fits led)
      (λ j apart. without_other j apart least packets fits led)

-- ── packets stay fitting ──

-- later, and from any earlier name on
pub fitting_wider :
    (tree : Tree) (limit limit' least least' : ℕ) (packets : List Held) → limit ≤ limit' → least' ≤ least
    → Fitting tree limit least packets → Fitting tree limit' least' packets
unfolding Fitting
fitting_wider tree limit limit' least least' [] later earlier fits = tt
fitting_wider tree limit limit' least least' (packet ∷ rest) later earlier fits = (
  fits.0,
  fits.1,
  fits.2,
  omega (arith, fits.3),
  omega (arith, fits.4),
  fitting_wider tree limit limit' (suc packet.name) (suc packet.name) rest later (omega arith) fits.5,
)

-- a packet of this event's name joins
pub fitting_joined :
    (tree : Tree) (limit least k length : ℕ) (packets : List Held) → least ≤ limit → Sender tree k → 0 < length → length ≤ most_bytes
    → Fitting tree limit least packets → Fitting tree (suc limit) least (packets ++ record { class = k; length = length; name = limit } ∷ [])
unfolding Fitting
fitting_joined tree limit least k length [] earlier sender some small fits = (sender, some, small, earlier, omega arith, tt)
fitting_joined tree limit least k length (packet ∷ rest) earlier sender some small fits = (
  fits.0,
  fits.1,
  fits.2,
  fits.3,
  omega (arith, fits.4),
  fitting_joined tree limit (suc packet.name) k length rest fits.4 sender some small fits.5,
)

-- one goes
pub fitting_without :
    (tree : Tree) (limit least name : ℕ) (packets : List Held) → Fitting tree limit least packets → Fitting tree (suc limit) least (without name packets)
unfolding Fitting without
fitting_without tree limit least name [] fits = tt
fitting_without tree limit least name (packet ∷ rest) fits =
    go (eqb packet.name name) (fitting_without tree limit (suc packet.name) name rest fits.5)
  where
    go :
        (b : Bool) → Fitting tree (suc limit) (suc packet.name) (without name rest)
        → Fitting tree (suc limit) least (cond b rest (packet ∷ without name rest))
    go true left =
        fitting_wider tree limit (suc limit) (suc packet.name) least rest (omega arith) (omega (arith, fits.3)) fits.5
    go false left = (fits.0, fits.1, fits.2, fits.3, omega (arith, fits.4), left)
