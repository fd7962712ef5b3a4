-- The packets held are sound where each of them fits by its numbers, place by place.
-- Assumes nothing.
use Prim.Native.Nat.{ℕ, zero, suc, ◌≤◌, ◌<◌, ◌^◌}
use mathlib.Core.Path.{◌≡◌, refl, sym, subst, ap, ap₂, ◌∙◌}
use mathlib.Core.Bool.{Bool, true, false, ◌&&◌, and-true}
use mathlib.Core.List.{List, [], ◌∷◌, ◌++◌}
use native.Mathlib.Omega.{arith}
use borrow.Author.Tests.{ltb-true, leb-true}
use lib.Dec.{T, ltb, leb}
use lib.ListN.{get_or}
use Rattle.input.specs.Limits.{most_rows, least_bytes, most_bytes}
use Rattle.input.specs.Classes.{Tree, sends}
use Rattle.live_rules.specs.State.{Held, packets_at}
use Rattle.live_rules.specs.Soundness.{all, packet_sound, packets_sound, in_order}
use Rattle.holding.specs.Packets.{class_at, length_at, name_at, packet_at, Senders, fits, least_at, fits_at, Ranged}
use Rattle.live_rules.proofs.Alls.{all_true}

no : false ≡ true → ⊥
no e = subst T (sym e) tt

-- ── one packet more ──

sound_more : (tree : Tree) (ps : List Held) (p : Held) → packets_sound tree (ps ++ p ∷ []) ≡ (packets_sound tree ps && packet_sound tree p)
unfolding packets_sound
sound_more tree [] p = and-true (packet_sound tree p)
sound_more tree (q ∷ ps) p = go (packet_sound tree q) (sound_more tree ps p)
  where
    go :
        (b : Bool) → packets_sound tree (ps ++ p ∷ []) ≡ (packets_sound tree ps && packet_sound tree p)
        → (b && packets_sound tree (ps ++ p ∷ [])) ≡ ((b && packets_sound tree ps) && packet_sound tree p)
    go true later = later
    go false later = refl

-- the least name that may come behind these packets
unfoldable least_behind : ℕ → List Held → ℕ
least_behind least [] = least
least_behind least (p ∷ ps) = least_behind (suc p.name) ps

order_more :
    (limit least : ℕ) (ps : List Held) (p : Held)
    → in_order limit least (ps ++ p ∷ []) ≡ (in_order limit least ps && (leb (least_behind least ps) p.name && ltb p.name limit))
unfolding in_order least_behind
order_more limit least [] p = ap (λ (b : Bool). leb least p.name && b) (and-true (ltb p.name limit))
order_more limit least (q ∷ ps) p = go (leb least q.name) (ltb q.name limit) _ _ _ (order_more limit (suc q.name) ps p)
  where
    go : (a b c d e : Bool) → c ≡ (d && e) → (a && (b && c)) ≡ ((a && (b && d)) && e)
    go true true c d e later = later
    go true false c d e later = refl
    go false b c d e later = refl

behind_more : (least : ℕ) (ps : List Held) (p : Held) → least_behind least (ps ++ p ∷ []) ≡ suc p.name
unfolding least_behind
behind_more least [] p = refl
behind_more least (q ∷ ps) p = behind_more (suc q.name) ps p

behind_at : (words : List ℕ) (i : ℕ) → least_behind 0 (packets_at i words) ≡ least_at words i
unfolding least_behind packets_at least_at
behind_at words zero = refl
behind_at words (suc i) = behind_more 0 (packets_at i words) (packet_at words i)

-- ── all of them ──

module _ (tree : Tree) (senders : List Bool) (marked : Senders tree tree.rows senders) where
  -- whether a row sends is asked of rows in use alone
  sends_so :
      (class : ℕ) (rest : Bool)
      → (ltb class tree.rows && (sends tree class && rest)) ≡ (ltb class tree.rows && (get_or senders class false && rest))
  sends_so class rest = go (ltb class tree.rows) refl
    where
      go :
          (b : Bool) → ltb class tree.rows ≡ b
          → (b && (sends tree class && rest)) ≡ (b && (get_or senders class false && rest))
      go true e = rw (marked class (ltb-true class tree.rows e))
      go false e = refl

  fits_so :
      (limit : ℕ) (words : List ℕ) (i : ℕ)
      → fits_at tree.rows senders limit words i
      ≡ (packet_sound tree (packet_at words i) && (leb (least_at words i) (name_at words i) && ltb (name_at words i) limit))
  unfolding fits_at fits packet_sound
  fits_so limit words i =
      let class = class_at words i in
      let few = leb least_bytes (length_at words i) in
      let most = leb (length_at words i) most_bytes in
      let named = leb (least_at words i) (name_at words i) && ltb (name_at words i) limit in
      sym (sends_so class (few && (most && named))) ∙ apart (ltb class tree.rows) (sends tree class) few most named
    where
      apart : (a b c d e : Bool) → (a && (b && (c && (d && e)))) ≡ ((a && (b && (c && d))) && e)
      apart true true true d e = refl
      apart true true false d e = refl
      apart true false c d e = refl
      apart false b c d e = refl

  all_fit :
      (limit : ℕ) (words : List ℕ) (m : ℕ)
      → all m (fits_at tree.rows senders limit words)
      ≡ (packets_sound tree (packets_at m words) && in_order limit 0 (packets_at m words))
  unfolding all packets_sound in_order packets_at
  all_fit limit words zero = refl
  all_fit limit words (suc i) =
      let ps = packets_at i words in
      let p = packet_at words i in
      ap₂ ◌&&◌ (all_fit limit words i) (fits_so limit words i)
      ∙ swap (packets_sound tree ps) (in_order limit 0 ps) (packet_sound tree p) _
      ∙ sym (ap₂ ◌&&◌ (sound_more tree ps p) (order_more limit 0 ps p ∙ rw (behind_at words i)))
    where
      swap : (a b c d : Bool) → ((a && b) && (c && d)) ≡ ((a && c) && (b && d))
      swap true true c d = refl
      swap true false true d = refl
      swap true false false d = refl
      swap false b c d = refl

pub packets_fit :
    (tree : Tree) (n : ℕ) (senders : List Bool) → tree.rows ≡ n → Senders tree n senders → (limit : ℕ) (words : List ℕ) (m : ℕ)
    → all m (fits_at n senders limit words) ≡ (packets_sound tree (packets_at m words) && in_order limit 0 (packets_at m words))
packets_fit tree n senders same =
    subst
    (λ (n : ℕ).
    Senders tree n senders → (limit : ℕ) (words : List ℕ) (m : ℕ)
    → all m (fits_at n senders limit words) ≡ (packets_sound tree (packets_at m words) && in_order limit 0 (packets_at m words)))
    same
    (all_fit tree senders)

-- ── one packet, as the code has its numbers ──

module _ (n : ℕ) (senders : List Bool) (limit : ℕ) where
  pub fits_turn :
      (words : List ℕ) (i least : ℕ) → least ≡ least_at words i
      → fits_at n senders limit words i ≡ fits n senders least limit (class_at words i) (length_at words i) (name_at words i)
  unfolding fits_at
  fits_turn words i least same = rw same

  fits_parts :
      (a b c d e f : Bool) → (a && (b && (c && (d && (e && f))))) ≡ true
      → (a ≡ true) × (c ≡ true) × (d ≡ true) × (f ≡ true)
  fits_parts true true true true true true holds = (refl, refl, refl, refl)
  fits_parts true true true true true false holds = absurd (no holds)
  fits_parts true true true true false f holds = absurd (no holds)
  fits_parts true true true false e f holds = absurd (no holds)
  fits_parts true true false d e f holds = absurd (no holds)
  fits_parts true false c d e f holds = absurd (no holds)
  fits_parts false b c d e f holds = absurd (no holds)

  pub fits_bounds :
      (least class length name : ℕ) → fits n senders least limit class length name ≡ true
      → (class < n) × (0 < length) × (length ≤ most_bytes) × (name < limit)
  unfolding fits
  fits_bounds least class length name holds =
      let parts = fits_parts (ltb class n) (get_or senders class false) _ _ (leb least name) (ltb name limit) holds in (
        ltb-true class n parts.0,
        leb-true least_bytes length parts.1,
        leb-true length most_bytes parts.2,
        ltb-true name limit parts.3,
      )

-- sound packets have numbers within these ranges, at every place
pub sound_ranged :
    (tree : Tree) (senders : List Bool) (limit : ℕ) (words : List ℕ) (m : ℕ) → Senders tree tree.rows senders → tree.rows ≤ most_rows
    → limit < 2 ^ 32 → (packets_sound tree (packets_at m words) && in_order limit 0 (packets_at m words)) ≡ true → Ranged words m
unfolding fits_at
sound_ranged tree senders limit words m marked few small holds =
    record { classes = λ i below. omega (arith, bounds i below); lengths = λ i below. omega (arith, bounds i below); names = λ i below. omega (arith, bounds i below) }
  where
    bounds :
        (i : ℕ) → i < m
        → (class_at words i < tree.rows) × (0 < length_at words i) × (length_at words i ≤ most_bytes) × (name_at words i < limit)
    bounds i below =
        fits_bounds tree.rows senders limit (least_at words i) (class_at words i) (length_at words i) (name_at words i)
        (all_true m (fits_at tree.rows senders limit words) (packets_fit tree tree.rows senders refl marked limit words m ∙ holds) i below)
