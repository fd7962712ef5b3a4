-- Sizes by packets that have left: over every event each level stays under its limit, no start passes its finish, and what is counted stays small.
-- Assumes nothing.
use Prim.Native.Nat.{ℕ, zero, suc, ◌+◌, ◌*◌, ◌≤◌, ◌<◌, max}
use mathlib.Core.Path.{◌≡◌, refl}
use mathlib.Core.Logic.{◌≢◌, ◌⊎◌, inl, inr}
use mathlib.Core.Bool.{Bool, true, false}
use native.Mathlib.Decide.{dec_le}
use native.Mathlib.Omega.{arith}
use lib.ListN.{get_or}
use Rattle.input.specs.Classes.{Tree, parent}
use Rattle.rules.specs.Box.{Box, Rows, fresh, start, finish, virtual, head, head_length, bytes_of, held_by, line_class, left}
use Rattle.rules.specs.Steps.{arrival, departure}
use Rattle.rules.specs.Promise.{within}
use Rattle.laws.specs.Sound.{Sound, Kid, Inner, Sender}
use Rattle.laws.specs.Moves.{Still, ArrivalAt}
use Rattle.laws.specs.Kept.{Kept, Taken}
use Rattle.laws.specs.Sizes.{level_most, SizedLevel, Sized, Forward, Marked}
use Rattle.laws.proofs.Path.Tests.{cond_most, cond_least}
use Rattle.laws.proofs.Tree.Paths.{its_parent, parent_is_inner}
use Rattle.laws.proofs.Level.Sizing.{still_level, arrival_level, departure_level, headed_forward, same_forward, kids_forward, departed_forward}
use Rattle.laws.proofs.Path.ArrivalPath.{arrives_quiet}
use Rattle.laws.proofs.Path.DeparturePath.{departs_quiet}
use Rattle.laws.proofs.Event.Outset.{zeros_at}
use Rattle.laws.proofs.Event.OneEvent.{arrival_at, arrival_bytes, arrival_since, arrival_parent_since, mark_most}
use Rattle.laws.proofs.Event.OneEvent.{line_sender, left_next, departure_on, departure_off, departure_bytes}
use Rattle.laws.proofs.Event.Keeping.{arrival_kept, departure_kept}
use Rattle.laws.proofs.Event.Beyond.{along_beyond}

-- ── the fresh box ──

module _ (tree : Tree) (most : ℕ) where
  pub fresh_sized : Sized tree most 0 fresh.rows
  unfolding fresh
  fresh_sized p t inner is_taken =
      record {
        virtual_sized = omega (arith, zeros_at p);
        waiting_sized = λ j kid other has. omega (arith, zeros_at j);
        idle_sized = λ j kid other idles. omega (arith, zeros_at j);
        taken_sized = λ kid. omega (arith, zeros_at t);
      }

  pub fresh_marked : Marked tree most 0 fresh
  unfolding fresh
  fresh_marked =
      record {
        bytes_most = λ r inside. omega (arith, zeros_at r);
        since_most = λ r inside. omega (arith, zeros_at r);
        parent_since_most = λ r inside. omega (arith, zeros_at r);
      }

pub fresh_forward : (tree : Tree) → Forward tree fresh.rows
unfolding fresh
fresh_forward tree r inside = omega (arith, zeros_at r)

-- ── one event ──

-- every row but the root is a child of an inner row
levels_forward :
    (tree : Tree) → Sound tree → (a b : Rows) → Forward tree a → ((p : ℕ) → Inner tree p → (j : ℕ) → Kid tree p j → start b j ≤ finish b j)
    → start b 0 ≡ start a 0 → finish b 0 ≡ finish a 0 → Forward tree b
levels_forward tree sound a b forward levels root_start root_finish zero inside = omega (arith, forward 0 inside)
levels_forward tree sound a b forward levels root_start root_finish (suc r) inside =
    let kid = its_parent tree sound (suc r) (omega arith) inside in
    levels (parent tree (suc r)) (parent_is_inner tree sound (parent tree (suc r)) (suc r) kid) (suc r) kid

module _ (tree : Tree) (sound : Sound tree) (most now : ℕ) (box : Box) (kept : Kept tree (λ (r : ℕ). most) now box) where
  abbrev big : ℕ → ℕ
  big r = most

  wider : (j : ℕ) → 0 < j → j < tree.rows → big j ≤ big (parent tree j)
  wider j positive inside = omega arith

  -- an arrival
  module _ (k length : ℕ) (sender : Sender tree k) (some : 0 < length) where
    abbrev came : Box
    came = arrival tree now k length box

    pub arrival_sized : length ≤ most → (gone : ℕ) → Sized tree most gone box.rows → Sized tree most gone (arrival tree now k length box).rows
    arrival_sized short gone sized p t inner = go (arrival_at tree sound big now box kept k length sender some p inner) t
      where
        later : Kept tree big (suc now) came
        later = arrival_kept tree sound big wider now box kept k length sender some short

        go :
            Still tree box.rows came.rows p ⊎ ((c : ℕ) × ArrivalAt tree box.rows came.rows k p c)
            → (t : ℕ) → Taken tree came.rows p t → SizedLevel tree (level_most most gone came.rows p) came.rows p t
        go (inl still) =
            still_level tree sound most gone box.rows came.rows kept.settled later.settled later.heads_small p inner gone (omega arith) still
            (λ t. sized p t inner)
        go (inr (c, move)) =
            arrival_level tree sound most gone box.rows came.rows kept.settled later.settled later.heads_small p inner k c move
            (λ t. sized p t inner)

    pub arrival_forward : Forward tree box.rows → Forward tree (arrival tree now k length box).rows
    unfolding arrival
    arrival_forward forward =
        let quiet = arrives_quiet tree sound box.rows kept.rows_full kept.settled now k length sender some in
        levels_forward tree sound box.rows came.rows forward (λ p inner. go p (arrival_at tree sound big now box kept k length sender some p inner))
        quiet.1 quiet.2
      where
        go :
            (p : ℕ) → Still tree box.rows came.rows p ⊎ ((c : ℕ) × ArrivalAt tree box.rows came.rows k p c)
            → (j : ℕ) → Kid tree p j → start came.rows j ≤ finish came.rows j
        go p (inl still) = λ j kid. same_forward tree box.rows came.rows forward p j kid (still.kids j kid)
        go p (inr (c, move)) =
            kids_forward tree box.rows came.rows forward p c move.others
            (headed_forward tree came.rows c (max (finish box.rows c) (virtual box.rows p)) move.headed)

    pub arrival_marked : (gone : ℕ) → Marked tree most gone box → Marked tree most gone (arrival tree now k length box)
    arrival_marked gone marked =
        record {
          bytes_most = λ r inside. omega (arith, marked.bytes_most r inside, arrival_bytes tree sound big now box kept k length sender r);
          since_most =
              λ r inside. rw (arrival_since tree sound big now box kept k length sender r inside, arrival_bytes tree sound big now box kept k length sender r)
              (mark_most (within tree r k) (held_by box r) (bytes_of box r) (get_or box.since r 0) (marked.since_most r inside));
          parent_since_most =
              λ r inside. rw (arrival_parent_since tree sound big now box kept k length sender r inside, arrival_bytes tree sound big now box kept k length sender (parent tree r))
              (mark_most (within tree r k) (held_by box r) (bytes_of box (parent tree r)) (get_or box.parent_since r 0) (marked.parent_since_most r inside));
        }

  -- a finish
  module _ (busy : head box.rows 0 ≢ 0) where
    abbrev went : Box
    went = departure tree box

    pub departure_sized : (gone : ℕ) → Sized tree most gone box.rows → Sized tree most (suc gone) (departure tree box).rows
    departure_sized gone sized p t inner = go (within tree p (line_class box)) refl t
      where
        later : Kept tree big (suc now) went
        later = departure_kept tree sound big wider now box kept busy

        go :
            (on : Bool) → within tree p (line_class box) ≡ on
            → (t : ℕ) → Taken tree went.rows p t → SizedLevel tree (level_most most (suc gone) went.rows p) went.rows p t
        go true on =
            let (c, move) = departure_on tree sound big now box kept busy p inner on in
            departure_level tree sound most gone box.rows went.rows kept.settled later.settled later.heads_small p inner (line_class box) c move
            (λ t. sized p t inner)
        go false off =
            still_level tree sound most gone box.rows went.rows kept.settled later.settled later.heads_small p inner (suc gone) (omega arith)
            (departure_off tree sound big now box kept busy p inner off) (λ t. sized p t inner)

    pub departure_forward : Forward tree box.rows → Forward tree (departure tree box).rows
    unfolding departure
    departure_forward forward =
        let quiet = departs_quiet tree sound box.rows kept.rows_full kept.settled busy (left box) (left_next tree sound big now box kept busy) in
        levels_forward tree sound box.rows went.rows forward (λ p inner. go p inner (within tree p (line_class box)) refl) quiet.1 quiet.2
      where
        go :
            (p : ℕ) → Inner tree p → (on : Bool) → within tree p (line_class box) ≡ on
            → (j : ℕ) → Kid tree p j → start went.rows j ≤ finish went.rows j
        go p inner true on =
            let (c, move) = departure_on tree sound big now box kept busy p inner on in
            kids_forward tree box.rows went.rows forward p c move.others
            (departed_forward tree box.rows went.rows forward p (line_class box) c move)
        go p inner false off =
            λ j kid. same_forward tree box.rows went.rows forward p j kid ((departure_off tree sound big now box kept busy p inner off).kids j kid)

    -- no count of bytes falls, of a row that is none of the tree's either
    bytes_grow : (r : ℕ) → bytes_of box r ≤ bytes_of (departure tree box) r
    unfolding departure
    bytes_grow r = go (dec_le tree.rows r)
      where
        go : Dec (tree.rows ≤ r) → bytes_of box r ≤ bytes_of (departure tree box) r
        go (yes beyond) =
            omega (
              arith,
              along_beyond tree sound r beyond (λ j n. n + head_length box.rows 0) (line_class box) box.bytes
                  (line_sender tree sound big now box kept busy).inside,
            )
        go (no inside) =
            rw (departure_bytes tree sound big now box kept busy r (omega arith))
            (cond_least (within tree r (line_class box)) _ _ _ (omega arith) (omega arith))

    pub departure_marked : (gone : ℕ) → Marked tree most gone box → Marked tree most (suc gone) (departure tree box)
    unfolding departure
    departure_marked gone marked =
        record {
          bytes_most = bytes;
          since_most = λ r inside. omega (arith, marked.since_most r inside, bytes_grow r);
          parent_since_most = λ r inside. omega (arith, marked.parent_since_most r inside, bytes_grow (parent tree r));
        }
      where
        bytes : (r : ℕ) → r < tree.rows → bytes_of (departure tree box) r ≤ most * suc gone
        bytes r inside =
            let short = kept.heads_small 0 sound.some_rows in
            let before = marked.bytes_most r inside in
            rw (departure_bytes tree sound big now box kept busy r inside)
            (cond_most (within tree r (line_class box)) _ _ _ (omega arith) (omega arith))
