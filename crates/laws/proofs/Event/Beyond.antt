-- An event writes no row beyond the tree's last: what is zero there stays zero.
-- Assumes nothing.
use Prim.Native.Nat.{ℕ, zero, suc, pred, ◌+◌, ◌≤◌, ◌<◌}
use mathlib.Core.Path.{◌≡◌, refl, ◌∙◌}
use mathlib.Core.Logic.{◌≢◌, ⊎_elim}
use mathlib.Core.Bool.{Bool, true, false, cond}
use mathlib.Core.List.{List, [], ◌∷◌}
use mathlib.Mathlib.Data.Bool.Basic.{eq-false_of_not-eq-true as refuted}
use native.Mathlib.Omega.{arith}
use lib.ListN.{get_or, set}
use lib.Seq.{get_or-set_other}
use Rattle.rules.specs.declared.Why.{Why}
use Rattle.rules.specs.declared.Why.TheVariants.{Finished, Arrived}
use Rattle.input.specs.Classes.{Tree, parent, depth}
use Rattle.rules.specs.Box.{Packet, Rows, Box, start, finish, virtual, head_length, has_head, bytes_of, held_by, line_class, left}
use Rattle.rules.specs.Steps.{on_path, along, new_head, up, arrives, leaves, renews, goes_on, arrival, departure}
use Rattle.rules.specs.Promise.{within}
use Rattle.laws.specs.Sound.{Sound}
use Rattle.laws.specs.Moves.{Full, SameRow}
use Rattle.laws.proofs.Level.Heads.{same_row, then_same}
use Rattle.laws.proofs.Tree.Paths.{climb, nearer, only_root, below_root}
use Rattle.laws.proofs.Path.Choosing.{new_head_full, new_head_elsewhere}
use Rattle.laws.proofs.Path.Rising.{rises}
use Rattle.laws.proofs.Path.DeparturePath.{leaves_full}

-- the box has nothing in row j
pub record Nothing (box : Box) (j : ℕ) : Type 0 where
  pub start_none : start box.rows j ≡ 0
  pub finish_none : finish box.rows j ≡ 0
  pub virtual_none : virtual box.rows j ≡ 0
  pub length_none : head_length box.rows j ≡ 0
  pub bytes_none : bytes_of box j ≡ 0
  pub held_none : held_by box j ≡ 0

module _ (tree : Tree) (sound : Sound tree) (j : ℕ) (beyond : tree.rows ≤ j) where
  apart : (k : ℕ) → k < tree.rows → j ≢ k
  apart k inside = omega arith

  off : (k : ℕ) → k < tree.rows → within tree j k ≡ false
  off k inside = refuted (climb tree sound (λ x. within tree j x ≡ true → ⊥) (λ on. let same = only_root tree sound j on in omega (arith, sound.some_rows)) up_one k inside)
    where
      up_one : (x : ℕ) → 0 < x → x < tree.rows → (within tree j (parent tree x) ≡ true → ⊥) → within tree j x ≡ true → ⊥
      up_one x positive below above on = ⊎_elim (λ here. omega arith) above (nearer tree sound j x positive below on)

  path_beyond : (f : ℕ → ℕ → ℕ) (d r : ℕ) (xs : List ℕ) → r < tree.rows → depth tree r ≡ d → get_or (on_path d tree f r xs) j 0 ≡ get_or xs j 0
  unfolding on_path
  path_beyond f zero r xs inside deep = get_or-set_other xs r j _ 0 (apart r inside)
  path_beyond f (suc d) r xs inside deep =
      let positive = below_root tree sound r d deep in
      let deeper = sound.deeper r positive inside in
      path_beyond f d (parent tree r) (set xs r (f r (get_or xs r 0))) (sound.parent_row r positive inside) (omega arith)
      ∙ get_or-set_other xs r j _ 0 (apart r inside)

  pub along_beyond : (f : ℕ → ℕ → ℕ) (k : ℕ) (xs : List ℕ) → k < tree.rows → get_or (along tree f k xs) j 0 ≡ get_or xs j 0
  unfolding along
  along_beyond f k xs inside = path_beyond f (depth tree k) k xs inside refl

  -- a new head at k, and whoever chooses above it
  module _ (why : Why) (k : ℕ) (inside : k < tree.rows) (a : Rows) (full : Full a) where
    up_beyond : SameRow a (up (depth tree k) tree why k a) j
    up_beyond = (rises tree sound why (depth tree k) k a inside refl full).off j (off k inside)

    headed_beyond : (packet length : ℕ) → SameRow a (new_head tree why k packet length k a) j
    headed_beyond packet length = new_head_elsewhere tree sound why k packet length k inside a full j (apart k inside)

  arrives_beyond : (place k length : ℕ) → k < tree.rows → (a : Rows) → Full a → SameRow a (arrives tree place k length a) j
  unfolding arrives
  arrives_beyond place k length inside a full = go (has_head a k)
    where
      next : Rows
      next = new_head tree Arrived k (suc place) length k a

      go : (b : Bool) → SameRow a (cond b a (up (depth tree k) tree Arrived k next)) j
      go true = same_row a j
      go false =
          then_same a next (up (depth tree k) tree Arrived k next) j (headed_beyond Arrived k inside a full (suc place) length)
          (up_beyond Arrived k inside next (new_head_full tree sound Arrived k (suc place) length k inside a full))

  leaves_beyond : (k : ℕ) → k < tree.rows → (a : Rows) → SameRow a (leaves tree k a) j
  unfolding leaves
  leaves_beyond k inside a =
      record {
        kid =
            record {
              start_same = refl;
              finish_same = refl;
              head_same =
                  record {
                    packet_same = along_beyond (λ r n. 0) k a.heads inside;
                    length_same = along_beyond (λ r n. 0) k a.head_lengths inside;
                    class_same = along_beyond (λ r n. 0) k a.head_classes inside;
                  };
            };
        virtual_same = refl;
      }

  goes_on_beyond : (k : ℕ) (later : List Packet) → k < tree.rows → (a : Rows) → Full a → SameRow a (goes_on tree k later a) j
  unfolding goes_on renews
  goes_on_beyond k [] inside a full = up_beyond Finished k inside a full
  goes_on_beyond k (packet ∷ later) inside a full =
      let next = new_head tree Finished k (suc packet.place) packet.length k a in
      then_same a next (up (depth tree k) tree Finished k next) j (headed_beyond Finished k inside a full (suc packet.place) packet.length)
      (up_beyond Finished k inside next (new_head_full tree sound Finished k (suc packet.place) packet.length k inside a full))

  -- the row over an event
  pub arrival_row :
      (place k length : ℕ) → k < tree.rows → (box : Box) → Full box.rows → SameRow box.rows (arrival tree place k length box).rows j
  unfolding arrival
  arrival_row place k length inside box full = arrives_beyond place k length inside box.rows full

  pub departure_row : (box : Box) → line_class box < tree.rows → Full box.rows → SameRow box.rows (departure tree box).rows j
  unfolding departure
  departure_row box inside full =
      let k = line_class box in
      let idle = leaves tree k box.rows in
      then_same box.rows idle (goes_on tree k (left box) idle) j (leaves_beyond k inside box.rows)
      (goes_on_beyond k (left box) inside idle (leaves_full tree sound box.rows full k inside))

  -- a box without anything there stays so over an event
  still_nothing : (one two : Box) → Nothing one j → SameRow one.rows two.rows j → bytes_of two j ≡ bytes_of one j → held_by two j ≡ held_by one j → Nothing two j
  still_nothing one two none same bytes held =
      record {
        start_none = same.kid.start_same ∙ none.start_none;
        finish_none = same.kid.finish_same ∙ none.finish_none;
        virtual_none = same.virtual_same ∙ none.virtual_none;
        length_none = same.kid.head_same.length_same ∙ none.length_none;
        bytes_none = bytes ∙ none.bytes_none;
        held_none = held ∙ none.held_none;
      }

  pub arrival_nothing : (place k length : ℕ) → k < tree.rows → (box : Box) → Full box.rows → Nothing box j → Nothing (arrival tree place k length box) j
  unfolding arrival
  arrival_nothing place k length inside box full none =
      still_nothing box (arrival tree place k length box) none (arrival_row place k length inside box full) refl
      (along_beyond (λ r n. suc n) k box.held inside)

  pub departure_nothing : (box : Box) → line_class box < tree.rows → Full box.rows → Nothing box j → Nothing (departure tree box) j
  unfolding departure
  departure_nothing box inside full none =
      still_nothing box (departure tree box) none (departure_row box inside full)
      (along_beyond (λ r n. n + head_length box.rows 0) (line_class box) box.bytes inside)
      (along_beyond (λ r n. pred n) (line_class box) box.held inside)
