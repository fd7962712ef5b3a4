-- What a sound live state has, said of its tree, its rows and its packets as the laws of the run say it.
use Rattle.std.specs.Prelude.{ℕ, suc, ◌≤◌, ◌<◌, ◌≡◌, List, [], ◌∷◌, length, get_or}
use Rattle.input.specs.Limits.{most_rows, most_identifier, most_bytes}
use Rattle.input.specs.Classes.{Tree, parent, share, row_of}
use Rattle.rules.specs.Box.{Rows, head, head_class}
use Rattle.laws.specs.Sound.{Sound, Sender}
use Rattle.laws.specs.Kept.{Kept}
use Rattle.laws.specs.Sizes.{Sized, Forward, Marked}
use Rattle.live_rules.specs.Limits.{most_held, most_accepted}
use Rattle.live_rules.specs.State.{Held, Live, box_of, gone, events}

-- ── the lists ──

-- an entry for each row that there can be, zero for the rows out of use
pub record Rowed (n : ℕ) (xs : List ℕ) : Type 0 where
  pub full : length xs ≡ most_rows
  pub unused : (r : ℕ) → n ≤ r → get_or xs r 0 ≡ 0

pub record RowsRowed (n : ℕ) (a : Rows) : Type 0 where
  pub starts : Rowed n a.starts
  pub finishes : Rowed n a.finishes
  pub virtuals : Rowed n a.virtuals
  pub heads : Rowed n a.heads
  pub head_lengths : Rowed n a.head_lengths
  pub head_classes : Rowed n a.head_classes

-- what every state has that is read from the words, sound or not
pub record Shaped (live : Live) : Type 0 where
  pub identifiers : length live.tree.identifiers ≡ live.tree.rows
  pub parents : Rowed live.tree.rows live.tree.parents
  pub depths : Rowed live.tree.rows live.tree.depths
  pub shares : Rowed live.tree.rows live.tree.shares
  pub rows : RowsRowed live.tree.rows live.rows
  pub bytes : Rowed live.tree.rows live.bytes
  pub held : Rowed live.tree.rows live.held
  pub since : Rowed live.tree.rows live.since
  pub parent_since : Rowed live.tree.rows live.parent_since
  pub held_all : get_or live.held 0 0 ≡ length live.packets

-- ── the tree, the packets, the counts ──

pub record Treed (tree : Tree) : Type 0 where
  pub sound : Sound tree
  pub root_parent : parent tree 0 ≡ 0
  pub root_share : share tree 0 ≡ 0
  pub some : (r : ℕ) → r < tree.rows → 0 < get_or tree.identifiers r 0
  pub few : (r : ℕ) → r < tree.rows → get_or tree.identifiers r 0 ≤ most_identifier
  pub apart : (r : ℕ) → r < tree.rows → row_of tree (get_or tree.identifiers r 0) ≡ r

-- packets of sending classes, with names that rise from `least` on and stay below `limit`
unfoldable pub Fitting : Tree → ℕ → ℕ → List Held → Type 0
Fitting tree limit least [] = Unit
Fitting tree limit least (packet ∷ later) =
    Sender tree packet.class × (0 < packet.length) × (packet.length ≤ most_bytes)
    × (least ≤ packet.name) × (packet.name < limit) × Fitting tree limit (suc packet.name) later

pub record Counted (live : Live) : Type 0 where
  pub some_rows : 0 < live.tree.rows
  pub few_rows : live.tree.rows ≤ most_rows
  pub few_held : length live.packets ≤ most_held
  pub held_accepted : length live.packets ≤ live.accepted
  pub few_accepted : live.accepted ≤ most_accepted

-- ── the whole ──

pub record Holds (live : Live) : Type 0 where
  pub shaped : Shaped live
  pub counted : Counted live
  pub treed : Treed live.tree
  pub fitting : Fitting live.tree (events live) 0 live.packets
  pub kept : Kept live.tree (λ (r : ℕ). most_bytes) (events live) (box_of live)
  pub classless : (r : ℕ) → r < live.tree.rows → head live.rows r ≡ 0 → head_class live.rows r ≡ 0
  pub sized : Sized live.tree most_bytes (gone live) live.rows
  pub forward : Forward live.tree live.rows
  pub marked : Marked live.tree most_bytes (gone live) (box_of live)
