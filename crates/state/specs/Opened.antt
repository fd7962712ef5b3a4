-- A state as it was read: its arrays are the lists of the live state that stands in the words.
use Rattle.std.specs.Prelude.{ℕ, ◌≡◌, Bool, true, List, take}
use Rattle.std.proofs.Math.ListN as lists
use Rattle.live_rules.specs.State.{Live, live_in}
use Rattle.live_rules.specs.Soundness.{sound}
use Rattle.holding.specs.Packets.{Senders}
use Rattle.state.specs.declared.State.{State}

pub record Opened (live : Live) (r : State) : Type 0 where
  pub rows : r.rows_count ≡ live.tree.rows
  pub packets : r.packets ≡ lists.length live.packets
  pub accepted : r.accepted ≡ live.accepted
  pub identifiers : take r.rows_count r.identifiers ≡ live.tree.identifiers
  pub parents : r.tree.parents ≡ live.tree.parents
  pub depths : r.tree.depths ≡ live.tree.depths
  pub shares : r.tree.shares ≡ live.tree.shares
  pub senders : Senders live.tree r.rows_count r.senders
  pub starts : r.rows.starts ≡ live.rows.starts
  pub finishes : r.rows.finishes ≡ live.rows.finishes
  pub virtuals : r.rows.virtuals ≡ live.rows.virtuals
  pub heads : r.rows.heads ≡ live.rows.heads
  pub head_lengths : r.rows.head_lengths ≡ live.rows.head_lengths
  pub head_classes : r.rows.head_classes ≡ live.rows.head_classes
  pub bytes : r.counts.bytes ≡ live.bytes
  pub held : r.counts.held ≡ live.held
  pub since : r.counts.since ≡ live.since
  pub parent_since : r.counts.parent_since ≡ live.parent_since

-- what `open` states: whether the state is sound, and where it is, the state
abbrev pub Opens : List ℕ → Bool → State → Type 0
Opens words b r = (b ≡ sound (live_in words)) × (b ≡ true → Opened (live_in words) r)
