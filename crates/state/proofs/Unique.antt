-- The contract leaves no choice: of the verdict none, and of a sound state none in the entries that it speaks of.
-- Assumes nothing.
use Prim.Native.Nat.{ℕ, ◌<◌}
use mathlib.Core.Path.{◌≡◌, sym, subst, ◌∙◌}
use mathlib.Core.Bool.{Bool, false, true}
use mathlib.Core.List.{List}
use lib.ListN.{get_or, take}
use Rattle.live_rules.specs.State.{Live}
use Rattle.state.specs.Opened.{Opened, Opens}
use Rattle.state.specs.declared.State.{State}

-- two states with the same counts, the same lists, and in the rows in use the same identifiers and sending classes
pub record Alike (one other : State) : Type 0 where
  pub rows : one.rows_count ≡ other.rows_count
  pub packets : one.packets ≡ other.packets
  pub accepted : one.accepted ≡ other.accepted
  pub identifiers : take one.rows_count one.identifiers ≡ take other.rows_count other.identifiers
  pub parents : one.tree.parents ≡ other.tree.parents
  pub depths : one.tree.depths ≡ other.tree.depths
  pub shares : one.tree.shares ≡ other.tree.shares
  pub senders : (k : ℕ) → k < one.rows_count → get_or one.senders k false ≡ get_or other.senders k false
  pub starts : one.rows.starts ≡ other.rows.starts
  pub finishes : one.rows.finishes ≡ other.rows.finishes
  pub virtuals : one.rows.virtuals ≡ other.rows.virtuals
  pub heads : one.rows.heads ≡ other.rows.heads
  pub head_lengths : one.rows.head_lengths ≡ other.rows.head_lengths
  pub head_classes : one.rows.head_classes ≡ other.rows.head_classes
  pub bytes : one.counts.bytes ≡ other.counts.bytes
  pub held : one.counts.held ≡ other.counts.held
  pub since : one.counts.since ≡ other.counts.since
  pub parent_since : one.counts.parent_since ≡ other.counts.parent_since

alike : (live : Live) (one other : State) → Opened live one → Opened live other → Alike one other
alike live one other first second =
    let same_rows = first.rows ∙ sym second.rows in
    record {
      rows = same_rows;
      packets = first.packets ∙ sym second.packets;
      accepted = first.accepted ∙ sym second.accepted;
      identifiers = first.identifiers ∙ sym second.identifiers;
      parents = first.parents ∙ sym second.parents;
      depths = first.depths ∙ sym second.depths;
      shares = first.shares ∙ sym second.shares;
      senders = λ k inside. sym (first.senders k inside) ∙ second.senders k (subst (λ (n : ℕ). k < n) same_rows inside);
      starts = first.starts ∙ sym second.starts;
      finishes = first.finishes ∙ sym second.finishes;
      virtuals = first.virtuals ∙ sym second.virtuals;
      heads = first.heads ∙ sym second.heads;
      head_lengths = first.head_lengths ∙ sym second.head_lengths;
      head_classes = first.head_classes ∙ sym second.head_classes;
      bytes = first.bytes ∙ sym second.bytes;
      held = first.held ∙ sym second.held;
      since = first.since ∙ sym second.since;
      parent_since = first.parent_since ∙ sym second.parent_since;
    }

pub one_verdict :
    (words : List ℕ) (b c : Bool) (one other : State) → Opens words b one → Opens words c other → b ≡ c
one_verdict words b c one other first second = first.0 ∙ sym second.0

pub one_state :
    (words : List ℕ) (b c : Bool) (one other : State) → Opens words b one → Opens words c other → b ≡ true → Alike one other
one_state words b c one other first second sound =
    alike _ one other (first.1 sound) (second.1 (second.0 ∙ sym first.0 ∙ sound))
