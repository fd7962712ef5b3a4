-- What the rules' arrival and departure make of the counts, from what is stored at each row of the path.
-- Assumes nothing.
use Prim.Native.Nat.{ℕ, suc, pred, ◌+◌, ◌-◌, ◌≤◌, ◌<◌}
use mathlib.Core.Path.{◌≡◌, refl, sym, ◌∙◌}
use lib.ListN.{get_or}
use Rattle.input.specs.Classes.{Tree}
use Rattle.rules.specs.Box.{Box, head_class, head_length}
use Rattle.rules.specs.Steps.{arrival, departure}
use Rattle.rules.proofs.OnPath.{Remains, remains_all, remains_less, remains_last, along_by}
use Rattle.arrays.specs.declared.TreeArrays.{TreeArrays}
use Rattle.arrays.specs.declared.CountArrays.{CountArrays}
use Rattle.counts.specs.Counts.{Paths, Counts, own, above, begun, changed, path_tree, Entered, Left}
use Rattle.counts.proofs.Marks.{Marked, marked_none, marked_as, marked_more}

-- ── an arrival ──

-- with d rows above row r still to come, what remains of the path's changes from row k on is the whole of them, and the marks are those of the
-- packets held before
pub record Entering (t : TreeArrays) (k : ℕ) (was : CountArrays) (d r : ℕ) (now : CountArrays) : Type 0 where
  pub stay : now.bytes ≡ was.bytes
  pub more : Remains (path_tree t) (λ r' n. suc n) k was.held d r now.held
  pub ours : Remains (path_tree t) (begun was.held (own was.bytes)) k was.since d r now.since
  pub theirs : Remains (path_tree t) (begun was.held (above t.parents was.bytes)) k was.parent_since d r now.parent_since
  pub marked : Marked was.held (own was.bytes) now.held now.since
  pub above_marked : Marked was.held (above t.parents was.bytes) now.held now.parent_since

module _ {t : TreeArrays} {k : ℕ} {was : CountArrays} where
  pub entering_all : {d : ℕ} → d ≡ get_or t.depths k 0 → Entering t k was d k was
  entering_all deep =
      record { stay = refl; more = remains_all deep; ours = remains_all deep; theirs = remains_all deep; marked = marked_none; above_marked = marked_none }

  module _ {d r : ℕ} {now next : CountArrays} (before : Entering t k was d r now) (at : Entered t r now next) where
    ours_at : next.since ≡ changed (begun was.held (own was.bytes)) r now.since
    ours_at = marked_as r before.marked (rw before.stay at at.since_after)

    theirs_at : next.parent_since ≡ changed (begun was.held (above t.parents was.bytes)) r now.parent_since
    theirs_at = marked_as r before.above_marked (rw before.stay at at.parent_since_after)

    pub entering_less : {s : ℕ} → 0 < d → s ≡ get_or t.parents r 0 → Entering t k was (d - 1) s next
    entering_less some up =
        record {
          stay = at.bytes_stay ∙ before.stay;
          more = remains_less some up at.held_after before.more;
          ours = remains_less some up ours_at before.ours;
          theirs = remains_less some up theirs_at before.theirs;
          marked = marked_more r before.marked (rw before.stay at at.since_after) at.held_after;
          above_marked = marked_more r before.above_marked (rw before.stay at at.parent_since_after) at.held_after;
        }

    pub entering_last : d ≤ 0 → (tree : Tree) (box : Box) (place length : ℕ) → Paths tree t → Counts box was → Counts (arrival tree place k length box) next
    unfolding arrival
    entering_last none tree box place length by counts =
        let same = along_by tree (path_tree t) by.parents by.depths in
        record {
          bytes = counts.bytes ∙ sym (at.bytes_stay ∙ before.stay);
          held = same _ k _ ∙ rw counts.held (sym (remains_last none at.held_after before.more));
          since = same _ k _ ∙ rw (counts.held, counts.bytes, counts.since) (sym (remains_last none ours_at before.ours));
          parent_since = same _ k _ ∙ rw (counts.held, counts.bytes, counts.parent_since, by.parents) (sym (remains_last none theirs_at before.theirs));
        }

-- ── a finish ──

pub record Leaving (t : TreeArrays) (length k : ℕ) (was : CountArrays) (d r : ℕ) (now : CountArrays) : Type 0 where
  pub more : Remains (path_tree t) (λ r' n. n + length) k was.bytes d r now.bytes
  pub less : Remains (path_tree t) (λ r' n. pred n) k was.held d r now.held
  pub since_stays : now.since ≡ was.since
  pub parent_since_stays : now.parent_since ≡ was.parent_since

module _ {t : TreeArrays} {length k : ℕ} {was : CountArrays} where
  pub leaving_all : {d : ℕ} → d ≡ get_or t.depths k 0 → Leaving t length k was d k was
  leaving_all deep = record { more = remains_all deep; less = remains_all deep; since_stays = refl; parent_since_stays = refl }

  module _ {d r : ℕ} {now next : CountArrays} (before : Leaving t length k was d r now) (at : Left length r now next) where
    pub leaving_less : {s : ℕ} → 0 < d → s ≡ get_or t.parents r 0 → Leaving t length k was (d - 1) s next
    leaving_less some up =
        record {
          more = remains_less some up at.bytes_after before.more;
          less = remains_less some up at.held_after before.less;
          since_stays = at.since_stays ∙ before.since_stays;
          parent_since_stays = at.parent_since_stays ∙ before.parent_since_stays;
        }

    pub leaving_last : d ≤ 0 → (tree : Tree) (box : Box) → Paths tree t → head_class box.rows 0 ≡ k → head_length box.rows 0 ≡ length → Counts box was
        → Counts (departure tree box) next
    unfolding departure
    leaving_last none tree box by class long counts =
        let same = along_by tree (path_tree t) by.parents by.depths in
        record {
          bytes = same _ _ _ ∙ rw (class, long, counts.bytes) (sym (remains_last none at.bytes_after before.more));
          held = same _ _ _ ∙ rw (class, counts.held) (sym (remains_last none at.held_after before.less));
          since = counts.since ∙ sym (at.since_stays ∙ before.since_stays);
          parent_since = counts.parent_since ∙ sym (at.parent_since_stays ∙ before.parent_since_stays);
        }
