-- The line's packet leaves its path: nobody on it waited to be taken, and who waits beside it did so before.
-- Assumes nothing.
use Prim.Native.Nat.{ℕ, ◌<◌}
use mathlib.Core.Path.{◌≡◌, refl, sym, ◌∙◌, subst}
use mathlib.Core.Logic.{◌≢◌}
use mathlib.Core.Bool.{Bool, true, false, false≢true}
use Rattle.input.specs.Classes.{Tree, parent}
use Rattle.rules.specs.Box.{Rows, head, head_class}
use Rattle.rules.specs.Promise.{within}
use Rattle.rules.specs.Steps.{leaves}
use Rattle.laws.specs.Sound.{Sound, Kid}
use Rattle.laws.specs.Moves.{SameRow, Settled}
use Rattle.laws.proofs.Tree.Paths.{its_parent, parent_is_inner, parent_within, child_within}
use Rattle.laws.proofs.Tree.Depths.{kid_off}
use Rattle.laws.proofs.Path.DeparturePath.{leaves_full, leaves_on, leaves_off, path_heads}
use Rattle.laws.proofs.Path.Naming.{named_apart, leaves_named}
use Rattle.heaps.specs.Heaps.{Forest}
use Rattle.filing.specs.Heaped.{Untaken, Owned, Heaped}
use Rattle.filing.proofs.Anew.{heaps_after, untaken_as, no_kid}

module _ (tree : Tree) (sound : Sound tree) (class_of : ℕ → ℕ) where
  module _ (a : Rows) (f : Forest) (settled : Settled tree a) (busy : head a 0 ≢ 0) (old : Heaped tree class_of a 0 f) where
    abbrev line : ℕ
    line = head_class a 0

    line_in : line < tree.rows
    line_in = (settled.of_sender 0 sound.some_rows busy).inside

    abbrev left : Rows
    left = leaves tree line a

    off : (r : ℕ) → r < tree.rows → within tree r line ≡ false → SameRow a left r
    off = leaves_off tree sound a old.full line line_in

    on : (r : ℕ) → r < tree.rows → within tree r line ≡ true → head left r ≡ 0
    on r inside is = (leaves_on tree sound a old.full line line_in r inside is).none

    -- every row on the path had the line's packet for its head, so that none of them waited to be taken
    line_head : (r : ℕ) → r < tree.rows → within tree r line ≡ true → head a r ≡ head a 0
    line_head r inside is = (path_heads tree sound a old.full settled busy r inside is).packet_same

    waits_off : (x : ℕ) → Untaken tree a x → within tree x line ≡ false
    waits_off x was = go (within tree x line) refl
      where
        kid : Kid tree (parent tree x) x
        kid = its_parent tree sound x was.positive was.inside

        go : (t : Bool) → within tree x line ≡ t → within tree x line ≡ false
        go false is = is
        go true is =
            let above = parent_within tree sound (parent tree x) x line line_in kid is in
            absurd (was.other (line_head x was.inside is ∙ sym (line_head (parent tree x) (parent_is_inner tree sound (parent tree x) x kid).inside above)))

    left_waits : (x : ℕ) → Untaken tree left x → within tree x line ≡ false
    left_waits x now = go (within tree x line) refl
      where
        go : (t : Bool) → within tree x line ≡ t → within tree x line ≡ false
        go false is = is
        go true is = absurd (now.has (on x now.inside is))

    -- a row beside the path waits before and after: its parent had another head, or has none now
    left_untaken : (x : ℕ) → Untaken tree a x → Untaken tree left x
    left_untaken x was = go (within tree (parent tree x) line) refl
      where
        own : head left x ≡ head a x
        own = (off x was.inside (waits_off x was)).kid.head_same.packet_same

        above : parent tree x < tree.rows
        above = (parent_is_inner tree sound (parent tree x) x (its_parent tree sound x was.positive was.inside)).inside

        go : (t : Bool) → within tree (parent tree x) line ≡ t → Untaken tree left x
        go false is = untaken_as tree a left x own (off (parent tree x) above is).kid.head_same.packet_same was
        go true is =
            let has : head left x ≢ 0 = λ e. was.has (sym own ∙ e) in
            record { positive = was.positive; inside = was.inside; has = has; other = λ e. has (e ∙ on (parent tree x) above is) }

    was_untaken : (x : ℕ) → Untaken tree left x → Untaken tree a x
    was_untaken x now = go (within tree (parent tree x) line) refl
      where
        beside : within tree x line ≡ false
        beside = left_waits x now

        own : head left x ≡ head a x
        own = (off x now.inside beside).kid.head_same.packet_same

        kid : Kid tree (parent tree x) x
        kid = its_parent tree sound x now.positive now.inside

        above : parent tree x < tree.rows
        above = (parent_is_inner tree sound (parent tree x) x kid).inside

        has : head a x ≢ 0
        has e = now.has (own ∙ e)

        go : (t : Bool) → within tree (parent tree x) line ≡ t → Untaken tree a x
        go false is = untaken_as tree left a x (sym own) (sym (off (parent tree x) above is).kid.head_same.packet_same) now
        go true is =
            let busy_above : head a (parent tree x) ≢ 0 = λ e. busy (sym (line_head (parent tree x) above is) ∙ e) in
            let apart_line : (parent tree x) ≢ line =
            λ e. no_kid tree sound line x (settled.of_sender 0 sound.some_rows busy) (subst (λ (q : ℕ). Kid tree q x) e kid) in
            let (c, kid_c, on_c) = child_within tree sound (parent tree x) line line_in is apart_line in
            let other : x ≢ c = λ e. false≢true (sym beside ∙ subst (λ (i : ℕ). within tree i line ≡ true) (sym e) on_c) in
            record {
              positive = now.positive;
              inside = now.inside;
              has = has;
              other = λ e.
                  other
                  (named_apart tree sound class_of a old.named (parent tree x) x c kid kid_c has
                  (e ∙ line_head (parent tree x) above is ∙ sym (line_head c kid_c.inside on_c)));
            }

    left_owned : Owned tree left 0
    left_owned p x kid some =
        let inside = (parent_is_inner tree sound p x kid).inside in
        let beside = away p inside some in
        let same = off p inside beside in
        let (t, kid_t, apart, own) = old.owned p x kid (λ e. some (same.kid.head_same.packet_same ∙ e)) in
        let t_same = off t kid_t.inside (kid_off tree sound line line_in p t kid_t beside) in
        (t, kid_t, apart, t_same.kid.head_same.packet_same ∙ own ∙ sym same.kid.head_same.packet_same)
      where
        away : (p : ℕ) → p < tree.rows → head left p ≢ 0 → within tree p line ≡ false
        away p inside some = go (within tree p line) refl
          where
            go : (t : Bool) → within tree p line ≡ t → within tree p line ≡ false
            go false is = is
            go true is = absurd (some (on p inside is))

    pub line_left : Heaped tree class_of (leaves tree (head_class a 0) a) 0 f
    unfolding leaves
    line_left =
        record {
          full = leaves_full tree sound a old.full line line_in;
          named = leaves_named tree sound class_of line line_in a old.full old.named;
          owned = left_owned;
          home = old.home;
          heaps =
              heaps_after a left f old.home
              (λ x at. let was = (old.filed x at).0 in off x was.inside (waits_off x was)) old.heaps;
          filed = λ x at. let was = old.filed x at in (left_untaken x was.0, was.1);
          at_home = λ x now apart. old.at_home x (was_untaken x now) apart;
        }
