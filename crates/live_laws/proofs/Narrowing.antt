-- The words of a sound live state are narrow, and its tags and counts fit in 64 bits with room to spare.
-- Assumes nothing.
use Prim.Native.Nat.{ℕ, zero, suc, ◌+◌, ◌*◌, ◌-◌, ◌^◌, ◌≤◌, ◌<◌}
use mathlib.Core.Path.{◌≡◌, sym, ap, ◌∙◌}
use mathlib.Core.Logic.{◌≢◌, ⊎_elim}
use mathlib.Core.Bool.{Bool, cond}
use mathlib.Core.List.{List}
use native.Mathlib.Decide.{ℕ_discrete, dec_le}
use native.Mathlib.Omega.{arith}
use lib.ListN.{length, get_or, get_or-eq_default}
use Rattle.input.specs.Limits.{most_depth, most_identifier, most_bytes, whole, scale}
use Rattle.input.specs.Shares.{charge}
use Rattle.input.specs.Classes.{Tree, parent, share, child}
use Rattle.input.proofs.Charges.{charge_most}
use Rattle.rules.specs.Box.{Rows, start, finish, virtual, head, head_length, head_class, has_head, queue_of}
use Rattle.laws.specs.Sound.{Sound, Kid, Inner, Sender}
use Rattle.laws.specs.Moves.{Settled}
use Rattle.laws.specs.Kept.{Taken, held_below}
use Rattle.laws.specs.Sizes.{level_most}
use Rattle.laws.proofs.Level.Heads.{some_has, none_has}
use Rattle.laws.proofs.Tree.Paths.{kid_child, climb, its_parent, parent_is_inner}
use Rattle.laws.proofs.Tree.Depths.{sender_or_inner}
use Rattle.laws.proofs.Tree.Trees.{share_whole}
use Rattle.laws.proofs.Event.Holding.{sum_term}
use Rattle.laws.proofs.Event.Keeping.{class_head, busy_holds}
use Rattle.live_rules.specs.Limits.{most_held, most_accepted}
use Rattle.live_rules.specs.State.{Live, box_of, gone, events}
use Rattle.live_laws.specs.Holds.{Rowed, Holds}
use Rattle.live_laws.specs.Narrow.{Narrow, Fits}
use Rattle.live_laws.proofs.TellingHeads.{first_fits}
use Rattle.live_laws.proofs.TellingTags.{taken_at}

-- what the rows in use are within, all rows are
rows_most : (n m : ℕ) (xs : List ℕ) → Rowed n xs → ((r : ℕ) → r < n → get_or xs r 0 ≤ m) → (r : ℕ) → get_or xs r 0 ≤ m
rows_most n m xs rowed each r = go (dec_le n r)
  where
    go : Dec (n ≤ r) → get_or xs r 0 ≤ m
    go (yes out) = let none = rowed.unused r out in omega arith
    go (no inside) = each r (omega arith)

module _ (live : Live) (holds : Holds live) where
  abbrev tree : Tree
  tree = live.tree

  abbrev a : Rows
  a = live.rows

  tree_ok : Sound tree
  tree_ok = holds.treed.sound

  settled : Settled tree a
  unfolding box_of
  settled = holds.kept.settled

  -- ── the tree ──

  identifier_most : (r : ℕ) → get_or tree.identifiers r 0 ≤ most_identifier
  identifier_most r = go (dec_le tree.rows r)
    where
      go : Dec (tree.rows ≤ r) → get_or tree.identifiers r 0 ≤ most_identifier
      go (yes out) =
          let all = holds.shaped.identifiers in
          let none = get_or-eq_default tree.identifiers 0 {n = r} (omega arith) in
          omega arith
      go (no inside) = holds.treed.few r (omega arith)

  parent_most : (r : ℕ) → r < tree.rows → parent tree r ≤ 255
  parent_most zero inside = let root = holds.treed.root_parent in omega arith
  parent_most (suc r) inside =
      let above = tree_ok.parent_row (suc r) (omega arith) inside in
      let few = tree_ok.few_rows in
      omega arith

  share_most : (r : ℕ) → r < tree.rows → share tree r ≤ whole
  share_most zero inside = let root = holds.treed.root_share in omega arith
  share_most (suc r) inside = share_whole (share tree (suc r)) (tree_ok.share_allowed (suc r) (omega arith) inside)

  -- ── heads ──

  small_head : (r : ℕ) → r < tree.rows → head_length a r ≤ most_bytes
  unfolding box_of
  small_head r inside = holds.kept.heads_small r inside

  -- a head has arrived: it is the first in its class's queue
  head_most : (r : ℕ) → r < tree.rows → head a r ≤ events live
  unfolding box_of
  head_most r inside = go (ℕ_discrete (head a r) 0)
    where
      go : Dec (head a r ≡ 0) → head a r ≤ events live
      go (yes none) = omega arith
      go (no has) =
          let k = head_class a r in
          let sender = settled.of_sender r inside has in
          let same = class_head tree tree_ok a settled r inside has in
          let first =
          (first_fits a k (events live) most_bytes 0 (queue_of (box_of live) k) (λ none. has (sym same.packet_same ∙ none))
          (holds.kept.heads_kept k sender) (holds.kept.queues_kept k sender)).3 in
          omega (arith, same.packet_same)

  events_few : events live < 2 ^ 32 - 1
  unfolding events
  events_few = let few = holds.counted.few_accepted in omega arith

  class_most : (r : ℕ) → r < tree.rows → head_class a r ≤ 255
  class_most r inside = go (ℕ_discrete (head a r) 0)
    where
      go : Dec (head a r ≡ 0) → head_class a r ≤ 255
      go (yes none) = let is = holds.classless r inside none in omega arith
      go (no has) =
          let class = (settled.of_sender r inside has).inside in
          let few = tree_ok.few_rows in
          omega arith

  -- ── what is held ──

  kid_holds : (p j : ℕ) → Kid tree p j → get_or live.held j 0 ≤ get_or live.held p 0
  unfolding box_of held_below
  kid_holds p j kid =
      let all = holds.kept.held_inner p (parent_is_inner tree tree_ok p j kid) in
      let part = sum_term tree.rows (λ j. cond (child tree p j) (get_or live.held j 0) 0) j kid.inside in
      let term = ap (λ (b : Bool). cond b (get_or live.held j 0) 0) (kid_child tree p j kid) in
      omega arith

  -- no row holds more than the root
  pub row_holds : (r : ℕ) → r < tree.rows → get_or live.held r 0 ≤ length live.packets
  row_holds =
      climb tree tree_ok (λ r. get_or live.held r 0 ≤ length live.packets) (let all = holds.shaped.held_all in omega arith)
      (λ r positive inside above. let fewer = kid_holds (parent tree r) r (its_parent tree tree_ok r positive inside) in omega arith)

  -- where a row has a head, a packet has not left yet
  pub busy_gone : (r : ℕ) → r < tree.rows → head a r ≢ 0 → suc (gone live) ≤ most_accepted
  unfolding box_of gone
  busy_gone r inside has =
      let some =
      busy_holds tree tree_ok (λ r. most_bytes) (λ j positive inside. omega arith) (events live) (box_of live) holds.kept r inside has in
      let fewer = row_holds r inside in
      let counted = holds.counted in
      omega arith

  pub few_gone : gone live ≤ most_accepted
  unfolding gone
  few_gone = let counted = holds.counted in omega arith

  -- ── tags ──

  pub level_fits : (p : ℕ) → p < tree.rows → level_most most_bytes (gone live) a p ≤ scale * most_bytes * most_accepted
  level_fits p inside = go (ℕ_discrete (head a p) 0)
    where
      go : Dec (head a p ≡ 0) → scale * most_bytes * (gone live + cond (has_head a p) 1 0) ≤ scale * most_bytes * most_accepted
      go (yes none) = let few = few_gone in rw (none_has a p none) (omega arith)
      go (no has) = let few = busy_gone p inside has in rw (some_has a p has) (omega arith)

  virtual_fits : (r : ℕ) → r < tree.rows → virtual a r ≤ scale * most_bytes * most_accepted
  unfolding box_of
  virtual_fits r inside = ⊎_elim rests moves (sender_or_inner tree tree_ok r inside)
    where
      rests : Sender tree r → virtual a r ≤ scale * most_bytes * most_accepted
      rests sender = let none = holds.kept.sender_virtual r sender in omega arith

      moves : Inner tree r → virtual a r ≤ scale * most_bytes * most_accepted
      moves inner =
          let (t, taken) = taken_at tree tree_ok a settled (gone live) r inner in
          let within_most = (holds.sized r t inner taken).virtual_sized in
          let most = level_fits r inside in
          omega arith

  -- a row that waits finishes a charge after its level's most, any other within it
  kid_finish : (p j t : ℕ) → Kid tree p j → Inner tree p → Taken tree a p t → finish a j ≤ scale * most_bytes * suc most_accepted
  kid_finish p j t kid inner taken = go (ℕ_discrete j t) (ℕ_discrete (head a j) 0)
    where
      go : Dec (j ≡ t) → Dec (head a j ≡ 0) → finish a j ≤ scale * most_bytes * suc most_accepted
      go (yes is) head_or_none =
          let within_most = (holds.sized p t inner taken).taken_sized (rw is at kid) in
          let most = level_fits p inner.inside in
          rw is (omega arith)
      go (no other) (yes none) =
          let within_most = (holds.sized p t inner taken).idle_sized j kid other none in
          let most = level_fits p inner.inside in
          omega arith
      go (no other) (no has) =
          let within_most = (holds.sized p t inner taken).waiting_sized j kid other has in
          let most = level_fits p inner.inside in
          let ends = settled.tagged j kid.positive kid.inside has in
          let cost = charge_most (head_length a j) (share tree j) in
          let small = small_head j kid.inside in
          omega arith

  finish_fits : (r : ℕ) → r < tree.rows → finish a r ≤ scale * most_bytes * suc most_accepted
  unfolding box_of
  finish_fits zero inside = let none = holds.kept.root_finish in omega arith
  finish_fits (suc r) inside =
      let kid = its_parent tree tree_ok (suc r) (omega arith) inside in
      let inner = parent_is_inner tree tree_ok (parent tree (suc r)) (suc r) kid in
      let (t, taken) = taken_at tree tree_ok a settled (gone live) (parent tree (suc r)) inner in
      kid_finish (parent tree (suc r)) (suc r) t kid inner taken

  start_fits : (r : ℕ) → r < tree.rows → start a r ≤ scale * most_bytes * suc most_accepted
  start_fits r inside =
      let forward = holds.forward r inside in
      let ends = finish_fits r inside in
      omega arith

  -- ── counts ──

  bytes_fit : (r : ℕ) → r < tree.rows → get_or live.bytes r 0 ≤ 2 ^ 45
  unfolding box_of
  bytes_fit r inside =
      let most = holds.marked.bytes_most r inside in
      let few = few_gone in
      omega arith

  since_fits : (r : ℕ) → r < tree.rows → get_or live.since r 0 ≤ 2 ^ 45
  unfolding box_of
  since_fits r inside =
      let most = holds.marked.since_most r inside in
      let fits = bytes_fit r inside in
      omega arith

  parent_since_fits : (r : ℕ) → r < tree.rows → get_or live.parent_since r 0 ≤ 2 ^ 45
  unfolding box_of
  parent_since_fits r inside =
      let most = holds.marked.parent_since_most r inside in
      let fits = rows_most tree.rows (2 ^ 45) live.bytes holds.shaped.bytes bytes_fit (parent tree r) in
      omega arith

-- ── the whole ──

pub narrow : (live : Live) → Holds live → Narrow live
narrow live holds =
    let n = live.tree.rows in
    let shaped = holds.shaped in
    record {
      identifiers = identifier_most live holds;
      parents = rows_most n 255 live.tree.parents shaped.parents (parent_most live holds);
      depths = rows_most n most_depth live.tree.depths shaped.depths holds.treed.sound.shallow;
      shares = rows_most n whole live.tree.shares shaped.shares (share_most live holds);
      heads = λ r.
          let most = rows_most n (events live) live.rows.heads shaped.rows.heads (head_most live holds) r in
          let few = events_few live holds in
          omega arith;
      head_lengths = rows_most n most_bytes live.rows.head_lengths shaped.rows.head_lengths (small_head live holds);
      head_classes = rows_most n 255 live.rows.head_classes shaped.rows.head_classes (class_most live holds);
      held =
          rows_most n most_held live.held shaped.held
          (λ r inside. let fewer = row_holds live holds r inside in let few = holds.counted.few_held in omega arith);
    }

pub fits : (live : Live) → Holds live → Fits live
fits live holds =
    let n = live.tree.rows in
    let shaped = holds.shaped in
    record {
      starts =
          rows_most n (2 ^ 63 + 2 ^ 62) live.rows.starts shaped.rows.starts
          (λ r inside. let most = start_fits live holds r inside in omega arith);
      finishes =
          rows_most n (2 ^ 63 + 2 ^ 62) live.rows.finishes shaped.rows.finishes
          (λ r inside. let most = finish_fits live holds r inside in omega arith);
      virtuals =
          rows_most n (2 ^ 63 + 2 ^ 62) live.rows.virtuals shaped.rows.virtuals
          (λ r inside. let most = virtual_fits live holds r inside in omega arith);
      bytes = rows_most n (2 ^ 45) live.bytes shaped.bytes (bytes_fit live holds);
      since = rows_most n (2 ^ 45) live.since shaped.since (since_fits live holds);
      parent_since = rows_most n (2 ^ 45) live.parent_since shaped.parent_since (parent_since_fits live holds);
    }
