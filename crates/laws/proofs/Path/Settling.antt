-- Heads agree along the tree after an event, where they did before it: from what the event does at each level and to each
-- sending class.
-- Assumes nothing.
use Prim.Native.Nat.{ℕ, ◌+◌, ◌<◌}
use mathlib.Core.Path.{◌≡◌, sym, ◌∙◌, ap, subst}
use mathlib.Core.Logic.{◌≢◌, ◌⊎◌, inl, inr, ⊎_elim}
use mathlib.Core.Bool.{true}
use native.Mathlib.Decide.{ℕ_discrete}
use native.Mathlib.Omega.{arith}
use Rattle.input.specs.Shares.{charge}
use Rattle.input.specs.Classes.{Tree, parent, share}
use Rattle.rules.specs.Box.{Rows, start, finish, head, head_length, head_class}
use Rattle.rules.specs.Promise.{within}
use Rattle.laws.specs.Sound.{Sound, Kid, Inner, Sender}
use Rattle.laws.specs.Moves.{SameHead, Settled, SameKid, SameTop, Still, Others, Headed, Dropped, Pick}
use Rattle.laws.proofs.Tree.Paths.{its_parent, parent_is_inner, self_within, parent_within, sender_alone}
use Rattle.laws.proofs.Tree.Depths.{sender_or_inner, from_children}
use Rattle.laws.proofs.Path.Rising.{taken_head}

-- what an event does at p's level, c being the child that moves
pub data Move (tree : Tree) (a b : Rows) (p : ℕ) : Type 0 where
  rests : Still tree a b p → Move tree a b p
  joins : (c s : ℕ) → Others tree a b p c → head a c ≡ 0 → Headed tree b c s → head a p ≢ 0 → SameTop a b p → Move tree a b p
  takes : (c s k : ℕ) → Others tree a b p c → Headed tree b c s ⊎ Dropped a b c → Pick tree a b p k → Move tree a b p
  empties :
      (c : ℕ) → Others tree a b p c → Dropped a b c → head b p ≡ 0 → head_length b p ≡ 0 → ((j : ℕ) → Kid tree p j → head b j ≡ 0)
      → Move tree a b p

-- a sending class has a packet of its own, with some bytes, or nothing
pub record Own (b : Rows) (k : ℕ) : Type 0 where
  pub class : head b k ≢ 0 → head_class b k ≡ k
  pub some : head b k ≢ 0 → 0 < head_length b k
  pub none : head b k ≡ 0 → head_length b k ≡ 0

-- a head's finish is its start and its charge
abbrev Tagged : Tree → Rows → ℕ → Type 0
Tagged tree b r = finish b r ≡ start b r + charge (head_length b r) (share tree r)

-- row r's head is a packet of a sending class in its part
record Carries (tree : Tree) (b : Rows) (r : ℕ) : Type 0 where
  class : Sender tree (head_class b r)
  part : within tree r (head_class b r) ≡ true
  some : 0 < head_length b r

module _ (tree : Tree) (sound : Sound tree) (a b : Rows) (settled : Settled tree a) where
  -- a sending class that the event leaves alone
  pub own_same : (k : ℕ) → Sender tree k → SameHead a k b k → Own b k
  own_same k sender same = record { class = class; some = some; none = none }
    where
      class : head b k ≢ 0 → head_class b k ≡ k
      class has =
          let before : head a k ≢ 0 = omega arith in
          let inside = (settled.of_sender k sender.inside before).inside in
          let alone = sender_alone tree sound k (head_class a k) sender inside (settled.of_part k sender.inside before) in
          omega arith

      some : head b k ≢ 0 → 0 < head_length b k
      some has = let f = settled.some_length k sender.inside (omega arith) in omega arith

      none : head b k ≡ 0 → head_length b k ≡ 0
      none idle = let f = settled.no_length k sender.inside (omega arith) in omega arith

  module _ (moves : (p : ℕ) → Inner tree p → Move tree a b p) (own : (k : ℕ) → Sender tree k → Own b k) where
    below : (p : ℕ) → Move tree a b p → head b p ≡ 0 → (j : ℕ) → Kid tree p j → head b j ≡ 0
    below p (rests still) idle j kid =
        let e = still.top in
        let f = still.kids j kid in
        let g = settled.idle_below p (omega arith) j kid in
        omega arith
    below p (joins c s others none headed has top) idle j kid = absurd (omega arith)
    below p (takes c s k others move pick) idle j kid = absurd (taken_head tree a b p k pick idle)
    below p (empties c others dropped no_head no_length all) idle j kid = all j kid

    child_of : (p : ℕ) → Inner tree p → Move tree a b p → head b p ≢ 0 → (t : ℕ) × Kid tree p t × SameHead b p b t
    child_of p inner (rests still) has =
        let e = still.top in
        let f = settled.from_child p inner (omega arith) in
        let g = still.kids f.0 f.1 in
        (f.0, f.1, omega arith)
    child_of p inner (joins c s others none headed had top) has =
        let f = settled.from_child p inner had in
        let e = f.2 in
        let g = others f.0 f.1 (λ same. let h = ap (head a) same in omega arith) in
        (f.0, f.1, omega arith)
    child_of p inner (takes c s k others move pick) has = let e = pick.takes in (k, pick.kid, omega arith)
    child_of p inner (empties c others dropped no_head no_length all) has = absurd (omega arith)

    -- a head is a child's head, and so on down to a sending class
    carried : (r : ℕ) → r < tree.rows → head b r ≢ 0 → Carries tree b r
    carried = from_children tree sound (λ r. head b r ≢ 0 → Carries tree b r) next
      where
        next : (r : ℕ) → r < tree.rows → ((j : ℕ) → Kid tree r j → head b j ≢ 0 → Carries tree b j) → head b r ≢ 0 → Carries tree b r
        next r inside below has = ⊎_elim sending from (sender_or_inner tree sound r inside)
          where
            sending : Sender tree r → Carries tree b r
            sending sender =
                let e = (own r sender).class has in
                record {
                  class = subst (λ (k : ℕ). Sender tree k) (sym e) sender;
                  part = subst (λ (k : ℕ). within tree r k ≡ true) (sym e) (self_within tree sound r);
                  some = (own r sender).some has;
                }

            from : Inner tree r → Carries tree b r
            from inner =
                let (t, kid, e) = child_of r inner (moves r inner) has in
                let found = below t kid (omega arith) in
                let same = e.class_same in
                let class : Sender tree (head_class b r) = subst (λ (k : ℕ). Sender tree k) same found.class in
                record {
                  class = class;
                  part =
                      parent_within tree sound r t (head_class b r) class.inside kid
                      (subst (λ (k : ℕ). within tree t k ≡ true) same found.part);
                  some = let h = found.some in omega arith;
                }

    nothing : (r : ℕ) → r < tree.rows → Sender tree r ⊎ Inner tree r → head b r ≡ 0 → head_length b r ≡ 0
    nothing r inside (inl sender) idle = (own r sender).none idle
    nothing r inside (inr inner) idle = go (moves r inner)
      where
        go : Move tree a b r → head_length b r ≡ 0
        go (rests still) = let e = still.top in let f = settled.no_length r inside (omega arith) in omega arith
        go (joins c s others none headed had top) = absurd (omega arith)
        go (takes c s k others move pick) = absurd (taken_head tree a b r k pick idle)
        go (empties c others dropped no_head no_length all) = no_length

    tagged_same : (p r : ℕ) → Kid tree p r → SameKid a b r → head b r ≢ 0 → Tagged tree b r
    tagged_same p r kid same has =
        rw (same.start_same, same.finish_same, same.head_same.length_same)
        (settled.tagged r kid.positive kid.inside (let e = same.head_same in omega arith))

    tagged_moved : (p r c s : ℕ) → Kid tree p r → Others tree a b p c → Headed tree b c s ⊎ Dropped a b c → head b r ≢ 0 → Tagged tree b r
    tagged_moved p r c s kid others moved has = go (ℕ_discrete r c) moved
      where
        go : Dec (r ≡ c) → Headed tree b c s ⊎ Dropped a b c → Tagged tree b r
        go (yes e) (inl headed) = subst (λ (i : ℕ). Tagged tree b i) (sym e) (rw headed.starts headed.ends)
        go (yes e) (inr dropped) = absurd (has (ap (head b) e ∙ dropped.none))
        go (no other) moved = tagged_same p r kid (others r kid other) has

    tags : (p r : ℕ) → Kid tree p r → Move tree a b p → head b r ≢ 0 → Tagged tree b r
    tags p r kid (rests still) has = tagged_same p r kid (still.kids r kid) has
    tags p r kid (joins c s others none headed had top) has = tagged_moved p r c s kid others (inl headed) has
    tags p r kid (takes c s k others moved pick) has = tagged_moved p r c s kid others moved has
    tags p r kid (empties c others dropped no_head no_length all) has = absurd (has (all r kid))

    pub settles : Settled tree b
    settles =
        record {
          idle_below = λ p idle j kid. below p (moves p (parent_is_inner tree sound p j kid)) idle j kid;
          from_child = λ p inner has. child_of p inner (moves p inner) has;
          of_sender = λ r inside has. (carried r inside has).class;
          of_part = λ r inside has. (carried r inside has).part;
          no_length = λ r inside idle. nothing r inside (sender_or_inner tree sound r inside) idle;
          some_length = λ r inside has. (carried r inside has).some;
          tagged =
              λ r positive inside has.
              let kid = its_parent tree sound r positive inside in
              tags (parent tree r) r kid (moves (parent tree r) (parent_is_inner tree sound (parent tree r) r kid)) has;
        }
