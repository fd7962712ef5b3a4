-- The laws of a row's two heaps: they stay heaps, and they tell what looking at all rows finds.
-- Assumes nothing.
use Prim.Native.Nat.{ℕ, suc, ◌≤◌, ◌<◌, max}
use mathlib.Core.Path.{◌≡◌, refl, sym, ◌∙◌}
use mathlib.Core.Logic.{◌≢◌, inl, inr, ⊎_elim}
use mathlib.Core.Bool.{Bool, true, false}
use mathlib.Core.List.{List}
use native.Mathlib.Decide.{ℕ_discrete, dec_le}
use native.Mathlib.Omega.{arith}
use lib.Dec.{eqb}
use lib.ListN.{get_or}
use borrow.Author.Tests.{eq-eqb, ne_eqb, le-leb, lt-leb, ltb-false}
use Rattle.input.specs.Limits.{most_rows}
use Rattle.input.specs.Classes.{Tree}
use Rattle.rules.specs.Box.{Rows, start, finish, virtual, head}
use Rattle.rules.specs.Steps.{least, waits, eligible, raised, pick}
use Rattle.laws.proofs.Path.Tests.{both_ways, cond_least}
use Rattle.laws.proofs.Path.Least.{Leads, Found, found, found_same}
use Rattle.laws.proofs.Path.Choosing.{waits_root, eligible_root, in_time_eligible, eligible_in_time}
use Rattle.heaps.specs.Order.{before}
use Rattle.heaps.specs.Heaps.{Forest, top, Heaps, Foremost, moved}
use Rattle.heaps.proofs.Orders.{before_keys}
use Rattle.heaps.proofs.Laws.{joins, first_of, parts, heaps_same}
use Rattle.waiting.specs.Waiting.{order_of, eligible_heap, added, home_of, later, time_of, ready, child_of, rest_of, chosen_home, Here}
use Rattle.waiting.proofs.Ripening.{by_start, by_finish, ripe_home, ripe_moves, ripe_stays, all_ripe}

-- x, which is in no heap, is added
pub added_heaps : (a : Rows) (p v x : ℕ) (f : Forest) (home : ℕ → ℕ) → p < most_rows → 0 < x → x < most_rows → home x ≡ 0
    → Heaps (order_of a.starts a.finishes a.heads) f home
    → Heaps (order_of a.starts a.finishes a.heads) (added a.starts a.finishes a.heads p v x f)
    (moved home x (home_of a.starts p v x))
unfolding added home_of
added_heaps a p v x f home inside positive low nowhere heaps = go (dec_le (start a x) v)
  where
    go : Dec (start a x ≤ v)
        → Heaps (order_of a.starts a.finishes a.heads) (added a.starts a.finishes a.heads p v x f)
        (moved home x (home_of a.starts p v x))
    go (yes early) =
        rw (le-leb (start a x) v early)
        (joins a.finishes a.heads _ (eligible_heap p) x f home (by_finish a.starts a.finishes a.heads p) (omega arith) positive low nowhere heaps)
    go (no late) =
        rw (lt-leb (start a x) v (omega arith))
        (joins a.starts a.heads _ p x f home (by_start a.starts a.finishes a.heads p inside) (omega arith) positive low nowhere heaps)

-- where x does not come before y in a heap, y is not after x by the rules
leads : (test : ℕ → Bool) (keys heads : List ℕ) (x y : ℕ) → before keys heads x y ≡ false
    → Leads test (λ (i : ℕ). get_or keys i 0) (λ (i : ℕ). get_or heads i 0) y x
unfolding before
leads test keys heads x y is =
    record {
      by_key = before_keys keys heads x y is;
      by_place = λ same. ltb-false (get_or heads x 0) (get_or heads y 0) (rw (eq-eqb (get_or keys x 0) (get_or keys y 0) (sym same)) at is);
    }

module _ (tree : Tree) (a : Rows) (p : ℕ) (inside : p < most_rows) (f : Forest) (home : ℕ → ℕ)
    (heaps : Heaps (order_of a.starts a.finishes a.heads) f home) (here : Here tree a p home)
  where
    -- ── the virtual time ──

    abbrev order : ℕ → ℕ → ℕ → Bool
    order = order_of a.starts a.finishes a.heads

    -- the waiting child with the least start
    abbrev soonest : ℕ
    soonest = least (waits tree a p) (start a) (head a) tree.rows

    first_waiting : Foremost (before a.starts a.heads) p (top f p) home
    first_waiting = first_of a.starts a.heads order p f home (by_start a.starts a.finishes a.heads p inside) (omega arith) heaps

    first_eligible : Foremost (before a.finishes a.heads) (eligible_heap p) (top f (eligible_heap p)) home
    first_eligible =
        first_of a.finishes a.heads order (eligible_heap p) f home (by_finish a.starts a.finishes a.heads p) (omega arith) heaps

    -- where none is eligible who waits is in heap p
    unstarted : top f (eligible_heap p) ≡ 0 → (x : ℕ) → x < tree.rows → waits tree a p x ≡ true → home x ≡ suc p
    unstarted none x low wait = ⊎_elim (λ e. e) (λ e. absurd (first_eligible.none none x e)) (here.in_heap x low wait)

    some_wait : (x : ℕ) → x < tree.rows → waits tree a p x ≡ true
        → Found (waits tree a p) (start a) (head a) (λ j. j < tree.rows) soonest → (soonest ≢ 0) × (start a soonest ≤ start a x)
    some_wait x low wait (inl g) = both_ways (waits tree a p x) _ (g.1 x low) wait
    some_wait x low wait (inr g) = (g.0, (g.1.2 x low wait).by_key)

    pub time_right : time_of a.starts p (virtual a p) f ≡ raised tree a p
    unfolding time_of later raised
    time_right =
        go (ℕ_discrete (top f (eligible_heap p)) 0) (ℕ_discrete (top f p) 0)
        (found (waits tree a p) (start a) (head a) (waits_root tree a p) tree.rows)
      where
        go : Dec (top f (eligible_heap p) ≡ 0) → Dec (top f p ≡ 0) → Found (waits tree a p) (start a) (head a) (λ j. j < tree.rows) soonest
            → time_of a.starts p (virtual a p) f ≡ raised tree a p
        go (no some) d g =
            let k = here.eligible (top f (eligible_heap p)) (first_eligible.member (omega arith)) in
            let lower = some_wait (top f (eligible_heap p)) k.0 k.1 g in
            rw (ne_eqb (top f (eligible_heap p)) 0 some, ne_eqb soonest 0 lower.0) (omega (arith, k.2, lower.1))
        go (yes none) (yes empty) (inl g) = rw (eq-eqb (top f (eligible_heap p)) 0 none, eq-eqb (top f p) 0 empty, eq-eqb soonest 0 g.0)
        go (yes none) (yes empty) (inr g) = absurd (first_waiting.none empty soonest (unstarted none soonest g.1.0 g.1.1))
        go (yes none) (no some) (inl g) =
            let k = here.waiting (top f p) (first_waiting.member (omega arith)) in
            both_ways (waits tree a p (top f p)) _ (g.1 (top f p) k.0) k.1
        go (yes none) (no some) (inr g) =
            let k = here.waiting (top f p) (first_waiting.member (omega arith)) in
            let lower = (g.1.2 (top f p) k.0 k.1).by_key in
            let upper = before_keys a.starts a.heads soonest (top f p)
            (first_waiting.first (omega arith) soonest (unstarted none soonest g.1.0 g.1.1)) in
            rw (eq-eqb (top f (eligible_heap p)) 0 none, ne_eqb (top f p) 0 some, ne_eqb soonest 0 g.0) (omega arith)

    -- ── the child that is taken ──

    abbrev t : ℕ
    t = raised tree a p

    not_earlier : virtual a p ≤ t
    unfolding raised
    not_earlier = cond_least (eqb soonest 0) (virtual a p) (max (virtual a p) (start a soonest)) (virtual a p) (omega arith) (omega arith)

    abbrev ripe : ℕ → ℕ
    ripe = ripe_home a.starts p t home

    ready_heaps : Heaps order (ready a.starts a.finishes a.heads p (virtual a p) f) ripe
    unfolding ready
    ready_heaps = rw time_right (all_ripe a.starts a.finishes a.heads p t inside f home heaps)

    -- exactly those that are eligible at t are in the heap of the eligible
    eligible_in : (x : ℕ) → x < tree.rows → eligible tree a p t x ≡ true → ripe x ≡ suc (eligible_heap p)
    eligible_in x low is =
        let test = eligible_in_time tree a p t x is in
        ⊎_elim (λ e. ripe_moves a.starts p t home x e test.1) (λ e. ripe_stays a.starts p t home x (λ back. absurd (omega arith)) ∙ e)
        (here.in_heap x low test.0)

    in_eligible : (x : ℕ) → ripe x ≡ suc (eligible_heap p) → (x < tree.rows) × (eligible tree a p t x ≡ true)
    in_eligible x is = go (ℕ_discrete (home x) (suc p)) (dec_le (start a x) t)
      where
        go : Dec (home x ≡ suc p) → Dec (start a x ≤ t) → (x < tree.rows) × (eligible tree a p t x ≡ true)
        go (yes e) (yes early) = let known = here.waiting x e in (known.0, in_time_eligible tree a p t x known.1 early)
        go (yes e) (no late) = let stays = ripe_stays a.starts p t home x (λ back. omega arith) in absurd (omega arith)
        go (no other) d =
            let known = here.eligible x (sym (ripe_stays a.starts p t home x (λ e. absurd (other e))) ∙ is) in
            (known.0, in_time_eligible tree a p t x known.1 (omega (arith, known.2, not_earlier)))

    abbrev child : ℕ
    child = child_of a.starts a.finishes a.heads p (virtual a p) f

    first_ripe : Foremost (before a.finishes a.heads) (eligible_heap p) child ripe
    unfolding child_of
    first_ripe =
        first_of a.finishes a.heads order (eligible_heap p) _ ripe (by_finish a.starts a.finishes a.heads p) (omega arith) ready_heaps

    child_found : Dec (child ≡ 0) → Found (eligible tree a p t) (finish a) (head a) (λ j. j < tree.rows) child
    child_found (yes none) = inl (none, λ j low. go j low (eligible tree a p t j) refl)
      where
        go : (j : ℕ) → j < tree.rows → (b : Bool) → eligible tree a p t j ≡ b → eligible tree a p t j ≡ false
        go j low true is = absurd (first_ripe.none none j (eligible_in j low is))
        go j low false is = is
    child_found (no some) =
        let own = in_eligible child (first_ripe.member (omega arith)) in
        inr (
          some,
          (
            own.0,
            own.1,
            λ j low is.
                leads (eligible tree a p t) a.finishes a.heads j child (first_ripe.first (omega arith) j (eligible_in j low is)),
          ),
        )

    pub child_right : child_of a.starts a.finishes a.heads p (virtual a p) f ≡ pick tree a p
    unfolding pick
    child_right =
        found_same (eligible tree a p t) (finish a) (head a) (eligible_root tree a p t) (λ j. j < tree.rows) (λ j. j < tree.rows)
        (λ j is low. low) (λ j is low. low)
        (λ x y x_low y_low x_is y_is.
        here.apart x y x_low y_low (eligible_in_time tree a p t x x_is).0 (eligible_in_time tree a p t y y_is).0)
        child (pick tree a p) (child_found (ℕ_discrete child 0))
        (found (eligible tree a p t) (finish a) (head a) (eligible_root tree a p t) tree.rows)

    -- ── what is left ──

    pub rest_heaps : Heaps (order_of a.starts a.finishes a.heads) (rest_of a.starts a.finishes a.heads p (virtual a p) f)
        (chosen_home a.starts p (raised tree a p) (pick tree a p) home)
    unfolding rest_of child_of chosen_home moved ripe_home
    rest_heaps =
        heaps_same order _ (moved ripe child 0) _ (λ x. rw child_right)
        (parts a.finishes a.heads order (eligible_heap p) _ ripe (by_finish a.starts a.finishes a.heads p) (omega arith) ready_heaps)
