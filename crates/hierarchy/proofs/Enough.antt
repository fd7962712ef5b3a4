-- How much leeway the steps leave: of that before a step there is left after it what the step does not use up.
-- Assumes nothing.
use Prim.Native.Nat.{ℕ, ◌+◌, ◌*◌, ◌-◌, ◌≤◌, ◌<◌, ◌^◌}
use mathlib.Core.Path.{◌≡◌}
use mathlib.Core.Bool.{Bool, true, false, cond}
use native.Mathlib.Omega.{arith}
use lib.Dec.{eqb}
use Rattle.rules.specs.declared.Why.{Why}
use Rattle.input.specs.Limits.{ticks, most_bytes}
use Rattle.input.specs.Shares.{charge}
use Rattle.input.specs.Classes.{Tree, share}
use Rattle.rules.specs.Box.{Rows, head, head_length, head_class}
use Rattle.rules.specs.Steps.{with_head, with_virtual, charged, next_start, new_head, raised, pick, takes, chooses}
use Rattle.choosing.specs.Sizes.{Leeway, most_charge, most_passed, most_choice}
use Rattle.words.proofs.Entries.{entry_set}
use Rattle.input.proofs.Charges.{charge_most}
use Rattle.choosing.proofs.Ticks.{less_leeway, next_start_leeway, raised_leeway, passed_leeway}
use Rattle.hierarchy.specs.Sizes.{most_tag, Small}

pub same_leeway : {n : ℕ} {rows next : Rows} → next ≡ rows → Leeway n rows → Leeway n next
same_leeway same leeway = rw same leeway

with_head_leeway : (n : ℕ) (rows : Rows) → Leeway n rows
    → (r packet length class : ℕ) → length ≤ most_bytes → Leeway n (with_head r packet length class rows)
unfolding with_head
with_head_leeway n rows leeway r packet length class short =
    record {
      starts = leeway.starts;
      finishes = leeway.finishes;
      virtuals = leeway.virtuals;
      head_lengths = λ i. entry_set (λ (l : ℕ). l ≤ most_bytes) rows.head_lengths r length i short (leeway.head_lengths i);
    }

pub new_head_leeway : (n : ℕ) (tree : Tree) (rows : Rows) → Leeway (n + most_charge) rows
    → (why : Why) (r packet length class : ℕ) → length ≤ most_bytes → Leeway n (new_head tree why r packet length class rows)
unfolding new_head charged with_head
new_head_leeway n tree rows leeway why r packet length class short =
    let small = next_start_leeway (n + most_charge) tree rows leeway why r in
    let cheap = charge_most length (share tree r) in
    record {
      starts = λ i. entry_set (λ (t : ℕ). t + n < 2 ^ 64) rows.starts r s i (omega arith) (rest.starts i);
      finishes =
          λ i. entry_set (λ (t : ℕ). t + n < 2 ^ 64) rows.finishes r (s + charge length (share tree r)) i (omega arith) (rest.finishes i);
      virtuals = rest.virtuals;
      head_lengths = (with_head_leeway n rows rest r packet length class short).head_lengths;
    }
  where
    s : ℕ
    s = next_start tree why r rows

    rest : Leeway n rows
    rest = less_leeway (n + most_charge) n rows (omega arith) leeway

takes_leeway : (n : ℕ) (tree : Tree) (rows : Rows) → Leeway (n + most_choice) rows
    → (why : Why) (p k : ℕ) → Leeway n (takes tree why p k rows)
unfolding takes
takes_leeway n tree rows leeway why p k = go (eqb p 0)
  where
    short : head_length rows k ≤ most_bytes
    short = leeway.head_lengths k

    passed : Rows
    passed = with_virtual p (raised tree rows p + ticks * head_length rows k) rows

    after : Leeway (n + most_charge) passed
    after =
        let enough = less_leeway (n + most_choice) (n + most_charge + most_passed) rows (omega arith) leeway in
        let small = raised_leeway (n + most_charge + most_passed) tree rows enough p in
        passed_leeway (n + most_charge) (raised tree rows p) rows small enough p (head_length rows k) short

    go : (root : Bool)
        → Leeway n (cond root (with_head p (head rows k) (head_length rows k) (head_class rows k) passed)
        (new_head tree why p (head rows k) (head_length rows k) (head_class rows k) passed))
    go true =
        let rest = less_leeway (n + most_charge) n passed (omega arith) after in
        with_head_leeway n passed rest p (head rows k) (head_length rows k) (head_class rows k) short
    go false = new_head_leeway n tree passed after why p (head rows k) (head_length rows k) (head_class rows k) short

chooses_leeway : (n : ℕ) (tree : Tree) (rows : Rows) → Leeway (n + most_choice) rows
    → (why : Why) (p : ℕ) → Leeway n (chooses tree why p rows)
unfolding chooses
chooses_leeway n tree rows leeway why p = go (eqb k 0)
  where
    k : ℕ
    k = pick tree rows p

    go : (none : Bool) → Leeway n (cond none (with_head p 0 0 0 rows) (takes tree why p k rows))
    go true = with_head_leeway n rows (less_leeway (n + most_choice) n rows (omega arith) leeway) p 0 0 0 (omega arith)
    go false = takes_leeway n tree rows leeway why p k

-- the same where d choices were left
pub chosen_leeway : (d : ℕ) (tree : Tree) (why : Why) (p : ℕ) (rows next : Rows) → 0 < d → next ≡ chooses tree why p rows
    → Leeway (d * most_choice) rows → Leeway ((d - 1) * most_choice) next
chosen_leeway d tree why p rows next some same leeway =
    same_leeway same
    (chooses_leeway ((d - 1) * most_choice) tree rows
    (less_leeway (d * most_choice) ((d - 1) * most_choice + most_choice) rows (omega arith) leeway) why p)

-- small tags have the leeway for an event: a packet charged to its class and a choice at each row above it
pub small_leeway : (n : ℕ) (rows : Rows) → n + most_tag < 2 ^ 64 → Small rows → Leeway n rows
small_leeway n rows few small =
    record {
      starts = λ i. let h = small.starts i in omega arith;
      finishes = λ i. let h = small.finishes i in omega arith;
      virtuals = λ i. let h = small.virtuals i in omega arith;
      head_lengths = small.head_lengths;
    }
