-- Writing in one row: every list keeps its length and the entries of the other rows.
-- Assumes nothing.
use Prim.Native.Nat.{ℕ, ◌+◌, ◌<◌}
use mathlib.Core.Path.{◌≡◌, refl, ◌∙◌}
use mathlib.Core.Logic.{◌≢◌}
use mathlib.Core.List.{List}
use native.Mathlib.Omega.{arith}
use lib.ListN.{length, get_or, set, length-set}
use lib.Seq.{get_or-set_same, get_or-set_other}
use Rattle.input.specs.Limits.{most_rows}
use Rattle.input.specs.Shares.{charge}
use Rattle.input.specs.Classes.{Tree, share}
use Rattle.rules.specs.Box.{Rows}
use Rattle.rules.specs.Steps.{with_head, with_virtual, charged, new_head, next_start}
use Rattle.rules.specs.declared.Why.{Why}
use Rattle.laws.specs.Moves.{Full, SameRow}

-- two lists of entries by row that differ at most in row r's
record Entry (r : ℕ) (xs ys : List ℕ) : Type 0 where
  as_long : length ys ≡ length xs
  others : (j : ℕ) → j ≢ r → get_or ys j 0 ≡ get_or xs j 0

kept : (r : ℕ) (xs : List ℕ) → Entry r xs xs
kept r xs = record { as_long = refl; others = λ j apart. refl }

put : (r v : ℕ) (xs : List ℕ) → Entry r xs (set xs r v)
put r v xs = record { as_long = length-set xs r v; others = λ j apart. get_or-set_other xs r j v 0 apart }

pub written : (xs : List ℕ) (r v : ℕ) → length xs ≡ most_rows → r < most_rows → get_or (set xs r v) r 0 ≡ v
written xs r v full inside = get_or-set_same xs r v 0 (omega arith)

-- y is x but for row r
pub record Wrote (r : ℕ) (x y : Rows) : Type 0 where
  starts_put : Entry r x.starts y.starts
  finishes_put : Entry r x.finishes y.finishes
  virtuals_put : Entry r x.virtuals y.virtuals
  heads_put : Entry r x.heads y.heads
  lengths_put : Entry r x.head_lengths y.head_lengths
  classes_put : Entry r x.head_classes y.head_classes

pub wrote_full : {r : ℕ} {x y : Rows} → Wrote r x y → Full x → Full y
wrote_full wrote full =
    record {
      starts_full = wrote.starts_put.as_long ∙ full.starts_full;
      finishes_full = wrote.finishes_put.as_long ∙ full.finishes_full;
      virtuals_full = wrote.virtuals_put.as_long ∙ full.virtuals_full;
      heads_full = wrote.heads_put.as_long ∙ full.heads_full;
      head_lengths_full = wrote.lengths_put.as_long ∙ full.head_lengths_full;
      head_classes_full = wrote.classes_put.as_long ∙ full.head_classes_full;
    }

pub wrote_elsewhere : {r : ℕ} {x y : Rows} → Wrote r x y → (j : ℕ) → j ≢ r → SameRow x y j
wrote_elsewhere wrote j apart =
    record {
      kid =
          record {
            start_same = wrote.starts_put.others j apart;
            finish_same = wrote.finishes_put.others j apart;
            head_same =
                record {
                  packet_same = wrote.heads_put.others j apart;
                  length_same = wrote.lengths_put.others j apart;
                  class_same = wrote.classes_put.others j apart;
                };
          };
      virtual_same = wrote.virtuals_put.others j apart;
    }

pub wrote_both : {r : ℕ} {x y z : Rows} → Wrote r x y → Wrote r y z → Wrote r x z
wrote_both {r} {x} {y} {z} one two =
    record {
      starts_put = both one.starts_put two.starts_put;
      finishes_put = both one.finishes_put two.finishes_put;
      virtuals_put = both one.virtuals_put two.virtuals_put;
      heads_put = both one.heads_put two.heads_put;
      lengths_put = both one.lengths_put two.lengths_put;
      classes_put = both one.classes_put two.classes_put;
    }
  where
    both : {xs ys zs : List ℕ} → Entry r xs ys → Entry r ys zs → Entry r xs zs
    both f g = record { as_long = g.as_long ∙ f.as_long; others = λ j apart. g.others j apart ∙ f.others j apart }

module _ (r : ℕ) (x : Rows) where
  pub with_head_wrote : (packet length class : ℕ) → Wrote r x (with_head r packet length class x)
  unfolding with_head
  with_head_wrote packet length class =
      record {
        starts_put = kept r x.starts;
        finishes_put = kept r x.finishes;
        virtuals_put = kept r x.virtuals;
        heads_put = put r packet x.heads;
        lengths_put = put r length x.head_lengths;
        classes_put = put r class x.head_classes;
      }

  pub with_virtual_wrote : (v : ℕ) → Wrote r x (with_virtual r v x)
  unfolding with_virtual
  with_virtual_wrote v =
      record {
        starts_put = kept r x.starts;
        finishes_put = kept r x.finishes;
        virtuals_put = put r v x.virtuals;
        heads_put = kept r x.heads;
        lengths_put = kept r x.head_lengths;
        classes_put = kept r x.head_classes;
      }

  charged_wrote : (tree : Tree) (s length : ℕ) → Wrote r x (charged tree r s length x)
  unfolding charged
  charged_wrote tree s length =
      record {
        starts_put = put r s x.starts;
        finishes_put = put r (s + charge length (share tree r)) x.finishes;
        virtuals_put = kept r x.virtuals;
        heads_put = kept r x.heads;
        lengths_put = kept r x.head_lengths;
        classes_put = kept r x.head_classes;
      }

pub new_head_wrote : (tree : Tree) (why : Why) (r packet length class : ℕ) (x : Rows) → Wrote r x (new_head tree why r packet length class x)
unfolding new_head
new_head_wrote tree why r packet length class x =
    wrote_both (with_head_wrote r x packet length class)
    (charged_wrote r (with_head r packet length class x) tree (next_start tree why r x) length)
