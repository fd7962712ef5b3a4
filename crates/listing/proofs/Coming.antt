-- The next event by its test: a finish of what is on the line, or the next packet's arrival.
-- Assumes nothing.
use Prim.Native.Nat.{ℕ}
use mathlib.Core.Path.{◌≡◌, sym, ◌∙◌}
use mathlib.Core.Bool.{Bool, true, false, not, ◌&&◌, ◌||◌}
use mathlib.Core.List.{List}
use lib.Dec.{leb, eqb}
use lib.ListN.{length, get_or}
use Rattle.rules.specs.Refused.{idle}
use Rattle.pcap.specs.Lists.{Progress, finishes, class_next, length_next, moment_next, packet_length}
use Rattle.listing.specs.Next.{NextIs}

module _ (stamps classes lengths : List ℕ) (idles : Bool) (arrived due k stamp : ℕ) (test : Bool) (k_is : k ≡ arrived) (stamp_is : stamp ≡ get_or stamps k 0)
    (test_is : test ≡ (not idles && (eqb k (length stamps) || leb due stamp)))
    (now : Progress) (arrived_is : now.arrived ≡ arrived) (due_is : now.due ≡ due) (idle_is : idle now.box ≡ idles) where
  finishing : test ≡ (not (idle now.box) && (eqb now.arrived (length stamps) || leb now.due (get_or stamps now.arrived 0)))
  finishing = rw (idle_is, arrived_is, due_is, ← k_is, ← stamp_is) test_is

  pub finish_next : test ≡ true → NextIs stamps classes lengths now (record { finish = true; class = 0; length = 0; moment = due })
  unfolding finishes class_next length_next moment_next
  finish_next is =
      record {
        finish = sym is ∙ finishing;
        class = rw (← finishing, is);
        length = rw (← finishing, is);
        moment = rw (← finishing, is) (sym due_is);
      }

  pub arrival_next : (class length : ℕ) → class ≡ get_or classes arrived 0 → length ≡ packet_length class (get_or lengths arrived 0) → test ≡ false
      → NextIs stamps classes lengths now (record { finish = false; class = class; length = length; moment = stamp })
  unfolding finishes class_next length_next moment_next
  arrival_next class length class_is length_is is =
      record {
        finish = sym is ∙ finishing;
        class = rw (← finishing, is, arrived_is) class_is;
        length = rw (← finishing, is, arrived_is, ← class_is) length_is;
        moment = rw (← finishing, is, arrived_is, ← k_is) stamp_is;
      }
