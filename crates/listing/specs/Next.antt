-- The next event by what has arrived, when the line's packet is finished and whether the line is idle.
use Rattle.std.specs.Prelude.{ℕ, ◌≡◌, Bool, List}
use Rattle.rules.specs.Refused.{idle}
use Rattle.pcap.specs.Lists.{Progress, arrivals_with, finishes, class_next, length_next, moment_next}
use Rattle.listing.specs.declared.next.Next.{Next}

-- it is the one that the definitions say, of any progress that is so
pub record NextIs (stamps classes lengths : List ℕ) (now : Progress) (r : Next) : Type 0 where
  pub finish : r.finish ≡ finishes (arrivals_with stamps classes lengths) now
  pub class : r.class ≡ class_next (arrivals_with stamps classes lengths) now
  pub length : r.length ≡ length_next (arrivals_with stamps classes lengths) now
  pub moment : r.moment ≡ moment_next (arrivals_with stamps classes lengths) now

abbrev pub NextOf : List ℕ → List ℕ → List ℕ → Bool → ℕ → ℕ → Next → Type 0
NextOf stamps classes lengths idles arrived due r =
    (now : Progress) → now.arrived ≡ arrived → now.due ≡ due → idle now.box ≡ idles → NextIs stamps classes lengths now r
