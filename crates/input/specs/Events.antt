-- Events: two words each, and what they mean.
use Rattle.std.specs.Prelude.{ℕ, ◌≡◌, cond, List, eqb, length, get_or}
use Rattle.input.specs.declared.Event.{Event}
use Rattle.input.specs.declared.Event.TheVariants.{Arrival, Finish}

-- the list as it is lent: for each event its class and its length
pub record Events : Type 0 where
  pub classes : List ℕ
  pub lengths : List ℕ

-- class 0 says that the line has finished its packet, any other that a packet has arrived for that class
unfoldable pub decode : ℕ → ℕ → Event
decode class length = cond (eqb class 0) Finish (Arrival class length)

abbrev pub Decodes : ℕ → ℕ → Event → Type 0
Decodes class length e = e ≡ decode class length

-- the number of events
abbrev pub count : Events → ℕ
count events = length events.classes

abbrev pub class_word : Events → ℕ → ℕ
class_word events i = get_or events.classes i 0

abbrev pub length_word : Events → ℕ → ℕ
length_word events i = get_or events.lengths i 0

-- the event at a place, which is also the name of the packet that arrives there
unfoldable pub event : Events → ℕ → Event
event events i = decode (class_word events i) (length_word events i)
