-- Packets held: which one has a name, and the list without one.
use Rattle.std.specs.Prelude.{ℕ, suc, ◌+◌, ◌≤◌, ◌<◌, ◌^◌, ◌≡◌, cond, Option, MatchOption, length, List, [], ◌∷◌, ◌++◌, eqb, take, drop}
use Rattle.input.specs.Limits.{most_bytes}
use Rattle.live_rules.specs.State.{Held}

-- the index of the first packet with this name; where there is none, how many packets there are
unfoldable pub place_of : ℕ → List Held → ℕ
place_of name [] = 0
place_of name (packet ∷ later) = cond (eqb packet.name name) 0 (suc (place_of name later))

-- a list without what stands at index i
unfoldable pub left_out {ℓ} : {A : Type ℓ} → ℕ → List A → List A
left_out i xs = take i xs ++ drop (suc i) xs

-- each packet's name + 1 is a word, and its length a packet's
unfoldable pub Worded : List Held → Type 0
Worded [] = Unit
Worded (packet ∷ later) = (packet.name + 1 < 2 ^ 32) × (packet.length ≤ most_bytes) × Worded later

-- what `find_packet` states of its result: the place of a packet that is held, or that there is none
abbrev pub Finds : ℕ → List Held → Option ℕ → Type 0
Finds name packets result = MatchOption result (length packets ≤ place_of name packets) (λ i. (i < length packets) × (i ≡ place_of name packets))
