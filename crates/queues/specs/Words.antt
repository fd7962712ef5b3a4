-- Words that name packets: a packet's place + 1, and 0 for none. A queue is links: for each packet the word of its class's next, and
-- for each class that of its last.
use Rattle.std.specs.Prelude.{ℕ, zero, suc, pred, Bool, cond, not, ◌&&◌, List, [], ◌∷◌, eqb, get_or, set}

-- the packet named by a word is followed by another; no packet, no link
unfoldable pub followed : List ℕ → ℕ → ℕ → List ℕ
followed links zero word = links
followed links (suc place) word = set links place word

-- class k's queue has no last packet where its first has no next
unfoldable pub shortened : List ℕ → ℕ → ℕ → List ℕ
shortened lasts k next = cond (eqb next 0) (set lasts k 0) lasts

-- the length of the packet that a word names
unfoldable pub length_of : List ℕ → ℕ → ℕ
length_of lengths zero = 0
length_of lengths (suc place) = get_or lengths place 0

-- what goes on a line that is idle or not, where this is the root's head
unfoldable pub sent_word : Bool → ℕ → List ℕ
sent_word idle head = cond (idle && not (eqb head 0)) (pred head ∷ []) []
