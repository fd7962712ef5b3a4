-- The live state: what it holds, the run's box in it, and its words read and written.
use Rattle.std.specs.Prelude.{ℕ, zero, suc, ◌+◌, ◌*◌, ◌-◌, cond, List, [], ◌∷◌, ◌++◌, map, eqb, length, get_or, take}
use Rattle.std.proofs.lemmas.List.Edits.{sets}
use Rattle.input.specs.Limits.{most_rows}
use Rattle.input.specs.Classes.{Table, Tree, zeros, tree_of}
use Rattle.rules.specs.Box.{Packet, Rows, Box}
use Rattle.rules.specs.Box as run
use Rattle.live_rules.specs.Layout

-- a packet that is held: the row of its class, its bytes, and its name, the place of its arrival among the accepted events
pub record Held : Type 0 where
  pub class : ℕ
  pub length : ℕ
  pub name : ℕ

-- the tree, all that the run's box has of each row, the packets held in the order in which they arrived, and how many were ever accepted
pub record Live : Type 0 where
  pub tree : Tree
  pub rows : Rows
  pub bytes : List ℕ
  pub held : List ℕ
  pub since : List ℕ
  pub parent_since : List ℕ
  pub packets : List Held
  pub accepted : ℕ

-- ── the run's box ──

-- class k's packets, first in first
unfoldable pub queue : List Held → ℕ → List Packet
queue [] k = []
queue (packet ∷ later) k =
    cond (eqb packet.class k) (record { place = packet.name; length = packet.length } ∷ queue later k) (queue later k)

-- the queues of the rows below n
unfoldable pub queues : List Held → ℕ → List (List Packet)
queues packets zero = []
queues packets (suc k) = queues packets k ++ queue packets k ∷ []

-- the order begins anew at each event
unfoldable pub box_of : Live → Box
box_of live =
    record {
      rows = live.rows;
      bytes = live.bytes;
      held = live.held;
      since = live.since;
      parent_since = live.parent_since;
      queues = queues live.packets most_rows;
      order = [];
    }

-- packets that have left, and events accepted: each packet has arrived, and each that is not held has finished
unfoldable pub gone : Live → ℕ
gone live = live.accepted - length live.packets

unfoldable pub events : Live → ℕ
events live = 2 * live.accepted - length live.packets

-- a fresh state has the table's tree and the run's fresh box
unfoldable pub fresh_live : Table → Live
fresh_live table =
    record {
      tree = tree_of table;
      rows = (run.fresh).rows;
      bytes = zeros;
      held = zeros;
      since = zeros;
      parent_since = zeros;
      packets = [];
      accepted = 0;
    }

-- ── read from the words ──

unfoldable pub packets_at : ℕ → List ℕ → List Held
packets_at zero words = []
packets_at (suc i) words =
    packets_at i words
    ++ record {
      class = get_or words (Layout.classes_at + i) 0;
      length = get_or words (Layout.lengths_at + i) 0;
      name = get_or words (Layout.names_at + i) 0;
    }
    ∷ []

unfoldable pub tree_in : ℕ → List ℕ → Tree
tree_in n words =
    record {
      rows = n;
      identifiers = Layout.words_at Layout.identifiers_at n words;
      parents = Layout.rows_at Layout.parents_at n words;
      depths = Layout.rows_at Layout.depths_at n words;
      shares = Layout.rows_at Layout.shares_at n words;
    }

unfoldable pub rows_in : ℕ → List ℕ → Rows
rows_in n words =
    record {
      starts = Layout.rows_at Layout.starts_at n words;
      finishes = Layout.rows_at Layout.finishes_at n words;
      virtuals = Layout.rows_at Layout.virtuals_at n words;
      heads = Layout.rows_at Layout.heads_at n words;
      head_lengths = Layout.rows_at Layout.head_lengths_at n words;
      head_classes = Layout.rows_at Layout.head_classes_at n words;
    }

-- the state in the words, with its first n rows in use and so many packets held
unfoldable pub live_with : ℕ → ℕ → List ℕ → Live
live_with n held words =
    record {
      tree = tree_in n words;
      rows = rows_in n words;
      bytes = Layout.rows_at Layout.bytes_at n words;
      held = Layout.rows_at Layout.held_at n words;
      since = Layout.rows_at Layout.since_at n words;
      parent_since = Layout.rows_at Layout.parent_since_at n words;
      packets = packets_at held words;
      accepted = get_or words Layout.accepted_word 0;
    }

unfoldable pub live_in : List ℕ → Live
live_in words = live_with (get_or words Layout.rows_word 0) (get_or words Layout.held_at 0) words

-- ── written over the words ──

-- a word for each of the first n rows of a list, from a place on
unfoldable pub rows_stored : ℕ → ℕ → List ℕ → List ℕ → List ℕ
rows_stored at n xs words = sets words at (take n xs)

unfoldable pub tree_stored : Tree → List ℕ → List ℕ
tree_stored tree words =
    rows_stored Layout.shares_at tree.rows tree.shares
    (rows_stored Layout.depths_at tree.rows tree.depths
    (rows_stored Layout.parents_at tree.rows tree.parents
    (rows_stored Layout.identifiers_at tree.rows tree.identifiers words)))

unfoldable pub tags_stored : ℕ → Rows → List ℕ → List ℕ
tags_stored n rows words =
    rows_stored Layout.virtuals_at n rows.virtuals
    (rows_stored Layout.finishes_at n rows.finishes (rows_stored Layout.starts_at n rows.starts words))

unfoldable pub heads_stored : ℕ → Rows → List ℕ → List ℕ
heads_stored n rows words =
    rows_stored Layout.head_classes_at n rows.head_classes
    (rows_stored Layout.head_lengths_at n rows.head_lengths (rows_stored Layout.heads_at n rows.heads words))

unfoldable pub counts_stored : ℕ → Live → List ℕ → List ℕ
counts_stored n live words =
    rows_stored Layout.parent_since_at n live.parent_since
    (rows_stored Layout.since_at n live.since
    (rows_stored Layout.held_at n live.held (rows_stored Layout.bytes_at n live.bytes words)))

unfoldable pub packets_stored : List Held → List ℕ → List ℕ
packets_stored packets words =
    sets
    (sets (sets words Layout.classes_at (map (λ (p : Held). p.class) packets)) Layout.lengths_at (map (λ (p : Held). p.length) packets))
    Layout.names_at
    (map (λ (p : Held). p.name) packets)

-- the words in use are those of this state, all others stay
unfoldable pub stored : Live → List ℕ → List ℕ
stored live words =
    let n = live.tree.rows in
    packets_stored live.packets
    (counts_stored n live
    (heads_stored n live.rows
    (tags_stored n live.rows (tree_stored live.tree (sets words Layout.rows_word (n ∷ live.accepted ∷ []))))))
