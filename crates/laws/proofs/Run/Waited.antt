-- In every run no two children of a row have the same head, and every choice is clear: a head is a packet of its row's own part of the tree.
-- Assumes nothing.
use Prim.Native.Nat.{ℕ, zero, suc, ◌<◌}
use mathlib.Core.Path.{◌≡◌, refl, sym, ◌∙◌, subst}
use mathlib.Core.Logic.{◌≢◌}
use mathlib.Core.Bool.{Bool, true, false, cond}
use mathlib.Core.List.{List, [], ◌∷◌, tail}
use native.Mathlib.Omega.{arith}
use Rattle.input.specs.declared.Event.{Event}
use Rattle.input.specs.declared.Event.TheVariants.{Arrival, Finish}
use Rattle.input.specs.Classes.{Tree, parent, depth, row_of}
use Rattle.input.specs.Events.{Events, class_word, length_word, event}
use Rattle.rules.specs.Box.{Packet, Rows, Box, head, head_class, has_head, queue_of, line_class, left}
use Rattle.rules.specs.Steps.{new_head, chooses, up, arrives, leaves, renews, goes_on, arrival, departure, step, after}
use Rattle.rules.specs.declared.Why.{Why}
use Rattle.rules.specs.declared.Why.TheVariants.{Finished, Arrived}
use Rattle.laws.specs.Sound.{Sound, Kid, Inner, Sender, ArrivalFits}
use Rattle.laws.specs.Moves.{Full}
use Rattle.laws.specs.Kept.{HeadOf, Kept}
use Rattle.laws.specs.Named.{PacketOf, Named, class_for}
use Rattle.laws.specs.Choices.{Choice, choices, why_of, front, choices_of, Made, Apart, Clear}
use Rattle.laws.specs.History.{Accepted}
use Rattle.laws.proofs.Tree.Paths.{parent_is_inner}
use Rattle.laws.proofs.Tree.Depths.{kid_deeper, lower_kid}
use Rattle.laws.proofs.Path.Choosing.{new_head_full, chooses_full}
use Rattle.laws.proofs.Path.DeparturePath.{leaves_full, renews_full}
use Rattle.laws.proofs.Path.Looking.{clear}
use Rattle.laws.proofs.Path.Naming.{named_apart, new_head_named, chooses_named, leaves_named, own_packet}
use Rattle.laws.proofs.Event.Turns.{class_at, Arrives, fewer, turn}
use Rattle.laws.proofs.Event.Largest.{parts_largest}
use Rattle.laws.proofs.Event.OneEvent.{line_sender}
use Rattle.laws.proofs.Event.Keeping.{class_head, kept}
use Rattle.laws.proofs.Run.Orders.{All}
use Rattle.laws.proofs.Run.Counting.{Known, counted}

-- ── the choices are those that the rules make ──

up_made : (d : ℕ) (tree : Tree) (why : Why) (r : ℕ) (x : Rows) → Made tree why x (choices d tree why r x) (up d tree why r x)
unfolding up choices Made
up_made zero tree why r x = refl
up_made (suc d) tree why r x = go (has_head x p) (up_made d tree why p next)
  where
    p : ℕ
    p = parent tree r

    next : Rows
    next = chooses tree why p x

    go :
        (b : Bool) → Made tree why next (choices d tree why p next) (up d tree why p next)
        → Made tree why x (cond b [] (record { chooser = p; rows = x } ∷ choices d tree why p next)) (cond b x (up d tree why p next))
    go true later = refl
    go false later = (refl, later)

-- an event's choices lead from the rows before the first of them to the rows that the event leaves
pub choices_made :
    (tree : Tree) (place : ℕ) (event : Event) (box : Box)
    → Made tree (why_of event) (front tree place event box) (choices_of tree place event box) (step tree place event box).rows
unfolding step arrival arrives departure goes_on why_of front choices_of Made
choices_made tree place (Arrival class length) box = go (has_head box.rows k)
  where
    k : ℕ
    k = row_of tree class

    first : Rows
    first = new_head tree Arrived k (suc place) length k box.rows

    go :
        (b : Bool)
        → Made tree Arrived (cond b box.rows first) (cond b [] (choices (depth tree k) tree Arrived k (cond b box.rows first)))
        (cond b box.rows (up (depth tree k) tree Arrived k first))
    go true = refl
    go false = up_made (depth tree k) tree Arrived k first
choices_made tree place Finish box =
    let k = line_class box in
    up_made (depth tree k) tree Finished k (renews tree k (left box) (leaves tree k box.rows))

-- ── heads and what they name ──

module _ (tree : Tree) (sound : Sound tree) (events : Events) where
  abbrev Names : Rows → Type 0
  Names x = Named tree (class_for tree events) x

  renews_named :
      (k : ℕ) → Sender tree k → (later : List Packet) → All (Known tree events k) later → (x : Rows) → Full x → Names x
      → Names (renews tree k later x)
  unfolding renews
  renews_named k sender [] known x full named = named
  renews_named k sender (packet ∷ later) (first, more) x full named =
      new_head_named tree sound (class_for tree events) Finished k (suc packet.place) packet.length k sender.inside x full
      (own_packet tree sound (class_for tree events) k (suc packet.place) sender first.class_known) named

  -- ── up the tree ──

  abbrev AllClear : List Choice → Type 0
  AllClear cs = All (λ (c : Choice). Clear tree c.rows c.chooser) cs

  choices_clear :
      (why : Why) (d r : ℕ) (x : Rows) → r < tree.rows → depth tree r ≡ d → Full x → Names x → AllClear (choices d tree why r x)
  unfolding choices
  choices_clear why zero r x inside deep full named = tt
  choices_clear why (suc d) r x inside deep full named =
      go (has_head x p)
      (choices_clear why d p (chooses tree why p x) inner.inside (let h = kid_deeper tree sound p r kid in omega arith)
      (chooses_full tree sound why p inner x full) (chooses_named tree sound (class_for tree events) why p inner x full named))
    where
      p : ℕ
      p = parent tree r

      kid : Kid tree p r
      kid = lower_kid tree sound d r inside deep

      inner : Inner tree p
      inner = parent_is_inner tree sound p r kid

      go :
          (b : Bool) → AllClear (choices d tree why p (chooses tree why p x))
          → AllClear (cond b [] (record { chooser = p; rows = x } ∷ choices d tree why p (chooses tree why p x)))
      go true later = tt
      go false later = (clear tree x p (named_apart tree sound (class_for tree events) x named), later)

-- ── a run ──

module _ (tree : Tree) (events : Events) where
  module _ (n : ℕ) (ok : Accepted tree events n) where
    abbrev box : Box
    box = after tree events n

    well : Kept tree (parts_largest tree events n) n box
    well = kept tree events n n (omega arith) ok

    known : (k : ℕ) → Sender tree k → All (Known tree events k) (queue_of box k)
    known = (counted tree events n ok).1.queue_known

    pub box_named : Named tree (class_for tree events) box.rows
    unfolding HeadOf
    box_named r inside some = go (queue_of box class) (well.heads_kept class sender) (known class sender)
      where
        class : ℕ
        class = head_class box.rows r

        sender : Sender tree class
        sender = well.settled.of_sender r inside some

        go :
            (queue : List Packet) → HeadOf box.rows class queue → All (Known tree events class) queue
            → PacketOf tree (class_for tree events) r (head box.rows r)
        go [] none all = absurd (some (sym (class_head tree ok.sound box.rows well.settled r inside some).packet_same ∙ none))
        go (first ∷ later) (named, long, own) (here, more) =
            subst (λ (h : ℕ). PacketOf tree (class_for tree events) r h)
            (sym (sym (class_head tree ok.sound box.rows well.settled r inside some).packet_same ∙ named))
            (record { sends = rw here.class_known sender; part = rw here.class_known (well.settled.of_part r inside some) })

    -- between events no two children of a row have the same head
    pub heads_apart : Apart tree (after tree events n).rows
    heads_apart = named_apart tree ok.sound (class_for tree events) box.rows box_named

    abbrev clear_here : Type 0
    clear_here = AllClear tree ok.sound events (choices_of tree n (event events n) box)

    arrival_clear : Arrives events n → ArrivalFits tree (class_word events n) (length_word events n) → clear_here
    unfolding front choices_of
    arrival_clear is fits = rw is (go (has_head box.rows k))
      where
        k : ℕ
        k = class_at tree events n

        first : Rows
        first = new_head tree Arrived k (suc n) (length_word events n) k box.rows

        go :
            (b : Bool)
            → AllClear tree ok.sound events (cond b [] (choices (depth tree k) tree Arrived k (cond b box.rows first)))
        go true = tt
        go false =
            choices_clear tree ok.sound events Arrived (depth tree k) k first fits.sender.inside refl
            (new_head_full tree ok.sound Arrived k (suc n) (length_word events n) k fits.sender.inside box.rows well.rows_full)
            (new_head_named tree ok.sound (class_for tree events) Arrived k (suc n) (length_word events n) k fits.sender.inside box.rows well.rows_full
            (own_packet tree ok.sound (class_for tree events) k (suc n) fits.sender refl) box_named)

    finish_clear : event events n ≡ Finish → head box.rows 0 ≢ 0 → clear_here
    unfolding front choices_of
    finish_clear is busy =
        rw is
        (choices_clear tree ok.sound events Finished (depth tree k) k (renews tree k (left box) idle) sender.inside refl
        (renews_full tree ok.sound k sender.inside idle idle_full (left box))
        (renews_named tree ok.sound events k sender (left box) (all_tail (queue_of box k) (known k sender)) idle idle_full
        (leaves_named tree ok.sound (class_for tree events) k sender.inside box.rows well.rows_full box_named)))
      where
        k : ℕ
        k = line_class box

        sender : Sender tree k
        sender = line_sender tree ok.sound (parts_largest tree events n) n box well busy

        idle : Rows
        idle = leaves tree k box.rows

        idle_full : Full idle
        idle_full = leaves_full tree ok.sound box.rows well.rows_full k sender.inside

        all_tail : (queue : List Packet) → All (Known tree events k) queue → All (Known tree events k) (tail queue)
        all_tail [] all = tt
        all_tail (packet ∷ later) (first, more) = more

  -- and every choice of an event is clear
  pub choices_are_clear :
      (n : ℕ) → Accepted tree events (suc n)
      → All (λ (c : Choice). Clear tree c.rows c.chooser) (choices_of tree n (event events n) (after tree events n))
  choices_are_clear n ok =
      let before = fewer tree events n (suc n) (omega arith) ok in
      turn tree events (suc n) ok n (omega arith)
      (λ box. All (λ (c : Choice). Clear tree c.rows c.chooser) (choices_of tree n (event events n) (after tree events n)))
      (arrival_clear n before) (λ is none busy. finish_clear n before is busy)
