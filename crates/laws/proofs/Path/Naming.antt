-- Every head names a packet of its row's own part of the tree, whatever a step does, so that no two children of a row have the same head.
-- Assumes nothing.
use Prim.Native.Nat.{ℕ, ◌<◌}
use mathlib.Core.Path.{◌≡◌, sym, ◌∙◌, subst}
use mathlib.Core.Logic.{◌≢◌, ◌⊎◌, inl, inr, ⊎_elim}
use mathlib.Core.Bool.{true}
use native.Mathlib.Decide.{ℕ_discrete}
use Rattle.input.specs.Classes.{Tree}
use Rattle.rules.specs.Box.{Rows, head}
use Rattle.rules.specs.Steps.{new_head, chooses, leaves}
use Rattle.rules.specs.Promise.{within}
use Rattle.rules.specs.declared.Why.{Why}
use Rattle.laws.specs.Sound.{Sound, Inner, Sender}
use Rattle.laws.specs.Moves.{Full}
use Rattle.laws.specs.Named.{PacketOf, Named}
use Rattle.laws.specs.Choices.{Apart}
use Rattle.laws.proofs.Tree.Paths.{kid_apart, self_within, parent_within, one_child}
use Rattle.laws.proofs.Path.Choosing.{Nobody, Somebody, new_head_elsewhere, new_head_here, chooses_elsewhere, chooses_what}
use Rattle.laws.proofs.Path.DeparturePath.{leaves_head}

module _ (tree : Tree) (sound : Sound tree) (class_of : ℕ → ℕ) where
  pub named_apart : (x : Rows) → Named tree class_of x → Apart tree x
  named_apart x named p j k kid_j kid_k some same =
      let one = named j kid_j.inside some in
      let two = named k kid_k.inside (λ none. some (same ∙ none)) in
      one_child tree sound p j k (class_of (head x j)) one.sends.inside kid_j kid_k one.part
      (subst (λ (h : ℕ). within tree k (class_of h) ≡ true) (sym same) two.part)

  -- ── what keeps heads named ──

  -- a row that has the head of another state has its name
  as_before : (x y : Rows) (r : ℕ) → r < tree.rows → Named tree class_of x → head y r ≡ head x r → head y r ≢ 0 → PacketOf tree class_of r (head y r)
  as_before x y r inside named same some =
      subst (λ (h : ℕ). PacketOf tree class_of r h) (sym same) (named r inside (λ none. some (same ∙ none)))

  pub new_head_named :
      (why : Why) (r packet length class : ℕ) → r < tree.rows → (x : Rows) → Full x → PacketOf tree class_of r packet → Named tree class_of x
      → Named tree class_of (new_head tree why r packet length class x)
  new_head_named why r packet length class inside x full its named j j_inside some = go (ℕ_discrete j r)
    where
      now : Rows
      now = new_head tree why r packet length class x

      go : Dec (j ≡ r) → PacketOf tree class_of j (head now j)
      go (yes e) =
          subst (λ (i : ℕ). PacketOf tree class_of i (head now i)) (sym e)
          (subst (λ (h : ℕ). PacketOf tree class_of r h) (sym (new_head_here tree sound why r packet length class inside x full).0) its)
      go (no apart) =
          as_before x now j j_inside named (new_head_elsewhere tree sound why r packet length class inside x full j apart).kid.head_same.packet_same some

  pub chooses_named : (why : Why) (p : ℕ) → Inner tree p → (x : Rows) → Full x → Named tree class_of x → Named tree class_of (chooses tree why p x)
  chooses_named why p inner x full named j inside some = go (ℕ_discrete j p)
    where
      now : Rows
      now = chooses tree why p x

      elsewhere : (i : ℕ) → i ≢ p → head now i ≡ head x i
      elsewhere i apart = (chooses_elsewhere tree sound why p inner x full i apart).kid.head_same.packet_same

      taken : Nobody tree x now p ⊎ ((k : ℕ) × Somebody tree why x now p k) → head now p ≢ 0 → PacketOf tree class_of p (head now p)
      taken (inl none) has = absurd (has none.no_head)
      taken (inr (k, choice)) has =
          let pick = choice.pick in
          let its = as_before x now k pick.kid.inside named (elsewhere k (kid_apart tree sound p k pick.kid)) pick.waiting in
          subst (λ (h : ℕ). PacketOf tree class_of p h) (sym pick.takes.packet_same)
          (record { sends = its.sends; part = parent_within tree sound p k _ its.sends.inside pick.kid its.part })

      go : Dec (j ≡ p) → PacketOf tree class_of j (head now j)
      go (yes e) =
          subst (λ (i : ℕ). head now i ≢ 0 → PacketOf tree class_of i (head now i)) (sym e) (taken (chooses_what tree sound why p inner x full)) some
      go (no apart) = as_before x now j inside named (elsewhere j apart) some

  pub leaves_named : (k : ℕ) → k < tree.rows → (x : Rows) → Full x → Named tree class_of x → Named tree class_of (leaves tree k x)
  leaves_named k k_inside x full named r inside some =
      ⊎_elim (λ none. absurd (some none)) (λ same. as_before x (leaves tree k x) r inside named same some)
      (leaves_head tree sound x full k k_inside r inside)

  -- a packet of class k, in k's own row
  pub own_packet : (k packet : ℕ) → Sender tree k → class_of packet ≡ k → PacketOf tree class_of k packet
  own_packet k packet sender known = record { sends = rw known sender; part = rw known (self_within tree sound k) }
