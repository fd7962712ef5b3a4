-- `State::parts_sound` meets its contract: the tree decides, then the packets, and what is left is for the rows.
-- Assumes nothing.
use mathlib.Core.Bool.{false≢true}
use mathlib.Core.Path.{sym, ◌∙◌}
use native.Mathlib.Omega.{arith}
use Rattle.live_rules.specs.State.{live_in}
use Rattle.state.proofs.Opening.{some_rows, few_rows, few_packets, arrived, few_accepted, tree_same, packets_verdict, read_so}
use Rattle.state.proofs.Parts.{tree_fails, packets_fail}
use Rattle.state.proofs.State.parts_sound.Goals as goal

pub tree_sound-requires : goal.tree_sound-requires
tree_sound-requires c =
    let w = c.args.words.now in
    let state = c.args.self.now in
    record { n_le_most_rows = few_rows w state c.requires.room c.requires.filled; n_nonzero = some_rows w state c.requires.room c.requires.filled }

pub returns-then-not-tree_sound : goal.returns-then-not-tree_sound
returns-then-not-tree_sound c =
    let told = c.requires.filled in
    let tree_no = sym (tree_same c.args.words.now c.args.self.now c.requires.room told) ∙ sym c.tree_sound.ensures ∙ c.if-not-tree_sound.true in
    (λ no. tree_fails (live_in c.args.words.now) told.few_so tree_no, λ yes. absurd (false≢true yes))

pub overflow_mul-events : goal.overflow_mul-events
overflow_mul-events c = omega (arith, few_accepted c.args.words.now c.args.self.now c.requires.room c.requires.filled)

pub overflow_sub-events : goal.overflow_sub-events
overflow_sub-events c = omega (arith, arrived c.args.words.now c.args.self.now c.requires.room c.requires.filled)

pub packets_sound-requires : goal.packets_sound-requires
packets_sound-requires c =
    let w = c.args.words.now in
    let state = c.args.self.now in
    (few_packets w state c.requires.room c.requires.filled, few_rows w state c.requires.room c.requires.filled, c.requires.room)

pub returns : goal.returns
returns c =
    let w = c.args.words.now in
    let state = c.args.self.now in
    let long = c.requires.room in
    let told = c.requires.filled in
    let tree_ok = sym (tree_same w state long told) ∙ sym c.tree_sound.ensures ∙ c.if-not-tree_sound.false in
    let verdict = packets_verdict w state long told c.packets_sound.result c.packets_sound.ensures in (
      λ no. packets_fail (live_in w) told.few_so tree_ok (sym verdict ∙ no),
      λ yes. read_so w state long told tree_ok (sym verdict ∙ yes),
    )
