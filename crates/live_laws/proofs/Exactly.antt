-- Which number a call on a kept state answers, exactly when.
-- Assumes nothing.
use Prim.Native.Nat.{ℕ, ◌≤◌, ◌<◌}
use mathlib.Core.Path.{◌≡◌, refl, sym, ap, ◌∙◌}
use mathlib.Core.Logic.{◌≢◌, ◌↔◌}
use mathlib.Core.Bool.{Bool, true, false, not, ◌||◌}
use mathlib.Core.List.{List, [], ◌∷◌}
use native.Mathlib.Omega.{arith}
use lib.Dec.{leb, ltb}
use lib.ListN.{length}
use borrow.Author.Tests.{ltb-true, ltb-false, lt-ltb, le-ltb, leb-true, leb-false, eq-eqb, ne_eqb, not-false}
use Rattle.input.specs.declared.Event.TheVariants.{Arrival, Finish}
use Rattle.input.specs.declared.Refusal.{Refusal}
use Rattle.input.specs.Limits.{most_bytes}
use Rattle.input.specs.Classes.{Table}
use Rattle.input.specs.Events.{decode}
use Rattle.input.specs.Refusals.{nothing, given, or_else, first, rows_refused, table_refused, meeting_refused}
use Rattle.input.proofs.Numbers.{table_has}
use Rattle.rules.specs.Box.{has_head}
use Rattle.rules.specs.Refused.{idle}
use Rattle.laws.proofs.Level.Heads.{has_true, some_has}
use Rattle.laws.proofs.Event.Keeping.{busy_holds, holds_head}
use Rattle.live_rules.specs.Limits.{most_held, most_accepted}
use Rattle.live_rules.specs.Layout.{state_words}
use Rattle.live_rules.specs.State as state
use Rattle.live_rules.specs.State.{Live, box_of, live_in}
use Rattle.live_rules.specs.Soundness.{sound}
use Rattle.live_rules.specs.Taking.{full_refused, event_refused}
use Rattle.live_rules.specs.Outcomes.{state_refused, fresh_refused, Left, Made, Took}
use Rattle.live_laws.specs.Holds.{Counted, Holds}
use Rattle.live_laws.proofs.Telling.{sound_counted}
use Rattle.live_laws.proofs.Refusing.{first_here, first_next, first_last, or_next, call_has, finish_has, event_has, state_short, state_unsound, state_fine}
use Rattle.live_laws.proofs.Calls.{fresh_number, number_is}

-- ── 3 and 20, which come first ──

-- what is tested after them has other numbers
abbrev pub Later : Refusal → Type 0
Later refusal = (refusal.number ≢ 3) × (refusal.number ≢ 20)

module _ (short : Bool) (words : List ℕ) (rest : Refusal) (number : ℕ) (is : number ≡ (first (state_refused short words ∷ rest ∷ [])).number) where
  abbrev pub too_short : Bool
  too_short = short || ltb (length words) state_words

  gives : (n : ℕ) → (state_refused short words).number ≡ n → n ≢ 0 → number ≡ n
  gives n refuses some =
      is ∙ ap (λ (r : Refusal). r.number) (first_here (state_refused short words) (rest ∷ []) (λ none. some (sym refuses ∙ none))) ∙ refuses

  pub short_three : too_short ≡ true → number ≡ 3
  short_three yes_short = gives 3 (ap (λ (r : Refusal). r.number) (state_short short words yes_short)) (λ none. omega arith)

  pub unsound_twenty : too_short ≡ false → sound (live_in words) ≡ false → number ≡ 20
  unsound_twenty long unsound = gives 20 (ap (λ (r : Refusal). r.number) (state_unsound short words long unsound)) (λ none. omega arith)

  pub sound_rest : too_short ≡ false → sound (live_in words) ≡ true → number ≡ rest.number
  unfolding nothing
  sound_rest long well =
      is
      ∙ ap (λ (r : Refusal). r.number)
      (first_next (state_refused short words) (rest ∷ []) (ap (λ (r : Refusal). r.number) (state_fine short words long well)))
      ∙ first_last rest

  module _ (later : Later rest) where
    pub three_short : number ≡ 3 → too_short ≡ true
    three_short gets = go too_short refl (sound (live_in words)) refl
      where
        go : (b : Bool) → too_short ≡ b → (s : Bool) → sound (live_in words) ≡ s → b ≡ true
        go true shorter s sounds = refl
        go false long false sounds = let twenty = unsound_twenty long sounds in absurd (omega arith)
        go false long true sounds = absurd (later.0 (sym (sound_rest long sounds) ∙ gets))

    pub twenty_unsound : number ≡ 20 → (too_short ≡ false) × (sound (live_in words) ≡ false)
    twenty_unsound gets = go too_short refl (sound (live_in words)) refl
      where
        go : (b : Bool) → too_short ≡ b → (s : Bool) → sound (live_in words) ≡ s → (b ≡ false) × (s ≡ false)
        go true shorter s sounds = let three = short_three shorter in absurd (omega arith)
        go false long false sounds = (refl, refl)
        go false long true sounds = absurd (later.1 (sym (sound_rest long sounds) ∙ gets))

-- ── of a fresh state ──

-- where the rows are not refused, 3 is given for a short state alone
pub fresh_three_exactly :
    (table : Table) (words : List ℕ) (left : Left) → Made table words left → (rows_refused table).number ≡ 0
    → (left.answer.number ≡ 3) ↔ (length words < state_words)
unfolding fresh_refused first or_else given nothing
fresh_three_exactly table words left made rows_ok = go (ltb (length words) state_words) refl rest_is
  where
    rest_is : left.answer.number ≡ (first (given (ltb (length words) state_words) 3 0 ∷ table_refused table ∷ [])).number
    rest_is =
        fresh_number table words left made
        ∙ ap (λ (r : Refusal). r.number)
        (first_next (rows_refused table) (given (ltb (length words) state_words) 3 0 ∷ table_refused table ∷ []) rows_ok)

    go :
        (b : Bool) → ltb (length words) state_words ≡ b → left.answer.number ≡ (first (given b 3 0 ∷ table_refused table ∷ [])).number
        → (left.answer.number ≡ 3) ↔ (length words < state_words)
    go true shorter is = (λ gets. ltb-true (length words) state_words shorter, λ below. is)
    go false long is =
        let other = table_has (λ number. number ≢ 3) (λ e. omega arith) (λ number low high e. omega arith) table in
        let enough = ltb-false (length words) state_words long in
        (λ gets. absurd (other (sym (is ∙ first_last (table_refused table)) ∙ gets)), λ below. absurd (omega arith))

-- ── a busy line ──

-- one packet is on the line exactly where any is held
pub busy_line : (live : Live) → Holds live → (idle (box_of live) ≡ false) ↔ (0 < length live.packets)
unfolding idle box_of
busy_line live holds = (
  λ busy.
      let some =
      busy_holds live.tree holds.treed.sound (λ r. most_bytes) wider (state.events live) (box_of live) holds.kept 0 holds.counted.some_rows
      (has_true live.rows 0 (not-false (has_head live.rows 0) busy)) in
      let all = holds.shaped.held_all in
      omega arith,
  λ some.
      let all = holds.shaped.held_all in
      ap not
      (some_has live.rows 0
      (holds_head live.tree holds.treed.sound (λ r. most_bytes) wider (state.events live) (box_of live) holds.kept 0 holds.counted.some_rows
      (omega arith))),
)
  where
    wider : (j : ℕ) → 0 < j → j < live.tree.rows → most_bytes ≤ most_bytes
    wider j positive inside = omega arith

-- ── of an event ──

-- 21, 22 or none, each exactly when, by how many packets were accepted and are held
abbrev Full : ℕ → ℕ → ℕ → Type 0
Full number accepted held =
    ((number ≡ 21) ↔ (accepted ≡ most_accepted))
    × ((number ≡ 22) ↔ ((accepted < most_accepted) × (held ≡ most_held)))
    × ((number ≡ 0) ↔ ((accepted < most_accepted) × (held < most_held)))

-- neither of the two
abbrev Roomy : Refusal → Type 0
Roomy refusal = (refusal.number ≢ 21) × (refusal.number ≢ 22)

full : (live : Live) (class size : ℕ) → Counted live → Full (full_refused live (Arrival class size)).number live.accepted (length live.packets)
unfolding full_refused first or_else given nothing
full live class size counted = go (leb most_accepted live.accepted) refl (leb most_held (length live.packets)) refl
  where
    go :
        (a : Bool) → leb most_accepted live.accepted ≡ a → (h : Bool) → leb most_held (length live.packets) ≡ h
        → Full (first (given a 21 0 ∷ given h 22 0 ∷ [])).number live.accepted (length live.packets)
    go true accepted h held =
        let more = leb-true most_accepted live.accepted accepted in
        let most = counted.few_accepted in (
          (λ e. omega arith, λ e. refl),
          (λ e. absurd (omega arith), λ (less, all). absurd (omega arith)),
          (λ e. absurd (omega arith), λ (less, room). absurd (omega arith)),
        )
    go false accepted true held =
        let less = leb-false most_accepted live.accepted accepted in
        let more = leb-true most_held (length live.packets) held in
        let most = counted.few_held in (
          (λ e. absurd (omega arith), λ e. absurd (omega arith)),
          (λ e. (less, omega arith), λ both. refl),
          (λ e. absurd (omega arith), λ (less, room). absurd (omega arith)),
        )
    go false accepted false held =
        let less = leb-false most_accepted live.accepted accepted in
        let room = leb-false most_held (length live.packets) held in (
          (λ e. absurd (omega arith), λ e. absurd (omega arith)),
          (λ e. absurd (omega arith), λ (less, all). absurd (omega arith)),
          (λ e. (less, room), λ both. refl),
        )

module _ (words : List ℕ) (class size : ℕ) (left : Left) (takes : Took words class size left) where
  abbrev rest : Refusal
  rest = event_refused (live_in words) size (decode class size)

  abbrev number : ℕ
  number = left.answer.number

  is : number ≡ (first (state_refused false words ∷ rest ∷ [])).number
  is = number_is words class size left takes

  rest_later : Later rest
  unfolding nothing
  rest_later =
      event_has Later (λ e. omega arith, λ e. omega arith) (λ n low high. (λ e. omega arith, λ e. omega arith)) (λ e. omega arith, λ e. omega arith)
      (λ e. omega arith, λ e. omega arith) (live_in words) size (decode class size)

  pub three_exactly : (left.answer.number ≡ 3) ↔ (length words < state_words)
  three_exactly = (
    λ gets. ltb-true (length words) state_words (three_short false words rest number is rest_later gets),
    λ shorter. short_three false words rest number is (lt-ltb (length words) state_words shorter),
  )

  pub twenty_exactly : (left.answer.number ≡ 20) ↔ ((state_words ≤ length words) × (sound (live_in words) ≡ false))
  twenty_exactly = (
    λ gets. let both = twenty_unsound false words rest number is rest_later gets in (ltb-false (length words) state_words both.0, both.1),
    λ both. unsound_twenty false words rest number is (le-ltb (length words) state_words both.0) both.1,
  )

  -- on a sound state the event alone decides
  pub sound_number : state_words ≤ length words → sound (live_in words) ≡ true → left.answer.number ≡ rest.number
  sound_number inside well = sound_rest false words rest number is (le-ltb (length words) state_words inside) well

  -- ── 21 and 22, which come last ──

  module _ (inside : state_words ≤ length words) (well : sound (live_in words) ≡ true) where
    abbrev live : Live
    live = live_in words

    -- an arrival that 11 to 13 do not refuse
    module _ (arrives : class ≢ 0) (meets : (meeting_refused (live_in words).tree 0 size (Arrival class size) (idle (box_of (live_in words)))).number ≡ 0) where
      full_number : left.answer.number ≡ (full_refused live (Arrival class size)).number
      unfolding decode event_refused
      full_number =
          sound_number inside well
          ∙ rw (ne_eqb class 0 arrives)
          (ap (λ (r : Refusal). r.number) (or_next (meeting_refused live.tree 0 size (Arrival class size) (idle (box_of live))) _ meets))

      by_room : Full left.answer.number live.accepted (length live.packets)
      by_room = rw full_number (full live class size (sound_counted live well))

      pub twenty_one : (left.answer.number ≡ 21) ↔ ((live_in words).accepted ≡ most_accepted)
      twenty_one = by_room.0

      pub twenty_two : (left.answer.number ≡ 22) ↔ (((live_in words).accepted < most_accepted) × (length (live_in words).packets ≡ most_held))
      twenty_two = by_room.1

      -- it is taken exactly where there is room for one packet more
      pub arrival_taken : (left.answer.number ≡ 0) ↔ (((live_in words).accepted < most_accepted) × (length (live_in words).packets < most_held))
      arrival_taken = by_room.2

  -- ── a finish ──

  -- gets neither
  pub finish_neither : class ≡ 0 → (left.answer.number ≢ 21) × (left.answer.number ≢ 22)
  unfolding decode nothing
  finish_neither finishes =
      rw (is, eq-eqb class 0 finishes)
      (call_has Roomy (λ e. omega arith, λ e. omega arith) words (λ e. omega arith, λ e. omega arith) (λ e. omega arith, λ e. omega arith)
      (event_refused (live_in words) size Finish)
      (finish_has Roomy (λ e. omega arith, λ e. omega arith) (λ n low high. (λ e. omega arith, λ e. omega arith)) (live_in words) size))

  -- on a busy line it is taken, however many packets were accepted
  pub finishes_still_work :
      state_words ≤ length words → sound (live_in words) ≡ true → idle (box_of (live_in words)) ≡ false → class ≡ 0 → size ≡ 0
      → left.answer.number ≡ 0
  unfolding decode event_refused meeting_refused full_refused first or_else given nothing
  finishes_still_work inside well busy finishes none =
      sound_number inside well ∙ rw (eq-eqb class 0 finishes, none, busy)
