-- The run on lent bytes: each slice is words, the lowest byte first, four bytes a word, but eight for the report's and the lags'.
use Rattle.std.specs.Prelude.{ℕ, ◌+◌, ◌%◌, ◌≡◌, Bool, cond, ◌&&◌, List, [], ◌∷◌, eqb, length}
use Rattle.input.specs.declared.Answer.{Answer}
use Rattle.rules.specs.Outcome.{Lent, Outcome, outcome}
use Rattle.engine.specs.Run.{lent_of}
use Rattle.octets.specs.Octets.{bytes_of, words_of, signed_bytes_of, signed_words_of}

-- what is lent
pub record LentBytes : Type 0 where
  pub identifiers : List ℕ
  pub parents : List ℕ
  pub shares : List ℕ
  pub classes : List ℕ
  pub lengths : List ℕ
  pub order : List ℕ
  pub report : List ℕ
  pub lags : List ℕ
  pub working : List ℕ
  pub answer : List ℕ

-- what is left: the number that is returned, and the bytes that could be written
pub record LeftBytes : Type 0 where
  pub number : ℕ
  pub order : List ℕ
  pub report : List ℕ
  pub lags : List ℕ
  pub working : List ℕ
  pub answer : List ℕ

-- as records
abbrev pub lent_bytes :
    (identifiers parents shares classes lengths order report lags working answer : List ℕ)
    → LentBytes
lent_bytes identifiers parents shares classes lengths order report lags working answer =
    record {
      identifiers = identifiers;
      parents = parents;
      shares = shares;
      classes = classes;
      lengths = lengths;
      order = order;
      report = report;
      lags = lags;
      working = working;
      answer = answer;
    }

abbrev pub left_bytes : ℕ → (order report lags working answer : List ℕ) → LeftBytes
left_bytes number order report lags working answer =
    record { number = number; order = order; report = report; lags = lags; working = working; answer = answer }

-- how many bytes make no whole word, in slices of so many bytes together
unfoldable pub spare : (identifiers parents shares classes lengths order report lags working : ℕ) → ℕ
spare identifiers parents shares classes lengths order report lags working =
    identifiers % 4 + parents % 4 + shares % 4 + classes % 4 + lengths % 4 + order % 4 + report % 8 + lags % 8 + working % 4

abbrev pub spare_of : LentBytes → ℕ
spare_of lent =
    spare (length lent.identifiers) (length lent.parents) (length lent.shares) (length lent.classes) (length lent.lengths)
    (length lent.order) (length lent.report) (length lent.lags) (length lent.working)

-- every slice is whole words, and the answer's are four
unfoldable pub whole : LentBytes → Bool
whole lent = eqb (spare_of lent) 0 && eqb (length lent.answer) 16

-- the words
unfoldable pub words_lent : LentBytes → Lent
words_lent lent =
    lent_of (words_of 4 lent.identifiers) (words_of 4 lent.parents) (words_of 4 lent.shares) (words_of 4 lent.classes)
    (words_of 4 lent.lengths) (words_of 4 lent.order) (words_of 8 lent.report) (signed_words_of lent.lags) (words_of 4 lent.working)

-- the answer's four words
abbrev pub answer_words : Answer → List ℕ
answer_words answer = answer.number ∷ answer.place ∷ answer.second ∷ answer.count ∷ []

unfoldable pub answer_bytes : Answer → List ℕ
answer_bytes answer = bytes_of 4 (answer_words answer)

-- an outcome in bytes
unfoldable pub bytes_left : Outcome → LeftBytes
bytes_left left =
    record {
      number = left.answer.number;
      order = bytes_of 4 left.order;
      report = bytes_of 8 left.report;
      lags = signed_bytes_of left.lags;
      working = bytes_of 4 left.working;
      answer = answer_bytes left.answer;
    }

-- 3, and nothing is written
unfoldable pub untouched : LentBytes → LeftBytes
untouched lent =
    record { number = 3; order = lent.order; report = lent.report; lags = lent.lags; working = lent.working; answer = lent.answer }

-- the run on bytes
unfoldable pub exported : LentBytes → LeftBytes
exported lent = cond (whole lent) (bytes_left (outcome (words_lent lent))) (untouched lent)

-- the run of what was lent leaves this, the number and every byte of every slice
abbrev pub Exports : LentBytes → LeftBytes → Type 0
Exports lent left = left ≡ exported lent
