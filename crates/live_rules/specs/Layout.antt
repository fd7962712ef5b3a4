-- The words of the lent state: which stands where. Each list of rows has a word for each row that there can be, each list of packets one for
-- each packet that can be held. Words out of use mean nothing: they are not read and not written.
use Rattle.std.specs.Prelude.{ℕ, List, take, drop}
use Rattle.input.specs.Classes.{zeros}
use Rattle.rules.specs.Outcome.{over}

-- how many rows are in use, and how many packets were ever accepted
abbrev pub rows_word : ℕ
rows_word = 0

abbrev pub accepted_word : ℕ
accepted_word = 1

-- ── the tree ──

abbrev pub identifiers_at : ℕ
identifiers_at = 256

abbrev pub parents_at : ℕ
parents_at = 512

abbrev pub depths_at : ℕ
depths_at = 768

abbrev pub shares_at : ℕ
shares_at = 1024

-- ── what choosing goes by ──

abbrev pub starts_at : ℕ
starts_at = 1280

abbrev pub finishes_at : ℕ
finishes_at = 1536

abbrev pub virtuals_at : ℕ
virtuals_at = 1792

abbrev pub heads_at : ℕ
heads_at = 2048

abbrev pub head_lengths_at : ℕ
head_lengths_at = 2304

abbrev pub head_classes_at : ℕ
head_classes_at = 2560

-- ── what is counted; the root's word of those held is also how many packets stand below ──

abbrev pub bytes_at : ℕ
bytes_at = 2816

abbrev pub held_at : ℕ
held_at = 3072

abbrev pub since_at : ℕ
since_at = 3328

abbrev pub parent_since_at : ℕ
parent_since_at = 3584

-- ── the packets held, in the order in which they arrived: the row of the class, the bytes, the name ──

abbrev pub classes_at : ℕ
classes_at = 3840

abbrev pub lengths_at : ℕ
lengths_at = 4864

abbrev pub names_at : ℕ
names_at = 5888

-- the fixed size of a state
abbrev pub state_words : ℕ
state_words = 6912

-- ── reading ──

-- so many words from a place on
unfoldable pub words_at : ℕ → ℕ → List ℕ → List ℕ
words_at at n words = take n (drop at words)

-- an entry for each row that there can be: the words of the rows in use, and zeros
unfoldable pub rows_at : ℕ → ℕ → List ℕ → List ℕ
rows_at at n words = over (words_at at n words) zeros
