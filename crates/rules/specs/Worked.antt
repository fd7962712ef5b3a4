-- The rules' own worked runs, P1 to P12, and the form of a worked run: its input, and what its outcome must be.
use Rattle.std.specs.Prelude.{ℕ, ◌+◌, ◌*◌, ◌≡◌, List, [], ◌∷◌, ◌++◌, map, length, get_or, take, drop, replicate, ℤ, pos, negsuc}
use Rattle.input.specs.Limits.{report_words}
use Rattle.rules.specs.Outcome.{Lent, Outcome, outcome}

-- ── inputs ──

-- identifier, parent's identifier, share
pub record Row : Type 0 where
  pub identifier : ℕ
  pub parent : ℕ
  pub share : ℕ

-- class and length
pub record Words : Type 0 where
  pub class : ℕ
  pub length : ℕ

unfoldable pub row : ℕ → ℕ → ℕ → Row
row identifier parent share = record { identifier = identifier; parent = parent; share = share }

unfoldable pub packet : ℕ → ℕ → Words
packet class length = record { class = class; length = length }

unfoldable pub finish : Words
finish = packet 0 0

-- the lent input of a run. Each result slice has a word more than it needs, and holds sevens
unfoldable pub lend : List Row → List Words → Lent
lend rows events =
    record {
      table = record {
        identifiers = map (λ (r : Row). r.identifier) rows;
        parent_identifiers = map (λ (r : Row). r.parent) rows;
        shares = map (λ (r : Row). r.share) rows;
      };
      events = record {
        classes = map (λ (e : Words). e.class) events;
        lengths = map (λ (e : Words). e.length) events;
      };
      order = replicate (length events + 1) 7;
      report = replicate (report_words * length rows + 1) 7;
      lags = replicate (length rows + 1) (pos 7);
      working = replicate (length events + 1) 7;
    }

-- ── what is said of an outcome ──

pub data Fact : Type 0 where
  -- number, place, second place, count
  Answers : ℕ → ℕ → ℕ → ℕ → Fact
  -- every word of a lent slice
  Order : List ℕ → Fact
  Report : List ℕ → Fact
  Lags : List ℤ → Fact
  Working : List ℕ → Fact
  -- a row's five words of the report; one of them, counted from 0
  RowReport : ℕ → List ℕ → Fact
  Word : ℕ → ℕ → ℕ → Fact

-- the words of a row's report
abbrev pub start_word : ℕ
start_word = 1

abbrev pub finish_word : ℕ
finish_word = 2

abbrev pub virtual_word : ℕ
virtual_word = 3

abbrev pub held_word : ℕ
held_word = 4

-- what an outcome says where a fact says something
unfoldable pub found : Outcome → Fact → Fact
found outcome (Answers number place second count) =
    Answers outcome.answer.number outcome.answer.place outcome.answer.second outcome.answer.count
found outcome (Order words) = Order outcome.order
found outcome (Report words) = Report outcome.report
found outcome (Lags words) = Lags outcome.lags
found outcome (Working words) = Working outcome.working
found outcome (RowReport r words) = RowReport r (take report_words (drop (report_words * r) outcome.report))
found outcome (Word r i word) = Word r i (get_or outcome.report (report_words * r + i) 0)

pub record Run : Type 0 where
  pub lent : Lent
  pub facts : List Fact

-- asked of its outcome, each fact of each run comes back as it stands
abbrev pub ComeOut : List Run → Type 0
ComeOut runs = map (λ (run : Run). map (found (outcome run.lent)) run.facts) runs ≡ map (λ (run : Run). run.facts) runs

-- ── the runs ──

-- two classes of equal shares
unfoldable pub halves : List Row
halves = row 1 0 0 ∷ row 10 1 420 ∷ row 20 1 420 ∷ []

-- P1, whole: two classes in turn
unfoldable pub p1 : Run
p1 =
    record {
      lent = lend halves (packet 10 100 ∷ packet 20 100 ∷ packet 10 100 ∷ finish ∷ finish ∷ finish ∷ []);
      facts =
          Answers 0 0 0 3
          ∷ Order (0 ∷ 1 ∷ 2 ∷ 7 ∷ 7 ∷ 7 ∷ 7 ∷ [])
          ∷ Report (300 ∷ 0 ∷ 0 ∷ 252000 ∷ 0 ∷ 200 ∷ 168000 ∷ 336000 ∷ 0 ∷ 0 ∷ 100 ∷ 84000 ∷ 252000 ∷ 0 ∷ 0 ∷ 7 ∷ [])
          ∷ Lags (pos 0 ∷ pos 0 ∷ pos 0 ∷ pos 7 ∷ [])
          ∷ Working (0 ∷ 0 ∷ 0 ∷ 0 ∷ 0 ∷ 0 ∷ 7 ∷ [])
          ∷ [];
    }

-- P2: P1 up to its first finish
unfoldable pub p2 : Run
p2 =
    record {
      lent = lend halves (packet 10 100 ∷ packet 20 100 ∷ packet 10 100 ∷ finish ∷ []);
      facts =
          Answers 0 0 0 2
          ∷ Order (0 ∷ 1 ∷ 7 ∷ 7 ∷ 7 ∷ [])
          ∷ Word 0 held_word 2
          ∷ Word 1 held_word 1
          ∷ Word 2 held_word 1
          ∷ Lags (pos 0 ∷ negsuc 41999 ∷ pos 42000 ∷ pos 7 ∷ [])
          ∷ [];
    }

-- P3: of equal finishes the packet that arrived first goes first
unfoldable pub p3 : Run
p3 =
    record {
      lent =
          lend (row 1 0 0 ∷ row 10 1 280 ∷ row 20 1 280 ∷ row 30 1 280 ∷ [])
          (packet 10 100 ∷ packet 30 100 ∷ packet 20 100 ∷ finish ∷ finish ∷ finish ∷ []);
      facts = Answers 0 0 0 3 ∷ Order (0 ∷ 1 ∷ 2 ∷ 7 ∷ 7 ∷ 7 ∷ 7 ∷ []) ∷ Word 0 virtual_word 252000 ∷ [];
    }

-- P4: two levels
unfoldable pub p4 : Run
p4 =
    record {
      lent =
          lend (row 1 0 0 ∷ row 2 1 420 ∷ row 3 1 420 ∷ row 4 2 420 ∷ row 5 2 420 ∷ [])
          (packet 4 100 ∷ packet 3 100 ∷ packet 5 100 ∷ finish ∷ finish ∷ finish ∷ []);
      facts =
          Answers 0 0 0 3
          ∷ Order (0 ∷ 1 ∷ 2 ∷ 7 ∷ 7 ∷ 7 ∷ 7 ∷ [])
          ∷ RowReport 1 (200 ∷ 168000 ∷ 336000 ∷ 168000 ∷ 0 ∷ [])
          ∷ Word 0 virtual_word 252000
          ∷ [];
    }

-- P5: the virtual time jumps to the next start
unfoldable pub p5 : Run
p5 =
    record {
      lent = lend (row 1 0 0 ∷ row 10 1 105 ∷ []) (packet 10 100 ∷ packet 10 100 ∷ finish ∷ finish ∷ []);
      facts =
          Answers 0 0 0 2
          ∷ Order (0 ∷ 1 ∷ 7 ∷ 7 ∷ 7 ∷ [])
          ∷ Word 1 start_word 672000
          ∷ Word 1 finish_word 1344000
          ∷ Word 0 virtual_word 756000
          ∷ [];
    }

-- P6: no event
unfoldable pub p6 : Run
p6 =
    record {
      lent = lend halves [];
      facts =
          Answers 0 0 0 0
          ∷ Report (replicate 15 0 ++ 7 ∷ [])
          ∷ Lags (pos 0 ∷ pos 0 ∷ pos 0 ∷ pos 7 ∷ [])
          ∷ [];
    }

-- P7: a doubled identifier
unfoldable pub p7 : Run
p7 = record { lent = lend (row 1 0 0 ∷ row 10 1 420 ∷ row 10 1 420 ∷ []) []; facts = Answers 5 2 1 0 ∷ [] }

-- P8: a share that does not divide 705600
unfoldable pub p8 : Run
p8 = record { lent = lend (row 1 0 0 ∷ row 10 1 756 ∷ []) []; facts = Answers 0 0 0 0 ∷ [] }

-- P9: all of the line for one class
unfoldable pub p9 : Run
p9 = record { lent = lend (row 1 0 0 ∷ row 10 1 840 ∷ []) []; facts = Answers 0 0 0 0 ∷ [] }

-- P10: shares over the whole
unfoldable pub p10 : Run
p10 =
    record {
      lent = lend (row 1 0 0 ∷ row 10 1 420 ∷ row 20 1 420 ∷ row 30 1 1 ∷ []) [];
      facts = Answers 10 0 0 0 ∷ [];
    }

-- P11: a finish of nothing
unfoldable pub p11 : Run
p11 = record { lent = lend halves (finish ∷ []); facts = Answers 14 0 0 0 ∷ [] }

-- P12: a packet too long
unfoldable pub p12 : Run
p12 = record { lent = lend halves (packet 10 9001 ∷ []); facts = Answers 13 0 0 0 ∷ [] }

unfoldable pub runs : List Run
runs = p1 ∷ p2 ∷ p3 ∷ p4 ∷ p5 ∷ p6 ∷ p7 ∷ p8 ∷ p9 ∷ p10 ∷ p11 ∷ p12 ∷ []
