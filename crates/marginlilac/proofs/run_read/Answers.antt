-- `marginlilac::run_read` meets its contract: the engine runs on the words of the bytes.
-- Assumes nothing.
use Rattle.marginlilac.proofs.Reading.{words_are, words_many}
use Rattle.marginlilac.proofs.run_read.Goals as goal

pub slice_bounds-run-end : goal.slice_bounds-run-end
slice_bounds-run-end g c = words_many _ _ _ c.read_words.ensures

pub slice_bounds-run-end-2 : goal.slice_bounds-run-end-2
slice_bounds-run-end-2 g c = words_many _ _ _ c.read_words-2.ensures

pub slice_bounds-run-end-3 : goal.slice_bounds-run-end-3
slice_bounds-run-end-3 g c = words_many _ _ _ c.read_words-3.ensures

pub slice_bounds-run-end-4 : goal.slice_bounds-run-end-4
slice_bounds-run-end-4 g c = words_many _ _ _ c.read_words-4.ensures

pub slice_bounds-run-end-5 : goal.slice_bounds-run-end-5
slice_bounds-run-end-5 g c = words_many _ _ _ c.read_words-5.ensures

pub returns-clause-ran : goal.returns-clause-ran
returns-clause-ran g c =
    rw (
      words_are _ _ _ c.read_words.ensures,
      words_are _ _ _ c.read_words-2.ensures,
      words_are _ _ _ c.read_words-3.ensures,
      words_are _ _ _ c.read_words-4.ensures,
      words_are _ _ _ c.read_words-5.ensures,
    )
    at c.run.ensures.ran
