-- `read_file` meets its contract: it reads nothing of a file that is missing, or as `read_all` does.
-- Assumes nothing.
use Rattle.files.proofs.Bytes.{nothing, failed_reads}
use Rattle.files.proofs.reading.read_file.Goals as goal

pub returns-in_err-file : goal.returns-in_err-file
returns-in_err-file g c = failed_reads _ (nothing _) c.from_residual.ensures.0
