-- What is said of a state that cannot be written.
use Rattle.std.specs.Prelude.{ℕ, List, ◌++◌}
use Rattle.output.specs.Quoted.{bytes_of}
use Rattle.files.specs.Sentences.{why}
use Rattle.state_files.specs.declared.Unstored.{Unstored}
use Rattle.state_files.specs.declared.Unstored.TheVariants.{Full, Forbidden, NoFolder, Other}

unfoldable pub why_unstored : Unstored → List ℕ
why_unstored Full = bytes_of ": the disk is full"
why_unstored Forbidden = bytes_of ": this user may not write it"
why_unstored NoFolder = bytes_of ": there is no such folder"
why_unstored (Other reason) = why reason

unfoldable pub cannot_store : List ℕ → Unstored → List ℕ
cannot_store name reason = bytes_of "cannot write " ++ (name ++ (why_unstored reason ++ bytes_of "\n"))
