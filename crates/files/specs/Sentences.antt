-- What is said of a file that cannot be read, and of results that cannot be written.
use Rattle.std.specs.Prelude.{ℕ, ◌+◌, ◌-◌, ◌^◌, min, List, ◌++◌}
use Rattle.output.specs.Numbers.{decimal}
use Rattle.output.specs.Quoted.{bytes_of}
use Rattle.text.specs.declared.Fault.{Fault}
use Rattle.text.specs.declared.Fault.TheVariants.{NoEnd, WrongHeading, WrongCount, NoNumber, TooLarge}
use Rattle.text.specs.Reading.{most}
use Rattle.sentences.specs.Files.{shown}
use Rattle.files.specs.declared.Unread.{Unread}
use Rattle.files.specs.declared.Unread.TheVariants as unread_by
use Rattle.files.specs.declared.Unwritten.{Unwritten}
use Rattle.files.specs.declared.Unwritten.TheVariants as unwritten_by

-- a file, by its name
unfoldable pub unread : List ℕ → List ℕ
unread name = bytes_of "cannot read " ++ shown name

unfoldable pub why : Unread → List ℕ
why unread_by.Missing = bytes_of ": there is no such file"
why unread_by.Folder = bytes_of ": it is a folder"
why unread_by.Forbidden = bytes_of ": this user may not read it"
why unread_by.LongName = bytes_of ": its name is too long"
why (unread_by.Other error) = bytes_of ": the system refuses it with error " ++ decimal error

unfoldable pub cannot_open : List ℕ → Unread → List ℕ
cannot_open name reason = unread name ++ (why reason ++ bytes_of "\n")

unfoldable pub why_unwritten : Unwritten → List ℕ
why_unwritten unwritten_by.Full = bytes_of "the disk is full"
why_unwritten unwritten_by.Closed = bytes_of "standard output is closed"
why_unwritten (unwritten_by.Other error) = bytes_of "the system refuses them with error " ++ decimal error

unfoldable pub cannot_write : Unwritten → List ℕ
cannot_write reason = bytes_of "cannot write the results: " ++ (why_unwritten reason ++ bytes_of "\n")

-- of more bytes than so many
unfoldable pub too_long : List ℕ → ℕ → List ℕ
too_long name most =
    unread name
    ++ (bytes_of ": it has more than " ++ (decimal most ++ bytes_of " bytes; cut its packets down, say with editcap -F pcap -s 64\n"))

-- a field, by its place in the line, from 1
unfoldable pub field : ℕ → List ℕ → List ℕ
field place why = (bytes_of "field " ++ decimal place) ++ why

unfoldable pub too_large : ℕ → List ℕ
too_large place = field place (bytes_of " is over ") ++ decimal most

-- what is wrong with a line
unfoldable pub fault : Fault → List ℕ
fault NoEnd = bytes_of "the line has no end"
fault WrongHeading = bytes_of "the heading must be class,length"
fault WrongCount = bytes_of "2 numbers are wanted"
fault (NoNumber place) = field place (bytes_of " is not a decimal number")
fault (TooLarge place) = too_large place

-- the line after so many lines; scans count them up to 2 ^ 63
unfoldable pub line_after : ℕ → List ℕ
line_after lines = bytes_of ", line " ++ (decimal (min (lines + 1) (2 ^ 64 - 1)) ++ bytes_of ": ")

unfoldable pub cannot_read : List ℕ → ℕ → Fault → List ℕ
cannot_read name lines wrong = unread name ++ (line_after lines ++ (fault wrong ++ bytes_of "\n"))
