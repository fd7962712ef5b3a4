-- The limits and units of the rules, each a named number.
use Rattle.std.specs.Prelude.{ℕ, ◌*◌, ◌^◌}

-- rows of a class table, the root's among them
abbrev pub least_rows : ℕ
least_rows = 2

abbrev pub most_rows : ℕ
most_rows = 256

-- how far below the root a class may stand
abbrev pub most_depth : ℕ
most_depth = 8

abbrev pub most_identifier : ℕ
most_identifier = 65535

-- identifiers that the modem tells apart: it sends 16 bits of each
abbrev pub on_air_identifiers : ℕ
on_air_identifiers = 2 ^ 16

abbrev pub most_events : ℕ
most_events = 65536

-- bytes of a packet
abbrev pub least_bytes : ℕ
least_bytes = 1

abbrev pub most_bytes : ℕ
most_bytes = 9000

-- parts of a share
abbrev pub least_share : ℕ
least_share = 1

-- the parts that make a whole: the most that a share may be, and that the children of a row may have together
abbrev pub whole : ℕ
whole = 840

-- ticks of virtual time to a byte
abbrev pub ticks : ℕ
ticks = 840

-- ticks to a byte for a share of one part
abbrev pub scale : ℕ
scale = ticks * whole

-- words of the report for a row
abbrev pub report_words : ℕ
report_words = 5

-- largest packets that each step of the promise on shares adds
abbrev pub packets_a_step : ℕ
packets_a_step = 3

-- ticks that each step adds beside one for each packet that the class finished
abbrev pub ticks_a_step : ℕ
ticks_a_step = 2
