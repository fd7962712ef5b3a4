-- The records of a capture: where each stands, its packet, stamp and length, and the class that its packet is for.
use Rattle.std.specs.Prelude.{ℕ, zero, suc, ◌+◌, ◌*◌, ◌/◌, ◌%◌, Bool, cond, ◌&&◌, ◌||◌, List, leb, ltb, eqb, length, get_or, take, drop}
use Rattle.pcap.specs.declared.Layout.{Layout}
use Rattle.pcap.specs.declared.Sorting.{Sorting}
use Rattle.pcap.specs.Headers.{header_bytes, record_bytes, word_at, layout_of}

-- ── where records stand ──

-- a number of the record's header that begins at this byte
unfoldable pub field_at : List ℕ → ℕ → ℕ → ℕ
field_at capture at field = word_at (layout_of capture).big capture (at + field)

-- how many bytes of its packet the record there includes
abbrev pub included_at : List ℕ → ℕ → ℕ
included_at capture at = field_at capture at 8

-- the byte at which record k begins: the first stands after the file header, each other one after the packet before it
unfoldable pub offset : List ℕ → ℕ → ℕ
offset capture zero = header_bytes
offset capture (suc k) = let at = offset capture k in at + record_bytes + included_at capture at

-- the capture has no record k: it ends before it
unfoldable pub ended : List ℕ → ℕ → Bool
ended capture k = leb (length capture) (offset capture k)

-- the records among the first n
unfoldable pub records_below : List ℕ → ℕ → ℕ
records_below capture zero = 0
records_below capture (suc k) = records_below capture k + cond (ended capture k) 0 1

-- there are no more than so many: each has a header
abbrev pub most_records : List ℕ → ℕ
most_records capture = length capture / record_bytes

unfoldable pub record_count : List ℕ → ℕ
record_count capture = records_below capture (most_records capture)

-- ── what record k has ──

abbrev pub included : List ℕ → ℕ → ℕ
included capture k = included_at capture (offset capture k)

-- its packet: the bytes after its header, as many as it includes
unfoldable pub packet_at : List ℕ → ℕ → List ℕ
packet_at capture at = take (included_at capture at) (drop (at + record_bytes) capture)

abbrev pub packet_of : List ℕ → ℕ → List ℕ
packet_of capture k = packet_at capture (offset capture k)

-- how many bytes the packet had on the air
abbrev pub original : List ℕ → ℕ → ℕ
original capture k = field_at capture (offset capture k) 12

-- microseconds of a second and a fraction of it; nanoseconds are rounded down
unfoldable pub microseconds : Layout → ℕ → ℕ → ℕ
microseconds layout seconds fraction = seconds * 1000000 + cond layout.nano (fraction / 1000) fraction

unfoldable pub stamp_at : List ℕ → ℕ → ℕ
stamp_at capture at = microseconds (layout_of capture) (field_at capture at 0) (field_at capture at 4)

abbrev pub stamp : List ℕ → ℕ → ℕ
stamp capture k = stamp_at capture (offset capture k)

-- ── its packet's header ──

-- bytes of the shortest IPv4 header
abbrev pub least_header : ℕ
least_header = 20

-- the first byte has the version and the header's length in words of four bytes, the second the code point in its six high bits
unfoldable pub ip_version : List ℕ → ℕ
ip_version packet = get_or packet 0 0 / 16

unfoldable pub header_words : List ℕ → ℕ
header_words packet = get_or packet 0 0 % 16

unfoldable pub code_point : List ℕ → ℕ
code_point packet = get_or packet 1 0 / 4

-- the class for a code point: 46 and 48 to 63, 8 to 39, all others
unfoldable pub class_for : Sorting → ℕ → ℕ
class_for sorting point =
    cond (eqb point 46 || (leb 48 point && leb point 63)) sorting.first
    (cond (leb 8 point && leb point 39) sorting.second sorting.third)

abbrev pub class_of : List ℕ → Sorting → ℕ → ℕ
class_of capture sorting k = class_for sorting (code_point (packet_of capture k))
