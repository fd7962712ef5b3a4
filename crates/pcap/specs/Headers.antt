-- The classic layout of a capture: numbers in either byte order, and the file header.
use Rattle.std.specs.Prelude.{ℕ, suc, ◌+◌, Bool, true, false, cond, ◌||◌, List, [], ◌∷◌, eqb, get_or}
use Rattle.octets.specs.Octets.{number_of}
use Rattle.pcap.specs.declared.Layout.{Layout}

-- ── the numbers of the layout ──

-- bytes of the file header, and of the header of each record
abbrev pub header_bytes : ℕ
header_bytes = 24

abbrev pub record_bytes : ℕ
record_bytes = 16

-- the magic numbers a1b2c3d4 and a1b23c4d: stamps with microseconds, stamps with nanoseconds
abbrev pub micro_magic : ℕ
micro_magic = 2712847316

abbrev pub nano_magic : ℕ
nano_magic = 2712812621

abbrev pub major_version : ℕ
major_version = 2

abbrev pub minor_version : ℕ
minor_version = 4

-- the link type of raw IP packets
abbrev pub raw_ip : ℕ
raw_ip = 101

-- ── numbers in the bytes ──

abbrev pub byte_at : List ℕ → ℕ → ℕ
byte_at capture at = get_or capture at 0

-- the number of four bytes at a place, or of two, the highest byte first or the lowest
unfoldable pub word_at : Bool → List ℕ → ℕ → ℕ
word_at big capture at =
    let a = byte_at capture at in
    let b = byte_at capture (at + 1) in
    let c = byte_at capture (at + 2) in
    let d = byte_at capture (at + 3) in
    cond big (number_of (d ∷ c ∷ b ∷ a ∷ [])) (number_of (a ∷ b ∷ c ∷ d ∷ []))

unfoldable pub half_at : Bool → List ℕ → ℕ → ℕ
half_at big capture at =
    let a = byte_at capture at in
    let b = byte_at capture (at + 1) in
    cond big (number_of (b ∷ a ∷ [])) (number_of (a ∷ b ∷ []))

-- ── the file header ──

-- read in this byte order, the capture begins with a magic number
unfoldable pub magic : Bool → List ℕ → Bool
magic big capture = eqb (word_at big capture 0) micro_magic || eqb (word_at big capture 0) nano_magic

-- the byte order is the one in which it does
unfoldable pub layout_of : List ℕ → Layout
layout_of capture =
    let big = magic true capture in record { big = big; nano = eqb (word_at big capture 0) nano_magic }

abbrev pub major_of : List ℕ → ℕ
major_of capture = half_at (layout_of capture).big capture 4

abbrev pub minor_of : List ℕ → ℕ
minor_of capture = half_at (layout_of capture).big capture 6

abbrev pub link_type : List ℕ → ℕ
link_type capture = word_at (layout_of capture).big capture 20
