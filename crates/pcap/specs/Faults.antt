-- What is refused of a capture, with which number and where: the rate and the file header once, then record by record.
use Rattle.std.specs.Prelude.{ℕ, zero, suc, pred, ◌+◌, ◌-◌, ◌^◌, min, Bool, true, false, cond, not, ◌||◌, List, [], ◌∷◌, ltb, eqb, length}
use Rattle.input.specs.declared.Refusal.{Refusal}
use Rattle.input.specs.Refusals.{nothing, given, first, first_below}
use Rattle.pcap.specs.Headers.{header_bytes, record_bytes, major_version, minor_version, raw_ip, magic, major_of, minor_of, link_type}
use Rattle.pcap.specs.Records.{offset, ended, most_records, included, packet_of, stamp, least_header, ip_version, header_words}

-- the place of record k, as far as a place can say
unfoldable pub record_place : ℕ → ℕ
record_place k = min k (2 ^ 32 - 1)

-- 30 to 34: rate, length, magic number, version, link type
unfoldable pub header_refused : List ℕ → ℕ → Refusal
header_refused capture rate =
    first
    (given (eqb rate 0) 30 0
    ∷ given (ltb (length capture) header_bytes) 31 0
    ∷ given (not (magic false capture || magic true capture)) 32 0
    ∷ given (not (eqb (major_of capture) major_version) || not (eqb (minor_of capture) minor_version)) 33 0
    ∷ given (not (eqb (link_type capture) raw_ip)) 34 0
    ∷ [])

-- a packet of so many included bytes is no IPv4 packet
unfoldable pub not_ipv4 : ℕ → List ℕ → Bool
not_ipv4 bytes packet = ltb bytes least_header || not (eqb (ip_version packet) 4) || ltb (header_words packet) 5

-- the bytes from record k's first on
abbrev pub left_for : List ℕ → ℕ → ℕ
left_for capture k = length capture - offset capture k

-- 35 to 38, of a record that has begun: its header, its packet, the packet's own header, its stamp by that of the record before it
unfoldable pub begun_refused : List ℕ → ℕ → Refusal
begun_refused capture k =
    first
    (given (ltb (left_for capture k) record_bytes) 35 (record_place k)
    ∷ given (ltb (left_for capture k - record_bytes) (included capture k)) 36 (record_place k)
    ∷ given (not_ipv4 (included capture k) (packet_of capture k)) 37 (record_place k)
    ∷ given (ltb (stamp capture k) (stamp capture (pred k))) 38 (record_place k)
    ∷ [])

unfoldable pub record_refused : List ℕ → ℕ → Refusal
record_refused capture k = cond (ended capture k) nothing (begun_refused capture k)

unfoldable pub records_refused : List ℕ → Refusal
records_refused capture = first_below (record_refused capture) (most_records capture)

-- the first refusal of a capture, or none
unfoldable pub capture_refused : List ℕ → ℕ → Refusal
capture_refused capture rate = first (header_refused capture rate ∷ records_refused capture ∷ [])
