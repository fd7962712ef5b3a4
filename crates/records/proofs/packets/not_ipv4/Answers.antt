-- `records::packets::not_ipv4` meets its contract: each answer by the tests on its way.
-- Assumes nothing.
use lib.ListN.{length, get_or}
use Prim.Native.Nat.{◌/◌}
use borrow.Author.Tests.{eq-eqb, ne_eqb, lt-ltb, le-ltb}
use Rattle.pcap.specs.Records.{least_header, ip_version, header_words}
use Rattle.pcap.specs.Faults.{not_ipv4}
use Rattle.records.proofs.packets.not_ipv4.Goals as goal

pub returns-then-packet-lt-LEAST_HEADER : goal.returns-then-packet-lt-LEAST_HEADER
unfolding not_ipv4
returns-then-packet-lt-LEAST_HEADER c = rw (lt-ltb (length c.args.packet.now) least_header c.if-packet-lt-LEAST_HEADER.true)

pub returns-then-first-ne4 : goal.returns-then-first-ne4
unfolding not_ipv4 ip_version
returns-then-first-ne4 c =
    let packet = c.args.packet.now in
    rw (le-ltb (length packet) least_header c.if-packet-lt-LEAST_HEADER.false, ne_eqb (get_or packet 0 0 / 16) 4 c.if-first-ne4.true)

pub returns : goal.returns
unfolding not_ipv4 ip_version header_words
returns c =
    let packet = c.args.packet.now in
    rw (le-ltb (length packet) least_header c.if-packet-lt-LEAST_HEADER.false, eq-eqb (get_or packet 0 0 / 16) 4 c.if-first-ne4.false)
