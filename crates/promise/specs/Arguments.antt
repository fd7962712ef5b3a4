-- The three numbers that the arguments give, or the first fault in them.
use Rattle.std.specs.Prelude.{ℕ, cond, ◌||◌, ltb, Result, Ok, Err}
use Rattle.input.specs.Limits.{least_bytes, most_bytes}
use Rattle.text.specs.declared.Field.{Field}
use Rattle.text.specs.declared.Field.TheVariants.{Empty, Number, Over, Other}
use Rattle.promise.specs.declared.asked.Numbers.{Numbers}
use Rattle.promise.specs.declared.asked.Fault.{Fault}
use Rattle.promise.specs.declared.asked.Fault.TheVariants.{LargestNoNumber, LargestNoPacket, OwnNoNumber, OwnTooLarge}
use Rattle.promise.specs.declared.asked.Fault.TheVariants.{PacketsNoNumber, PacketsTooLarge}

unfoldable pub packets_asked : ℕ → ℕ → Field → Result Numbers Fault
packets_asked largest own Empty = Err PacketsNoNumber
packets_asked largest own (Number packets) = Ok (record { largest = largest; own = own; packets = packets })
packets_asked largest own Over = Err PacketsTooLarge
packets_asked largest own Other = Err PacketsNoNumber

unfoldable pub own_asked : ℕ → Field → Field → Result Numbers Fault
own_asked largest Empty packets = Err OwnNoNumber
own_asked largest (Number own) packets = packets_asked largest own packets
own_asked largest Over packets = Err OwnTooLarge
own_asked largest Other packets = Err OwnNoNumber

-- a packet has as many bytes as a packet may have
unfoldable pub packet_asked : ℕ → Field → Field → Result Numbers Fault
packet_asked largest own packets =
    cond (ltb largest least_bytes || ltb most_bytes largest) (Err LargestNoPacket) (own_asked largest own packets)

-- a number that is too large for a field is no packet's either
unfoldable pub asked : Field → Field → Field → Result Numbers Fault
asked Empty own packets = Err LargestNoNumber
asked (Number largest) own packets = packet_asked largest own packets
asked Over own packets = Err LargestNoPacket
asked Other own packets = Err LargestNoNumber
