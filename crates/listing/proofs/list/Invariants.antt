-- `list` meets its contract. The loop's invariant: the arrays are those of the box after the events so far, which are the list's first.
-- Assumes nothing.
use mathlib.Core.Path.{◌≡◌}
use lib.ListN.{length}
use Rattle.input.specs.Limits.{most_events}
use Rattle.arrays.specs.Arrays.{rows_in, tree_in}
use Rattle.pcap.specs.Lists.{arrivals_with}
use Rattle.listing.specs.Reached.{Reached}
use Rattle.listing.proofs.list.Given as goal

abbrev pub invariant-loop-i : goal.invariant-loop-i
invariant-loop-i g l =
    (length l.classes ≡ length l.initial.classes)
    × (length l.lengths ≡ length l.initial.lengths)
    × (most_events ≡ length l.working)
    × (most_events ≡ length l.order)
    × Reached (g.F.Finding.filed l.finding) (tree_in (length l.identifiers) l.identifiers l.reading.tree)
    (arrivals_with l.stamps l.packet_classes l.packet_lengths) l.rate l.i l.turn (rows_in l.rows) l.counts l.lasts l.working l.classes l.lengths
