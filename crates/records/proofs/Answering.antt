-- Which answer it is: by the file header, by a record, or the capture's layout and records.
-- Assumes nothing.
use Prim.Native.Nat.{ℕ, ◌≤◌}
use mathlib.Core.Path.{◌≡◌, refl, sym, ◌∙◌, ap}
use mathlib.Core.Bool.{Bool, true, false, cond}
use mathlib.Core.Logic.{◌≢◌}
use mathlib.Core.List.{List}
use native.Mathlib.Decide.{ℕ_discrete}
use lib.ListN.{length}
use borrow.Author.Tests.{ltb-false}
use Rattle.input.specs.declared.Refusal.{Refusal}
use Rattle.input.specs.Refusals.{nothing, or_else, first}
use Rattle.laws.proofs.Tree.Trees.{first_none, given_none}
use Rattle.tables.proofs.Firsts.{Plain, or_else_first, or_else_second, below_plain}
use Rattle.pcap.specs.Headers.{header_bytes}
use Rattle.pcap.specs.Records.{ended}
use Rattle.pcap.specs.Faults.{header_refused, begun_refused, record_refused, records_refused, capture_refused}
use Rattle.std.specs.Prelude.{Ok}
use Rattle.records.specs.declared.Scan.{Scan}
use Rattle.records.specs.Scans.{Scans}
use Rattle.records.specs.Reads.{Found}
use Rattle.records.proofs.Passing.{begun_plain}

module _ (capture : List ℕ) where
  -- ── the file header ──

  pub headed : (rate : ℕ) → (header_refused capture rate).number ≡ 0 → header_bytes ≤ length capture
  unfolding header_refused
  headed rate fine = ltb-false (length capture) header_bytes (given_none _ _ _ (first_none _ fine).1.0)

  pub by_header : (rate : ℕ) → (header_refused capture rate).number ≢ 0 → capture_refused capture rate ≡ header_refused capture rate
  unfolding capture_refused first
  by_header rate some = or_else_first (header_refused capture rate) _ some

  -- ── the records ──

  record_plain : (k : ℕ) → Plain (record_refused capture k)
  unfolding record_refused
  record_plain k = go (ended capture k)
    where
      go : (b : Bool) → Plain (cond b nothing (begun_refused capture k))
      go true none = refl
      go false none = begun_plain capture k none

  or_nothing : (a : Refusal) → Plain a → or_else a nothing ≡ a
  or_nothing a plain = go (ℕ_discrete a.number 0)
    where
      go : Dec (a.number ≡ 0) → or_else a nothing ≡ a
      go (yes none) = or_else_second a nothing none ∙ sym (plain none)
      go (no some) = or_else_first a nothing some

  pub by_records : (rate : ℕ) → (header_refused capture rate).number ≡ 0 → capture_refused capture rate ≡ records_refused capture
  unfolding capture_refused first records_refused
  by_records rate fine =
      or_else_second (header_refused capture rate) _ fine
      ∙ or_nothing (records_refused capture) (below_plain (record_refused capture) record_plain _)

  -- ── what a check that refuses nothing has found ──

  pub found : (rate : ℕ) (scan : Scan) → Scans capture rate (Ok scan) → Found capture scan.layout scan.records
  unfolding capture_refused
  found rate scan scans =
      let all = first_none _ scans.0 in
      record {
        headed = headed rate all.0;
        laid = ap (λ (s : Scan). s.layout) scans.1;
        fine = all.1.0;
        counted = ap (λ (s : Scan). s.records) scans.1;
      }
