-- How the tally of a stream ends, by how each of its parts ends.
use Rattle.std.proofs.Common.{◌≡◌, ◌≤◌, ◌<◌, ◌+◌, ◌-◌, ℕ, nat_eq, nat_lt, Bool, true, List, length, Option, Some, None, IfSome, Result, Ok, Err, refl, ◌∙◌, arith}
use Rattle.std.specs.Io.KnownBytes.{IsAtEnd}
use Rattle.byte_streams.specs.Fill.{Grows}
use Rattle.byte_streams.specs.Lines.{HasNoFeed, parts_of}
use Rattle.byte_streams.specs.declared.filling.FillFault.{FillFault}
use Rattle.byte_streams.specs.declared.filling.FillFault.TheVariants as fill
use Rattle.note_tallies.specs.Lines.{Tallied, finished}
use Rattle.note_streams.specs.Record.{most_line}
use Rattle.note_tallies.specs.Filter.{Filtered}
use Rattle.note_tallies.specs.declared.filter_fault.FilterFault.TheVariants.{WantOfMemory}
use Rattle.note_streams.specs.Batch.{LeavesLines, TalliesBatch}
use Rattle.note_streams.specs.Recorded.{most_bytes}
use Rattle.note_streams.specs.Rest.{is_empty, is_torn}
use Rattle.note_streams.specs.Stop.{tallied_fill}
use Rattle.note_streams.specs.Tallied.{Tallies, TalliesStream}
use Rattle.note_streams.specs.declared.stop.TallyStop.{TallyStop}
use Rattle.note_streams.specs.declared.stop.TallyStop.TheVariants.{Filter, Unreadable, TooLong}
use Rattle.note_streams.specs.declared.tallying.StreamTally.{StreamTally}
use Rattle.note_streams.proofs.StreamCounting.{Known, grown, left_so, long, rest_so, stopped}
use Rattle.note_streams.proofs.StreamCounting.{ended as ended_so}

module _ (start : Tallied) (is_cut : Bool) where
  -- what a stream comes to, where its bytes are known
  abbrev pub Comes : Option (List ℕ) → Result StreamTally TallyStop → Type 0
  Comes known r = IfSome known (λ bytes. TalliesStream start bytes is_cut r)

  -- memory ran out
  pub wanted : (known : Option (List ℕ)) → Comes known (Err (Filter WantOfMemory))
  wanted None = tt
  wanted (Some bytes) = λ other. absurd (other refl)

  -- a batch was not filled
  pub unfilled : (known : Option (List ℕ)) (fault : FillFault) → (fault ≡ fill.Read → is_cut ≡ true) → Comes known (Err (tallied_fill fault))
  unfilled known fill.WantOfMemory cut = wanted known
  unfilled None fill.Read cut = tt
  unfilled (Some bytes) fill.Read cut = cut refl

  -- a batch was not tallied to its end
  pub failed : (known : Option (List ℕ)) (held after : List ℕ) (taken : ℕ) (old new : Filtered) (now next : Option (List ℕ)) (e : TallyStop) → Grows now next held after → TalliesBatch after old new (Err e) → Known start held taken old known now → Comes known (Err e)
  failed known held after taken old new now next (Filter fault) grows batch goes =
      stopped start after (taken + (length after - length held)) old known next fault batch (grown start held after taken old known now next grows goes)
  failed known held after taken old new now next Unreadable grows batch goes = absurd batch
  failed known held after taken old new now next TooLong grows batch goes = absurd batch

  -- a fill and then a batch
  pub next_batch : (known : Option (List ℕ)) (held after rest : List ℕ) (taken : ℕ) (old new : Filtered) (now next : Option (List ℕ)) → Grows now next held after → LeavesLines after rest old new → Known start held taken old known now
      → Known start rest (taken + (length after - length held)) new known next
  next_batch known held after rest taken old new now next grows leaves goes =
      left_so start after rest (taken + (length after - length held)) old new known next leaves.goes leaves.keeps (grown start held after taken old known now next grows goes)

  tallied_at : (known : Option (List ℕ)) (f : Filtered) (t : StreamTally) (torn empty : Bool) → t.tally ≡ finished f.tally → t.torn ≡ torn → t.empty ≡ empty → IfSome known (λ bytes. Tallies start 0 (parts_of bytes) (Ok f.tally)) → IfSome known (λ bytes. (torn ≡ is_torn bytes) × (empty ≡ is_empty bytes))
      → Comes known (Ok t)
  tallied_at None f t torn empty is one other tallies rest = tt
  tallied_at (Some bytes) f t torn empty is one other tallies rest = (f.tally, tallies, is, one ∙ rest.0, other ∙ rest.1)

  -- the stream ended
  pub ended : (known : Option (List ℕ)) (rest : List ℕ) (taken : ℕ) (f : Filtered) (now : Option (List ℕ)) (t : StreamTally) → HasNoFeed rest → length rest ≤ most_line → IsAtEnd now → t.tally ≡ finished f.tally → t.torn ≡ nat_lt 0 (length rest) → t.empty ≡ nat_eq taken 0
      → Known start rest taken f known now → Comes known (Ok t)
  ended known rest taken f now t none short end is torn empty goes =
      tallied_at known f t (nat_lt 0 (length rest)) (nat_eq taken 0) is torn empty (ended_so start rest taken f known now none short end goes) (rest_so start rest taken f known now none end goes)

  long_at : (known : Option (List ℕ)) (taken : ℕ) → most_bytes < taken → IfSome known (λ bytes. taken ≤ length bytes) → Comes known (Err TooLong)
  long_at None taken more within = tt
  long_at (Some bytes) taken more within = omega (arith, more, within)

  -- the stream is too long
  pub too_long : (known : Option (List ℕ)) (held : List ℕ) (taken : ℕ) (f : Filtered) (now : Option (List ℕ)) → most_bytes < taken → Known start held taken f known now → Comes known (Err TooLong)
  too_long known held taken f now more goes = long_at known taken more (long start held taken f known now goes)
