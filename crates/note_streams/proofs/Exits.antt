-- How the recording of a stream ends, by how each of its parts ends.
use Rattle.std.proofs.Common.{◌≡◌, ◌≤◌, ◌<◌, ◌+◌, ◌-◌, ℕ, Bool, true, false, List, [], length, Option, None, Some, IfSome, Result, Err, nat_eq, nat_lt, refl, sym, ◌∙◌, subst, arith}
use Rattle.std.specs.Io.KnownBytes.{Appends, IsAtEnd}
use Rattle.flag_text.specs.Outlet.{AppendsPart}
use Rattle.byte_streams.specs.Fill.{Grows}
use Rattle.byte_streams.specs.Lines.{HasNoFeed}
use Rattle.byte_streams.specs.declared.filling.FillFault.{FillFault}
use Rattle.byte_streams.specs.declared.filling.FillFault.TheVariants as fill
use Rattle.note_streams.specs.Record.{Scene, most_line}
use Rattle.note_streams.specs.View.{outcomes_view}
use Rattle.note_streams.specs.Batch.{Leaves, RecordsBatch, Stands}
use Rattle.note_streams.specs.Recorded.{RecordsStream, TellsOf, most_bytes, recorded_of}
use Rattle.note_streams.specs.Rest.{is_empty, is_torn}
use Rattle.note_streams.specs.Stop.{is_output_fault, of_fill}
use Rattle.note_streams.specs.declared.recording.Counted.{Counted}
use Rattle.note_streams.specs.declared.stop.RecordStop.{RecordStop}
use Rattle.note_streams.specs.declared.stop.RecordStop.TheVariants.{WantOfMemory, Line, Unreadable, TooLong, Broken}
use Rattle.note_streams.proofs.Batches.{Known, all_at, begun, cut_at, ended_at, front_at, grown, left_so, rest_at, stopped_at, when_known}

-- a batch that is not filled is no fault of the output
pub no_output_fault : (fault : FillFault) → is_output_fault {X = Counted} (Err (of_fill fault)) ≡ false
no_output_fault fill.WantOfMemory = refl
no_output_fault fill.Read = refl

-- all three are so
when_all : {X : Type 0} (P Q R : X → Type 0) (o : Option X) → IfSome o P → IfSome o (λ x. Q x × R x) → IfSome o (λ x. P x × Q x × R x)
when_all P Q R None p both = tt
when_all P Q R (Some x) p (q, r) = (p, q, r)

module _ (s : Scene) (is_cut : Bool) where
  -- what a stream comes to, where its bytes are known
  abbrev pub Comes : Option (List ℕ) → Option (List ℕ) → Option (List ℕ) → Result Counted RecordStop → Type 0
  Comes start old new r = IfSome start (λ bytes. RecordsStream (recorded_of s bytes) (length bytes) is_cut old new r)

  module _ (start old : Option (List ℕ)) where
    -- memory ran out
    pub wanted : (held : List ℕ) (lines taken : ℕ) (now new : Option (List ℕ)) → Known s held lines taken start now old new → Comes start old new (Err WantOfMemory)
    wanted held lines taken now new known =
        when_known s (λ bytes. AppendsPart old new (recorded_of s bytes).text) held lines taken start now old new known (λ bytes stands. front_at s bytes held lines taken now old new stands)

    -- before the first batch
    pub wanted_first : Comes start old old (Err WantOfMemory)
    wanted_first = wanted [] 0 0 start old (begun s start old)

    unfilled_at : (bytes : List ℕ) (fault : FillFault) (new : Option (List ℕ)) → (fault ≡ fill.Read → is_cut ≡ true) → AppendsPart old new (recorded_of s bytes).text → RecordsStream (recorded_of s bytes) (length bytes) is_cut old new (Err (of_fill fault))
    unfilled_at bytes fill.WantOfMemory new cut part = part
    unfilled_at bytes fill.Read new cut part = (cut refl, part)

    -- a batch was not filled
    pub unfilled : (held : List ℕ) (lines taken : ℕ) (now new : Option (List ℕ)) (fault : FillFault) → (fault ≡ fill.Read → is_cut ≡ true) → Known s held lines taken start now old new → Comes start old new (Err (of_fill fault))
    unfilled held lines taken now new fault cut known =
        when_known s (λ bytes. RecordsStream (recorded_of s bytes) (length bytes) is_cut old new (Err (of_fill fault))) held lines taken start now old new known
        (λ bytes stands. unfilled_at bytes fault new cut (front_at s bytes held lines taken now old new stands))

    failed_at : (bytes held : List ℕ) (before after taken : ℕ) (now mid new : Option (List ℕ)) (e : RecordStop) → RecordsBatch s held before after mid new (Err e) → Stands s bytes held before taken now old mid → RecordsStream (recorded_of s bytes) (length bytes) is_cut old new (Err e)
    failed_at bytes held before after taken now mid new WantOfMemory batch stands = subst (λ (o : Option (List ℕ)). AppendsPart old o (recorded_of s bytes).text) (sym batch) (front_at s bytes held before taken now old mid stands)
    failed_at bytes held before after taken now mid new (Line n) batch stands = stopped_at s bytes held before n taken now old mid new batch stands
    failed_at bytes held before after taken now mid new Unreadable batch stands = absurd batch
    failed_at bytes held before after taken now mid new TooLong batch stands = absurd batch
    failed_at bytes held before after taken now mid new Broken batch stands = cut_at s bytes held before taken now old mid new batch stands

    -- a batch was not recorded to its end
    pub failed : (held after : List ℕ) (before lines taken : ℕ) (now next mid new : Option (List ℕ)) (e : RecordStop) → Grows now next held after → RecordsBatch s after before lines mid new (Err e) → Known s held before taken start now old mid → Comes start old new (Err e)
    failed held after before lines taken now next mid new e grows batch known =
        let size = taken + (length after - length held) in
        when_known s (λ bytes. RecordsStream (recorded_of s bytes) (length bytes) is_cut old new (Err e)) after before size start next old mid (grown s held after before taken start now next old mid grows known)
        (λ bytes stands. failed_at bytes after before lines size next mid new e batch stands)

    -- a fill and then a batch
    pub next_batch : (held after rest : List ℕ) (before lines taken : ℕ) (now next mid new : Option (List ℕ)) → Grows now next held after → Leaves s after rest before lines mid new → Known s held before taken start now old mid
        → Known s rest lines (taken + (length after - length held)) start next old new
    next_batch held after rest before lines taken now next mid new grows leaves known =
        left_so s after rest before lines (taken + (length after - length held)) start next old mid new leaves (grown s held after before taken start now next old mid grows known)

    -- the stream ended
    pub ended : (rest : List ℕ) (lines taken : ℕ) (now new : Option (List ℕ)) → HasNoFeed rest → length rest ≤ most_line → IsAtEnd now → Known s rest lines taken start now old new
        → IfSome start (λ bytes. ((recorded_of s bytes).refused ≡ false) × Appends old new (recorded_of s bytes).text)
    ended rest lines taken now new none short end known =
        when_known s (λ bytes. ((recorded_of s bytes).refused ≡ false) × Appends old new (recorded_of s bytes).text) rest lines taken start now old new known
        (λ bytes stands. ended_at s bytes rest lines taken now old new none short end stands)

    -- what a person is told then
    pub told : (rest : List ℕ) (lines taken : ℕ) (now new : Option (List ℕ)) (c : Counted) → HasNoFeed rest → IsAtEnd now → c.torn ≡ nat_lt 0 (length rest) → c.empty ≡ nat_eq taken 0 → IfSome start (λ bytes. outcomes_view c.outcomes ≡ (recorded_of s bytes).outcomes) → Known s rest lines taken start now old new
        → IfSome start (λ bytes. TellsOf (recorded_of s bytes) bytes c)
    told rest lines taken now new c none end torn empty counted known =
        when_all (λ bytes. outcomes_view c.outcomes ≡ (recorded_of s bytes).outcomes) (λ bytes. c.torn ≡ is_torn bytes) (λ bytes. c.empty ≡ is_empty bytes) start counted
        (when_known s (λ bytes. (c.torn ≡ is_torn bytes) × (c.empty ≡ is_empty bytes)) rest lines taken start now old new known
        (λ bytes stands. (let behind = rest_at s bytes rest lines taken now old new none end stands in (torn ∙ behind.0, empty ∙ behind.1))))

    -- the stream is too long
    pub too_long : (held : List ℕ) (lines taken : ℕ) (now new : Option (List ℕ)) → most_bytes < taken → Known s held lines taken start now old new → Comes start old new (Err TooLong)
    too_long held lines taken now new long known =
        when_known s (λ bytes. RecordsStream (recorded_of s bytes) (length bytes) is_cut old new (Err TooLong)) held lines taken start now old new known
        (λ bytes stands. (omega (arith, long, all_at s bytes held lines taken now old new stands), front_at s bytes held lines taken now old new stands))
