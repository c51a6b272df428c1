-- What came of contexts, of runs of lines and of a stream in batches.
use denote.Ref.{Bor}
use Rattle.std.proofs.Common.{◌≡◌, ◌<◌, ◌≤◌, ◌+◌, ℕ, Bool, true, false, List, [], ◌++◌, length, drop, get_or, Option, None, Some, IfSome, append_assoc, refl, sym, ap, ◌∙◌, arith}
use Rattle.std.specs.Io.KnownBytes.{IsAtEnd}
use Rattle.byte_streams.specs.Fill.{Grows}
use Rattle.byte_streams.specs.Lines.{HasNoFeed, IsCut, lines_view}
use Rattle.note_streams.proofs.Folded.{few_contexts, joined-refused}
use Rattle.note_streams.proofs.Both.{both-assoc, both-first, both-last, contexts-both}
use Rattle.note_streams.specs.Outcomes.{Outcomes, both, contexts, no_outcomes}
use Rattle.note_streams.specs.Record.{Recorded, Scene, joined, most_line, nothing, record_of}
use Rattle.note_streams.specs.View.{outcomes_view, recorded_view}
use Rattle.note_streams.specs.declared.recorded.Recorded as code
use Rattle.note_streams.specs.Batch.{CountsAll, CountsBatch}
use Rattle.note_streams.specs.Recorded.{recorded_of}
use Rattle.note_streams.specs.Runs.{runs_view}
use Rattle.note_streams.proofs.Batches.{batch_more, last_rest}
use Rattle.note_streams.proofs.Running.{first_run, no_run}

open_outcomes : (one other : Recorded) → one.refused ≡ false → (joined one other).outcomes ≡ both one.outcomes other.outcomes
unfolding joined
open_outcomes one other good = rw good refl

more : (t : List ℕ) (n : ℕ) (b : Bool) (o : Outcomes) (r : Recorded) → contexts o ≤ contexts (joined (record { text = t; lines = n; refused = b; outcomes = o }) r).outcomes
unfolding joined
more t n true o r = omega arith
more t n false o r =
    let all = contexts-both o r.outcomes in
    omega (arith, all)

more_contexts : (run left : Recorded) → contexts run.outcomes ≤ contexts (joined run left).outcomes
more_contexts run left = more run.text run.lines run.refused run.outcomes left

-- ---- runs

-- so much is counted, and the rest comes of the runs that are left
abbrev pub StillCounts : List code.Recorded → ℕ → Outcomes → Outcomes → Type 0
StillCounts runs i counted whole = both counted (runs_view (drop i runs)).outcomes ≡ whole

pub begun_counts : (counted whole : Outcomes) → counted ≡ no_outcomes → both counted whole ≡ whole
begun_counts counted whole none = ap (λ (o : Outcomes). both o whole) none ∙ both-first whole

module _ (runs : List code.Recorded) (i : ℕ) (run : code.Recorded) (within : i < length runs) (is : run ≡ get_or runs i run) where
  abbrev left_runs : Recorded
  left_runs = runs_view (drop (i + 1) runs)

  abbrev own : Outcomes
  own = outcomes_view run.outcomes

  first_left : runs_view (drop i runs) ≡ joined (recorded_view run) left_runs
  first_left = first_run runs i run within ∙ ap (λ (r : code.Recorded). joined (recorded_view r) left_runs) (sym is)

  -- no more contexts than there are
  pub fits_counts : (counted whole : Outcomes) (most : ℕ) → StillCounts runs i counted whole → contexts whole ≤ most → contexts counted + contexts own ≤ most
  fits_counts counted whole most so_far few =
      let here = more_contexts (recorded_view run) left_runs in
      let next = ap (λ (r : Recorded). contexts r.outcomes) first_left in
      let all = contexts-both counted (runs_view (drop i runs)).outcomes in
      let same = ap contexts so_far in
      omega (arith, here, next, all, same, few)

  module _ (counted new whole : Outcomes) (sum : new ≡ both counted own) (so_far : StillCounts runs i counted whole) where
    -- the next run is counted
    pub next_counts : run.refused ≡ false → StillCounts runs (i + 1) new whole
    next_counts good =
        let two : both own left_runs.outcomes ≡ (runs_view (drop i runs)).outcomes = sym (ap (λ (r : Recorded). r.outcomes) first_left ∙ open_outcomes (recorded_view run) left_runs good) in
        ap (λ (o : Outcomes). both o left_runs.outcomes) sum ∙ both-assoc counted own left_runs.outcomes ∙ ap (both counted) two ∙ so_far

    -- a line of it is no context, so nothing behind it counts
    pub stop_counts : run.refused ≡ true → new ≡ whole
    stop_counts bad =
        let one : own ≡ (runs_view (drop i runs)).outcomes = sym (ap (λ (r : Recorded). r.outcomes) (first_left ∙ joined-refused (recorded_view run) left_runs bad)) in
        sum ∙ ap (both counted) one ∙ so_far

pub end_counts : (runs : List code.Recorded) (i : ℕ) (counted whole : Outcomes) → length runs ≤ i → StillCounts runs i counted whole → counted ≡ whole
end_counts runs i counted whole past so_far = sym (both-last counted) ∙ ap (λ (r : Recorded). both counted r.outcomes) (sym (no_run runs i past)) ∙ so_far

-- ---- a batch

-- no more contexts than lines
pub few_recorded_contexts : (s : Scene) (lines : List (Bor (List ℕ))) (r : Recorded) → r ≡ record_of s (lines_view lines) → contexts r.outcomes ≤ r.lines
few_recorded_contexts s lines r is =
    let few = few_contexts s (lines_view lines) in
    let one = ap (λ (x : Recorded). x.lines) is in
    let two = ap (λ (x : Recorded). contexts x.outcomes) is in
    omega (arith, few, one, two)

pub batch_counts : (s : Scene) (bytes rest : List ℕ) (lines : List (Bor (List ℕ))) (r : Recorded) → r ≡ record_of s (lines_view lines) → IsCut bytes (lines_view lines) rest → r.refused ≡ false
    → (before after written : Outcomes) → written ≡ r.outcomes → after ≡ both before written → CountsBatch s bytes rest before after
batch_counts s bytes rest lines r is cut good before after written count sum = λ more.
    let later = recorded_of s (rest ++ more) in
    let whole : joined r later ≡ recorded_of s (bytes ++ more) = ap (λ (x : Recorded). joined x later) is ∙ sym (batch_more s bytes rest (lines_view lines) more cut) in
    let two : both r.outcomes later.outcomes ≡ (recorded_of s (bytes ++ more)).outcomes = sym (open_outcomes r later good) ∙ ap (λ (x : Recorded). x.outcomes) whole in
    ap (λ (o : Outcomes). both o later.outcomes) (sum ∙ ap (both before) count) ∙ both-assoc before r.outcomes later.outcomes ∙ ap (both before) two

-- ---- a stream

abbrev pub KnownCounts : Scene → List ℕ → Outcomes → Option (List ℕ) → Option (List ℕ) → Type 0
KnownCounts s held counted start now = IfSome start (λ bytes. CountsAll s bytes held counted now)

module _ (s : Scene) where
  pub first_counts : (counted : Outcomes) (start : Option (List ℕ)) → counted ≡ no_outcomes → KnownCounts s [] counted start start
  first_counts counted None none = tt
  first_counts counted (Some bytes) none = begun_counts counted (recorded_of s bytes).outcomes none

  grown_at : (bytes held after : List ℕ) (counted : Outcomes) (now next : Option (List ℕ)) (grows : Grows now next held after) → CountsAll s bytes held counted now → CountsAll s bytes after counted next
  grown_at bytes held after counted None next grows counts = absurd counts
  grown_at bytes held after counted (Some left) None grows counts = absurd grows.stream
  grown_at bytes held after counted (Some left) (Some more) grows counts =
      let all : after ++ more ≡ held ++ left = ap (λ (t : List ℕ). t ++ more) grows.batch ∙ append_assoc held grows.added more ∙ ap (λ (t : List ℕ). held ++ t) (sym grows.stream) in
      ap (λ (t : List ℕ). both counted (recorded_of s t).outcomes) all ∙ counts

  left_at : (bytes held rest : List ℕ) (before after : Outcomes) (now : Option (List ℕ)) → CountsBatch s held rest before after → CountsAll s bytes held before now → CountsAll s bytes rest after now
  left_at bytes held rest before after None batch counts = absurd counts
  left_at bytes held rest before after (Some left) batch counts = batch left ∙ counts

  -- a fill and then a batch
  pub next_batch_counts : (held after rest : List ℕ) (counted new : Outcomes) (start now next : Option (List ℕ)) → Grows now next held after → CountsBatch s after rest counted new → KnownCounts s held counted start now
      → KnownCounts s rest new start next
  next_batch_counts held after rest counted new None now next grows batch known = tt
  next_batch_counts held after rest counted new (Some bytes) now next grows batch known = left_at bytes after rest counted new next batch (grown_at bytes held after counted now next grows known)

  ended_at : (bytes rest : List ℕ) (counted : Outcomes) (now : Option (List ℕ)) → HasNoFeed rest → length rest ≤ most_line → IsAtEnd now → CountsAll s bytes rest counted now → counted ≡ (recorded_of s bytes).outcomes
  ended_at bytes rest counted None none short end counts = absurd counts
  ended_at bytes rest counted (Some left) none short end counts =
      let no_more : recorded_of s (rest ++ left) ≡ nothing = ap (λ (t : List ℕ). recorded_of s (rest ++ t)) end ∙ last_rest s rest none short in
      sym (both-last counted) ∙ ap (λ (r : Recorded). both counted r.outcomes) (sym no_more) ∙ counts

  pub ended_counts : (rest : List ℕ) (counted : Outcomes) (start now : Option (List ℕ)) → HasNoFeed rest → length rest ≤ most_line → IsAtEnd now → KnownCounts s rest counted start now
      → IfSome start (λ bytes. counted ≡ (recorded_of s bytes).outcomes)
  ended_counts rest counted None now none short end known = tt
  ended_counts rest counted (Some bytes) now none short end known = ended_at bytes rest counted now none short end known
