use denote.Ref.{Bor}
use Rattle.std.proofs.Common.{List, ℕ, subst}
use Rattle.std.proofs.lemmas.Result.{IfOk-weaker}
use Rattle.byte_streams.specs.Lines.{lines_view}
use Rattle.note_streams.proofs.LogCounted.{counted}
use Rattle.note_streams.specs.Counts.{CountsLines}
use Rattle.note_streams.specs.LogLines.{files_view}
use Rattle.note_streams.proofs.counting.count_notes.Goals as goal

pub returns : goal.returns
returns c =
    let lines = c.in_ok-lines.lines.items in
    IfOk-weaker c.count_lines.result _ _
    (λ m is. counted (files_view c.args.files.now) (lines_view lines) m.entries c.in_ok-lines.ensures (subst (λ (ls : List (Bor (List ℕ))). CountsLines (lines_view ls) m.entries) c.as_slice.ensures.value is))
    c.count_lines.ensures
