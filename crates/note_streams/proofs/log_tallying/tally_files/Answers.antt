use Rattle.std.proofs.Common.{sym, subst, List, ℕ}
use denote.Ref.{Bor}
use Rattle.byte_streams.specs.Lines.{lines_view}
use Rattle.note_streams.proofs.Held.{tallied_all}
use Rattle.note_streams.proofs.Refusals.{refused_for, told_of}
use Rattle.note_streams.specs.LogLines.{files_view}
use Rattle.note_streams.specs.Sorted.{AreDistinct}
use Rattle.note_streams.proofs.log_tallying.tally_files.Goals as goal

pub fault_of-requires-clause-refused : goal.fault_of-requires-clause-refused
fault_of-requires-clause-refused c = refused_for c.args.page c.args.total (lines_view c.as_slice-lines.result.now) c.in-Err.refused c.in-Err.ensures

pub returns-in-Ok : goal.returns-in-Ok
returns-in-Ok c =
    let files = files_view c.args.files.now in
    let are = subst (λ (xs : List (Bor (List ℕ))). AreDistinct files (lines_view xs)) (sym c.as_slice-lines.ensures.value) c.in_ok-distinct.ensures in
    tallied_all files (lines_view c.as_slice-lines.result.now) c.args.page are c.a_stream_is_tallied.ensures c.args.total c.requires.some c.in-Ok.tally c.in-Ok.ensures

pub returns : goal.returns
returns c =
    let files = files_view c.args.files.now in
    let are = subst (λ (xs : List (Bor (List ℕ))). AreDistinct files (lines_view xs)) (sym c.as_slice-lines.ensures.value) c.in_ok-distinct.ensures in
    told_of files (lines_view c.as_slice-lines.result.now) c.args.page c.args.total c.requires.some are c.a_stream_is_tallied.ensures c.in-Err.refused c.in-Err.ensures c.in_ok-fault-in-Err.fault c.in_ok-fault-in-Err.ensures
