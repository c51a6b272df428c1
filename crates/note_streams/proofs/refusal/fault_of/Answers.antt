use Rattle.std.proofs.Common.{◌∙◌, sym, subst}
use Rattle.byte_streams.specs.Lines.{lines_view}
use Rattle.note_streams.proofs.Refusals.{mixed_told, no_mixture, no_stray, one_kind}
use Rattle.note_streams.proofs.Strays.{none_told}
use Rattle.note_streams.specs.LogLines.{files_view}
use Rattle.note_streams.specs.Sorted.{IsRefusedFor}
use Rattle.note_streams.proofs.refusal.fault_of.Goals as goal

pub returns-then-are_mixed : goal.returns-then-are_mixed
returns-then-are_mixed c =
    let files = files_view c.args.files.now in
    (none_told _ _ c.in_default.is c.in_ok-file.ensures, mixed_told files c.args.lines.now c.requires.distinct (none_told _ _ c.in_default.is c.in_ok-file.ensures) (sym c.are_mixed.ensures ∙ c.if-are_mixed.true))

pub unreachable-requires : goal.unreachable-requires
unreachable-requires c =
    let files = files_view c.args.files.now in
    let lines = c.args.lines.now in
    no_stray files lines c.requires.distinct (none_told _ _ c.in_default.is c.in_ok-file.ensures) (subst (IsRefusedFor (lines_view lines)) c.in-Line.is c.requires.refused)

pub unreachable-requires-in-Mixed : goal.unreachable-requires-in-Mixed
unreachable-requires-in-Mixed c =
    let files = files_view c.args.files.now in
    let lines = c.args.lines.now in
    no_mixture files lines c.requires.distinct (sym c.are_mixed.ensures ∙ c.if-are_mixed.false) (subst (IsRefusedFor (lines_view lines)) c.in-Mixed.is c.requires.refused)

pub returns-in-TooMany : goal.returns-in-TooMany
returns-in-TooMany c =
    let files = files_view c.args.files.now in
    (c.in-TooMany.is, one_kind files c.args.lines.now c.requires.distinct (none_told _ _ c.in_default.is c.in_ok-file.ensures) (sym c.are_mixed.ensures ∙ c.if-are_mixed.false))
