use denote.Ref.{Bor}
use Rattle.std.proofs.Common.{◌∙◌, ◌++◌, List, ℕ, filter, sym, ap}
use Rattle.std.proofs.lemmas.Result.{IfOk-weaker}
use Rattle.byte_streams.specs.Lines.{lines_view}
use Rattle.note_streams.specs.LogLines.{lines_in}
use Rattle.control_answers.specs.History.{is_row, rows_from}
use Rattle.control_answers.proofs.Rows.{more_rows, no_more}
use Rattle.control_answers.proofs.history.history_answer.Goals as goal

pub cuts-init : goal.cuts-init
cuts-init c = ap (λ (ls : List (Bor (List ℕ))). lines_view ls ++ filter is_row (lines_in c.args.history.now)) c.new-rows.ensures.items

pub cuts-preserved : goal.cuts-preserved
cuts-preserved c =
    more_rows (lines_view c.cuts.rows.items) (lines_view c.add_row.new.rows.items) c.in-Some.line.now c.cuts.rest.now c.in-Some.behind.now c.in_ok-add_row.ensures c.in-Some.ensures.parts ∙ c.cuts.invariant

pub returns : goal.returns
returns c =
    let all = sym (no_more (lines_view c.cuts.rows.items) c.cuts.rest.now c.in_default.ensures.parts) ∙ c.cuts.invariant in
    let handed = ap (λ (ls : List (Bor (List ℕ))). rows_from (lines_view ls)) c.as_slice.ensures.value in
    IfOk-weaker c.listed.result _ _ (λ v is. is ∙ (handed ∙ ap rows_from all)) c.listed.ensures
