use Rattle.std.proofs.Common.{◌≡◌, ◌∙◌, ◌+◌, ℕ, drop, Err, ap, sym, subst}
use Rattle.std.proofs.lemmas.List.{drop_all}
use Rattle.std.proofs.lemmas.Result.{err_from_is_err_and}
use Rattle.byte_streams.specs.Lines.{lines_view}
use Rattle.note_streams.proofs.Cut.{first_line_left}
use Rattle.note_streams.proofs.Taken.{begun, ended, refused, taken}
use Rattle.note_tallies.specs.Filter.{Filtered}
use Rattle.note_streams.specs.Sorted.{TalliesLines}
use Rattle.note_streams.proofs.log_tallying.tally_lines.Goals as goal

pub loop-line-init : goal.loop-line-init
loop-line-init c = record {
  stands = begun c.args.page c.args.total (lines_view c.args.lines.now) c.in_ok-filter.filter c.in_ok-filter.ensures c.requires.rising;
  count = ap (λ (f : Filtered). f.lines) c.in_ok-filter.ensures;
}

pub loop-line-preserved : goal.loop-line-preserved
loop-line-preserved c =
    let lines = c.args.lines.now in
    let i = c.loop-line.line-index in
    record {
      stands = taken c.args.page c.args.total (lines_view lines) (lines_view (drop i lines)) (lines_view (drop (i + 1) lines)) _ (first_line_left lines i _ c.loop-line-test.true) c.loop-line.filter c.loop-line.invariant.stands c.take.new.self c.in_ok-take.ensures.exact;
      count = c.in_ok-take.ensures.exact.0 ∙ ap (λ (n : ℕ). n + 1) c.loop-line.invariant.count;
    }

pub returns-in_err-take : goal.returns-in_err-take
returns-in_err-take c =
    let lines = c.args.lines.now in
    let i = c.loop-line.line-index in
    let fault = c.in_err-take.field-0.0 in
    let p = err_from_is_err_and c.from_residual-in_err-take.result c.from_residual-in_err-take.ensures.1 in
    let same : c.from_residual-in_err-take.result ≡ Err fault = p.1 ∙ ap Err p.2 in
    subst (TalliesLines c.args.page c.args.total (lines_view lines)) (sym same)
    (refused c.args.page c.args.total (lines_view lines) (lines_view (drop i lines)) (lines_view (drop (i + 1) lines)) _ (first_line_left lines i _ c.loop-line-test.true) c.loop-line.filter c.loop-line.invariant.stands fault c.take.new.self c.in_err-take.ensures.exact)

pub returns : goal.returns
returns c =
    let lines = c.args.lines.now in
    ended c.args.page c.args.total (lines_view lines) (lines_view (drop c.loop-line.line-index lines)) c.loop-line.filter c.finish.result (ap lines_view (drop_all c.loop-line.line-index lines c.loop-line-test.false)) c.loop-line.invariant.stands c.finish.ensures
