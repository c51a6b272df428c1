use Rattle.std.proofs.Common.{◌≡◌, ◌+◌, ℕ, Err, ap, ◌∙◌, sym, subst, arith, rules}
use Rattle.std.proofs.lemmas.Result.{err_from_is_err_and}
use Rattle.byte_streams.specs.Lines.{parts_of}
use Rattle.note_tallies.specs.Lines.{untallied}
use Rattle.note_tallies.specs.Filter.{Filtered, RefusesLine, Takes}
use Rattle.note_tallies.specs.declared.filter_fault.FilterFault.TheVariants.{Line}
use Rattle.note_streams.specs.Batch.{Goes}
use Rattle.note_streams.specs.Tallied.{Tallies, behind}
use Rattle.note_streams.proofs.StreamCounting.{goes_line, goes_more, goes_none, stops_line, stops_long, stops_rest}
use Rattle.library_rollouts.specs.Tally.{TalliesLines}
use Rattle.library_rollouts.proofs.Lines.{ended, stopped}
use Rattle.library_rollouts.proofs.tallying.tally_of.Goals as goal

pub lines-init : goal.lines-init
lines-init c =
    let start = untallied c.args.page c.args.total in
    let notes = c.args.notes.now in
    let f = c.in_ok-filter.filter in
    let none : f.lines ≡ 0 = ap (λ (x : Filtered). x.lines) c.in_ok-filter.ensures in
    record {
      few = omega (arith, none);
      goes = subst (λ (x : Filtered). Goes (behind start 0) notes x notes) (sym c.in_ok-filter.ensures) (goes_none (behind start 0) notes);
    }

pub lines-preserved : goal.lines-preserved
lines-preserved c =
    let start = untallied c.args.page c.args.total in
    let line = c.in-Some.line.now in
    let behind_line = c.in-Some.behind.now in
    let old = c.lines.filter in
    let new = c.take.new.self in
    let taken : (new.lines ≡ old.lines + 1) × Takes old.tally line new.tally = c.in_ok-take.ensures.exact in
    record {
      few = omega (arith, c.lines.invariant.few, c.in-Some.ensures.fewer, taken.0);
      goes = goes_more (behind start 0) old new c.args.notes.now c.lines.rest.now behind_line c.lines.invariant.goes
          (goes_line c.lines.rest.now line behind_line c.in-Some.ensures.parts old new (omega (arith, c.if-line.false)) taken.0 taken.1);
    }

pub returns-then-line : goal.returns-then-line
returns-then-line c =
    let start = untallied c.args.page c.args.total in
    let f = c.lines.filter in
    let number : c.lines-then-line.result ≡ f.lines = search rules in
    λ other. subst (λ (n : ℕ). Tallies start 0 (parts_of c.args.notes.now) (Err (Line (n + 1)))) (sym number)
    (stopped start c.args.notes.now c.lines.rest.now f c.lines.invariant.goes (Line (f.lines + 1)) (stops_long c.lines.rest.now c.in-Some.line.now c.in-Some.behind.now c.in-Some.ensures.parts f (omega (arith, c.if-line.true))))

pub returns-in_err-take : goal.returns-in_err-take
returns-in_err-take c =
    let start = untallied c.args.page c.args.total in
    let fault = c.in_err-take.field-0.0 in
    let f = c.lines.filter in
    let refuses : RefusesLine f c.in-Some.line.now fault c.take.new.self = c.in_err-take.ensures.exact in
    let p = err_from_is_err_and c.from_residual-in_err-take.result c.from_residual-in_err-take.ensures.1 in
    let is : c.from_residual-in_err-take.result ≡ Err fault = p.1 ∙ ap Err p.2 in
    subst (TalliesLines start c.args.notes.now) (sym is)
    (λ other. stopped start c.args.notes.now c.lines.rest.now f c.lines.invariant.goes fault (stops_line c.lines.rest.now c.in-Some.line.now c.in-Some.behind.now c.in-Some.ensures.parts f c.take.new.self fault (omega (arith, c.if-line.false)) refuses))

pub returns-then-rest-gt-TEXT_BYTES : goal.returns-then-rest-gt-TEXT_BYTES
returns-then-rest-gt-TEXT_BYTES c =
    let start = untallied c.args.page c.args.total in
    let f = c.lines.filter in
    let number : c.lines-then-rest-gt-TEXT_BYTES.result ≡ f.lines = search rules in
    λ other. subst (λ (n : ℕ). Tallies start 0 (parts_of c.args.notes.now) (Err (Line (n + 1)))) (sym number)
    (stopped start c.args.notes.now c.lines.rest.now f c.lines.invariant.goes (Line (f.lines + 1)) (stops_rest f c.lines.rest.now c.in_default.ensures.parts (omega (arith, c.if-rest-gt-TEXT_BYTES.true))))

pub returns : goal.returns
returns c =
    let f = c.lines.filter in
    (f.tally, ended (untallied c.args.page c.args.total) c.args.notes.now c.lines.rest.now f c.lines.invariant.goes c.in_default.ensures.parts (omega (arith, c.if-rest-gt-TEXT_BYTES.false)), c.finish.ensures)
