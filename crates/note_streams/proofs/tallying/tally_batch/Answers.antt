use Rattle.std.proofs.Common.{◌≡◌, ◌+◌, ◌++◌, ℕ, Err, ap, ◌∙◌, sym, subst, arith, rules}
use Rattle.std.proofs.lemmas.Result.{err_from_is_err_and}
use Rattle.byte_streams.specs.Lines.{parts_of}
use Rattle.note_tallies.specs.Filter.{RefusesLine, Takes}
use Rattle.note_tallies.specs.declared.filter_fault.FilterFault.TheVariants.{Line}
use Rattle.note_streams.specs.Batch.{TalliesBatch}
use Rattle.note_streams.specs.Tallied.{Tallies}
use Rattle.note_streams.specs.declared.stop.TallyStop.TheVariants.{Filter}
use Rattle.note_streams.proofs.Behind.{keeps_all, keeps_more}
use Rattle.note_streams.proofs.StreamCounting.{goes_line, goes_more, goes_none, keeps_line, stops_all, stops_line, stops_long, stops_rest}
use Rattle.note_streams.proofs.tallying.tally_batch.Goals as goal

pub lines-init : goal.lines-init
lines-init c = record {
  few = omega arith;
  goes = goes_none c.args.filter.now c.args.bytes.now;
  keeps = keeps_all c.args.bytes.now;
}

pub lines-preserved : goal.lines-preserved
lines-preserved c =
    let line = c.in-Some.line.now in
    let behind = c.in-Some.behind.now in
    let old = c.lines.filter in
    let new = c.take.new.self in
    let taken : (new.lines ≡ old.lines + 1) × Takes old.tally line new.tally = c.in_ok-take.ensures.exact in
    record {
      few = omega (arith, c.lines.invariant.few, c.in-Some.ensures.fewer, taken.0);
      goes = goes_more c.args.filter.now old new c.args.bytes.now c.lines.rest.now behind c.lines.invariant.goes
          (goes_line c.lines.rest.now line behind c.in-Some.ensures.parts old new (omega (arith, c.if-line.false)) taken.0 taken.1);
      keeps = keeps_more c.args.bytes.now c.lines.rest.now behind c.lines.invariant.keeps (keeps_line c.lines.rest.now line behind c.in-Some.ensures.parts);
    }

pub returns-then-line : goal.returns-then-line
returns-then-line c =
    let line = c.in-Some.line.now in
    let f = c.lines.filter in
    let number : c.lines-then-line.result ≡ f.lines = search rules in
    λ other more. subst (λ (n : ℕ). Tallies c.args.filter.now.tally c.args.filter.now.lines (parts_of (c.args.bytes.now ++ more)) (Err (Line (n + 1)))) (sym number)
    (stops_all c.args.filter.now f c.args.bytes.now c.lines.rest.now (Line (f.lines + 1)) c.lines.invariant.goes (stops_long c.lines.rest.now line c.in-Some.behind.now c.in-Some.ensures.parts f (omega (arith, c.if-line.true))) more)

pub returns-in_err-take : goal.returns-in_err-take
returns-in_err-take c =
    let fault = c.in_err-take.field-0.0 in
    let f = c.lines.filter in
    let refuses : RefusesLine f c.in-Some.line.now fault c.take.new.self = c.in_err-take.ensures.exact in
    let p = err_from_is_err_and c.from_residual.result c.from_residual.ensures.1 in
    let is : c.from_residual.result ≡ Err (Filter fault) = p.1 ∙ ap Err p.2 in
    subst (TalliesBatch c.args.bytes.now c.args.filter.now c.take.new.self) (sym is)
    (λ other more. stops_all c.args.filter.now f c.args.bytes.now c.lines.rest.now fault c.lines.invariant.goes (stops_line c.lines.rest.now c.in-Some.line.now c.in-Some.behind.now c.in-Some.ensures.parts f c.take.new.self fault (omega (arith, c.if-line.false)) refuses) more)

pub returns-then-rest-gt-TEXT_BYTES : goal.returns-then-rest-gt-TEXT_BYTES
returns-then-rest-gt-TEXT_BYTES c =
    let f = c.lines.filter in
    let number : c.lines-then-rest-gt-TEXT_BYTES.result ≡ f.lines = search rules in
    λ other more. subst (λ (n : ℕ). Tallies c.args.filter.now.tally c.args.filter.now.lines (parts_of (c.args.bytes.now ++ more)) (Err (Line (n + 1)))) (sym number)
    (stops_all c.args.filter.now f c.args.bytes.now c.lines.rest.now (Line (f.lines + 1)) c.lines.invariant.goes (stops_rest f c.lines.rest.now c.in_default.ensures.parts (omega (arith, c.if-rest-gt-TEXT_BYTES.true))) more)
