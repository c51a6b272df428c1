use Rattle.std.proofs.Common.{◌≡◌, ◌+◌, true, false, Bool, ℕ, not, Ok, Err, ap, ◌∙◌, sym, subst, arith}
use Rattle.std.proofs.lemmas.Result.{err_from_is_err_and}
use Rattle.note_lines.specs.Line.{TakesLine}
use Rattle.note_lines.specs.Lines.{TakesNotes}
use Rattle.note_lines.proofs.Kept.{Stands, ends, passes, refuses, takes}
use Rattle.note_lines.proofs.taking.take_notes.Goals as goal
use Rattle.note_lines.proofs.taking.take_notes.Goals.{then-branch, else-branch}

pub returns-in_err-take_line : goal.returns-in_err-take_line
returns-in_err-take_line c = λ all is_of.
    let l = c.lines in
    let bytes = c.args.bytes.now in
    let fault = c.in_err-take_line.field-0.0 in
    let p = err_from_is_err_and c.from_residual.result c.from_residual.ensures.1 in
    let is : c.from_residual.result ≡ Err fault = p.1 ∙ ap Err p.2 in
    subst (TakesNotes c.args.passing all bytes) (sym is)
    (refuses c.args.passing l.rest.now c.in-Some.line.now c.in-Some.behind.now c.in-Some.ensures.parts all bytes l.lines l.passed l.book c.take_line.new.book (l.invariant.stands all is_of) fault c.in_err-take_line.ensures)

pub lines-preserved : goal.lines-preserved
lines-preserved c =
    let l = c.lines in
    let passing = c.args.passing in
    let bytes = c.args.bytes.now in
    let line = c.in-Some.line.now in
    let behind = c.in-Some.behind.now in
    let new = c.take_line.new.book in
    let taken : TakesLine passing line (l.lines + 1) l.book new (Ok c.in_ok-take_line.field-0) = c.in_ok-take_line.ensures in
    elim c.if-branch.branch [
      | then-branch w ↦
          let yes : c.in_ok-take_line.field-0 ≡ true = w.if-branch.true in
          record {
            few = omega (arith, l.invariant.few, c.in-Some.ensures.fewer);
            fewer = omega (arith, l.invariant.fewer, w.passed-is);
            stands = λ all is_of.
                subst (λ (k : ℕ). Stands passing all bytes new (l.lines + 1) k behind) (sym w.passed-is)
                (passes passing l.rest.now line behind c.in-Some.ensures.parts all bytes l.lines l.passed l.book new (l.invariant.stands all is_of)
                (subst (λ (b : Bool). TakesLine passing line (l.lines + 1) l.book new (Ok b)) yes taken));
          }
      | else-branch w ↦
          let no : c.in_ok-take_line.field-0 ≡ false = w.if-branch.false in
          record {
            few = omega (arith, l.invariant.few, c.in-Some.ensures.fewer);
            fewer = omega (arith, l.invariant.fewer, w.passed-is);
            stands = λ all is_of.
                subst (λ (k : ℕ). Stands passing all bytes new (l.lines + 1) k behind) (sym w.passed-is)
                (takes passing l.rest.now line behind c.in-Some.ensures.parts all bytes l.lines l.passed l.book new (l.invariant.stands all is_of)
                (subst (λ (b : Bool). TakesLine passing line (l.lines + 1) l.book new (Ok b)) no taken));
          }
    ]

pub returns : goal.returns
returns c = λ all is_of.
    let l = c.lines in
    ends c.args.passing all c.args.bytes.now l.rest.now (record { book = l.book; passed = l.passed; torn = not c.is_empty.result }) l.lines (l.invariant.stands all is_of) c.in_default.ensures.parts (ap not c.is_empty.ensures)
