use Rattle.std.proofs.Common.{subst, arith}
use Rattle.note_streams.proofs.Strays.{looked_more, looked_none, none_here, stray_here}
use Rattle.note_streams.specs.Stray.{IsTold}
use Rattle.note_streams.proofs.stray.stray_in.Goals as goal

pub cuts-init : goal.cuts-init
cuts-init c = record { few = omega arith; looked = looked_none c.args.bytes.now }

pub cuts-preserved : goal.cuts-preserved
cuts-preserved c =
    let line = c.in-Some.line.now in
    let kept = subst (IsTold line) c.if-branch.false c.in_ok-is_stray.ensures in
    record {
      few = omega (arith, c.cuts.invariant.few, c.in-Some.ensures.fewer);
      looked = looked_more c.args.bytes.now c.cuts.rest.now line c.in-Some.behind.now c.cuts.lines c.in-Some.ensures.parts c.cuts.invariant.looked kept;
    }

pub returns-then-branch : goal.returns-then-branch
returns-then-branch c =
    let line = c.in-Some.line.now in
    let stray = subst (IsTold line) c.if-branch.true c.in_ok-is_stray.ensures in
    stray_here c.args.bytes.now c.cuts.rest.now line c.in-Some.behind.now c.cuts.lines c.in-Some.ensures.parts c.cuts.invariant.looked stray

pub returns : goal.returns
returns c = none_here c.args.bytes.now c.cuts.rest.now c.cuts.lines c.in_default.ensures.parts c.cuts.invariant.looked
