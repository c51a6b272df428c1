use Rattle.std.proofs.Common.{◌≡◌, ◌-◌, suc, true, false, refl, subst, inl, inr, arith}
use Rattle.byte_streams.specs.Lines.{parts_of}
use Rattle.note_lines.specs.Astray.{IsAstray, IsTold}
use Rattle.note_lines.proofs.Astray.{astray_line, none_left}
use Rattle.note_lines.proofs.stray.begins_astray.Goals as goal

pub returns-in_default : goal.returns-in_default
returns-in_default c = c.lines.invariant false (none_left c.lines.left c.lines.rest.now c.in_default.ensures.parts)

pub returns-then-branch : goal.returns-then-branch
returns-then-branch c =
    let l = c.lines in
    let line = c.in-Some.line.now in
    let behind = c.in-Some.behind.now in
    let more : suc (l.left - 1) ≡ l.left = omega arith in
    let stray = subst (IsTold line) c.if-branch.true c.in_ok-is_stray.ensures in
    l.invariant true (subst (λ n. IsAstray n (parts_of l.rest.now) true) more (astray_line (l.left - 1) l.rest.now line behind c.in-Some.ensures.parts true (inl (stray, refl))))

pub lines-preserved : goal.lines-preserved
lines-preserved c = λ found later.
    let l = c.lines in
    let line = c.in-Some.line.now in
    let behind = c.in-Some.behind.now in
    let more : suc (l.left - 1) ≡ l.left = omega arith in
    let kept = subst (IsTold line) c.if-branch.false c.in_ok-is_stray.ensures in
    l.invariant found (subst (λ n. IsAstray n (parts_of l.rest.now) found) more (astray_line (l.left - 1) l.rest.now line behind c.in-Some.ensures.parts found (inr (kept, later))))
