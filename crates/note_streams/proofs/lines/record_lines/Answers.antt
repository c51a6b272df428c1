use Rattle.std.proofs.Common.{◌≡◌, ◌+◌, ◌∙◌, false, true, drop, sym, ap, subst, arith, rules}
use Rattle.note_streams.specs.Lines.{lines_view}
use Rattle.note_streams.specs.Record.{Recorded, joined, record_of}
use Rattle.note_streams.specs.Scene.{scene_of}
use Rattle.note_streams.specs.View.{recorded_view}
use Rattle.note_streams.proofs.Folded.{Few, few_more, few_nothing, joined-first, joined-refused, first_left, next_line, none_left, one_more}
use Rattle.note_streams.proofs.lines.record_lines.Goals as goal

pub loop-line-init : goal.loop-line-init
loop-line-init c =
    let all = record_of (scene_of c.args.recorder.now) (lines_view c.args.lines.now) in
    let none = ap (λ (r : Recorded). r.lines) c.nothing-out.ensures in
    record {
      rest = ap (λ (r : Recorded). joined r all) c.nothing-out.ensures ∙ joined-first all;
      open_ = ap (λ (r : Recorded). r.refused) c.nothing-out.ensures;
      room = omega (arith, none);
      few = subst Few (sym c.nothing-out.ensures) few_nothing;
    }

pub returns-then-out : goal.returns-then-out
returns-then-out c =
    let s = scene_of c.args.recorder.now in
    let lines = c.args.lines.now in
    let i = c.loop-line.line-index in
    let new = recorded_view c.record_line.new.out in
    let later = record_of s (lines_view (drop (i + 1) lines)) in
    let stops : c.record_line.new.out.refused ≡ true = search rules in
    sym (joined-refused new later stops)
    ∙ next_line s lines i _ (recorded_view c.loop-line.out) new (record_of s (lines_view lines)) (first_left lines i _ (omega arith)) c.loop-line.invariant.rest c.in_ok-record_line.ensures

pub loop-line-preserved : goal.loop-line-preserved
loop-line-preserved c =
    let s = scene_of c.args.recorder.now in
    let lines = c.args.lines.now in
    let i = c.loop-line.line-index in
    let new = recorded_view c.record_line.new.out in
    let goes : c.record_line.new.out.refused ≡ false = search rules in
    record {
      rest = next_line s lines i _ (recorded_view c.loop-line.out) new (record_of s (lines_view lines)) (first_left lines i _ (omega arith)) c.loop-line.invariant.rest c.in_ok-record_line.ensures;
      open_ = goes;
      room = one_more s _ (recorded_view c.loop-line.out) new i c.in_ok-record_line.ensures c.loop-line.invariant.room;
      few = few_more s _ (recorded_view c.loop-line.out) new c.in_ok-record_line.ensures c.loop-line.invariant.few;
    }

pub returns : goal.returns
returns c =
    let s = scene_of c.args.recorder.now in
    none_left s c.args.lines.now c.loop-line.line-index (recorded_view c.loop-line.out) (record_of s (lines_view c.args.lines.now)) (omega arith) c.loop-line.invariant.rest
