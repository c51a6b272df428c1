use Rattle.std.proofs.Common.{◌≡◌, ◌+◌, suc, None, Some, [], ◌∷◌, ◌++◌, map, option_map, refl, sym, ap, ◌∙◌, arith}
use Rattle.std.specs.List.{slice_split}
use Rattle.std.proofs.lemmas.List.{map-append}
use Rattle.book_core.specs.Reading.{is_feed}
use Rattle.plan_text.specs.Answer.{planned_view}
use Rattle.ramp.specs.Lines.{read_parts, step_of}
use Rattle.ramp.proofs.Parts.{behind, line_read, line_refused, small}
use Rattle.ramp.proofs.lines.read_ramp.Goals as goal

pub returns-in-None-clause-exact : goal.returns-in-None-clause-exact
returns-in-None-clause-exact c = λ other.
    let none : step_of c.lines.step c.in-Some.line.now ≡ None = sym c.in_ok-planned.ensures ∙ ap (option_map planned_view) c.in-None.is in
    small c.args.bytes.now (omega (arith, c.if-bytes-gt-FILE_BYTES.false)) ∙ c.lines.invariant.read
    ∙ line_refused c.lines.rest.now c.in-Some.line.now c.in-Some.after.now c.lines.step c.in-Some.ensures.parts (map planned_view c.lines.answers.items) none

pub lines-preserved : goal.lines-preserved
lines-preserved c =
    let made = c.lines.answers.items in
    let a = planned_view c.in-Some-2.planned in
    let parts = slice_split is_feed c.in-Some.after.now in
    let some : step_of c.lines.step c.in-Some.line.now ≡ Some a = sym c.in_ok-planned.ensures ∙ ap (option_map planned_view) c.in-Some-2.is in
    let next : suc c.lines.step ≡ c.lines.step + 1 = omega arith in
    record {
      read = c.lines.invariant.read
          ∙ line_read c.lines.rest.now c.in-Some.line.now c.in-Some.after.now c.lines.step c.in-Some.ensures.parts (map planned_view made) a some
          ∙ ap (λ k. behind (map planned_view made ++ a ∷ []) (read_parts k parts)) next
          ∙ ap (λ ps. behind ps (read_parts (c.lines.step + 1) parts)) (sym (ap (map planned_view) c.in_ok-push-in-Some-2.ensures.items ∙ map-append planned_view made (c.in-Some-2.planned ∷ [])));
      counted = omega (arith, c.lines.invariant.counted, c.in-Some.ensures.lengths);
    }
