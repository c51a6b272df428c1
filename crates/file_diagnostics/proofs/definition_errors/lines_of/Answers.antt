use Rattle.std.proofs.Common.{◌≡◌, ◌++◌, ◌∙◌, ap, rules, string_bytes, sym, arith, get_or, Some, None}
use Rattle.file_diagnostics.proofs.Broken.{good, bad, ended, element_here, flag_here}
use Rattle.file_diagnostics.specs.Broken.{IsBrokenLine}
use Rattle.file_diagnostics.proofs.definition_errors.lines_of.Goals.{in-Some+in_ok-line+in_ok-push_str, in_default}
use Rattle.file_diagnostics.proofs.definition_errors.lines_of.Goals as goal

pub loop-i-preserved : goal.loop-i-preserved
loop-i-preserved c = elim c.match-found-i.branch [
  | in-Some+in_ok-line+in_ok-push_str w ↦
      let here = element_here c.args.flags.now c.loop-i.i w.index-flags-i.result w.index-flags-i.result c.loop-i-test.true (sym w.index-flags-i.is) in
      let told = element_here c.args.found.now c.loop-i.i None (Some w.in-Some.definition_error) (omega (arith, c.loop-i-test.true, c.requires)) w.in-Some.is in
      let longer : string_bytes c.match-found-i.text ≡ string_bytes c.loop-i.text ++ string_bytes w.in_ok-line.line =
      ap string_bytes w.text-is ∙ (w.in_ok-push_str.ensures.bytes ∙ ap (λ l. string_bytes c.loop-i.text ++ l) w.as_str-in-Some.ensures.value) in
      let line : IsBrokenLine (string_bytes w.index-flags-i.result.0) w.in-Some.definition_error (string_bytes w.in_ok-line.line) = search rules in
      rw longer (bad c.args.flags.now c.args.found.now c.loop-i.i w.index-flags-i.result (string_bytes c.loop-i.text) w.in-Some.definition_error (string_bytes w.in_ok-line.line) here told line c.loop-i.invariant)
  | in_default w ↦
      let flag = flag_here c.args.flags.now c.loop-i.i c.loop-i-test.true in
      let none : get_or c.args.found.now c.loop-i.i None ≡ None = search rules in
      let told = element_here c.args.found.now c.loop-i.i None None (omega (arith, c.loop-i-test.true, c.requires)) none in
      rw w.text-is (good c.args.flags.now c.args.found.now c.loop-i.i flag.0 (string_bytes c.loop-i.text) flag.1 told c.loop-i.invariant)
]

pub returns : goal.returns
returns c = ended c.args.flags.now c.args.found.now c.loop-i.i (string_bytes c.loop-i.text) c.loop-i-test.false (omega (arith, c.loop-i-test.false, c.requires)) c.loop-i.invariant
