use Rattle.std.proofs.Common.{◌≡◌, Err, ap, sym, ◌∙◌, subst, arith, rules}
use Rattle.std.specs.Str.{IsUtf8}
use Rattle.json.specs.Lex.{tokens}
use Rattle.json.specs.Value.{value_view}
use Rattle.flag_text.specs.declared.fault.TextFault.TheVariants.{WantOfMemory}
use Rattle.spelled_numbers.specs.Reading.{text_with_floats}
use Rattle.spelled_numbers.specs.View.{tree_view}
use Rattle.spelled_numbers.proofs.Readings.{passed_on, rewritten}
use Rattle.spelled_numbers.proofs.read.text_document.Goals as goal

pub returns-clause-exact : goal.returns-clause-exact
returns-clause-exact c =
    let same = c.as_slice.ensures.value in
    sym (rewritten c.args.text.now c.as_slice.result.now _ (value_view c.in_ok-value.value) c.in_ok-value.ensures.exact c.in_ok-value.ensures.nests
    (ap tokens same ∙ c.in_ok-bytes.ensures.tokens) (subst IsUtf8 (sym same) c.in_ok-bytes.ensures.utf8) (omega arith))
    ∙ c.in_ok-tree.ensures.exact

pub returns-in_err-tree-clause-exact : goal.returns-in_err-tree-clause-exact
returns-in_err-tree-clause-exact c =
    let same = c.as_slice.ensures.value in
    let e = c.in_err-tree.field-0.0 in
    let is : c.from_residual-in_err-tree.result ≡ Err e = search rules in
    passed_on WantOfMemory e tree_view c.from_residual-in_err-tree.result (text_with_floats c.args.text.now) is
    (λ n. sym (rewritten c.args.text.now c.as_slice.result.now _ (value_view c.in_ok-value.value) c.in_ok-value.ensures.exact c.in_ok-value.ensures.nests
    (ap tokens same ∙ c.in_ok-bytes.ensures.tokens) (subst IsUtf8 (sym same) c.in_ok-bytes.ensures.utf8) (omega arith))
    ∙ c.in_err-tree.ensures.exact n)
