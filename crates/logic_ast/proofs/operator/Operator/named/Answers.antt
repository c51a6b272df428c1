use Rattle.std.proofs.Common.{◌≡◌, ◌≤◌, length, slice_index, ap, ◌∙◌, subst, arith}
use Rattle.std.specs.List.{find, filter}
use Rattle.std.specs.Str.{bytes_eq}
use Rattle.logic_ast.specs.Operator.{operator_name, operators, begins_with}
use Rattle.logic_ast.proofs.Named.{named_among, named_nothing}
use Rattle.logic_ast.proofs.operator.Operator.named.Goals as goal

pub returns-in_err-first : goal.returns-in_err-first
returns-in_err-first c =
    let none = named_nothing c.args.name.now (subst (λ bytes. length bytes ≤ 0) c.as_bytes.ensures.value c.in_err-first.ensures.item.3) in cc

pub returns : goal.returns
returns c =
    let name = c.args.name.now in
    let first : c.in_ok-first.field-0.now ≡ slice_index name 0 = c.in_ok-first.ensures.item.4 (omega arith) 0 ∙ ap (λ bytes. slice_index bytes 0) c.as_bytes.ensures.value in
    c.named_among.ensures
    ∙ ap (find (λ o. bytes_eq (operator_name o) name)) (c.beginning_with.ensures ∙ ap (λ byte. filter (begins_with byte) operators) first) ∙ named_among name
