use Rattle.std.proofs.Common.{sym, ◌∙◌}
use Rattle.flag_text.specs.View.{view}
use Rattle.logic_ast.proofs.Accepted.{accepted}
use Rattle.flag_defs.proofs.Targetings.{readable, nothing, expression_read}
use Rattle.flag_defs.proofs.targeting.read_form.Goals as goal

pub into_expr-requires-whole : goal.into_expr-requires-whole
into_expr-requires-whole c = λ _.
    let r = readable (view c.args.form) c.requires.good.0 (sym c.is_nothing.ensures ∙ c.if-is_nothing.false) c.requires.good.1 in
    (r.whole_numbers, accepted (view c.args.form) r.expression r.read)

pub returns-then-is_nothing : goal.returns-then-is_nothing
returns-then-is_nothing c = nothing (view c.args.form) (sym c.is_nothing.ensures ∙ c.if-is_nothing.true)

pub returns : goal.returns
returns c =
    let r = readable (view c.args.form) c.requires.good.0 (sym c.is_nothing.ensures ∙ c.if-is_nothing.false) c.requires.good.1 in
    expression_read (view c.args.form) c.in_ok-expression.expression r c.in_ok-expression.ensures.exact
