use Rattle.std.proofs.Common.{ℕ, List, Option, Some, ap, ap₂, ◌∙◌}
use Rattle.flag_text.specs.Shape.{Members}
use Rattle.flag_text.specs.View.{members_view}
use Rattle.logic_ast.specs.Expr.{view}
use Rattle.flag_defs.specs.Definition.{Rules}
use Rattle.flag_defs.specs.Flag.{rules_view}
use Rattle.flag_defs.specs.Rules.{are_rules}
use Rattle.flag_defs.specs.Spellings.{keep_spelling}
use Rattle.flag_defs.proofs.Unreferred.{rules_with}
use Rattle.flag_defs.proofs.site.retargeted.Goals as goal

pub invariant_of-result : goal.invariant_of-result
invariant_of-result c =
    let old = c.args.rules.now in
    let e = view c.args.targeting in
    record {
      lawful =
          ap₂ (λ (vs : Members) (d : Option (List ℕ)). let r : Rules = record { enabled = old.enabled; variants = vs; default_variant = d; targeting = Some e } in are_rules r)
          (c.in_ok-variants.ensures ∙ ap members_view c.as_slice.ensures.value) c.in_ok-default_variant.ensures
          ∙ rules_with (rules_view old) e old.lawful c.requires;
      spelled = ap (keep_spelling old.has_floats) (c.in_ok-variants.ensures ∙ ap members_view c.as_slice.ensures.value) ∙ old.spelled;
    }
