use Rattle.std.proofs.Common.{◌≡◌, true, option_map, ap, sym, ◌∙◌}
use Rattle.logic_ast.specs.Expr.{view}
use Rattle.logic_ast.specs.Formed.{is_well_formed}
use Rattle.flag_defs.specs.Flag.{rules_view}
use Rattle.flag_defs.specs.Rules.{is_targeting, are_targetings}
use Rattle.flag_defs.proofs.Printed.{targetings_of}
use Rattle.flag_defs.proofs.Unreferred.{targeting_with, replaced_is}
use Rattle.flag_defs.proofs.flag.Flag.with_site.Goals as goal

pub retargeted-requires : goal.retargeted-requires
retargeted-requires c =
    let rules = c.in-Some.rules in
    let e = view c.in-Some-targeting.targeting in
    let new = c.in_ok-targeting.targeting in
    let is = replaced_is c.args.n c.args.rule.now e (view new) c.in_ok-targeting.ensures.exact in
    let old : is_targeting e ≡ true = ap (λ o. are_targetings (option_map view o)) (sym c.in-Some-targeting.is) ∙ targetings_of (rules_view rules) rules.lawful in
    ap is_targeting is ∙ targeting_with c.args.n c.args.rule.now e (ap is_well_formed (sym is) ∙ new.well_formed) old
