use Rattle.std.proofs.Common.{Option, subst}
use Rattle.flag_defs.specs.Flag.{definition_of, rules_view}
use Rattle.flag_defs.specs.Floats.{marked_with}
use Rattle.flag_defs.specs.SpelledLaw.{IsSpelled}
use Rattle.flag_defs.specs.declared.rules.Rules as program
use Rattle.flag_defs.proofs.Spellings.{kept_spelling}
use Rattle.flag_defs.proofs.marks.with_mark.Goals as goal

pub marked_rules-requires : goal.marked_rules-requires
marked_rules-requires c =
    kept_spelling (rules_view c.in-Some.rules) c.args.has_floats
    (subst (λ (o : Option program.Rules). IsSpelled (definition_of o) (marked_with (definition_of o) c.args.has_floats)) c.in-Some.is c.requires)
