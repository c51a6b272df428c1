use Rattle.std.proofs.Common.{ap, subst, ◌∙◌}
use Rattle.flag_text.specs.Shape.{Shape}
use Rattle.flag_text.specs.View.{view, members_view}
use Rattle.logic_ast.proofs.Trees.{view-object}
use Rattle.flag_defs.specs.Foreseen.{Foresees}
use Rattle.flag_defs.proofs.definition.read_flag.Goals as goal

pub read_members-requires-clause-foreseen : goal.read_members-requires-clause-foreseen
read_members-requires-clause-foreseen c =
    subst (λ (t : Shape). Foresees (members_view c.args.evaluators.now) t c.args.forecast) (ap view c.in-Object.is ∙ view-object c.in-Object.members) c.requires.foreseen
