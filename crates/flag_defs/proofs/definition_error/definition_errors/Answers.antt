use Rattle.std.proofs.Common.{codes, ap, sym, ◌∙◌}
use Rattle.flag_text.specs.Shape.{members_are_tidy}
use Rattle.flag_text.specs.View.{view, members_view}
use Rattle.flag_defs.proofs.Meant.{tidy_named_object, tidy_evaluators}
use Rattle.flag_defs.proofs.definition_error.definition_errors.Goals as goal

pub read-requires : goal.read-requires
read-requires c = ap members_are_tidy c.evaluators_in.ensures ∙ tidy_evaluators (view c.args.document.now) c.requires

pub each_error-requires : goal.each_error-requires
each_error-requires c = tidy_named_object (codes "flags") (view c.args.document.now) (members_view c.in-Some.definitions.now) c.requires (sym c.in-Some.ensures)
