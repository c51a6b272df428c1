use Rattle.std.proofs.Common.{ap, sym, ◌∙◌}
use Rattle.flag_text.specs.View.{view, members_view}
use Rattle.logic_ast.proofs.Trees.{view-object}
use Rattle.flag_references.specs.Misplaced.{has_misuse, object_has_misuse}
use Rattle.flag_references.proofs.Misused.{object_has_misuse-several}
use Rattle.flag_references.proofs.misplaced.+misuse.Goals as goal

pub has_misuse-returns-in-Object : goal.has_misuse-returns-in-Object
has_misuse-returns-in-Object t c =
    c.object_has_misuse.ensures ∙ (ap (λ ms. object_has_misuse (members_view ms)) c.as_slice-in-Object.ensures.value ∙ sym (ap has_misuse (ap view c.in-Object.is ∙ view-object _)))

pub object_has_misuse-returns-in-len2-up : goal.object_has_misuse-returns-in-len2-up
object_has_misuse-returns-in-len2-up t c = sym (object_has_misuse-several c.args.members.now c.in-len2-up.len_at_least)
