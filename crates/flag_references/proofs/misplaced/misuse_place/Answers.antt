use Rattle.std.proofs.Common.{ap, sym, ◌∙◌}
use Rattle.flag_text.specs.View.{view, members_view}
use Rattle.logic_ast.proofs.Trees.{view-object}
use Rattle.flag_references.specs.Misplaced.{misuse_place, object_place}
use Rattle.flag_references.proofs.misplaced.misuse_place.Goals as goal

pub returns-in-Object : goal.returns-in-Object
returns-in-Object c =
    c.object_place.ensures ∙ (ap (λ ms. object_place (members_view ms)) c.as_slice-in-Object.ensures.value ∙ sym (ap misuse_place (ap view c.in-Object.is ∙ view-object _)))
