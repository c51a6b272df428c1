use Rattle.std.proofs.Common.{◌≡◌, ap, ◌∙◌, sym, subst}
use Rattle.std.specs.Prelude.{IfOk}
use Rattle.flag_text.specs.View.{members_view, view}
use Rattle.logic_ast.proofs.Trees.{view-object}
use Rattle.kept_document.specs.Seeking.{find_in_members, find_site}
use Rattle.kept_document.specs.View.{sought_view}
use Rattle.kept_document.proofs.Trees.{no_operation}
use Rattle.kept_document.proofs.seeking.+find.Goals as goal

pub find_in_members-returns-in-len2-up : goal.find_in_members-returns-in-len2-up
find_in_members-returns-in-len2-up t c = sym (no_operation c.args.left c.args.members.now c.in-len2-up.len_at_least)

pub find_site-returns-in-Object : goal.find_site-returns-in-Object
find_site-returns-in-Object t c =
    let same = ap (λ ms. find_in_members c.args.left (members_view ms)) c.as_slice-in-Object.ensures.value ∙ sym (ap (find_site c.args.left) (ap view c.in-Object.is ∙ view-object _)) in
    subst (λ z. IfOk c.find_in_members.result (λ s. sought_view s ≡ z)) same c.find_in_members.ensures
