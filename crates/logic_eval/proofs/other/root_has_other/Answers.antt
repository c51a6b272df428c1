use Rattle.std.proofs.Common.{◌∙◌, ◌||◌, ap, sym}
use Rattle.std.specs.Prelude.{codes}
use Rattle.flag_text.specs.View.{view, members_view}
use Rattle.flag_text.proofs.Halving.{names_rise-tidy}
use Rattle.logic_eval.specs.Scope.{others_have_other}
use Rattle.logic_eval.proofs.Scopes.{other-root}
use Rattle.logic_eval.proofs.other.root_has_other.Goals as goal

pub returns-then-tree_has_other : goal.returns-then-tree_has_other
returns-then-tree_has_other c =
    let ms = members_view c.args.root.members.now in record {
      exact = c.if-tree_has_other.true ∙ sym (other-root (view c.args.root.flagd.now) ms (names_rise-tidy (members_view c.args.root.members.now) c.args.root.tidy) ∙ ap (λ b. b || others_have_other (codes "$flagd") ms) (sym c.if-tree_has_other.ensures));
    }

pub returns-else-tree_has_other : goal.returns-else-tree_has_other
returns-else-tree_has_other c =
    let ms = members_view c.args.root.members.now in record {
      exact = c.others_have_other.ensures.exact ∙ sym (other-root (view c.args.root.flagd.now) ms (names_rise-tidy (members_view c.args.root.members.now) c.args.root.tidy) ∙ ap (λ b. b || others_have_other (codes "$flagd") ms) (sym c.if-tree_has_other.ensures));
    }
