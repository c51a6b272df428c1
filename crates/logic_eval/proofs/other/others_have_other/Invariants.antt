use Rattle.std.proofs.Common.{◌≡◌, drop}
use Rattle.std.specs.Prelude.{codes}
use Rattle.flag_text.specs.View.{members_view}
use Rattle.logic_eval.specs.Scope.{others_have_other}
use Rattle.logic_eval.proofs.other.others_have_other.Given as goal

abbrev pub invariant-loop-name : goal.invariant-loop-name
invariant-loop-name l = others_have_other (codes "$flagd") (members_view l.members) ≡ others_have_other (codes "$flagd") (members_view (drop l.name-index l.members))
