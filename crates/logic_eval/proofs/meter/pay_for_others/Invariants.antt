use Rattle.std.proofs.Common.{◌≡◌, drop}
use Rattle.std.specs.Prelude.{codes}
use Rattle.flag_text.specs.View.{members_view}
use Rattle.logic_eval.specs.Budget.{paid}
use Rattle.logic_eval.specs.Run.{spends}
use Rattle.logic_eval.specs.Scope.{others_size}
use Rattle.logic_eval.specs.Views.{progress}
use Rattle.logic_eval.proofs.meter.pay_for_others.Given as goal

abbrev pub invariant-loop-key : goal.invariant-loop-key
invariant-loop-key l =
    paid (progress l.fn.meter) (spends (others_size (codes "$flagd") (members_view l.members))) ≡ paid (progress l.meter) (spends (others_size (codes "$flagd") (members_view (drop l.key-index l.members))))
