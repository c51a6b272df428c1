use Rattle.std.proofs.Common.{◌≡◌, true, false, cond, ap, ◌∙◌, rules, string_bytes}
use Rattle.std.specs.Prelude.{codes}
use Rattle.std.specs.Str.{bytes_eq}
use Rattle.flag_text.specs.View.{view}
use Rattle.logic_eval.specs.Budget.{paid}
use Rattle.logic_eval.specs.Run.{spends}
use Rattle.logic_eval.specs.Scope.{size}
use Rattle.logic_eval.specs.Views.{progress}
use Rattle.logic_eval.proofs.Budgets.{spends_none}
use Rattle.logic_eval.proofs.Exits.{gives_same}
use Rattle.logic_eval.proofs.meter.pay_for_other.Goals as goal

pub returns-then-eq : goal.returns-then-eq
returns-then-eq c =
    let same : bytes_eq (string_bytes c.args.name.now) (codes "$flagd") ≡ true = search rules in record {
      exact = ap (λ b. paid (progress c.args.meter.now) (spends (cond b 0 (size (view c.args.member.now))))) same ∙ spends_none (progress c.args.meter.now);
    }

pub returns : goal.returns
returns c =
    let other : bytes_eq (string_bytes c.args.name.now) (codes "$flagd") ≡ false = search rules in record {
      exact = gives_same _ _ _ _ (ap (λ b. paid (progress c.args.meter.now) (spends (cond b 0 (size (view c.args.member.now))))) other) c.pay_for.ensures.exact;
    }
