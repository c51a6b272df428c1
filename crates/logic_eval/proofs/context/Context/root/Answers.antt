use Rattle.std.proofs.Common.{ap, ◌∙◌}
use Rattle.flag_text.specs.Shape.{is_tidy}
use Rattle.logic_eval.specs.Views.{situation}
use Rattle.logic_eval.proofs.WholeValues.{flagd-tidy}
use Rattle.logic_eval.proofs.context.Context.root.Goals as goal

pub invariant_of-result : goal.invariant_of-result
invariant_of-result c = record {
  tidy = c.args.self.now.tidy;
  flagd_tidy = ap is_tidy c.requires ∙ flagd-tidy (situation c.args.self.now) c.args.self.now.small;
}
