use Rattle.std.proofs.Common.{Option, option_map, subst}
use Rattle.flag_text.specs.Shape.{Shape}
use Rattle.flag_text.specs.View.{view, members_view}
use Rattle.flag_text.specs.declared.tree.Tree.{Tree}
use Rattle.flag_defs.specs.Definition.{or_null}
use Rattle.flag_defs.specs.Targeting.{IsGoodTargeting}
use Rattle.flag_defs.specs.Weighing.{HasWeighed}
use Rattle.flag_defs.proofs.targeting.read_targeting.Goals as goal

pub read_tree-requires : goal.read_tree-requires
read_tree-requires c =
    let seen : Option Tree → Option Shape = option_map view in
    let evaluators = members_view c.args.evaluators.now in record {
      weighed = subst (λ o. HasWeighed evaluators (or_null (seen o))) c.in-Some.is c.requires.weighed;
      good = subst (λ o. IsGoodTargeting evaluators (or_null (seen o))) c.in-Some.is c.requires.good;
    }
