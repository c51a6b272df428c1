use Rattle.logic_values.proofs.Members.{before_one_more}
use Rattle.logic_values.proofs.tree.push_flagd.Goals as goal

pub returns : goal.returns
returns c = before_one_more _ _ _ _ _ c.in_ok-push.ensures.items c.in_ok-name.ensures.ok c.in_ok-copy.ensures
