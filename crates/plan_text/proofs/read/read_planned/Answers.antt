use Rattle.std.proofs.Common.{subst}
use Rattle.flag_text.specs.Outcome.{GivesUnless}
use Rattle.flag_text.specs.Reading.{tree_of}
use Rattle.member_names.specs.Kept.{IsKeptOf}
use Rattle.plan_text.specs.Answer.{planned_view}
use Rattle.plan_text.specs.PlanFile.{max_plan, plan_members}
use Rattle.plan_text.specs.declared.fault.PlanFileFault.TheVariants.{WantOfMemory}
use Rattle.plan_text.proofs.Kept.{answer_kept, kept_whole}
use Rattle.plan_text.proofs.read.read_planned.Goals as goal
use Rattle.plan_text.proofs.read.read_planned.Goals.{Joined-tree}

kept : (c : Joined-tree) → IsKeptOf plan_members (tree_of c.args.bytes.now max_plan) c.in_ok-tree.tree
kept c = subst (λ names. IsKeptOf names (tree_of c.args.bytes.now max_plan) c.in_ok-tree.tree) c.plan_members.ensures c.in_ok-tree.ensures.exact

pub returns-clause-exact : goal.returns-clause-exact
returns-clause-exact c = subst (λ wanted. GivesUnless WantOfMemory planned_view c.planned_of.result wanted) (answer_kept c.args.bytes.now c.in_ok-tree.tree (kept c)) c.planned_of.ensures

pub returns-clause-whole : goal.returns-clause-whole
returns-clause-whole c = kept_whole c.args.bytes.now c.in_ok-tree.tree c.planned_of.result (kept c) c.planned_of.ensures
