use Rattle.std.proofs.Common.{Option, subst}
use Rattle.std.proofs.lemmas.Result.{on_ok_weaker}
use Rattle.logic_ast.specs.Expression.{Expression}
use Rattle.control_answers.specs.SiteCounts.{Fills, pages_by}
use Rattle.control_answers.proofs.Filled.{fills_none}
use Rattle.control_answers.proofs.counting.fill_flag.Goals as goal

pub returns-in-Some : goal.returns-in-Some
returns-in-Some c =
    on_ok_weaker c.fill_targeting.result
    (subst (λ (t : Option Expression). Fills c.args.counts.now.entries (pages_by c.args.key.now t) c.fill_targeting.new.counts.entries) c.in-Some.ensures.value)
    c.fill_targeting.ensures

pub returns-in-None : goal.returns-in-None
returns-in-None c =
    subst (λ (t : Option Expression). Fills c.args.counts.now.entries (pages_by c.args.key.now t) c.args.counts.now.entries) c.in-None.ensures.value (fills_none c.args.counts.now.entries)
