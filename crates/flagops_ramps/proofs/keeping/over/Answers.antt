use Rattle.std.proofs.Common.{ap, map, ℕ, Vec, Global}
use Rattle.flagops_files.specs.Question.{question_view}
use Rattle.plan_text.specs.Answer.{planned_view}
use Rattle.ramp.specs.Steps.{requests_view}
use Rattle.flagops_ramps.specs.Words.{keeping_view}
use Rattle.flagops_ramps.proofs.Kept.{over_counted, over_want}
use Rattle.flagops_ramps.proofs.Noted.{keep_counted}
use Rattle.flagops_ramps.proofs.keeping.over.Goals as goal

pub returns-clause-exact : goal.returns-clause-exact
returns-clause-exact g c =
    over_counted (keeping_view c.args.asked.now) c.args.question.document.items (question_view c.args.question) (map planned_view c.args.answers.now) (requests_view c.args.steps.now) _ _ c.count.new.question.document.items
    (question_view c.count.new.question) c.counted.result (ap (λ (v : Vec ℕ Global). v.items) c.count.ensures.document) c.count.ensures.kept c.counted.ensures.exact

pub returns-in_default-clause-exact : goal.returns-in_default-clause-exact
returns-in_default-clause-exact g c =
    let files = g.F.FileSet.holding c.args.files.now in
    over_want (keeping_view c.args.asked.now) c.args.question.document.items (question_view c.args.question) (map planned_view c.args.answers.now) (requests_view c.args.steps.now) files files c.out_of_memory.result c.out_of_memory.ensures.want

pub returns-clause-parts : goal.returns-clause-parts
returns-clause-parts g c =
    keep_counted (keeping_view c.args.asked.now) (question_view c.args.question) (question_view c.count.new.question) (requests_view c.args.steps.now) (map planned_view c.args.answers.now) c.counted.result c.count.ensures.kept c.counted.ensures.parts
