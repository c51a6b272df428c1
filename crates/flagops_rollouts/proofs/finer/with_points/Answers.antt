use Rattle.std.proofs.Common.{ℕ, [], subst, sym}
use Rattle.flagops_rollouts.specs.Beside.{AreBehind}
use Rattle.flagops_rollouts.specs.Finer.{finer_part, finer_parts}
use Rattle.plan_text.specs.Answer.{planned_view}
use Rattle.plan_text.specs.declared.planned.Planned.{Planned}
use Rattle.flagops_rollouts.proofs.Parts.{behind_nothing, more_behind}
use Rattle.flagops_rollouts.proofs.Points.{answer_notes, answer_told}
use Rattle.flagops_rollouts.proofs.finer.with_points.Goals as goal

pub returns-in-Emit-clause-beside : goal.returns-in-Emit-clause-beside
returns-in-Emit-clause-beside c =
    let path = c.args.path.now in
    let factor = c.args.factor in
    subst (λ (p : Planned). AreBehind (finer_parts path factor (planned_view p)) c.args.noted c.with_total.result) (sym c.in-Emit.is)
    (subst (λ (n : ℕ). AreBehind (finer_part path factor n) c.args.noted c.with_total.result) c.total.ensures.value c.with_total.ensures.beside)

pub returns-in-Emit-clause-notes : goal.returns-in-Emit-clause-notes
returns-in-Emit-clause-notes c = λ book noted.
    let path = c.args.path.now in
    let factor = c.args.factor in
    answer_notes path factor (planned_view c.args.planned.now) book c.args.noted c.with_total.result
    (subst (λ (p : Planned). AreBehind (finer_parts path factor (planned_view p)) c.args.noted c.with_total.result) (sym c.in-Emit.is)
    (subst (λ (n : ℕ). AreBehind (finer_part path factor n) c.args.noted c.with_total.result) c.total.ensures.value c.with_total.ensures.beside)) noted

pub returns-in-Emit-clause-more : goal.returns-in-Emit-clause-more
returns-in-Emit-clause-more c = more_behind (finer_part c.args.path.now c.args.factor c.total.result) c.args.noted c.with_total.result c.with_total.ensures.beside

pub returns-in-Emit-clause-finer : goal.returns-in-Emit-clause-finer
returns-in-Emit-clause-finer c =
    let path = c.args.path.now in
    let factor = c.args.factor in
    answer_told path factor (planned_view c.args.planned.now) c.args.noted c.with_total.result
    (subst (λ (p : Planned). AreBehind (finer_parts path factor (planned_view p)) c.args.noted c.with_total.result) (sym c.in-Emit.is)
    (subst (λ (n : ℕ). AreBehind (finer_part path factor n) c.args.noted c.with_total.result) c.total.ensures.value c.with_total.ensures.beside))

pub returns-in-NoneExists-clause-beside : goal.returns-in-NoneExists-clause-beside
returns-in-NoneExists-clause-beside c =
    subst (λ (p : Planned). AreBehind (finer_parts c.args.path.now c.args.factor (planned_view p)) c.args.noted c.args.noted) (sym c.in-NoneExists.is) (behind_nothing c.args.noted)

pub returns-in-NoneExists-clause-more : goal.returns-in-NoneExists-clause-more
returns-in-NoneExists-clause-more c = more_behind [] c.args.noted c.args.noted (behind_nothing c.args.noted)

pub returns-in-NoneExists-clause-finer : goal.returns-in-NoneExists-clause-finer
returns-in-NoneExists-clause-finer c =
    answer_told c.args.path.now c.args.factor (planned_view c.args.planned.now) c.args.noted c.args.noted
    (subst (λ (p : Planned). AreBehind (finer_parts c.args.path.now c.args.factor (planned_view p)) c.args.noted c.args.noted) (sym c.in-NoneExists.is) (behind_nothing c.args.noted))
