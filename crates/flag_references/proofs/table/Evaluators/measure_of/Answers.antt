use Rattle.std.proofs.Common.{◌≡◌, ap, sym, ◌∙◌, subst}
use Rattle.std.specs.Prelude.{MatchOption}
use Rattle.flag_text.specs.Shape.{Shape, members_are_tidy}
use Rattle.flag_text.specs.View.{view, members_view}
use Rattle.flag_references.specs.Inlining.{IsInlined}
use Rattle.flag_references.specs.Measure.{measure}
use Rattle.flag_references.proofs.Told.{told_of}
use Rattle.flag_references.proofs.table.Evaluators.measure_of.Goals as goal

pub returns-clause-tidy : goal.returns-clause-tidy
returns-clause-tidy c = sym (ap (λ es. members_are_tidy (members_view es)) c.self.view_is) ∙ c.self.invariant.tidy

pub returns-clause-measure : goal.returns-clause-measure
returns-clause-measure c =
    let table = c.self.inside.table in
    subst (λ es. MatchOption c.measured.result ((u : Shape) → ¬ IsInlined (members_view es) (view c.args.tree.now) u) (λ m. (u : Shape) × IsInlined (members_view es) (view c.args.tree.now) u × (measure u ≡ m))) c.self.view_is
    (told_of (members_view table.members) table.measures c.self.invariant.knows_all (view c.args.tree.now) c.measured.result c.measured.ensures)
