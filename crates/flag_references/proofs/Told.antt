-- What a table of all forms tells of a tree.
use Rattle.std.proofs.Common.{◌≡◌, List, Option, Some, None, option_map, sym, ap, ◌∙◌}
use Rattle.std.specs.Prelude.{MatchOption}
use Rattle.flag_text.specs.Shape.{Shape, Members}
use Rattle.flag_references.specs.Inlining.{replaced, IsInlined}
use Rattle.flag_references.specs.Measure.{measure, measured, known}
use Rattle.flag_references.specs.Table.{KnowsAll}
use Rattle.flag_references.specs.declared.measure.Measure.{Measure}
use Rattle.flag_references.proofs.Standing.{replaced-inlined}
use Rattle.flag_references.proofs.Tables.{form_of, measured-known, stands}

no_form : (evaluators : Members) (measures : List (Option Measure)) → KnowsAll evaluators measures → (t : Shape) → measured (known evaluators measures) t ≡ None
    → (u : Shape) → ¬ IsInlined evaluators t u
no_form evaluators measures k t h u p =
    let s = known evaluators k.forms in
    let found : replaced s t ≡ Some u = replaced-inlined evaluators s (stands evaluators k.forms k.are_forms) k.closed p.0 t u p.1 in
    let some : measured (known evaluators measures) t ≡ Some (measure u) = measured-known evaluators measures k.forms k.each t ∙ ap (option_map measure) found in cc

pub told_of : (evaluators : Members) (measures : List (Option Measure)) → KnowsAll evaluators measures → (t : Shape) (r : Option Measure) → r ≡ measured (known evaluators measures) t
    → MatchOption r ((u : Shape) → ¬ IsInlined evaluators t u) (λ m. (u : Shape) × IsInlined evaluators t u × (measure u ≡ m))
told_of evaluators measures k t None h = no_form evaluators measures k t (sym h)
told_of evaluators measures k t (Some m) h =
    let f = form_of evaluators measures (record { forms = k.forms; each = k.each; are_forms = k.are_forms }) t m (sym h) in (f.0, f.2, f.3)
