use Rattle.std.proofs.Common.{ℕ, List, false, Ok, Vec, Global, ap, ◌∙◌}
use Rattle.flagops_filters.specs.Report.{Came}
use Rattle.flagops_filters.proofs.joining.printed.Goals as goal

pub returns-in-Ok-clause-exact : goal.returns-in-Ok-clause-exact
returns-in-Ok-clause-exact c =
    let made : List ℕ → Came = λ t. Ok (record { text = t; status = 0; is_told = false }) in
    ap made (ap (λ (w : Vec ℕ Global). w.items) c.into_bytes.ensures.value ∙ c.in-Ok.ensures.text)
