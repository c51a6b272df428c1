use Rattle.std.proofs.Common.{ℕ, List, is_some, Ok, Vec, Global, sym, ap, ◌∙◌}
use Rattle.flagops_ramps.specs.Report.{Came}
use Rattle.flagops_ramps.proofs.verifying.valid.Goals as goal

pub returns-in-Ok-clause-exact : goal.returns-in-Ok-clause-exact
returns-in-Ok-clause-exact c =
    let made : List ℕ → Came = λ t. Ok (record { text = t; status = 0; is_told = is_some c.args.remark }) in
    ap made (sym (ap (λ (w : Vec ℕ Global). w.items) c.into_bytes.ensures.value ∙ c.in-Ok.ensures))
