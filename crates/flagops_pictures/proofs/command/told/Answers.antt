use Rattle.std.proofs.Common.{◌≡◌, Bool, ℕ, List, Result, Ok, Vec, Global, ap, ap₂, string_bytes, sym}
use Rattle.flagops_shell.specs.Report.{Report}
use Rattle.flagops_rollouts.specs.declared.refusal.RolloutRefusal.{RolloutRefusal}
use Rattle.flagops_pictures.proofs.command.told.Goals as goal

pub returns-in-Ok-clause-exact : goal.returns-in-Ok-clause-exact
returns-in-Ok-clause-exact g c =
    let made : List ℕ → Bool → Result Report RolloutRefusal = λ t b. Ok (record { text = t; status = 0; is_told = b }) in
    let bytes : c.into_bytes.result.items ≡ string_bytes c.args.text = ap (λ (v : Vec ℕ Global). v.items) c.into_bytes.ensures.value in
    ap₂ made (sym bytes) (sym c.in-Ok.ensures.told)
