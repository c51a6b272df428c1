use Rattle.std.proofs.Common.{ℕ, Bool, List, is_some, Vec, Global, ap, ◌∙◌}
use Rattle.flagops_shell.specs.Report.{Report}
use Rattle.note_tallies.specs.File.{tally_text}
use Rattle.flagops_filters.specs.Beside.{is_beside}
use Rattle.flagops_filters.proofs.tallying.printed.Goals as goal

pub returns-in-Ok-clause-prints : goal.returns-in-Ok-clause-prints
returns-in-Ok-clause-prints c =
    let told = is_some c.beside.result in
    let made : List ℕ → Report = λ t. record { text = t; status = 0; is_told = told } in
    let so : Bool → Report = λ b. record { text = tally_text c.args.came.now.tally; status = 0; is_told = b } in
    ap made (ap (λ (w : Vec ℕ Global). w.items) c.into_bytes.ensures.value ∙ c.in-Ok.ensures.text) ∙ ap so (c.beside.ensures.told ∙ ap (λ (none : Bool). is_beside c.args.came.now.empty none c.args.came.now.torn) c.counts_nobody.ensures)
