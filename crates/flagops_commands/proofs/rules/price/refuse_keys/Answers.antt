use Rattle.std.proofs.Common.{◌≡◌, Ok, Err, sym, ap, ◌∙◌, rules}
use Rattle.flag_text.specs.Reading.{tree_of}
use Rattle.flag_text.specs.View.{view}
use Rattle.flagops_files.specs.Loading.{max_text}
use Rattle.flagops_commands.specs.Price.{weighed_bytes, weighed_keys}
use Rattle.flagops_commands.proofs.Keys.{keys_refused}
use Rattle.flagops_commands.proofs.rules.price.refuse_keys.Goals as goal
use Rattle.flagops_shell.specs.Outcomes.{◌>>=◌}

pub returns-in-Ok-clause-exact : goal.returns-in-Ok-clause-exact
unfolding weighed_bytes
returns-in-Ok-clause-exact c = λ json old new pricing no.
    let bytes = c.args.bytes.now in
    let is : tree_of bytes max_text ≡ Ok (view c.in-Ok.tree) = search rules in
    ap (λ r. r >>= weighed_keys json old new pricing) (keys_refused bytes (view c.in-Ok.tree) is c.requires) ∙ ap Err (sym c.no_keys.ensures.refusal)
