use Rattle.std.proofs.Common.{◌≡◌, length, Some, refl, ap, ◌∙◌}
use Rattle.std.specs.Prelude.{slice_get}
use Rattle.std.specs.Str.{bytes_eq}
use Rattle.std.proofs.lemmas.Option.{slice_get_read}
use Rattle.rule_text.proofs.Placed.{found_at}
use Rattle.rule_text.proofs.names.is_at.Goals as goal

pub returns-in-Some : goal.returns-in-Some
returns-in-Some c =
    let names = c.args.names.now in
    let text = c.in-Some.found.now in
    let found : slice_get names c.args.place ≡ Some text = slice_get_read names (length names) c.args.place text refl c.in-Some.ensures.lookup.3.0 c.in-Some.ensures.lookup.1 in
    found_at names c.args.place text c.args.name.now c.eq.result found (c.eq.ensures ∙ ap (λ s. bytes_eq s c.args.name.now) c.as_str.ensures.value)
