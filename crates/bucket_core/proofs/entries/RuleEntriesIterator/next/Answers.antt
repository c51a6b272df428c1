use Rattle.std.proofs.Common.{◌≡◌, ◌<◌, ◌∷◌, [], length, get_or, string_bytes, sym, ap, ◌∙◌, arith}
use Rattle.std.proofs.lemmas.List.{get_or-map, length-map}
use Rattle.std.proofs.lemmas.List.Elements.{All-tail, All-head}
use Rattle.bucket_core.specs.Rule.{AreNamed, all_named, names_view}
use Rattle.bucket_core.proofs.entries.RuleEntriesIterator.next.Goals as goal

left_named : (c : goal.After-t12-1) → AreNamed (names_view c.self.inside.names.now) (c.in_ok-place.field-0-0.now ∷ c.in_ok-place.rest.now)
left_named c = rw c.in_ok-place.ensures.cases.0 at c.self.invariant

pub invariant_of-self : goal.invariant_of-self
invariant_of-self c =
    All-tail (λ e. e.0 < length (names_view c.self.inside.names.now)) c.in_ok-place.field-0-0.now c.in_ok-place.rest.now (left_named c)

pub returns-clause-steps : goal.returns-clause-steps
returns-clause-steps c =
    let names = c.self.inside.names.now in
    let first = c.in_ok-place.field-0-0.now in
    let here = All-head (λ e. e.0 < length (names_view names)) first c.in_ok-place.rest.now (left_named c) in
    let within : first.0 < length names = omega (arith, here, length-map names string_bytes) in
    let name : get_or (names_view names) first.0 [] ≡ c.as_str.result.now =
    get_or-map string_bytes names first.0 _ [] within ∙ sym c.as_str.ensures.value in
    sym c.self.view_is ∙ (ap (all_named (names_view names)) c.in_ok-place.ensures.cases.0 ∙ ap (λ n. (n, first.1) ∷ all_named (names_view names) c.in_ok-place.rest.now) name)
