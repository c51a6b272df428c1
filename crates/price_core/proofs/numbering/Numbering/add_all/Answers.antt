use Rattle.std.proofs.Common.{◌≡◌, List, ℕ, map, slice_index, subst, sym}
use Rattle.std.proofs.lemmas.Result.{IfOk-weaker}
use Rattle.bucket_core.specs.Rule.{names_view}
use Rattle.price_core.specs.Numbering.{AreNamesNumbers, AreNumbersOf}
use Rattle.price_core.proofs.Numbered.{numbers_spread}
use Rattle.price_core.proofs.numbering.Numbering.add_all.Goals as goal

pub returns-clause-numbered : goal.returns-clause-numbered
returns-clause-numbered c =
    let ns = c.add_names.new.self in
    let names = names_view c.by_places.result.0.now in
    let entries = c.by_places.result.1.now in
    let numbers = c.as_slice.result.now in
    let numbered = subst (λ (found : List ℕ). AreNamesNumbers ns names found) (sym c.as_slice.ensures.value) c.in_ok-numbers.ensures.numbered in
    let spread = numbers_spread ns names numbers numbered entries c.by_places.ensures.named in
    let are = subst (λ r. AreNumbersOf ns r (map (λ (e : ℕ × ℕ). slice_index numbers e.0) entries)) c.by_places.ensures.value spread in
    IfOk-weaker c.numbers_at.result (λ v. v.items ≡ map (λ (e : ℕ × ℕ). slice_index numbers e.0) entries) (λ v. AreNumbersOf ns c.args.rule.now v.items)
    (λ v is. subst (λ found. AreNumbersOf ns c.args.rule.now found) (sym is) are) c.numbers_at.ensures
