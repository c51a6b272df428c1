use Rattle.std.proofs.Common.{◌≡◌, map, string_bytes, ap, ◌∙◌}
use Rattle.std.proofs.lemmas.Result.{IfOk-weaker}
use Rattle.std.specs.List.{list_any}
use Rattle.std.specs.Str.{bytes_eq}
use Rattle.flag_doubts.proofs.Keys.{among_bytes}
use Rattle.flag_doubts.proofs.doubled.doubled_among.Goals as goal

pub returns-clause-doubled : goal.returns-clause-doubled
returns-clause-doubled c =
    let keys = c.in_ok-repeated.field-0.keys in
    IfOk-weaker c.listed.result (λ v. v.items ≡ keys) _
    (λ v same key. ap (λ ks. list_any (bytes_eq key) (map string_bytes ks)) same ∙ among_bytes key keys ∙ c.in_ok-repeated.ensures key) c.listed.ensures.items
