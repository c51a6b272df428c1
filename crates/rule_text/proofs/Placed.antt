-- Names that are looked for among those that are kept.
use Rattle.std.proofs.Common.{◌≡◌, ℕ, ◌<◌, Bool, true, false, List, [], ◌∷◌, ◌++◌, length, get_or, Some, option_map, String, string_bytes, Global, sym, ap, ◌∙◌}
use Rattle.std.specs.Prelude.{slice_get}
use Rattle.std.specs.Bool.{OnTrue}
use Rattle.std.specs.Str.{bytes_eq}
use Rattle.std.proofs.lemmas.List.{map-append, map_push, length-map}
use Rattle.std.proofs.lemmas.List.Elements.{All-append}
use Rattle.std.proofs.lemmas.Option.{slice_get-map, slice_get_within, get_or_from_slice_get}
use Rattle.std.proofs.lemmas.Slice.Eq.{bytes_eq-Decides}
use Rattle.bucket_core.specs.Rule.{named, all_named, names_view}
use Rattle.bucket_core.proofs.Named.{named-push, one_named}
use Rattle.rule_text.specs.Names.{IsPlaced}

-- a text of the program that stands at the place, and equals the name
pub found_at : (names : List (String Global)) (place : ℕ) (text : String Global) (name : List ℕ) (b : Bool) → slice_get names place ≡ Some text → b ≡ bytes_eq (string_bytes text) name
    → OnTrue b (slice_get (names_view names) place ≡ Some name)
found_at names place text name true found same = slice_get-map string_bytes names place ∙ ap (option_map string_bytes) found ∙ ap Some ((bytes_eq-Decides (string_bytes text) name).0 (sym same))
found_at names place text name false found same = tt

-- a name that stands among the others already
pub named_again : (names : List (List ℕ)) (name : List ℕ) (place : ℕ) → slice_get names place ≡ Some name → IsPlaced names names name place
named_again names name place found es weight all =
    let last : ℕ × ℕ = (place, weight) in
    let here : get_or names place [] ≡ name = get_or_from_slice_get names place name [] found in (
      All-append (λ (e : ℕ × ℕ). e.0 < length names) es (last ∷ []) all (one_named names place weight (slice_get_within names place name found)),
      map-append (named names) es (last ∷ []) ∙ ap (λ n. all_named names es ++ (n, weight) ∷ []) here,
    )

-- a name that is kept behind the others
pub named_new : (names : List (String Global)) (text : String Global) (name : List ℕ) (place : ℕ) → string_bytes text ≡ name → place ≡ length names
    → IsPlaced (names_view names) (names_view (names ++ text ∷ [])) name place
named_new names text name place is last es weight all =
    rw (map_push string_bytes names text, sym is, last ∙ sym (length-map names string_bytes)) (named-push (names_view names) (string_bytes text) weight es all)
