-- Which texts are sent.
use Rattle.std.proofs.Common.{◌≡◌, ℕ, Bool, true, false, List, [], ◌∷◌, codes, if◌then◌else◌, refl}
use Rattle.std.specs.List.{list_all}
use Rattle.std.proofs.lemmas.List.Sums.{AllPass-from_list_all, list_all-from_AllPass}
use Rattle.http1.specs.Fields.{Header}
use Rattle.http_header.specs.FieldValue.{IsFieldValue}
use Rattle.http_header.specs.Token.{is_value_byte}
use Rattle.service_layers.specs.Date.{date_fields}

abbrev lone_if : List ℕ → Bool → List Header
lone_if text b = if b then (codes "date", text) ∷ [] else []

pub date_sent : (text : List ℕ) → ((IsFieldValue text → ⊥) → ⊥) → date_fields text ≡ (codes "date", text) ∷ []
date_sent text h =
    (elim (list_all is_value_byte text) as (λ b. list_all is_value_byte text ≡ b → lone_if text b ≡ lone_if text true) [
      | true ↦ λ yes. refl
      | false ↦ λ no. absurd (h (λ all. let yes = list_all-from_AllPass is_value_byte text all in cc))
    ]) refl

pub date_unsent : (text : List ℕ) → (IsFieldValue text → ⊥) → date_fields text ≡ []
date_unsent text h =
    (elim (list_all is_value_byte text) as (λ b. list_all is_value_byte text ≡ b → lone_if text b ≡ []) [
      | true ↦ λ yes. absurd (h (AllPass-from_list_all is_value_byte text yes))
      | false ↦ λ no. refl
    ]) refl
