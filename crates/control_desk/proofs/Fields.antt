-- Fields that are sent.
use Rattle.std.proofs.Common.{◌≡◌, ℕ, Bool, true, false, List, [], ◌∷◌, if◌then◌else◌, refl}
use Rattle.std.specs.List.{list_all}
use Rattle.std.proofs.lemmas.List.Sums.{AllPass-from_list_all, list_all-from_AllPass}
use Rattle.http1.specs.Fields.{Header}
use Rattle.http_header.specs.FieldValue.{IsFieldValue}
use Rattle.http_header.specs.Token.{is_value_byte}
use Rattle.control_desk.specs.Sent.{field}

abbrev lone_if : List ℕ → List ℕ → Bool → List Header
lone_if name text b = if b then (name, text) ∷ [] else []

-- a value that may be sent is
pub field_sent : (name text : List ℕ) → ((IsFieldValue text → ⊥) → ⊥) → field name text ≡ (name, text) ∷ []
field_sent name text h =
    (elim (list_all is_value_byte text) as (λ b. list_all is_value_byte text ≡ b → lone_if name text b ≡ (name, text) ∷ []) [
      | true ↦ λ yes. refl
      | false ↦ λ no. absurd (h (λ all. let yes = list_all-from_AllPass is_value_byte text all in cc))
    ]) refl

-- and another is not
pub field_unsent : (name text : List ℕ) → (IsFieldValue text → ⊥) → field name text ≡ []
field_unsent name text h =
    (elim (list_all is_value_byte text) as (λ b. list_all is_value_byte text ≡ b → lone_if name text b ≡ []) [
      | true ↦ λ yes. absurd (h (AllPass-from_list_all is_value_byte text yes))
      | false ↦ λ no. refl
    ]) refl
