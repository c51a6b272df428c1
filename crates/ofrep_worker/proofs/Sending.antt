-- Which fields are sent, and which responses are answers.
use Rattle.std.proofs.Common.{◌≡◌, ℕ, Bool, true, false, List, [], ◌∷◌, if◌then◌else◌, Some, Result, Ok, Err, OnErr, refl}
use Rattle.std.specs.List.{list_all}
use Rattle.std.proofs.lemmas.List.Sums.{AllPass-from_list_all, list_all-from_AllPass}
use Rattle.http1.specs.Fields.{Header}
use Rattle.http_header.specs.FieldValue.{IsFieldValue}
use Rattle.http_header.specs.Token.{is_value_byte}
use Rattle.ofrep_worker.specs.Sent.{field}

abbrev lone : List ℕ → List ℕ → List Header
lone name text = (name, text) ∷ []

abbrev lone_if : List ℕ → List ℕ → Bool → List Header
lone_if name text b = if b then (name, text) ∷ [] else []

pub field_sent : (name text : List ℕ) → ((IsFieldValue text → ⊥) → ⊥) → field name (Some text) ≡ lone name text
field_sent name text h =
    (elim (list_all is_value_byte text) as (λ b. list_all is_value_byte text ≡ b → lone_if name text b ≡ lone name text) [
      | true ↦ λ yes. refl
      | false ↦ λ no. absurd (h (λ all. let yes = list_all-from_AllPass is_value_byte text all in cc))
    ]) refl

pub field_unsent : (name text : List ℕ) → (IsFieldValue text → ⊥) → field name (Some text) ≡ []
field_unsent name text h =
    (elim (list_all is_value_byte text) as (λ b. list_all is_value_byte text ≡ b → lone_if name text b ≡ []) [
      | true ↦ λ yes. absurd (h (AllPass-from_list_all is_value_byte text yes))
      | false ↦ λ no. refl
    ]) refl

pub on_err : {T E : Type 0} (r : Result T E) (P : Type 0) → P → OnErr r P
on_err (Ok v) P p = tt
on_err (Err e) P p = p
