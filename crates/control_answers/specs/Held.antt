-- What is answered to whoever asks for the document of a snapshot (RFC 9110, 13.1.2: If-None-Match).
use denote.Ref.{Bor}
use Rattle.std.specs.Prelude.{◌≡◌, ℕ, Bool, false, List, Option, Some, None, option_map, string_bytes}
use Rattle.ofrep_requests.specs.Tag.{entity_tag, is_listed, opaque_tag}
use Rattle.control_answers.specs.declared.holding.DocumentTag as program

-- whoever asks names the tag of a document that it has
abbrev pub is_held : List ℕ → Option (List ℕ) → Bool
is_held document None = false
is_held document (Some field) = is_listed (opaque_tag document) field

-- the value of the field, without where it lies in memory
abbrev pub field_view : Option (Bor (List ℕ)) → Option (List ℕ)
field_view field = option_map (λ f. f.now) field

-- the document's tag, as the field ETag has it, and whether whoever asks has the document
pub record IsTagOf (document : List ℕ) (field : Option (List ℕ)) (t : program.DocumentTag) : Type 0 where
  pub tag : string_bytes t.tag ≡ entity_tag (opaque_tag document)
  pub held : t.is_held ≡ is_held document field
