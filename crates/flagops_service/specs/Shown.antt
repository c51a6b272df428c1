-- What desks are shown of documents.
use Rattle.std.specs.Prelude.{◌≡◌, ℕ, Bool, true, false, List, [], ◌∷◌, ◌++◌, Option, Some, None, Ok, string_bytes}
use Rattle.control_desk.specs.Sources.{Source}
use Rattle.file_diagnostics.specs.Broken.{TellsBroken}
use Rattle.flag_defs.specs.Flags.{flags_view}
use Rattle.flag_defs.specs.Floats.{MeansWithFloats, floats_view}
use Rattle.flag_defs.specs.Spelled.{printed_with_floats}
use Rattle.flag_defs.specs.declared.flags.Flags.{Flags}
use Rattle.flagops_service.specs.declared.document_texts.DocumentTexts as program

-- the bytes of a document that is alone, as it was accepted; of several, their flags as they are printed
abbrev pub document_text : List (List ℕ) → Flags → List ℕ
document_text (text ∷ []) flags = text
document_text texts flags = printed_with_floats (flags_view flags) (floats_view flags)

-- the lines about the broken flags of each document, one after the other
abbrev pub AreRemarks : List (List ℕ) → List ℕ → Type 0
AreRemarks [] remarks = remarks ≡ []
AreRemarks (text ∷ texts) remarks = (lines : List ℕ) × (more : List ℕ) × (remarks ≡ lines ++ more) × TellsBroken true text lines × AreRemarks texts more

-- what is known of documents beside these flags of them
pub record IsKnownOf (texts : List (List ℕ)) (flags : Flags) (document remarks : List ℕ) : Type 0 where
  pub document_is : document ≡ document_text texts flags
  pub remarks_are : AreRemarks texts remarks

-- That is to be shown, where there are desks. The document means the flags.
abbrev pub ArePrepared : Bool → List (List ℕ) → Flags → Option program.DocumentTexts → Type 0
ArePrepared false texts flags None = Unit {0}
ArePrepared false texts flags (Some t) = ⊥
ArePrepared true texts flags None = ⊥
ArePrepared true texts flags (Some t) = IsKnownOf texts flags (string_bytes t.document) (string_bytes t.remarks) × MeansWithFloats (string_bytes t.document) (Ok (flags_view flags))

-- It was shown where there are desks, under just what had been published by then.
abbrev pub AreShown : Bool → List (List ℕ) → Flags → List Flags → Option Source → Type 0
AreShown false texts flags published shown = Unit {0}
AreShown true texts flags published None = ⊥
AreShown true texts flags published (Some s) = IsKnownOf texts flags s.document s.remarks × (s.published ≡ published)

-- ---- of the program

-- what is shown of these texts
abbrev pub shown_of : List Flags → Option program.DocumentTexts → Option Source
shown_of published None = None
shown_of published (Some t) = Some (record { published = published; document = string_bytes t.document; remarks = string_bytes t.remarks })
