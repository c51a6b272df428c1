-- What setting all documents gives, in private contracts alone.
use Rattle.std.specs.Prelude.{◌≡◌, ◌⊎◌, [], ◌∷◌, ◌++◌, List, ℕ, Bool, true, decimal, map, Option, Some, Result, Ok, Err}
use Rattle.flag_defs.specs.Described.{described_by}
use Rattle.control_desk.specs.Sources.{Source}
use Rattle.flag_defs.specs.Flags.{flags_view}
use Rattle.flag_defs.specs.Floats.{MeansWithFloats}
use Rattle.flag_defs.specs.declared.flags.Flags.{Flags}
use Rattle.flag_defs.specs.Document.{Definitions}
use Rattle.flag_metadata.specs.Document.{document_of}
use Rattle.source_merge.specs.Merge.{merged_of}
use Rattle.source_merge.specs.Sources.{SourceList}
use Rattle.flagops_streams.specs.Documents.{Gives}
use Rattle.flagops_streams.specs.declared.refusal.Refusal.{Refusal}
use Rattle.flagops_service.specs.Shown.{ArePrepared, AreShown}
use Rattle.flagops_service.specs.declared.document_texts.DocumentTexts as program

-- the flags are the merge of all sources
abbrev pub AreMerged : SourceList → Flags → Type 0
AreMerged sources flags = merged_of sources ≡ Ok (flags_view flags)

-- the flags have the metadata of the documents of these bytes, of which the last is the latest
abbrev pub AreDescribed : List (List ℕ) → Flags → Type 0
AreDescribed texts flags = described_by flags ≡ map document_of texts

-- The source of a document that is alone is the only one, and has the flags that the text of the document means.
abbrev pub AreRead : List (List ℕ) → SourceList → Type 0
AreRead texts sources = (text : List ℕ) → texts ≡ text ∷ [] → (flags : Definitions) × (sources ≡ (decimal 1, Some flags) ∷ []) × MeansWithFloats text (Ok flags)

-- The last that was published is the merge of all sources, with the metadata of these documents. Desks, where there are some, are shown what is known of them.
abbrev pub ArePublished : SourceList → List (List ℕ) → Bool → List Flags → Option Source → Type 0
ArePublished sources texts desks published shown =
    (front : List Flags) × (flags : Flags) × (published ≡ front ++ flags ∷ []) × AreMerged sources flags × AreDescribed texts flags × AreShown desks texts flags published shown

-- The merge of all sources, with the metadata of these documents, is published behind all others, and desks, where there are some, are shown what is known of them; or nothing is.
abbrev pub Publishes : SourceList → List (List ℕ) → Bool → List Flags → List Flags → Option Source → Option Source → Type 0
Publishes sources texts desks old new shown shown' =
    ((new ≡ old) × (shown' ≡ shown)) ⊎ ((flags : Flags) × (new ≡ old ++ flags ∷ []) × AreMerged sources flags × AreDescribed texts flags × AreShown desks texts flags new shown')

-- These flags alone are published: the merge of all sources, with the metadata of these documents. This is what desks are to be shown, where there are some.
abbrev pub AreBegun : SourceList → List (List ℕ) → Bool → List Flags → Option program.DocumentTexts → Type 0
AreBegun sources texts desks published prepared = (flags : Flags) × (published ≡ flags ∷ []) × AreMerged sources flags × AreDescribed texts flags × ArePrepared desks texts flags prepared

-- some merges behind these, of documents that may have floats, the last of which is given, and is that of the sources as they then are; or the refusal of one
abbrev pub GivesMore : SourceList → SourceList → List (List ℕ) → List Definitions → Result Flags Refusal → Type 0
GivesMore sources next texts merges (Ok flags) = (front : List Definitions) × Gives true sources texts merges (Ok (front ++ flags_view flags ∷ [])) × AreMerged next flags
GivesMore sources next texts merges (Err refusal) = Gives true sources texts merges (Err refusal)
