-- Documents that say nothing of themselves.
use Rattle.std.specs.Prelude.{◌≡◌, ℕ, List, [], codes, None}
use Rattle.std.specs.List.{All}
use Rattle.flag_metadata.specs.Document.{Described}
use Rattle.flag_metadata.specs.Merged.{flag_metadata, merged_metadata}

-- neither the document nor a flag of it has a member
abbrev pub IsBare : Described → Type 0
IsBare d = (d.document ≡ []) × All (λ f. f.1 ≡ []) d.flags

abbrev pub AreBare : List Described → Type 0
AreBare ds = All IsBare ds

-- Each flag of such documents is answered with an empty object, and there is no metadata of all.
abbrev pub BareDocumentsHaveNoMetadata : Type 0
BareDocumentsHaveNoMetadata = (ds : List Described) → AreBare ds → ((key : List ℕ) → flag_metadata ds key ≡ codes "{}") × (merged_metadata ds ≡ None)
