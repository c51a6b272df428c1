-- Documents without members.
use Rattle.std.proofs.Common.{◌≡◌, ℕ, List, [], ◌∷◌, ◌++◌, Option, Some, None, fold, refl, ap, ap₂, ◌∙◌}
use Rattle.std.specs.Map.{lookup}
use Rattle.std.specs.Prelude.{IfSome}
use Rattle.std.specs.Str.{bytes_eq}
use Rattle.std.proofs.lemmas.List.Elements.{All-head, All-tail}
use Rattle.std.proofs.lemmas.Map.Entries.{All-lookup}
use Rattle.flag_metadata.specs.Document.{Described}
use Rattle.flag_metadata.specs.Law.{AreBare, BareDocumentsHaveNoMetadata, IsBare}
use Rattle.flag_metadata.specs.Merged.{all_entries, entries_of, flag_metadata, if_entries, if_flag, merged_metadata, metadata_text}
use Rattle.flag_metadata.specs.Spelled.{Entries, by_name}

none_of_flag : (d : Described) (own : Option Entries) → d.document ≡ [] → IfSome own (λ es. es ≡ []) → if_flag [] d own ≡ []
none_of_flag d None bare each = refl
none_of_flag d (Some own) bare each = ap₂ (λ (xs ys : Entries). xs ++ ys) bare each

none_of_flags : (key : List ℕ) (ds : List Described) → AreBare ds → entries_of ds key ≡ []
none_of_flags key [] bare = refl
none_of_flags key (d ∷ ds) bare =
    let here = All-head IsBare d ds bare in
    let own = All-lookup (λ (es : Entries). es ≡ []) (bytes_eq key) d.flags here.1 in
    ap (λ (found : Entries). fold (λ (found : Entries) (e : Described). if_flag found e (lookup (bytes_eq key) e.flags)) found ds) (none_of_flag d (lookup (bytes_eq key) d.flags) here.0 own)
    ∙ none_of_flags key ds (All-tail IsBare d ds bare)

none_of_all : (ds : List Described) → AreBare ds → all_entries ds ≡ []
none_of_all [] bare = refl
none_of_all (d ∷ ds) bare = ap₂ (λ (xs ys : Entries). xs ++ ys) (All-head IsBare d ds bare).0 (none_of_all ds (All-tail IsBare d ds bare))

pub no_metadata : BareDocumentsHaveNoMetadata
unfolding flag_metadata merged_metadata
no_metadata ds bare = ((λ key. ap metadata_text (none_of_flags key ds bare)), ap (λ (es : Entries). if_entries (by_name es)) (none_of_all ds bare))
