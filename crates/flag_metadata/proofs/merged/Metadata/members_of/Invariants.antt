use Rattle.std.proofs.Common.{◌≡◌, ◌++◌, drop, fold, map}
use Rattle.std.specs.Map.{lookup}
use Rattle.std.specs.Str.{bytes_eq}
use Rattle.flag_metadata.specs.Document.{Described}
use Rattle.flag_metadata.specs.Merged.{entries_of, if_flag}
use Rattle.flag_metadata.specs.Spelled.{Entries}
use Rattle.flag_metadata.specs.View.{document_view, entries_view}
use Rattle.flag_metadata.proofs.merged.Metadata.members_of.Given as goal

abbrev pub invariant-loop-document : goal.invariant-loop-document
invariant-loop-document l =
    fold (λ (found : Entries) (d : Described). if_flag found d (lookup (bytes_eq l.key) d.flags)) (entries_view l.found.0.now ++ entries_view l.found.1.now) (map document_view (drop l.document-index l.document-items))
    ≡ entries_of (map document_view l.document-items) l.key
