use Rattle.std.proofs.Common.{◌≡◌, drop, fold, map}
use Rattle.flag_metadata.specs.Merged.{all_entries}
use Rattle.flag_metadata.specs.Spelled.{by_name, with_entry}
use Rattle.flag_metadata.specs.View.{document_view, lent_view}
use Rattle.flag_metadata.proofs.merged.Metadata.by_name.Given as goal

abbrev pub invariant-loop-document : goal.invariant-loop-document
invariant-loop-document l = fold with_entry (lent_view l.by_name.entries) (all_entries (map document_view (drop l.document-index l.document-items))) ≡ by_name (all_entries (map document_view l.document-items))
