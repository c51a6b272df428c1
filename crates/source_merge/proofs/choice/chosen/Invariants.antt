use Rattle.std.proofs.Common.{◌≡◌, fold}
use Rattle.flag_defs.specs.Changes.{by_key, with_entry}
use Rattle.flag_defs.specs.Floats.{lent_floats}
use Rattle.flag_defs.specs.Lent.{lent_view}
use Rattle.source_merge.specs.Floats.{entries_floats, merged_marks, with_mark}
use Rattle.source_merge.specs.Merge.{all_entries}
use Rattle.source_merge.specs.Sources.{entries_view}
use Rattle.source_merge.proofs.Lent.{document_entries, document_marks}
use Rattle.source_merge.proofs.choice.chosen.Given as goal

abbrev pub invariant-loop-document : goal.invariant-loop-document
invariant-loop-document l =
    (fold with_entry (lent_view l.chosen.entries) (document_entries l.document-iterator) ≡ by_key (all_entries (entries_view l.documents.entries)))
    × (fold with_mark (lent_floats l.chosen.entries) (document_marks l.document-iterator) ≡ merged_marks (entries_floats l.documents.entries))
