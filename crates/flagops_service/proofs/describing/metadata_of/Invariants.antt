use Rattle.std.proofs.Common.{◌≡◌, ◌++◌, drop, map}
use Rattle.flag_metadata.specs.Document.{document_of}
use Rattle.flag_metadata.specs.View.{metadata_view}
use Rattle.flagops_streams.specs.Documents.{texts_of}
use Rattle.flagops_service.proofs.describing.metadata_of.Given as goal

-- that of the documents so far, and that of the others behind it, is that of all
abbrev pub invariant-loop-text : goal.invariant-loop-text
invariant-loop-text l = metadata_view l.metadata ++ map document_of (texts_of (drop l.text-index l.texts)) ≡ map document_of (texts_of l.texts)
