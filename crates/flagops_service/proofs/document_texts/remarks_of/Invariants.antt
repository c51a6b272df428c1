use Rattle.std.proofs.Common.{◌++◌, List, ℕ, drop, string_bytes}
use Rattle.flagops_streams.specs.Documents.{texts_of}
use Rattle.flagops_service.specs.Shown.{AreRemarks}
use Rattle.flagops_service.proofs.document_texts.remarks_of.Given as goal

-- with the lines of those that are left they are those of all
abbrev pub invariant-loop-text : goal.invariant-loop-text
invariant-loop-text l = (more : List ℕ) → AreRemarks (texts_of (drop l.text-index l.texts)) more → AreRemarks (texts_of l.texts) (string_bytes l.remarks ++ more)
