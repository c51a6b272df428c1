use Rattle.std.proofs.Common.{◌≡◌, ◌+◌, List, [], ◌∷◌, ◌++◌, drop, length, true}
use Rattle.flag_defs.specs.Document.{Definitions}
use Rattle.flag_defs.specs.Flags.{flags_view}
use Rattle.source_merge.specs.View.{sources_view}
use Rattle.flagops_streams.specs.Documents.{Answer, Gives, texts_of}
use Rattle.flagops_service.specs.Merging.{AreMerged}
use Rattle.flagops_service.proofs.merging.merge_others.Given as goal

-- what the documents left give behind some merges is what all of them give
abbrev pub invariant-loop-text : goal.invariant-loop-text
invariant-loop-text l =
    (l.number ≡ l.text-index + 1)
    × AreMerged (sources_view l.sources) l.flags
    × ((front : List Definitions) × (length (front ++ flags_view l.flags ∷ []) ≡ l.number)
    × ((answer : Answer) → Gives true (sources_view l.sources) (texts_of (drop l.text-index l.texts)) (front ++ flags_view l.flags ∷ []) answer
    → Gives true (sources_view l.fn.sources) (texts_of l.texts) (flags_view l.fn.first ∷ []) answer))
