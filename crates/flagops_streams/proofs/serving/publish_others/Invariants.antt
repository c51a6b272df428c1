use Rattle.std.proofs.Common.{◌≡◌, ◌+◌, drop, length, map}
use Rattle.flag_defs.specs.Flags.{flags_view}
use Rattle.source_merge.specs.View.{sources_view}
use Rattle.flagops_streams.specs.Documents.{Answer, Gives, texts_of}
use Rattle.flagops_streams.proofs.serving.publish_others.Given as goal

-- what the documents left give behind all that was published is what all of them give
abbrev pub invariant-loop-text : goal.invariant-loop-text
invariant-loop-text g l =
    (l.number ≡ l.text-index + 1)
    × (length l.publisher ≡ l.number)
    × ((answer : Answer) → Gives l.floats (sources_view l.sources) (texts_of (drop l.text-index l.texts)) (map flags_view l.publisher) answer
    → Gives l.floats (sources_view l.fn.sources) (texts_of l.texts) (map flags_view l.fn.publisher) answer)
