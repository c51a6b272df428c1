use Rattle.std.proofs.Common.{◌≡◌, take, map, string_bytes}
use Rattle.source_merge.specs.View.{sources_view}
use Rattle.snap_core.specs.Opening.{sources_named}
use Rattle.snap_core.proofs.names.sources_of.Given as goal

abbrev pub invariant-loop-name : goal.invariant-loop-name
invariant-loop-name l = sources_view l.sources ≡ sources_named (map string_bytes (take l.name-index l.names))
