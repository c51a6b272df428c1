-- What the program's sources are.
use Rattle.source_merge.specs.Sources.{SourceList, entries_view}
use Rattle.source_merge.specs.declared.sources.Sources.{Sources}

abbrev pub sources_view : Sources → SourceList
sources_view s = entries_view s.documents.entries
