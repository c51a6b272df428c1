-- The metadata that flags were given, which is no part of what they are.
use Rattle.std.specs.Prelude.{List}
use Rattle.flag_defs.specs.declared.flags.Flags.{Flags}
use Rattle.flag_metadata.specs.Document.{Described}
use Rattle.flag_metadata.specs.View.{metadata_view}

abbrev pub described_by : Flags → List Described
described_by fs = metadata_view fs.metadata
