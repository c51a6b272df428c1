use Rattle.std.proofs.Common.{◌≡◌, codes, string_bytes, take}
use Rattle.std.specs.List.{join_by}
use Rattle.file_diagnostics.specs.Named.{quoted}
use Rattle.file_diagnostics.proofs.listing.first_names.Given as goal

abbrev pub invariant-loop-place : goal.invariant-loop-place
invariant-loop-place g l = string_bytes l.text ≡ join_by quoted (codes ", ") (take l.place (g.L.NameList.names l.names))
