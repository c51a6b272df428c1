use Rattle.std.proofs.Common.{◌≡◌, take}
use Rattle.bucket_core.specs.Rule.{names_view}
use Rattle.bucket_core.proofs.names.copied.Given as goal

abbrev pub invariant-loop-name : goal.invariant-loop-name
invariant-loop-name l = names_view l.copies.items ≡ names_view (take l.name-index l.names)
