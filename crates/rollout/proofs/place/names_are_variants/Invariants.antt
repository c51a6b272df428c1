use Rattle.std.proofs.Common.{◌≡◌, drop}
use Rattle.bucket_core.specs.Rule.{entries_view}
use Rattle.flag_defs.specs.Flag.{flag_view}
use Rattle.rollout.specs.Lawful.{names_are_variants}
use Rattle.rollout.proofs.place.names_are_variants.Given as goal

abbrev pub invariant-loop-name : goal.invariant-loop-name
invariant-loop-name l = names_are_variants (flag_view l.flag) (entries_view (drop l.name-index l.entries)) ≡ names_are_variants (flag_view l.flag) (entries_view l.entries)
