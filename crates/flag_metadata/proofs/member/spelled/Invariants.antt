use Rattle.std.proofs.Common.{◌≡◌, ◌++◌, drop, option_map}
use Rattle.json.specs.Value.{members_view}
use Rattle.flag_metadata.specs.Spelled.{Entries, spelled}
use Rattle.flag_metadata.specs.View.{entries_view}
use Rattle.flag_metadata.proofs.member.spelled.Given as goal

abbrev pub invariant-loop-name : goal.invariant-loop-name
invariant-loop-name l = option_map (λ (es : Entries). entries_view l.found.items ++ es) (spelled (members_view (drop l.name-index l.name-items))) ≡ spelled (members_view l.name-items)
