use Rattle.std.proofs.Common.{◌≡◌, drop, map}
use Rattle.std.specs.List.{list_all}
use Rattle.member_names.specs.Unread.{reads}
use Rattle.flag_doubts.proofs.definition.takes_each.Given as goal

abbrev pub invariant-loop-name : goal.invariant-loop-name
invariant-loop-name l = list_all (reads l.taker) (map (λ n. n.now) (drop l.name-index l.names)) ≡ list_all (reads l.taker) (map (λ n. n.now) l.names)
