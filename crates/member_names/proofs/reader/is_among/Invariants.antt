use Rattle.std.proofs.Common.{◌≡◌, drop, map}
use Rattle.member_names.specs.Unread.{is_among}
use Rattle.member_names.proofs.reader.is_among.Given as goal

abbrev pub invariant-loop-known : goal.invariant-loop-known
invariant-loop-known l = is_among (map (λ n. n.now) (drop l.known-index l.names)) l.name ≡ is_among (map (λ n. n.now) l.names) l.name
