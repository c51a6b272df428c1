use Rattle.std.proofs.Common.{◌≡◌, drop, map, string_bytes}
use Rattle.std.specs.List.{list_any}
use Rattle.ofrep_guards.specs.Hosts.{is_same_host}
use Rattle.ofrep_guards.proofs.hosts.is_named.Given as goal

-- one of those that are left is it where one of all is
abbrev pub invariant-loop-name : goal.invariant-loop-name
invariant-loop-name l = list_any (is_same_host l.host) (map string_bytes (drop l.name-index l.named)) ≡ list_any (is_same_host l.host) (map string_bytes l.named)
