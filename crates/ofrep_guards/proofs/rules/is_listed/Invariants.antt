use Rattle.std.proofs.Common.{◌≡◌, drop, map, string_bytes}
use Rattle.std.specs.List.{list_any}
use Rattle.ofrep_guards.specs.Asked.{is_named}
use Rattle.ofrep_guards.proofs.rules.is_listed.Given as goal

-- one of those that are left is it where one of all is
abbrev pub invariant-loop-entry : goal.invariant-loop-entry
invariant-loop-entry l = list_any (is_named l.origin) (map string_bytes (drop l.entry-index l.listed)) ≡ list_any (is_named l.origin) (map string_bytes l.listed)
