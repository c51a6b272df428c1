use Rattle.std.proofs.Common.{◌≡◌, drop, map}
use Rattle.flagops.specs.First.{has_option}
use Rattle.flagops.proofs.family.has_option.Given as goal

-- the rest answers as all
abbrev pub invariant-loop-word : goal.invariant-loop-word
invariant-loop-word g l = has_option l.option (map g.S.AsStr.text (drop l.word-index l.words)) ≡ has_option l.option (map g.S.AsStr.text l.words)
