use Rattle.std.proofs.Common.{◌≡◌, drop, map}
use Rattle.flagops.specs.First.{has_word}
use Rattle.flagops.proofs.family.has_word.Given as goal

-- the rest answers as all
abbrev pub invariant-loop-word : goal.invariant-loop-word
invariant-loop-word g l = has_word l.wanted (map g.S.AsStr.text (drop l.word-index l.words)) ≡ has_word l.wanted (map g.S.AsStr.text l.words)
