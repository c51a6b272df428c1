use Rattle.std.proofs.Common.{◌≡◌}
use Rattle.flag_defs.specs.Flag.{flag_view}
use Rattle.rollout.specs.Lawful.{names_are_variants}
use Rattle.rollout.proofs.application.names_are_variants.Given as goal

-- the rest answers as the whole
abbrev pub invariant-loop-name : goal.invariant-loop-name
invariant-loop-name l = record {
  can : (goal.iterator-loop-name).can_next l.name-iterator;
  ends_soon : (goal.iterator-loop-name).is_finite l.name-iterator;
  rest : names_are_variants (flag_view l.flag) l.name-iterator ≡ names_are_variants (flag_view l.flag) l.rule;
}
