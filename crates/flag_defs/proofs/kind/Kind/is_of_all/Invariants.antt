use Rattle.std.proofs.Common.{◌≡◌, drop}
use Rattle.flag_text.specs.View.{members_view}
use Rattle.flag_defs.specs.Definition.{all_values}
use Rattle.flag_defs.specs.Kind.{is_of_kind}
use Rattle.flag_defs.proofs.kind.Kind.is_of_all.Given as goal

abbrev pub invariant-loop-value : goal.invariant-loop-value
invariant-loop-value l = all_values (is_of_kind l.self) (members_view (drop l.value-index l.variants)) ≡ all_values (is_of_kind l.self) (members_view l.variants)
