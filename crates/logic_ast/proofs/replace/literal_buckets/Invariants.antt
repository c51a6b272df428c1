use Rattle.std.proofs.Common.{◌≡◌, ◌<◌, ◌++◌, ◌^◌, map}
use Rattle.bucket_core.specs.Rule.{total_weight}
use Rattle.logic_ast.specs.View.{bucket_view}
use Rattle.logic_ast.proofs.Replaced.{literal_of}
use Rattle.logic_ast.proofs.replace.literal_buckets.Given as goal

abbrev pub invariant-loop-name : goal.invariant-loop-name
invariant-loop-name l = record {
  can : (goal.iterator-loop-name).can_next l.name-iterator;
  ends_soon : (goal.iterator-loop-name).is_finite l.name-iterator;
  made : map bucket_view l.buckets.items ++ map literal_of l.name-iterator ≡ map literal_of l.rule;
  light : total_weight l.name-iterator < 2 ^ 31;
}
