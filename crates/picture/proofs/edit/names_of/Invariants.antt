use Rattle.std.proofs.Common.{◌≡◌, ◌++◌, map}
use Rattle.price_core.specs.Limits.{limits_view}
use Rattle.picture.specs.Edits.{names_of}
use Rattle.picture.proofs.edit.names_of.Given as goal

-- the names so far, and those that are left
abbrev pub invariant-loop-name : goal.invariant-loop-name
invariant-loop-name l = record {
  can : (goal.iterator-loop-name).can_next l.name-iterator;
  ends_soon : (goal.iterator-loop-name).is_finite l.name-iterator;
  all : limits_view l.names.items ++ map (λ e. (e.0, (0, 0))) l.name-iterator ≡ names_of l.old l.new;
}
