use Rattle.std.proofs.Common.{◌≡◌, ℕ, List, map, false}
use Rattle.std.specs.Prelude.{unwrap_or}
use Rattle.std.specs.BTreeMap.{get_by_text}
use Rattle.spelled_numbers.specs.View.{mark_view}
use Rattle.flag_defs.specs.Floats.{mark_of}
use Rattle.flag_defs.proofs.marks.last_of_each.Given as goal

abbrev pub invariant-loop-mark : goal.invariant-loop-mark
invariant-loop-mark l = (key : List ℕ) → unwrap_or (get_by_text l.last key) false ≡ mark_of key (map mark_view l.yielded)
