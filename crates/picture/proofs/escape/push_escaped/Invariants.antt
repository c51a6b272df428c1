use Rattle.std.proofs.Common.{◌≡◌, ◌++◌, List, ℕ, IsUtf8, string_bytes}
use Rattle.std.specs.Str.Iter.{chars_rest}
use Rattle.picture.specs.Escape.{escaped}
use Rattle.picture.proofs.escape.push_escaped.Given as goal

-- what was added, and the rest to be added, are the whole
abbrev pub invariant-loop-c : goal.invariant-loop-c
invariant-loop-c l =
    IsUtf8 (chars_rest l.c-iterator) × ((added : List ℕ) × (string_bytes l.out ≡ string_bytes l.fn.out ++ added) × (added ++ escaped (chars_rest l.c-iterator) ≡ escaped l.fn.text))
