use Rattle.std.proofs.Common.{◌≡◌, ◌++◌, List, ℕ, IsUtf8, chars, string_bytes}
use Rattle.std.specs.Str.Iter.{chars_rest}
use Rattle.picture.specs.Escape.{begun}
use Rattle.picture.proofs.escape.push_start.Given as goal

-- what was added, and the rest to be added, are the whole
abbrev pub invariant-loop-c : goal.invariant-loop-c
invariant-loop-c l =
    IsUtf8 (chars_rest l.c-iterator) × ((added : List ℕ) × (string_bytes l.out ≡ string_bytes l.fn.out ++ added) × (added ++ begun l.left (chars (chars_rest l.c-iterator)) ≡ begun l.fn.most (chars l.fn.text)))
