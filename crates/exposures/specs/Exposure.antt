-- The inputs that reached a `fractional` operation (https://flagd.dev/reference/custom-operations/fractional-operation/).
use Rattle.std.specs.Prelude.{ℕ, ◌≤◌, List, length}
use Rattle.std.specs.declared.cmp.Ordering.{Ordering}
use Rattle.std.specs.Ordering.{nat_cmp}
use Rattle.std.specs.Cmp.Lexicographic.{slice_cmp}
use Rattle.std.specs.List.{AllByRecursion}
use Rattle.std.specs.List.Sorted.{IsStrictlySortedBy}
use Rattle.limits.specs.Limits.{page_inputs, input_bytes}

-- texts, each once, in order
abbrev pub Inputs : Type 0
Inputs = List (List ℕ)

-- texts in the order of their bytes
abbrev pub bytes_cmp : List ℕ → List ℕ → Ordering
bytes_cmp = slice_cmp nat_cmp

-- the most inputs that a page of a book takes
abbrev pub most_inputs : ℕ
most_inputs = page_inputs

-- the most bytes that an input has
abbrev pub most_bytes : ℕ
most_bytes = input_bytes

-- no more inputs than a page takes, none of them too long, in strictly rising order
pub record IsExposure (inputs : Inputs) : Type 0 where
  pub few : length inputs ≤ most_inputs
  pub short : AllByRecursion (λ input. length input ≤ most_bytes) inputs
  pub rising : IsStrictlySortedBy bytes_cmp inputs
