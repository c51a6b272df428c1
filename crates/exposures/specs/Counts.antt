-- How many inputs fall on each point.
use Rattle.std.specs.Prelude.{ℕ, ◌==◌, List, map, count_by}
use Rattle.std.specs.List.{range_with_len}
use Rattle.bucket_core.specs.Point.{point_of}
use Rattle.exposures.specs.Exposure.{Inputs}

-- how many of the inputs fall on this one of so many points
abbrev pub inputs_at : Inputs → ℕ → ℕ → ℕ
inputs_at inputs total p = count_by (λ input. point_of total input == p) inputs

-- the same for each point, from 0 to the total
abbrev pub counts_of : Inputs → ℕ → List ℕ
counts_of inputs total = map (inputs_at inputs total) (range_with_len 0 total)
