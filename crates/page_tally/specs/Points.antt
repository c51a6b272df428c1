-- The points on which inputs fall, and counts at points.
use Rattle.std.specs.Prelude.{ℕ, ◌+◌, List, [], ◌∷◌, map, set, get_or, Option, None, Some}
use Rattle.bucket_core.specs.Point.{point_of}
use Rattle.book_core.specs.Book.{Inputs}

-- the point of each input among so many points, where inputs are counted
abbrev pub points_if : Option ℕ → Inputs → List ℕ
points_if None inputs = []
points_if (Some total) inputs = map (point_of total) inputs

-- one more at each of these points
abbrev pub with_points : List ℕ → List ℕ → List ℕ
with_points counts [] = counts
with_points counts (p ∷ points) = with_points (set counts p (get_or counts p 0 + 1)) points
