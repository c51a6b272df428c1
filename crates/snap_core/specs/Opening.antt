-- The state in which a service opens.
use Rattle.std.specs.Prelude.{ℕ, List, [], ◌∷◌, length, map, Bool, false, ◌||◌, if◌then◌else◌, nat_lt, nat_eq, Option, Some, None}
use Rattle.std.specs.List.{list_any}
use Rattle.std.specs.Str.{bytes_eq}
use Rattle.limits.specs.Limits as limit
use Rattle.source_merge.specs.Sources.{SourceList, most_sources}
use Rattle.snap_core.specs.World.{State}
use Rattle.snap_core.specs.declared.fault.WorldFault.{WorldFault}
use Rattle.snap_core.specs.declared.fault.WorldFault.TheVariants.{Known, TooMany, NoSeats, TooManySeats}

-- sources of these names, without documents
abbrev pub sources_named : List (List ℕ) → SourceList
sources_named names = map (λ name. (name, None)) names

-- a name stands twice
abbrev pub has_double : List (List ℕ) → Bool
has_double [] = false
has_double (name ∷ names) = list_any (bytes_eq name) names || has_double names

abbrev pub most_seats : ℕ
most_seats = limit.seats

-- nothing is published, nobody has joined, nothing is noted
abbrev pub opening : List (List ℕ) → ℕ → State
opening names seats = record { sources = sources_named names; published = []; members = []; next = 0; calls = []; seats = seats; is_sealed = false }

-- the first refusal; None where a service may open
abbrev pub first_refusal : List (List ℕ) → ℕ → Option WorldFault
first_refusal names seats =
    if has_double names then Some Known else
    (if nat_lt most_sources (length names) then Some TooMany else
    (if nat_eq seats 0 then Some NoSeats else
    (if nat_lt most_seats seats then Some TooManySeats else None)))
