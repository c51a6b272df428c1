-- How many lines were left out.
use Rattle.std.specs.Prelude.{ℕ, ◌+◌, ◌-◌, ◌^◌, Bool, true, false, min}

-- as far as 64 bits go
abbrev pub counted : ℕ → ℕ
counted n = min n (2 ^ 64 - 1)

-- so many of a service, and also those for which there was no room
abbrev pub left_out_after : Bool → ℕ → ℕ → ℕ → ℕ
left_out_after true count more old = counted (old + more)
left_out_after false count more old = counted (counted (old + more) + count)
