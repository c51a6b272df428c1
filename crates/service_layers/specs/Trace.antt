-- The trace that a request belongs to (W3C Trace Context, 3.2: traceparent).
use Rattle.std.specs.Prelude.{ℕ, ◌==◌, Bool, not, ◌&&◌, ◌||◌, List, codes, length, take, drop, nat_le, nat_lt, Option, Some, None, if◌then◌else◌}
use Rattle.std.specs.List.{list_all}
use Rattle.std.specs.Str.{bytes_eq}

-- a digit of a hexadecimal number, in lower case
abbrev pub is_hex : ℕ → Bool
is_hex b = (nat_le 48 b && nat_le b 57) || (nat_le 97 b && nat_le b 102)

abbrev pub is_zero : ℕ → Bool
is_zero b = b == 48

-- an identifier is 32 such digits, and not all of them are 0
abbrev pub is_trace : List ℕ → Bool
is_trace id = list_all is_hex id && not (list_all is_zero id)

-- behind the version and a hyphen stand the identifier and a hyphen
abbrev pub is_placed : List ℕ → Bool
is_placed value = bytes_eq (take 1 (drop 2 value)) (codes "-") && bytes_eq (take 1 (drop 35 value)) (codes "-")

abbrev pub trace_at : List ℕ → Option (List ℕ)
trace_at value = if is_placed value && is_trace (take 32 (drop 3 value)) then Some (take 32 (drop 3 value)) else None

-- the identifier that the value of a field traceparent has, which is as long as all before it
abbrev pub trace_in : List ℕ → Option (List ℕ)
trace_in value = if nat_lt (length value) 36 then None else trace_at value
