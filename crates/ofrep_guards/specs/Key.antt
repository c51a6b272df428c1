-- Keys of clients: a file of them, a line for each; and how a request shows one (RFC 6750, 2.1: Bearer; RFC 9110, 11.1 and 11.6.2: schemes of authentication, Authorization).
use Rattle.std.specs.Prelude.{ℕ, ◌==◌, Bool, false, not, ◌&&◌, List, codes, length, map, take, drop, nat_lt, string_bytes, Option, Some, None, Result, Ok, Err, if◌then◌else◌}
use Rattle.std.specs.List.{list_any, position_from}
use Rattle.std.specs.Str.{bytes_eq, is_utf8}
use Rattle.std.specs.Str.Lines.{lines}
use Rattle.std.specs.Char.{to_ascii_lowercase}
use Rattle.ofrep_guards.specs.declared.key.KeyFault.{KeyFault}
use Rattle.ofrep_guards.specs.declared.key.KeyFault.TheVariants.{NoKey, TooLarge, BadKey}
use Rattle.ofrep_guards.specs.KeyLine.{is_key}
use Rattle.ofrep_guards.specs.declared.keys.Keys.{Keys}

-- the most bytes of a file of keys
abbrev pub max_key_bytes : ℕ
max_key_bytes = 65536

-- the place, from 0, of the first line that is no key
abbrev pub bad_line : List (List ℕ) → Option ℕ
bad_line keys = position_from (λ line. not (is_key line)) 0 keys

-- these lines are the keys, unless one is none
abbrev pub keys_unless : List (List ℕ) → Option ℕ → Result (List (List ℕ)) KeyFault
keys_unless keys None = Ok keys
keys_unless keys (Some at) = Err (BadKey (Some at))

-- the lines of a text, of which each is a key
abbrev pub keys_in : List ℕ → Result (List (List ℕ)) KeyFault
keys_in bytes = if is_utf8 bytes then keys_unless (lines bytes) (bad_line (lines bytes)) else Err (BadKey None)

-- the keys of a file
abbrev pub keys_of : List ℕ → Result (List (List ℕ)) KeyFault
keys_of bytes =
    if length bytes == 0 then Err NoKey else
    (if nat_lt max_key_bytes (length bytes) then Err TooLarge else keys_in bytes)

-- those that are held
abbrev pub keys_view : Keys → List (List ℕ)
keys_view keys = lines (string_bytes keys.text)

-- ---- what a request shows

-- one of the keys
abbrev pub is_among : List (List ℕ) → List ℕ → Bool
is_among keys key = list_any (λ line. bytes_eq line key) keys

-- the name of the scheme, in any case of letters, and a space
abbrev pub is_bearer : List ℕ → Bool
is_bearer scheme = bytes_eq (map to_ascii_lowercase scheme) (codes "bearer ")

-- the value of a field Authorization shows one of the keys
abbrev pub bears : List (List ℕ) → List ℕ → Bool
bears keys value = is_bearer (take 7 value) && is_among keys (drop 7 value)

-- there is a value, and it passes
abbrev pub passes : (List ℕ → Bool) → Option (List ℕ) → Bool
passes test None = false
passes test (Some value) = test value
