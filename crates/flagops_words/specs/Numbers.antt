-- Numbers, as words of the command line.
use Rattle.std.specs.Prelude.{ℕ, List, Option, Some, None, if◌then◌else◌}
use Rattle.std.specs.Str.Parse.{digits_value, without_leading_plus}
use Rattle.clap.specs.ValueTests.{is_unsigned_in}

-- the number within these bounds that a word spells, as Rust reads a number
abbrev pub number_in : ℕ → ℕ → List ℕ → Option ℕ
number_in least most word = if is_unsigned_in least most word then Some (digits_value 10 (without_leading_plus word)) else None

-- the largest number of 32 bits
abbrev pub max_32 : ℕ
max_32 = 4294967295

-- the largest number of 16 bits
abbrev pub max_16 : ℕ
max_16 = 65535

-- the largest port
abbrev pub max_port : ℕ
max_port = 65535

-- the latest moment, 2^53-1
abbrev pub max_moment : ℕ
max_moment = 9007199254740991

-- the moment of a resolution
abbrev pub moment_in : List ℕ → Option ℕ
moment_in = number_in 0 max_moment

-- what the weights of a site's rule are multiplied by
abbrev pub factor_in : List ℕ → Option ℕ
factor_in = number_in 1 max_32
