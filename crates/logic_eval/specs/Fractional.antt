-- flagd: `fractional`.
use Rattle.std.specs.Prelude.{ℕ, ◌^◌, ◌==◌, List, [], ◌∷◌, nat_lt, if◌then◌else◌, Option, Some, None, option_map, option_and_then, Result, Ok, Err}
use Rattle.flag_text.specs.Shape.{Shape, null, text}
use Rattle.flag_text.specs.Readers.{as_text}
use Rattle.bucket_core.specs.Reading.{weight_of, bucket_with}
use Rattle.bucket_core.specs.Rule.{Entries, total_weight, choice}
use Rattle.logic_values.specs.declared.fault.EvalFault.{EvalFault}
use Rattle.logic_values.specs.declared.fault.EvalFault.TheVariants.{BadBuckets}
use Rattle.logic_eval.specs.Run.{reach, Run, ends, gives, faults, after, ◌>>=◌}
use Rattle.logic_values.specs.Text.{made}

-- the buckets of these names and weights; none where a name is no text or a weight is no whole number from 0 to 2^31-1
abbrev pub entries_of : List (Shape × Shape) → Option Entries
entries_of [] = Some []
entries_of (p ∷ ps) = option_and_then (λ e. option_map (λ es. e ∷ es) (entries_of ps)) (bucket_with (weight_of p.1) p.0)

-- and the total is at most 2^31-1
abbrev pub not_too_heavy : Entries → Option Entries
not_too_heavy r = if nat_lt (total_weight r) (2 ^ 31) then Some r else None

abbrev pub buckets_of : List (Shape × Shape) → Option Entries
buckets_of ps = option_and_then not_too_heavy (entries_of ps)

-- the name at the input's point
abbrev pub chosen : Option (List ℕ) → Run Shape
chosen None = gives null
chosen (Some name) = gives (text name)

-- the site is reached by this input
abbrev pub reached : ℕ → Entries → List ℕ → Run Shape
reached site r input = after (reach (record { site = site; input = input; total = total_weight r })) (chosen (choice r input))

-- no input, or no weight: null
abbrev pub by_input : ℕ → Option (Result (List ℕ) EvalFault) → Entries → Run Shape
by_input site None r = gives null
by_input site (Some input) r = if total_weight r == 0 then gives null else (ends input >>= reached site r)

-- The faults of the buckets come first, then null without an input or a weight, and only then the length of a made input.
abbrev pub by_buckets : ℕ → Option (Result (List ℕ) EvalFault) → Option Entries → Run Shape
by_buckets site input None = faults BadBuckets
by_buckets site input (Some r) = by_input site input r

-- the input that a bucketing expression gives: a text
abbrev pub given_input : Shape → Option (Result (List ℕ) EvalFault)
given_input v = option_map Ok (as_text v)

-- the input without a bucketing expression: a text that is made, where there is a targeting key
abbrev pub made_input : Option (List ℕ) → Option (Result (List ℕ) EvalFault)
made_input key = option_map made key

-- the site, its input and the values of its names and weights
abbrev pub decided : ℕ → Option (Result (List ℕ) EvalFault) → List (Shape × Shape) → Run Shape
decided site input ps = by_buckets site input (buckets_of ps)

-- the input where there is one, or the fault of making it
abbrev pub input_result : Option (Result (List ℕ) EvalFault) → Result (Option (List ℕ)) EvalFault
input_result None = Ok None
input_result (Some (Ok s)) = Ok (Some s)
input_result (Some (Err f)) = Err f
