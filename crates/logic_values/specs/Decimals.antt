-- Decimals: the numbers of a context that are not whole, and how they compare, by their exact values (RFC 8259, section 6; JsonLogic: `==`, `===`, `<`, `<=`).
use Rattle.std.specs.Prelude.{ℕ, ◌==◌, ℤ, Bool, true, false, ◌&&◌, ◌||◌, List, [], ◌∷◌, is_some, if◌then◌else◌, Option, Some, None, Result, Ok, Err}
use Rattle.std.specs.Fmt.{signed_decimal}
use Rattle.std.specs.Ordering.{int_cmp}
use Rattle.std.specs.declared.cmp.Ordering.{Ordering}
use Rattle.std.specs.declared.cmp.Ordering.TheVariants.{Less, Equal}
use Rattle.logic_values.specs.Decimal.{Number, read, read_text, units}
use Rattle.logic_values.specs.declared.decimal_fault.DecimalFault.{DecimalFault}
use Rattle.logic_values.specs.declared.decimal_fault.DecimalFault.TheVariants.{NotDecimal, OutOfRange}
use Rattle.flag_text.specs.Shape.{Shape, boolean, whole, other, text, object, Members, no_members, member}
use Rattle.logic_values.specs.Comparison.{is_same, is_equal, is_less, is_at_most}
use Rattle.logic_values.specs.Number.{truth_number}
use Rattle.logic_values.specs.declared.fault.EvalFault.{EvalFault}
use Rattle.logic_values.specs.declared.fault.EvalFault.TheVariants.{Arithmetic}

-- ---- how a context has them

abbrev pub behind_point : List ℕ → Option (List ℕ)
behind_point [] = None
behind_point (b ∷ bs) = if b == 46 then Some bs else None

-- The spelling of a decimal: a context has the decimal as an object whose one member is a number that is not whole, and is named by a point and
-- the spelling.
abbrev pub spelling_in : Members → Option (List ℕ)
spelling_in (member name other no_members) = behind_point name
spelling_in ms = None

abbrev pub spelling_of : Shape → Option (List ℕ)
spelling_of (object ms) = spelling_in ms
spelling_of t = None

abbrev pub is_decimal : Shape → Bool
is_decimal t = is_some (spelling_of t)

-- ---- exact values

-- a number that was read; a text that spells none has none, and one beyond the limits of exact numbers is a fault
abbrev pub if_exact : Result Number DecimalFault → Result (Option Number) EvalFault
if_exact (Ok n) = Ok (Some n)
if_exact (Err NotDecimal) = Ok None
if_exact (Err OutOfRange) = Err Arithmetic

abbrev pub whole_value : ℤ → Result (Option Number) EvalFault
whole_value n = if_exact (read (signed_decimal n))

abbrev pub spelled_value : Option (List ℕ) → Result (Option Number) EvalFault
spelled_value None = Ok None
spelled_value (Some s) = if_exact (read s)

-- the value of a whole number, of a boolean, which counts as 0 or 1, of a text of digits and perhaps a point, and of a decimal
abbrev pub exact_value : Shape → Result (Option Number) EvalFault
exact_value (whole n) = whole_value n
exact_value (boolean b) = whole_value (truth_number b)
exact_value (text s) = if_exact (read_text s)
exact_value t = spelled_value (spelling_of t)

abbrev pub has_value : Result (Option Number) EvalFault → Bool
has_value (Ok (Some n)) = true
has_value r = false

-- a decimal within the limits of exact numbers
abbrev pub is_readable : Shape → Bool
is_readable t = has_value (spelled_value (spelling_of t))

-- ---- comparison

abbrev pub order_between : Result (Option Number) EvalFault → Result (Option Number) EvalFault → Result (Option Ordering) EvalFault
order_between (Err e) b = Err e
order_between (Ok a) (Err e) = Err e
order_between (Ok None) (Ok b) = Ok None
order_between (Ok (Some m)) (Ok None) = Ok None
order_between (Ok (Some m)) (Ok (Some n)) = Ok (Some (int_cmp (units m) (units n)))

-- the order of two values, where both have one
abbrev pub order_of : Shape → Shape → Result (Option Ordering) EvalFault
order_of a b = order_between (exact_value a) (exact_value b)

abbrev pub passes : (Option Ordering → Bool) → Result (Option Ordering) EvalFault → Result Bool EvalFault
passes test (Ok o) = Ok (test o)
passes test (Err e) = Err e

abbrev pub is_before : Option Ordering → Bool
is_before (Some Less) = true
is_before o = false

abbrev pub is_not_behind : Option Ordering → Bool
is_not_behind (Some Less) = true
is_not_behind (Some Equal) = true
is_not_behind o = false

abbrev pub is_level : Option Ordering → Bool
is_level (Some Equal) = true
is_level o = false

-- `<`, where one of the two is a decimal by their exact values
abbrev pub less : Shape → Shape → Result Bool EvalFault
less a b = if is_decimal a || is_decimal b then passes is_before (order_of a b) else Ok (is_less a b)

-- `<=`
abbrev pub at_most : Shape → Shape → Result Bool EvalFault
at_most a b = if is_decimal a || is_decimal b then passes is_not_behind (order_of a b) else Ok (is_at_most a b)

-- `==`
abbrev pub equal : Shape → Shape → Result Bool EvalFault
equal a b = if is_decimal a || is_decimal b then passes is_level (order_of a b) else Ok (is_equal a b)

-- `===`: two decimals of one value; a decimal is nothing of another kind
abbrev pub same : Shape → Shape → Result Bool EvalFault
same a b = if is_decimal a && is_decimal b then passes is_level (order_of a b) else Ok (is_same a b)

-- the second where the first is true
abbrev pub and_then : Result Bool EvalFault → Result Bool EvalFault → Result Bool EvalFault
and_then (Ok true) r = r
and_then (Ok false) r = Ok false
and_then (Err e) r = Err e

-- each value stands so to the next
abbrev pub chain : (Shape → Shape → Result Bool EvalFault) → List Shape → Result Bool EvalFault
chain test [] = Ok true
chain test (a ∷ []) = Ok true
chain test (a ∷ b ∷ rest) = and_then (test a b) (chain test (b ∷ rest))
