-- Numbers that stand for names, and prices that are looked up by them.
use Rattle.std.specs.Prelude.{◌≡◌, ℕ, ◌<◌, ◌==◌, Bool, not, ◌&&◌, List, length, map, if◌then◌else◌, Option, Some, is_some, option_map, option_and_then, unwrap_or, slice_get, slice_index}
use Rattle.std.specs.HashMap.{HashMap, get_by}
use Rattle.std.specs.Map.{lookup}
use Rattle.std.specs.Str.{bytes_eq}
use denote.Ref.{Bor}
use Rattle.bucket_core.specs.Rule.{Entries, entry_name}
use Rattle.price_core.specs.Pricing.{Pair, Pricing, is_same_pair, price_of, is_forbidden}

-- names, each with a number
abbrev pub Numbers : Type 0
Numbers = List (List ℕ × ℕ)

-- a name of the program with its number, without where it lies in memory
abbrev pub number_view : Bor (List ℕ) × ℕ → List ℕ × ℕ
number_view e = (e.0.now, e.1)

-- the same of a list of names
abbrev pub numbers_view : List (Bor (List ℕ) × ℕ) → Numbers
numbers_view es = map number_view es

-- the number of a name
abbrev pub number_of : Numbers → List ℕ → Option ℕ
number_of ns name = lookup (bytes_eq name) ns

-- the numbers of two names, if both have one
abbrev pub pair_of_numbers : Numbers → Pair → Option (ℕ × ℕ)
pair_of_numbers ns p = option_and_then (λ a. option_map (λ b. (a, b)) (number_of ns p.1)) (number_of ns p.0)

-- No two names have one number, and there are more names than the greatest number says.
pub record IsNumbering (ns : Numbers) : Type 0 where
  pub apart : (x y : List ℕ) (n : ℕ) → number_of ns x ≡ Some n → number_of ns y ≡ Some n → x ≡ y
  pub below : (x : List ℕ) (n : ℕ) → number_of ns x ≡ Some n → n < length ns

-- what had a number has the same one
abbrev pub Keeps : Numbers → Numbers → Type 0
Keeps before after = (name : List ℕ) (n : ℕ) → number_of before name ≡ Some n → number_of after name ≡ Some n

-- the numbers of the first names
abbrev pub AreFirstNumbers : Numbers → List (List ℕ) → List ℕ → Type 0
AreFirstNumbers ns names numbers = (i : ℕ) (name : List ℕ) → i < length numbers → slice_get names i ≡ Some name → number_of ns name ≡ slice_get numbers i

-- the number of each name
pub record AreNamesNumbers (ns : Numbers) (names : List (List ℕ)) (numbers : List ℕ) : Type 0 where
  pub as_many : length numbers ≡ length names
  pub firsts : AreFirstNumbers ns names numbers

-- the number of each entry's name
pub record AreNumbersOf (ns : Numbers) (r : Entries) (numbers : List ℕ) : Type 0 where
  pub as_many : length numbers ≡ length r
  pub each : (i : ℕ) (name : List ℕ) → i < length numbers → entry_name r i ≡ Some name → number_of ns name ≡ slice_get numbers i

-- whether the key is this pair of numbers
abbrev pub is_between : ℕ → ℕ → ℕ × ℕ → Bool
is_between a b q = (a == q.0) && (b == q.1)

-- at each pair of numbers what the list has at the two names
abbrev pub AreBetween : {X S : Type 0} → Numbers → List (Pair × X) → HashMap (ℕ × ℕ) X S → Type 0
AreBetween ns entries found = (x y : List ℕ) (a b : ℕ) → number_of ns x ≡ Some a → number_of ns y ≡ Some b → get_by (is_between a b) found ≡ lookup (is_same_pair (x, y)) entries

-- the price of a change from one number to another: 0 where they are equal, else its own or the usual one
abbrev pub price_between : {S : Type 0} → ℕ → HashMap (ℕ × ℕ) ℕ S → ℕ → ℕ → ℕ
price_between usual prices a b = if a == b then 0 else unwrap_or (get_by (is_between a b) prices) usual

-- whether a change from one number to another is forbidden: never where they are equal
abbrev pub is_barred_between : {S : Type 0} → HashMap (ℕ × ℕ) (Unit {0}) S → ℕ → ℕ → Bool
is_barred_between barred a b = not (a == b) && is_some (get_by (is_between a b) barred)

-- The numbers of the entries of two rules price and forbid each change as their names do.
pub record IsSwitching {S : Type 0} (old new : Entries) (pricing : Pricing) (froms tos : List ℕ) (prices : HashMap (ℕ × ℕ) ℕ S) (barred : HashMap (ℕ × ℕ) (Unit {0}) S) : Type 0 where
  pub old_many : length froms ≡ length old
  pub new_many : length tos ≡ length new
  pub priced : (i j : ℕ) (x y : List ℕ) → entry_name old i ≡ Some x → entry_name new j ≡ Some y → price_between pricing.usual prices (slice_index froms i) (slice_index tos j) ≡ price_of pricing x y
  pub forbids : (i j : ℕ) (x y : List ℕ) → entry_name old i ≡ Some x → entry_name new j ≡ Some y → is_barred_between barred (slice_index froms i) (slice_index tos j) ≡ is_forbidden pricing x y
