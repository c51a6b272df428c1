-- JSON texts whose whole numbers are spelled in any way, and whose other numbers keep their spelling (RFC 8259, section 6: `5`, `5.0`, `0.5e1` and `-0` are numbers; their value is decimal).
use Rattle.std.specs.Prelude.{ℕ, ◌==◌, ℤ, Bool, true, false, not, ◌&&◌, ◌||◌, nat_lt, nat_le, List, [], ◌∷◌, ◌++◌, length, drop, get_or, codes, is_some, if◌then◌else◌, Option, Some, None, Result, Ok, Err}
use Rattle.std.specs.Fmt.{signed_decimal}
use Rattle.std.specs.List.{list_all}
use Rattle.std.specs.Str.{is_utf8, bytes_eq}
use Rattle.std.specs.Str.Parse.{digits_value}
use Rattle.fast_float.specs.Text.{Parts, scan, point_at, whole_of, with_sign}
use Rattle.flag_text.specs.Reading.{if_json, json_of, max_levels}
use Rattle.flag_text.specs.Shape.{Shape, is_in_range}
use Rattle.flag_text.specs.declared.fault.TextFault.{TextFault}
use Rattle.flag_text.specs.declared.fault.TextFault.TheVariants.{NotJson, TooDeep, TooLarge}
use Rattle.spelled_numbers.specs.Levels.{sent_levels, without_spelling}

-- ---- one number

-- `0` to `9`
abbrev pub is_digit : ℕ → Bool
is_digit b = nat_le 48 b && nat_le b 57

-- a digit, or a minus
abbrev pub begins_number : ℕ → Bool
begins_number b = (b == 45) || is_digit b

-- one of those, or a plus, a point, `e` or `E`
abbrev pub continues_number : ℕ → Bool
continues_number b = begins_number b || ((b == 43) || ((b == 46) || ((b == 101) || (b == 69))))

-- so many bytes are a number of JSON without its sign: `05`, `5.` and `.5` are none
abbrev pub is_number : Parts → ℕ → Bool
is_number p n = (p.len == n) && (nat_lt 0 (length p.whole) && (((length p.whole == 1) || not (get_or p.whole 0 0 == 48)) && (not p.point || nat_lt 0 (length p.fraction))))

-- the digits behind the place of the point are worth nothing
abbrev pub is_whole_value : Parts → Bool
is_whole_value p = digits_value 10 (drop (point_at p) (p.whole ++ p.fraction)) == 0

abbrev pub in_range : ℤ → Option ℤ
in_range n = if is_in_range n then Some n else None

-- the value of a number without its sign, where it is whole and in range
abbrev pub value_of : Bool → List ℕ → Option ℤ
value_of negative digits = let p = scan digits in if is_number p (length digits) && is_whole_value p then in_range (with_sign negative (whole_of p)) else None

-- the same with its sign
abbrev pub signed_value_of : List ℕ → Option ℤ
signed_value_of [] = value_of false []
signed_value_of (b ∷ bs) = if b == 45 then value_of true bs else value_of false (b ∷ bs)

-- fewer bytes than any whole number beyond the range has, or a value in range
abbrev pub is_small : List ℕ → Bool
is_small run = nat_lt (length run) 16 || is_some (signed_value_of run)

-- it is spelled as whole numbers in range are: neither a fraction nor an exponent, and not `-0`
abbrev pub is_spelled_whole : List ℕ → Bool
is_spelled_whole run = not (bytes_eq run (codes "-0")) && (list_all begins_number run && is_small run)

-- the whole number that a run stands for, where it is spelled otherwise than whole numbers are
abbrev pub whole_number : List ℕ → Option ℤ
whole_number run = if is_spelled_whole run then None else signed_value_of run

abbrev pub is_unsigned_number : List ℕ → Bool
is_unsigned_number digits = is_number (scan digits) (length digits)

-- the bytes are a number of JSON
abbrev pub is_signed_number : List ℕ → Bool
is_signed_number [] = is_unsigned_number []
is_signed_number (b ∷ bs) = if b == 45 then is_unsigned_number bs else is_unsigned_number (b ∷ bs)

-- a number of JSON that is not spelled as whole numbers in range are
abbrev pub is_other_number : List ℕ → Bool
is_other_number run = not (is_spelled_whole run) && is_signed_number run

-- The object that stands for a number which is not whole: its one member is such a number, and is named by a point and the spelling. No other
-- object of a respelled text has such a member, since each number of it that is not whole stands in an object of its own; and no path leads
-- to the member, since the names of a path have no points.
abbrev pub number_object : List ℕ → List ℕ
number_object run = codes "{\"." ++ (run ++ codes "\":0.5}")

abbrev pub spelled_as : List ℕ → Option ℤ → List ℕ
spelled_as run None = if is_other_number run then number_object run else run
spelled_as run (Some n) = signed_decimal n

-- Its value as whole numbers are spelled, where it is whole and in range; another number as the object that stands for it.
abbrev pub spelled : List ℕ → List ℕ
spelled run = spelled_as run (whole_number run)

-- ---- the numbers of a text

-- where a byte stands: outside of quoted texts and numbers, in a quoted text, after a backslash there, or after these bytes of a number
pub data Standing : Type 0 where
  between : Standing
  in_text : Standing
  in_escape : Standing
  in_number : List ℕ → Standing

-- where the byte stands after one that is outside of quoted texts and numbers, and after one that is in a quoted text
abbrev pub after : ℕ → Standing
after b = if b == 34 then in_text else between

abbrev pub after_in_text : ℕ → Standing
after_in_text b = if b == 34 then between else (if b == 92 then in_escape else in_text)

-- a byte outside of quoted texts and numbers, and the rest by where it stands
abbrev pub begun : ℕ → (Standing → List ℕ) → List ℕ
begun b rest = if begins_number b then rest (in_number (b ∷ [])) else b ∷ rest (after b)

-- the rest of a text, each of its numbers spelled as a whole one where it is whole, and as an object where it is not
abbrev pub respelled_from : Standing → List ℕ → List ℕ
respelled_from between [] = []
respelled_from in_text [] = []
respelled_from in_escape [] = []
respelled_from (in_number run) [] = spelled run
respelled_from between (b ∷ bs) = begun b (λ s. respelled_from s bs)
respelled_from in_text (b ∷ bs) = b ∷ respelled_from (after_in_text b) bs
respelled_from in_escape (b ∷ bs) = b ∷ respelled_from in_text bs
respelled_from (in_number run) (b ∷ bs) = if continues_number b then respelled_from (in_number (run ++ b ∷ [])) bs else spelled run ++ begun b (λ s. respelled_from s bs)

abbrev pub respelled : List ℕ → List ℕ
respelled text = respelled_from between text

-- a byte outside of quoted texts and numbers, by where the one after it stands
abbrev pub entered : ℕ → (Standing → Bool) → Bool
entered b rest = if begins_number b then rest (in_number (b ∷ [])) else rest (after b)

-- each number of the rest of a text is spelled as whole ones in range are
abbrev pub are_whole_from : Standing → List ℕ → Bool
are_whole_from between [] = true
are_whole_from in_text [] = true
are_whole_from in_escape [] = true
are_whole_from (in_number run) [] = is_spelled_whole run
are_whole_from between (b ∷ bs) = entered b (λ s. are_whole_from s bs)
are_whole_from in_text (b ∷ bs) = are_whole_from (after_in_text b) bs
are_whole_from in_escape (b ∷ bs) = are_whole_from in_text bs
are_whole_from (in_number run) (b ∷ bs) = if continues_number b then are_whole_from (in_number (run ++ b ∷ [])) bs else is_spelled_whole run && entered b (λ s. are_whole_from s bs)

-- each number of a text is
abbrev pub are_spelled_whole : List ℕ → Bool
are_spelled_whole text = are_whole_from between text

-- ---- the tree of a text

-- the tree that the bytes stand for, in which a number that is not whole is the object that stands for it
abbrev pub sent_of : List ℕ → ℕ → Result Shape TextFault
sent_of bytes limit = if nat_lt limit (length bytes) then Err TooLarge else (if is_utf8 bytes then if_json (json_of (respelled bytes)) else Err NotJson)

-- the same where it is no deeper than a context may be; a number that is not whole is no object there
abbrev pub if_shallow : Result Shape TextFault → Result Shape TextFault
if_shallow (Ok t) = if nat_lt max_levels (sent_levels t) then Err TooDeep else Ok (without_spelling t)
if_shallow (Err e) = Err e

abbrev pub sent_tree_of : List ℕ → ℕ → Result Shape TextFault
sent_tree_of bytes limit = if_shallow (sent_of bytes limit)
