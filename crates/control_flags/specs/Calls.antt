-- What a request to a listener for operations asks of rollouts (RFC 9110, 9.1: methods; RFC 3986, 2.1: percent-encoding).
use denote.Ref.{Bor}
use Rattle.std.specs.Prelude.{ℕ, ◌==◌, Bool, List, length, take, drop, codes, Option, Some, None, Result, Ok, Err, if◌then◌else◌, option_and_then, option_map, string_bytes}
use Rattle.std.specs.List.{position}
use Rattle.std.specs.Str.{is_utf8, bytes_eq}
use Rattle.flag_text.specs.Reading.{tree_of}
use Rattle.flag_text.specs.Shape.{Shape}
use Rattle.flag_text.specs.declared.fault.TextFault.{TextFault}
use Rattle.book_core.specs.Reading.{site_of}
use Rattle.percent_encoding.specs.Percent.{percent_decode}
use Rattle.control_flags.specs.declared.place.ControlPlace.{ControlPlace}
use Rattle.control_flags.specs.declared.place.ControlPlace.TheVariants.{Console, Flags, Snapshot, Record, Plan, Check, Apply, History, Elsewhere}
use Rattle.control_flags.specs.declared.record.RecordAsked as program

-- ---- paths

abbrev pub place_of : List ℕ → ControlPlace
place_of path =
    if bytes_eq path (codes "/") then Console else
    (if bytes_eq path (codes "/flags") then Flags else
    (if bytes_eq path (codes "/snapshot") then Snapshot else
    (if bytes_eq path (codes "/record") then Record else
    (if bytes_eq path (codes "/plan") then Plan else
    (if bytes_eq path (codes "/check") then Check else
    (if bytes_eq path (codes "/apply") then Apply else
    (if bytes_eq path (codes "/history") then History else Elsewhere)))))))

-- the one method that a place takes, as the field Allow names it
abbrev pub method_at : ControlPlace → Option (List ℕ)
method_at Console = Some (codes "GET")
method_at Flags = Some (codes "GET")
method_at Snapshot = Some (codes "GET")
method_at Record = Some (codes "GET")
method_at History = Some (codes "GET")
method_at Plan = Some (codes "POST")
method_at Check = Some (codes "POST")
method_at Apply = Some (codes "POST")
method_at Elsewhere = None

-- ---- the query of a record: flag=KEY&site=N

-- the key and the number, as they are spelled
pub record Parts : Type 0 where
  pub key : List ℕ
  pub digits : List ℕ

-- what stands behind a beginning
abbrev pub behind : List ℕ → List ℕ → Option (List ℕ)
behind begin text = if bytes_eq (take (length begin) text) begin then Some (drop (length begin) text) else None

abbrev pub parts_at : List ℕ → ℕ → Option Parts
parts_at rest end = option_map (λ digits. record { key = take end rest; digits = digits }) (behind (codes "&site=") (drop end rest))

abbrev pub is_ampersand : ℕ → Bool
is_ampersand b = b == 38

-- the key ends at the first ampersand
abbrev pub parts_behind : List ℕ → Option Parts
parts_behind rest = option_and_then (parts_at rest) (position is_ampersand rest)

abbrev pub parts_of : List ℕ → Option Parts
parts_of query = option_and_then parts_behind (behind (codes "flag=") query)

-- a flag's key, and the number of a site
pub record RecordAsked : Type 0 where
  pub flag : List ℕ
  pub site : ℕ

-- the bytes that are spelled so, where they are UTF-8
abbrev pub text_of_bytes : List ℕ → Option (List ℕ)
text_of_bytes bytes = if is_utf8 bytes then Some bytes else None

abbrev pub text_in : List ℕ → Option (List ℕ)
text_in spelled = text_of_bytes (percent_decode spelled)

abbrev pub most_digits : ℕ
most_digits = 16

abbrev pub number_of : Result Shape TextFault → Option ℕ
number_of (Ok shape) = site_of shape
number_of (Err e) = None

-- a number of 32 bits, as JSON spells it
abbrev pub number_in : List ℕ → Option ℕ
number_in digits = number_of (tree_of digits most_digits)

abbrev pub both : Option (List ℕ) → Option ℕ → Option RecordAsked
both (Some flag) (Some site) = Some (record { flag = flag; site = site })
both flag site = None

abbrev pub asked_of : List ℕ → List ℕ → Option RecordAsked
asked_of key digits = both (text_in key) (number_in digits)

abbrev pub record_of : List ℕ → Option RecordAsked
record_of query = option_and_then (λ parts. asked_of parts.key parts.digits) (parts_of query)

-- ---- of the program

abbrev pub asked_view : program.RecordAsked → RecordAsked
asked_view a = record { flag = string_bytes a.flag; site = a.site }

abbrev pub parts_view : Bor (List ℕ) × Bor (List ℕ) → Parts
parts_view parts = record { key = parts.0.now; digits = parts.1.now }
