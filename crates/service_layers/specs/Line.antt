-- The line of a request that was answered (RFC 3339, 5.6: date and time; RFC 9110, 5.6.7: IMF-fixdate; RFC 8259: JSON).
use Rattle.std.specs.Prelude.{ℕ, ◌+◌, ◌/◌, ◌%◌, List, [], ◌∷◌, ◌++◌, codes, decimal, take, drop, Option, Some, None, if◌then◌else◌}
use Rattle.std.specs.Str.{bytes_eq}
use Rattle.flag_text.specs.Printing.{text_of}
use Rattle.flag_text.specs.Shape.{text}

-- ---- a moment

-- so many bytes from a place on
abbrev pub part : ℕ → ℕ → List ℕ → List ℕ
part place count bytes = take count (drop place bytes)

-- the number of a month, by its three letters
abbrev pub month_number : List ℕ → List ℕ
month_number name =
    if bytes_eq name (codes "Jan") then codes "-01-" else
    (if bytes_eq name (codes "Feb") then codes "-02-" else
    (if bytes_eq name (codes "Mar") then codes "-03-" else
    (if bytes_eq name (codes "Apr") then codes "-04-" else
    (if bytes_eq name (codes "May") then codes "-05-" else
    (if bytes_eq name (codes "Jun") then codes "-06-" else
    (if bytes_eq name (codes "Jul") then codes "-07-" else
    (if bytes_eq name (codes "Aug") then codes "-08-" else
    (if bytes_eq name (codes "Sep") then codes "-09-" else
    (if bytes_eq name (codes "Oct") then codes "-10-" else
    (if bytes_eq name (codes "Nov") then codes "-11-" else codes "-12-"))))))))))

-- `1994-11-06T08:49:37` of `Sun, 06 Nov 1994 08:49:37 GMT`
unfoldable pub moment_text : List ℕ → List ℕ
moment_text date = part 12 4 date ++ (month_number (part 8 3 date) ++ (part 5 2 date ++ (codes "T" ++ part 17 8 date)))

-- thousandths, in three digits
unfoldable pub three_digits : ℕ → List ℕ
three_digits n = (48 + n / 100) ∷ (48 + n / 10 % 10) ∷ (48 + n % 10) ∷ []

-- ---- the line

-- when the request came, as IMF-fixdate and the thousandths of a second behind it; its method and path; the status of its answer, and the microseconds until that was made; its trace, where it names one
pub record Seen : Type 0 where
  pub date : List ℕ
  pub millis : ℕ
  pub method : List ℕ
  pub path : List ℕ
  pub status : ℕ
  pub micros : ℕ
  pub trace : Option (List ℕ)

abbrev pub time_part : List ℕ → ℕ → List ℕ
time_part date millis = codes "{\"time\":\"" ++ (moment_text date ++ (codes "." ++ (three_digits millis ++ codes "Z\"")))

abbrev pub request_part : List ℕ → List ℕ → List ℕ
request_part method path = codes ",\"method\":" ++ (text_of (text method) ++ (codes ",\"path\":" ++ text_of (text path)))

abbrev pub answer_part : ℕ → ℕ → List ℕ
answer_part status micros = codes ",\"status\":" ++ (decimal status ++ (codes ",\"microseconds\":" ++ decimal micros))

abbrev pub trace_part : Option (List ℕ) → List ℕ
trace_part None = codes "}\n"
trace_part (Some id) = codes ",\"trace\":\"" ++ (id ++ codes "\"}\n")

abbrev pub line_of : Seen → List ℕ
line_of s = time_part s.date s.millis ++ (request_part s.method s.path ++ (answer_part s.status s.micros ++ trace_part s.trace))
