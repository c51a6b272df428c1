-- What was written of a text, and what is to come.
use Rattle.std.specs.Prelude.{ℕ, Bool, false, List, ◌++◌}
use Rattle.spelled_numbers.specs.Sent.{Standing, between, in_text, in_escape, in_number, continues_number, respelled_from}
use Rattle.spelled_numbers.specs.declared.respelling.Place.{Place}
use Rattle.spelled_numbers.specs.declared.respelling.Place.TheVariants as place
use Rattle.spelled_numbers.specs.declared.respelling.Respelling.{Respelling}

abbrev pub place_view : Place → List ℕ → Standing
place_view place.Between run = between
place_view place.Text run = in_text
place_view place.Escape run = in_escape
place_view place.Number run = in_number run

-- all that is written once this rest has come
abbrev pub shown : Respelling → List ℕ → List ℕ
shown r rest = r.written.items ++ respelled_from (place_view r.place r.number.items) rest

-- a number has begun that the byte is of
abbrev pub goes_on : Place → ℕ → Bool
goes_on place.Between b = false
goes_on place.Text b = false
goes_on place.Escape b = false
goes_on place.Number b = continues_number b
