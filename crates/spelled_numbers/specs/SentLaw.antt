-- What it changes.
use Rattle.std.specs.Prelude.{◌≡◌, ℕ, true, List}
use Rattle.flag_text.specs.Reading.{doc_of}
use Rattle.spelled_numbers.specs.Sent.{are_spelled_whole, sent_of}

-- A text whose numbers are all spelled as whole ones stands for what it always stood for.
abbrev pub WholeNumbersStay : Type 0
WholeNumbersStay = (bytes : List ℕ) (limit : ℕ) → are_spelled_whole bytes ≡ true → sent_of bytes limit ≡ doc_of bytes limit
