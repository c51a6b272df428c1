-- The text of one text, as a writer of tokens gives it.
use Rattle.std.proofs.Common.{◌≡◌, ◌≤◌, ℕ, List, [], ◌∷◌, length, append-nil, Some, Ok, refl, ap, subst, arith}
use Rattle.std.specs.Option.{option_and_then}
use Rattle.std.specs.Str.{IsUtf8}
use Rattle.json.specs.Json as json
use Rattle.json.specs.Lex.{tokens}
use Rattle.json.specs.Print.{print, print_from, quoted}
use Rattle.json.specs.Token as Token
use Rattle.serde_json.specs.Data as Data
use Rattle.serde_json.specs.Read.{of_json, max_depth, read}
use Rattle.flag_text.specs.Printing.{text_of}
use Rattle.flag_text.specs.Reading.{tree_of}
use Rattle.flag_text.specs.Shape.{text}
use Rattle.flag_text.proofs.Printed.{tree_of-written}

-- what a writer has been given
abbrev pub Strings : Type 0
Strings = List Token.Token

pub print-string : (s : List ℕ) → print (Token.string s ∷ []) ≡ text_of (text s)
unfolding print_from text_of
print-string s = append-nil (quoted s)

read-string : (s bytes : List ℕ) → tokens bytes ≡ Token.string s ∷ [] → read bytes ≡ Some (Data.string s)
unfolding json.value
read-string s bytes is = ap (λ ts. option_and_then of_json (option_and_then (λ p. json.if_last p.0 p.1) (json.value max_depth ts))) is

-- what is written for a text reads as the text
pub string_reads : (s : List ℕ) (limit : ℕ) → tokens (print (Token.string s ∷ [])) ≡ Token.string s ∷ [] → IsUtf8 (print (Token.string s ∷ [])) → length (text_of (text s)) ≤ limit → tree_of (text_of (text s)) limit ≡ Ok (text s)
string_reads s limit back utf8 fits =
    let same = print-string s in
    tree_of-written (text_of (text s)) limit (text s) refl (omega arith) fits (subst IsUtf8 same utf8) (read-string s (text_of (text s)) (subst (λ b. tokens b ≡ Token.string s ∷ []) same back))
