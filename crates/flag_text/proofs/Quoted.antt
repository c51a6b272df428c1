-- A quoted text without an escape reads as the text.
use Rattle.std.proofs.Common.{◌≡◌, ◌≤◌, ℕ, List, [], ◌∷◌, ◌++◌, length, true, Ok, append_assoc, refl, sym, ap, ap₂, ◌∙◌, subst, arith}
use Rattle.std.proofs.lemmas.Bool.{and_parts}
use Rattle.std.specs.List.{list_all}
use Rattle.std.specs.Str.{IsUtf8}
use Rattle.json.specs.Print.{ArePrintable, escape, escape_byte}
use Rattle.json.specs.Token as Token
use Rattle.json.proofs.Printed.Strings.{escape_byte_plain}
use Rattle.json.proofs.Printed.Tokens.{tokens-print}
use Rattle.json.proofs.Printed.Utf8.{IsUtf8-quoted}
use Rattle.flag_text.specs.Plain.{is_plain}
use Rattle.flag_text.specs.Printing.{text_of}
use Rattle.flag_text.specs.Reading.{tree_of}
use Rattle.flag_text.specs.Shape.{text}
use Rattle.flag_text.proofs.Pushed.{print-string, string_reads}

escape-is_plain : (x : ℕ) → is_plain x ≡ true → escape_byte x ≡ x ∷ []
escape-is_plain x h = escape_byte_plain x (λ e. grind (arith, h, e)) (λ e. grind (arith, h, e)) (grind (arith, h))

pub escape-plain : (s : List ℕ) → list_all is_plain s ≡ true → escape s ≡ s
escape-plain [] h = refl
escape-plain (x ∷ s) h =
    let p = and_parts (is_plain x) (list_all is_plain s) h in
    ap₂ (λ (a b : List ℕ). a ++ b) (escape-is_plain x p.0) (escape-plain s p.1)

pub quoted-plain : (s : List ℕ) → list_all is_plain s ≡ true → text_of (text s) ≡ 34 ∷ (s ++ 34 ∷ [])
unfolding text_of
quoted-plain s h = ap (λ l. 34 ∷ (l ++ 34 ∷ [])) (escape-plain s h)

pub read-quoted : (s : List ℕ) (limit : ℕ) → IsUtf8 s → length (text_of (text s)) ≤ limit → tree_of (text_of (text s)) limit ≡ Ok (text s)
unfolding text_of ArePrintable
read-quoted s limit u fits = string_reads s limit (tokens-print (Token.string s ∷ []) (tt, tt)) (subst IsUtf8 (sym (print-string s)) (IsUtf8-quoted s u)) fits

at_bytes : (bytes text_bytes s : List ℕ) (limit : ℕ) → text_bytes ≡ bytes → (length text_bytes ≤ limit → tree_of text_bytes limit ≡ Ok (text s)) → length bytes ≤ limit → tree_of bytes limit ≡ Ok (text s)
at_bytes bytes text_bytes s limit same h = subst (λ b. length b ≤ limit → tree_of b limit ≡ Ok (text s)) same h

pub tree_of-plain : (bytes s : List ℕ) (limit : ℕ) → bytes ≡ 34 ∷ (s ++ 34 ∷ []) → list_all is_plain s ≡ true → IsUtf8 s → length bytes ≤ limit → tree_of bytes limit ≡ Ok (text s)
tree_of-plain bytes s limit is h u = at_bytes bytes (text_of (text s)) s limit (quoted-plain s h ∙ sym is) (read-quoted s limit u)

-- what is added piece by piece is the whole text
pub pieces : (old s : List ℕ) → list_all is_plain s ≡ true → ((old ++ 34 ∷ []) ++ s) ++ 34 ∷ [] ≡ old ++ text_of (text s)
pieces old s h = append_assoc (old ++ 34 ∷ []) s (34 ∷ []) ∙ append_assoc old (34 ∷ []) (s ++ 34 ∷ []) ∙ ap (λ l. old ++ l) (sym (quoted-plain s h))
