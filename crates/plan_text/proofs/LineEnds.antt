-- The text of a tree reads the same with a line end behind it.
use Rattle.std.proofs.Common.{◌≡◌, ℕ, suc, ◌<◌, ◌≤◌, ◌^◌, pos, negsuc, Bool, true, false, cond, ◌&&◌, List, [], ◌∷◌, ◌++◌, length, Option, None, option_and_then, Ok, Err, ltb, refl, subst, sym, ap, ap₂, ◌∙◌, append_assoc, append-nil, length-append, arith}
use Rattle.std.specs.Str.{is_utf8}
use Rattle.std.proofs.lemmas.Bool.{ltb-true, le-ltb}
use Rattle.std.proofs.lemmas.Str.{IsUtf8-append, IsUtf8-from_is_utf8}
use Rattle.json.specs.Token.{Token, begin_object, end_object, begin_array, end_array, key, string, number, boolean, null, bad}
use Rattle.json.specs.Word.{ends_word, word}
use Rattle.json.specs.Lex.{Lexeme, token, comma, colon, string_token, lex, between, fresh, punctuate, tokens}
use Rattle.json.specs.Print.{escape, quoted, token_text, begins, ends, separator, print_from, print, IsPrintable, ArePrintable}
use Rattle.json.specs.Tree.{HasNumbers, ItemsHaveNumbers, MembersHaveNumbers, json_tokens}
use Rattle.json.proofs.Printed.Strings.{content-escape, lex-escape}
use Rattle.json.proofs.Printed.Numbers.{lex-number, in_word-ended}
use Rattle.json.proofs.Printed.Decimals.{IsNumber-decimal, IsNumber-signed_decimal}
use Rattle.json.proofs.Printed.Trees.{ArePrintable-json_tokens}
use Rattle.json.proofs.Printed.Utf8.{IsUtf8-are_ascii}
use Rattle.serde_json.specs.Data.{Data}
use Rattle.json.specs.Json as json
use Rattle.serde_json.specs.Read.{max_depth, of_json, read}
use Rattle.serde_json.specs.Written.{outline, items_outline, members_outline}
use Rattle.serde_json.proofs.Texts.{print-outline}
use Rattle.flag_text.specs.Printing.{data_of, items_data, members_data, text_of}
use Rattle.flag_text.specs.Reading.{json_of, if_json, if_whole, doc_of, tree_of}
use Rattle.flag_text.specs.Shape as shape
use Rattle.flag_text.specs.Shape.{Shape, Items, Members, is_in_range, comes_first, is_whole, items_are_whole, members_are_whole}
use Rattle.flag_text.specs.declared.fault.TextFault.TheVariants.{TooLarge}
use Rattle.flag_text.proofs.Bools.{left, right}
use Rattle.flag_text.proofs.Printed.{members_data-rising}
use Rattle.flag_text.proofs.Readings.{doc_of-utf8}

-- ---- what stands behind printed tokens is lexed alike where it begins no word

abbrev lexemes : Token → List Lexeme
lexemes begin_object = token begin_object ∷ []
lexemes end_object = token end_object ∷ []
lexemes begin_array = token begin_array ∷ []
lexemes end_array = token end_array ∷ []
lexemes (key s) = token (string s) ∷ colon ∷ []
lexemes (string s) = token (string s) ∷ []
lexemes (number s) = token (number s) ∷ []
lexemes (boolean b) = token (boolean b) ∷ []
lexemes null = token null ∷ []
lexemes bad = []

lex_quoted : (s r : List ℕ) → lex between (quoted s ++ r) ≡ token (string s) ∷ lex between r
unfolding lex
lex_quoted s r = ap (λ l. lex between (34 ∷ l)) (append_assoc (escape s) (34 ∷ []) r) ∙ ap₂ (λ o l. token (string_token o) ∷ l) (content-escape s r) (lex-escape s r)

lex_token : (t : Token) (r : List ℕ) → IsPrintable t → (ends t ≡ true → ends_word r ≡ true) → lex between (token_text t ++ r) ≡ lexemes t ++ lex between r
unfolding lex word
lex_token begin_object r h ended = refl
lex_token end_object r h ended = refl
lex_token begin_array r h ended = refl
lex_token end_array r h ended = refl
lex_token (key s) r h ended = ap (lex between) (append_assoc (quoted s) (58 ∷ []) r) ∙ lex_quoted s (58 ∷ r)
lex_token (string s) r h ended = lex_quoted s r
lex_token (number s) r h ended = lex-number s r h (ended refl)
lex_token (boolean true) r h ended = ap₂ (λ b l. token (cond b (boolean true) bad) ∷ l) (ended refl) (in_word-ended r (ended refl))
lex_token (boolean false) r h ended = ap₂ (λ b l. token (cond b (boolean false) bad) ∷ l) (ended refl) (in_word-ended r (ended refl))
lex_token null r h ended = ap₂ (λ b l. token (cond b null bad) ∷ l) (ended refl) (in_word-ended r (ended refl))
lex_token bad r h ended = absurd h

-- the next token begins no word behind the end of a value
ends_before : (ts : List Token) (r : List ℕ) → ends_word r ≡ true → ends_word (print_from true ts ++ r) ≡ true
unfolding print_from
ends_before [] r h = h
ends_before (begin_object ∷ ts) r h = refl
ends_before (end_object ∷ ts) r h = refl
ends_before (begin_array ∷ ts) r h = refl
ends_before (end_array ∷ ts) r h = refl
ends_before (key s ∷ ts) r h = refl
ends_before (string s ∷ ts) r h = refl
ends_before (number s ∷ ts) r h = refl
ends_before (boolean b ∷ ts) r h = refl
ends_before (null ∷ ts) r h = refl
ends_before (bad ∷ ts) r h = refl

comma_before : (b : Bool) (r : List ℕ) → lex between (cond b (44 ∷ []) [] ++ r) ≡ cond b (comma ∷ []) [] ++ lex between r
unfolding lex
comma_before true r = refl
comma_before false r = refl

alike : (c : Bool) (ts : List Token) (q r : List ℕ) → ArePrintable ts → ends_word q ≡ true → ends_word r ≡ true → lex between q ≡ lex between r → lex between (print_from c ts ++ q) ≡ lex between (print_from c ts ++ r)
unfolding print_from ArePrintable
alike c [] q r h p e same = same
alike c (t ∷ ts) q r h p e same =
    let rest = print_from (ends t) ts in
    let split : (x : List ℕ) → (separator c t ++ (token_text t ++ rest)) ++ x ≡ separator c t ++ (token_text t ++ (rest ++ x)) = λ x. append_assoc (separator c t) (token_text t ++ rest) x ∙ ap (λ l. separator c t ++ l) (append_assoc (token_text t) rest x) in
    let first : (x : List ℕ) → ends_word x ≡ true → lex between ((separator c t ++ (token_text t ++ rest)) ++ x) ≡ cond (c && begins t) (comma ∷ []) [] ++ (lexemes t ++ lex between (rest ++ x)) =
    λ x ended. ap (lex between) (split x) ∙ comma_before (c && begins t) (token_text t ++ (rest ++ x))
    ∙ ap (λ l. cond (c && begins t) (comma ∷ []) [] ++ l) (lex_token t (rest ++ x) h.0 (λ k. ap (λ b. ends_word (print_from b ts ++ x)) k ∙ ends_before ts x ended)) in
    first q p ∙ ap (λ l. cond (c && begins t) (comma ∷ []) [] ++ (lexemes t ++ l)) (alike (ends t) ts q r h.1 p e same) ∙ sym (first r e)

line_feed_lexed : lex between (10 ∷ []) ≡ lex between []
unfolding lex
line_feed_lexed = refl

tokens_line : (ts : List Token) → ArePrintable ts → tokens (print ts ++ 10 ∷ []) ≡ tokens (print ts)
tokens_line ts h = ap (punctuate fresh) (alike false ts (10 ∷ []) [] h refl refl line_feed_lexed ∙ ap (lex between) (append-nil (print ts)))

-- ---- the tokens of a tree of whole numbers may be printed

mutual
  has_numbers : (t : Shape) → is_whole t ≡ true → HasNumbers (outline (data_of t))
  has_numbers shape.null h = tt
  has_numbers (shape.boolean b) h = tt
  has_numbers (shape.whole (pos n)) h = let small = ltb-true n (2 ^ 53) h in IsNumber-decimal n (omega (arith, small))
  has_numbers (shape.whole (negsuc n)) h = let small = ltb-true (suc n) (2 ^ 53) h in IsNumber-signed_decimal (negsuc n) (omega (arith, small))
  has_numbers shape.other h = tt
  has_numbers (shape.text s) h = tt
  has_numbers (shape.list ts) h = items_have_numbers ts h
  has_numbers (shape.object ms) h = members_have_numbers ms h

  items_have_numbers : (ts : Items) → items_are_whole ts ≡ true → ItemsHaveNumbers (items_outline (items_data ts))
  items_have_numbers shape.no_items h = tt
  items_have_numbers (shape.item t ts) h = (has_numbers t (left _ _ h), items_have_numbers ts (right (is_whole t) _ h))

  members_have_numbers : (ms : Members) → members_are_whole ms ≡ true → MembersHaveNumbers (members_outline (members_data ms))
  members_have_numbers shape.no_members h = tt
  members_have_numbers (shape.member k t ms) h =
      let rest = right (comes_first k ms) _ h in
      subst (λ ds. MembersHaveNumbers (members_outline ds)) (sym (members_data-rising k t ms h)) (has_numbers t (left _ _ rest), members_have_numbers ms (right (is_whole t) _ rest))

line_read : (t : Shape) → is_whole t ≡ true → read (text_of t ++ 10 ∷ []) ≡ read (text_of t)
unfolding text_of
line_read t h =
    let ts = json_tokens (outline (data_of t)) in
    let same = tokens_line ts (ArePrintable-json_tokens (outline (data_of t)) (has_numbers t h)) in
    let line : tokens (text_of t ++ 10 ∷ []) ≡ tokens (text_of t) = subst (λ (s : List ℕ). tokens (s ++ 10 ∷ []) ≡ tokens s) (print-outline (data_of t)) same in
    ap (λ ks. option_and_then of_json (option_and_then (λ p. json.if_last p.0 p.1) (json.value max_depth ks))) line

-- a text of which a tree is read is UTF-8
text_read : (b : Bool) (o : Option Data) (t : Shape) → if_whole (if_json (cond b o None)) ≡ Ok t → b ≡ true
text_read true o t h = refl
text_read false o t h = absurd (cc)

pub is_text : (bytes : List ℕ) (limit : ℕ) (t : Shape) → length bytes ≤ limit → tree_of bytes limit ≡ Ok t → is_utf8 bytes ≡ true
unfolding json_of
is_text bytes limit t fits h =
    let small : ltb limit (length bytes) ≡ false = le-ltb limit (length bytes) fits in
    text_read (is_utf8 bytes) (read bytes) t (ap (λ b. if_whole (cond b (Err TooLarge) (if_json (cond (is_utf8 bytes) (read bytes) None)))) (sym small) ∙ h)

-- what is read of the text of a tree, where there is room for the line end
pub line_again : (t u : Shape) (limit : ℕ) → is_whole t ≡ true → length (text_of t) < limit → tree_of (text_of t) limit ≡ Ok u → tree_of (text_of t ++ 10 ∷ []) limit ≡ Ok u
line_again t u limit h fits read_so =
    let text = text_of t in
    let utf8 = IsUtf8-from_is_utf8 text (is_text text limit u (omega (arith, fits)) read_so) in
    let more : length (text ++ 10 ∷ []) ≤ limit = omega (arith, length-append text (10 ∷ []), fits) in
    let whole : doc_of (text ++ 10 ∷ []) limit ≡ doc_of text limit =
    doc_of-utf8 (text ++ 10 ∷ []) limit more (IsUtf8-append text (10 ∷ []) utf8 (IsUtf8-are_ascii (10 ∷ []) refl)) ∙ ap if_json (line_read t h)
    ∙ sym (doc_of-utf8 text limit (omega (arith, fits)) utf8) in
    ap if_whole whole ∙ read_so
