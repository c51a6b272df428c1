-- Which files are keys.
use Rattle.std.proofs.Common.{◌≡◌, ◌∙◌, ◌&&◌, ℕ, ◌+◌, List, [], ◌∷◌, Bool, true, false, not, Option, Some, None, Result, Ok, Err, if◌then◌else◌, cond, refl, ap, subst, sym}
use Rattle.std.specs.List.{list_all, position_from}
use Rattle.std.specs.Str.{IsUtf8, is_utf8}
use Rattle.std.specs.Str.Lines.{lines}
use Rattle.std.proofs.lemmas.Str.{IsUtf8-from_is_utf8, is_utf8-from_IsUtf8}
use Rattle.ofrep_guards.specs.Key.{bad_line, keys_in, keys_unless}
use Rattle.ofrep_guards.specs.KeyLine.{is_key}
use Rattle.ofrep_guards.specs.declared.key.KeyFault.{KeyFault}
use Rattle.ofrep_guards.specs.declared.key.KeyFault.TheVariants.{BadKey}

abbrev chosen : Bool → Option ℕ → List (List ℕ) → Result (List (List ℕ)) KeyFault
chosen b found keys = if b then keys_unless keys found else Err (BadKey None)

taken : (b : Bool) (found : Option ℕ) (keys : List (List ℕ)) → b ≡ true → chosen b found keys ≡ keys_unless keys found
taken true found keys x = refl
taken false found keys x = absurd (cc x)

left : (b : Bool) (found : Option ℕ) (keys : List (List ℕ)) → (b ≡ true → ⊥) → chosen b found keys ≡ Err (BadKey None)
left true found keys x = absurd (x refl)
left false found keys x = refl

-- what the lines of a text are
judged : (bytes text : List ℕ) (found : Option ℕ) → text ≡ bytes → IsUtf8 bytes → found ≡ bad_line (lines text) → keys_in bytes ≡ keys_unless (lines text) found
judged bytes text found same utf8 is =
    subst (λ (bs : List ℕ). keys_in bs ≡ keys_unless (lines text) found) same
    (taken (is_utf8 text) (bad_line (lines text)) (lines text) (is_utf8-from_IsUtf8 text (subst IsUtf8 (sym same) utf8)) ∙ ap (keys_unless (lines text)) (sym is))

-- a text of keys
pub good : (bytes text : List ℕ) (found : Option ℕ) → text ≡ bytes → IsUtf8 bytes → found ≡ bad_line (lines text) → found ≡ None → keys_in bytes ≡ Ok (lines text)
good bytes text found same utf8 is none = judged bytes text found same utf8 is ∙ ap (keys_unless (lines text)) none

-- a text with a line that is none
pub bad : (bytes text : List ℕ) (found : Option ℕ) (at : ℕ) → text ≡ bytes → IsUtf8 bytes → found ≡ bad_line (lines text) → found ≡ Some at → keys_in bytes ≡ Err (BadKey (Some at))
bad bytes text found at same utf8 is some = judged bytes text found same utf8 is ∙ ap (keys_unless (lines text)) some

-- no text
pub no_text : (bytes : List ℕ) → (IsUtf8 bytes → ⊥) → keys_in bytes ≡ Err (BadKey None)
no_text bytes none = left (is_utf8 bytes) (bad_line (lines bytes)) (lines bytes) (λ is. none (IsUtf8-from_is_utf8 bytes is))

step : (i : ℕ) (b : Bool) (rest : Option ℕ) (all : Bool) → (rest ≡ None → all ≡ true) → cond (not b) (Some i) rest ≡ None → (b && all) ≡ true
step i true rest all more h = more h
step i false rest all more h = absurd (cc h)

from : (i : ℕ) (keys : List (List ℕ)) → position_from (λ line. not (is_key line)) i keys ≡ None → list_all is_key keys ≡ true
from i [] h = refl
from i (x ∷ xs) h = step i (is_key x) (position_from (λ line. not (is_key line)) (i + 1) xs) (list_all is_key xs) (from (i + 1) xs) h

-- where none is bad all are keys
pub all_keys : (keys : List (List ℕ)) (found : Option ℕ) → found ≡ bad_line keys → found ≡ None → list_all is_key keys ≡ true
all_keys keys found is none = from 0 keys (sym is ∙ none)
