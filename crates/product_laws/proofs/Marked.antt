-- No flag of a document whose numbers are all whole has floats.
use Rattle.std.proofs.Common.{◌≡◌, ◌∙◌, ℕ, Bool, true, false, cond, not, ◌&&◌, List, [], ◌∷◌, map, Option, Some, None, refl, sym, ap, ap₂}
use Rattle.std.specs.List.{fold, list_all}
use Rattle.std.specs.Str.{bytes_eq}
use Rattle.json.specs.Json.{Json}
use Rattle.flag_defs.proofs.Marked.{none_marked}
use Rattle.flag_defs.specs.Document.{Definitions}
use Rattle.flag_defs.specs.Floats.{AreMarkedAs, Marks, are_unmarked, mark_of, marked, marked_with}
use Rattle.flag_text.proofs.Bools.{left, right}
use Rattle.flag_text.specs.Grammar.{value_in}
use Rattle.spelled_numbers.specs.Law.{WholeFlagsHaveNoFloats}
use Rattle.spelled_numbers.specs.Marks.{marks_of_text, marks_or_none}
use Rattle.product_laws.specs.FloatWhole.{IsWholeText}

-- the marks of the text say so of each
pub text_unmarked : WholeFlagsHaveNoFloats → (bytes : List ℕ) → IsWholeText bytes → are_unmarked (marks_of_text bytes) ≡ true
text_unmarked none bytes whole = by (value_in bytes) refl
  where
    by : (o : Option Json) → value_in bytes ≡ o → are_unmarked (marks_of_text bytes) ≡ true
    by None e = ap (λ (o : Option Json). are_unmarked (marks_or_none o)) e
    by (Some j) e = none bytes j e (whole j e)

pub none_is_marked : WholeFlagsHaveNoFloats → (floats : Bool) (bytes : List ℕ) (flags : Definitions) (marks : Marks) → IsWholeText bytes → AreMarkedAs floats bytes flags marks → are_unmarked marks ≡ true
none_is_marked none true bytes flags marks whole h = ap are_unmarked h ∙ none_marked (marks_of_text bytes) flags (text_unmarked none bytes whole)
none_is_marked none false bytes flags marks whole h = h

-- ---- the last mark of a key

not_true : (b : Bool) → not b ≡ true → b ≡ false
not_true true h = cc
not_true false h = refl

no_mark : (key : List ℕ) (ms : Marks) → are_unmarked ms ≡ true → mark_of key ms ≡ false
no_mark key ms h = from false ms refl h
  where
    kept : (b x f : Bool) → x ≡ false → f ≡ false → cond b x f ≡ false
    kept true x f e g = e
    kept false x f e g = g

    from : (found : Bool) (ms : Marks) → found ≡ false → are_unmarked ms ≡ true → fold (λ (f : Bool) (m : List ℕ × Bool). cond (bytes_eq m.0 key) m.1 f) found ms ≡ false
    from found [] e h = e
    from found (m ∷ ms) e h =
        from (cond (bytes_eq m.0 key) m.1 found) ms (kept (bytes_eq m.0 key) m.1 found (not_true m.1 (left (not m.1) (are_unmarked ms) h)) e) (right (not m.1) (are_unmarked ms) h)

-- flags that are marked by such marks are marked as by none
pub marked_by_none : (ms : Marks) → are_unmarked ms ≡ true → (flags : Definitions) → marked ms flags ≡ marked [] flags
marked_by_none ms h [] = refl
marked_by_none ms h (f ∷ flags) =
    ap₂ (λ (m : List ℕ × Bool) (rest : Marks). m ∷ rest) (ap (λ (b : Bool). (f.0, marked_with f.1 b)) (no_mark f.0 ms h)) (marked_by_none ms h flags)
