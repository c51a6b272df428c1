-- The last mark of each key, and flags that have it.
use Rattle.std.proofs.Common.{◌≡◌, ℕ, List, [], ◌∷◌, ◌++◌, map, Bool, true, false, not, ◌&&◌, Option, Some, String, string_bytes, refl, sym, ap, ap₂, ◌∙◌, subst}
use Rattle.std.specs.Prelude.{unwrap_or, if◌then◌else◌}
use Rattle.std.specs.List.{fold}
use Rattle.std.specs.List.Sorted.{IsStrictlySortedBy}
use Rattle.std.specs.Cmp.Lexicographic.{slice_cmp}
use Rattle.std.specs.Map.{keys_of}
use Rattle.std.specs.Ordering.{nat_cmp}
use Rattle.std.specs.Str.{bytes_eq}
use Rattle.std.specs.declared.alloc.Global.{Global}
use Rattle.std.proofs.lemmas.List.{map-append}
use Rattle.std.proofs.lemmas.List.Sums.{fold-append}
use Rattle.flag_text.proofs.Bools.{both, left, right}
use Rattle.spelled_numbers.specs.View.{mark_view}
use Rattle.spelled_numbers.specs.declared.marks.Mark.{Mark}
use Rattle.flag_defs.specs.Definition.{Definition}
use Rattle.flag_defs.specs.Document.{Definitions}
use Rattle.flag_defs.specs.Flag.{entry_view, entries_view, is_broken}
use Rattle.flag_defs.specs.Floats.{Marks, are_unmarked, entry_floats, entries_floats, floats_of, mark_of, marked, marked_entry, marked_with}
use Rattle.flag_defs.specs.declared.flag.Flag.{Flag}

abbrev pub Entry : Type 0
Entry = String Global × Flag

-- ---- the last of each key

-- what is told of a key once one more mark was read
abbrev pub told : List ℕ → Bool → List ℕ × Bool → Bool
told key found m = if bytes_eq m.0 key then m.1 else found

mark_of-push : (key : List ℕ) (ms : Marks) (m : List ℕ × Bool) → mark_of key (ms ++ m ∷ []) ≡ told key (mark_of key ms) m
mark_of-push key ms m = fold-append (told key) false ms (m ∷ [])

or_found : (b x : Bool) (o : Option Bool) → unwrap_or (if b then Some x else o) false ≡ (if b then x else unwrap_or o false)
or_found true x o = refl
or_found false x o = refl

pub one_more_mark : (key : List ℕ) (ys : List Mark) (m : Mark) (old new : Option Bool) → new ≡ (if bytes_eq (string_bytes m.key) key then Some m.has_floats else old)
    → unwrap_or old false ≡ mark_of key (map mark_view ys) → unwrap_or new false ≡ mark_of key (map mark_view (ys ++ m ∷ []))
one_more_mark key ys m old new is so_far =
    ap (λ (o : Option Bool). unwrap_or o false) is ∙ (or_found (bytes_eq (string_bytes m.key) key) m.has_floats old
    ∙ (ap (λ (b : Bool). told key b (mark_view m)) so_far
    ∙ sym (ap (mark_of key) (map-append mark_view ys (m ∷ [])) ∙ mark_of-push key (map mark_view ys) (mark_view m))))

-- ---- flags

pub one_more_viewed : (all ys : List Entry) (x y : Entry) → entry_view x ≡ entry_view y → entries_view all ≡ entries_view ys → entries_view (all ++ x ∷ []) ≡ entries_view (ys ++ y ∷ [])
one_more_viewed all ys x y e h =
    map-append entry_view all (x ∷ []) ∙ (ap₂ (λ (xs zs : Definitions). xs ++ zs) h (ap (λ (f : List ℕ × Definition). f ∷ []) e) ∙ sym (map-append entry_view ys (y ∷ [])))

pub one_more_marked : (ms : Marks) (all ys : List Entry) (x y : Entry) → entry_floats x ≡ marked_entry ms (entry_view y) → entries_floats all ≡ marked ms (entries_view ys)
    → entries_floats (all ++ x ∷ []) ≡ marked ms (entries_view (ys ++ y ∷ []))
one_more_marked ms all ys x y e h =
    map-append entry_floats all (x ∷ []) ∙ (ap₂ (λ (xs zs : Marks). xs ++ zs) h (ap (λ (m : List ℕ × Bool). m ∷ []) e)
    ∙ sym (ap (marked ms) (map-append entry_view ys (y ∷ [])) ∙ map-append (marked_entry ms) (entries_view ys) (entry_view y ∷ [])))

pub same_key : (k : List ℕ) (d e : Definition) → d ≡ e → (let p : List ℕ × Definition = (k, d) in p) ≡ (k, e)
same_key k d e h = ap (λ (x : Definition). let p : List ℕ × Definition = (k, x) in p) h

pub same_mark : (k : List ℕ) (a b : Bool) → a ≡ b → (let p : List ℕ × Bool = (k, a) in p) ≡ (k, b)
same_mark k a b h = ap (λ (x : Bool). let p : List ℕ × Bool = (k, x) in p) h

-- the keys are the same, whatever is told of their flags
keys_same : (es : List Entry) → keys_of (entries_floats es) ≡ keys_of (entries_view es)
keys_same [] = refl
keys_same (e ∷ es) = ap (λ (ks : List (List ℕ)). string_bytes e.0 ∷ ks) (keys_same es)

pub floats_rise : (es : List Entry) → IsStrictlySortedBy (slice_cmp nat_cmp) (keys_of (entries_view es)) → IsStrictlySortedBy (slice_cmp nat_cmp) (keys_of (entries_floats es))
floats_rise es h = subst (IsStrictlySortedBy (slice_cmp nat_cmp)) (sym (keys_same es)) h

-- ---- where no mark says so

not_told : (b x found : Bool) → not x ≡ true → found ≡ false → (if b then x else found) ≡ false
not_told true true found h e = cc
not_told true false found h e = refl
not_told false x found h e = e

none_told : (key : List ℕ) (found : Bool) (ms : Marks) → found ≡ false → are_unmarked ms ≡ true → fold (told key) found ms ≡ false
none_told key found [] e h = e
none_told key found (m ∷ ms) e h =
    none_told key (told key found m) ms (not_told (bytes_eq m.0 key) m.1 found (left (not m.1) (are_unmarked ms) h) e) (right (not m.1) (are_unmarked ms) h)

not_marked : (b x : Bool) → x ≡ false → not (b && x) ≡ true
not_marked true x e = ap not e
not_marked false x e = refl

pub none_marked : (ms : Marks) (fs : Definitions) → are_unmarked ms ≡ true → are_unmarked (marked ms fs) ≡ true
none_marked ms [] h = refl
none_marked ms (f ∷ fs) h =
    both (not (marked_with f.1 (mark_of f.0 ms))) (are_unmarked (marked ms fs)) (not_marked (not (is_broken f.1)) (mark_of f.0 ms) (none_told f.0 false ms refl h)) (none_marked ms fs h)

-- one more flag without floats
pub unmarked_push : (es : List Entry) (e : Entry) → are_unmarked (entries_floats es) ≡ true → floats_of e.1 ≡ false → are_unmarked (entries_floats (es ++ e ∷ [])) ≡ true
unmarked_push [] e h f = both (not (floats_of e.1)) true (ap not f) refl
unmarked_push (x ∷ es) e h f =
    both (not (floats_of x.1)) (are_unmarked (entries_floats (es ++ e ∷ []))) (left (not (floats_of x.1)) (are_unmarked (entries_floats es)) h)
    (unmarked_push es e (right (not (floats_of x.1)) (are_unmarked (entries_floats es)) h) f)
