-- Names with commas between them.
use Rattle.std.proofs.Common.{◌≡◌, ◌++◌, ◌+◌, ◌<◌, ◌∙◌, ℕ, List, [], ◌∷◌, Some, None, ap, append-nil, append_assoc, arith, codes, if◌then◌else◌, length, nat_eq, sym, take, slice_get}
use Rattle.std.specs.List.{flat_map, join_by}
use Rattle.std.proofs.Math.Dec.{eqb-suc-zero}
use Rattle.std.proofs.lemmas.Grind.{flat_map-append}
use Rattle.std.proofs.lemmas.List.{length-take-le, take_more}
use Rattle.std.proofs.lemmas.Option.{get_or_from_slice_get, slice_get-get_or, slice_get_within}
use Rattle.file_diagnostics.specs.Named.{quoted}

-- what a further one adds: its own text, and the one between before it, unless it is the first
abbrev pub added : {X A : Type 0} (f : X → List A) (between : List A) → ℕ → X → List A
added f between count x = (if nat_eq count 0 then [] else between) ++ f x

pub join_by-one : {X A : Type 0} (f : X → List A) (between : List A) (xs : List X) (x : X) → join_by f between (xs ++ x ∷ []) ≡ join_by f between xs ++ added f between (length xs) x
join_by-one {X = X} {A = A} f between [] x = append-nil (f x)
join_by-one {X = X} {A = A} f between (y ∷ ys) x =
    let g : X → List A = λ z. between ++ f z in
    let longer : flat_map g (ys ++ x ∷ []) ≡ flat_map g ys ++ g x = flat_map-append g ys (x ∷ []) ∙ ap (λ l. flat_map g ys ++ l) (append-nil (g x)) in
    rw (eqb-suc-zero (length ys), longer) (sym (append_assoc (f y) (flat_map g ys) (g x)))

pub next : (names : List (List ℕ)) (place : ℕ) (name : List ℕ) → slice_get names place ≡ Some name
    → join_by quoted (codes ", ") (take (place + 1) names) ≡ join_by quoted (codes ", ") (take place names) ++ added quoted (codes ", ") place name
next names place name is =
    let inside = slice_get_within names place name is in
    let here = get_or_from_slice_get names place name [] is in
    let all = take_more names place [] inside ∙ ap (λ n. take place names ++ n ∷ []) here in
    let count = length-take-le place names (omega (arith, inside)) in
    ap (join_by quoted (codes ", ")) all ∙ (join_by-one quoted (codes ", ") (take place names) name ∙ ap (λ n. join_by quoted (codes ", ") (take place names) ++ added quoted (codes ", ") n name) count)

-- there is a name at each place of the list
pub within : (names : List (List ℕ)) (place : ℕ) → place < length names → slice_get names place ≡ None → ⊥
within names place inside none = let some = sym (slice_get-get_or names place [] inside) ∙ none in cc
