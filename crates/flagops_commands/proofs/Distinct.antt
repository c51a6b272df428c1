-- Keys that a page takes come to the same inputs as they do sorted, each once.
use denote.Ref.{Bor}
use Rattle.std.proofs.Common.{◌≡◌, ◌⊎◌, inl, inr, Ok, ℕ, ◌+◌, ◌<◌, List, [], ◌∷◌, length, map, Bool, true, false, cond, Ordering, refl, sym, ap, ap₂, ◌∙◌, arith}
use Rattle.std.specs.List.{dedup, dedup_from}
use Rattle.std.specs.List.Sorted.{IsPermutation, IsSorted}
use Rattle.std.specs.Ordering.{is_lt}
use Rattle.std.specs.Str.{bytes_eq}
use Rattle.std.proofs.lemmas.Cmp.{nat_list_cmp_total, nat_list_eq_equiv}
use Rattle.std.proofs.lemmas.List.{get_or-map, length-map}
use Rattle.std.proofs.lemmas.List.Kept.{Contains-dedup, Contains-from_dedup, IsStrictlySortedBy-dedup}
use Rattle.std.proofs.lemmas.Map.Text.{is_eq-slice_cmp}
use Rattle.std.proofs.lemmas.Slice.Eq.{bytes_eq-Decides}
use Rattle.book_core.specs.Book.{Inputs}
use Rattle.book_core.specs.Page.{bytes_cmp}
use Rattle.transport_core.proofs.Joined.{rise-nil}
use Rattle.transport_core.proofs.Members.{Stands, contains_from_place, place_from_contains, sorted_unique}
use Rattle.rule_text.specs.Texts.{texts_view}
use Rattle.flagops_commands.specs.Price.{are_taken, exposed}
use Rattle.flagops_commands.proofs.Gathered.{gathered, gathered-rise, gathered-entered, gathered-came, none_stands, now, exposed-moved}

-- ---- a list under a map

module _ {X Y : Type 0} (f : X → Y) where
  either : (b : Bool) (xs ys : List X) → map f (cond b xs ys) ≡ cond b (map f xs) (map f ys)
  either true xs ys = refl
  either false xs ys = refl

  map-dedup_from : (same : Y → Y → Bool) (xs : List X) (k : X) → map f (dedup_from (λ x y. same (f x) (f y)) k xs) ≡ dedup_from same (f k) (map f xs)
  map-dedup_from same [] k = refl
  map-dedup_from same (x ∷ xs) k =
      either (same (f x) (f k)) (dedup_from (λ x y. same (f x) (f y)) k xs) (k ∷ dedup_from (λ x y. same (f x) (f y)) x xs)
      ∙ ap₂ (λ us vs. cond (same (f x) (f k)) us (f k ∷ vs)) (map-dedup_from same xs k) (map-dedup_from same xs x)

  pub map-dedup : (same : Y → Y → Bool) (xs : List X) → map f (dedup (λ x y. same (f x) (f y)) xs) ≡ dedup same (map f xs)
  map-dedup same [] = refl
  map-dedup same (x ∷ xs) = map-dedup_from same xs x

  sorted-at : (R : Y → Y → Ordering) (xs : List X) → X → IsSorted (λ x y. R (f x) (f y)) xs → IsSorted R (map f xs)
  sorted-at R xs x up k d low below =
      let inside : k + 1 < length xs = omega (arith, below, length-map xs f) in
      ap₂ (λ a b. is_lt (R a b)) (get_or-map f xs (k + 1) x d inside) (get_or-map f xs k x d (omega (arith, inside))) ∙ up k x low inside

  pub sorted-map : (R : Y → Y → Ordering) (xs : List X) → IsSorted (λ x y. R (f x) (f y)) xs → IsSorted R (map f xs)
  sorted-map R [] up = λ k d low below. absurd (omega (arith, below))
  sorted-map R (x ∷ xs) up = sorted-at R (x ∷ xs) x up

-- ---- sorted keys, each once

abbrev apart : Inputs → Inputs
apart = dedup bytes_eq

only : (keys : Inputs) (z : List ℕ) → Stands [] z ⊎ Stands keys z → Stands keys z
only keys z (inl s) = none_stands z s
only keys z (inr s) = s

stands_apart : (keys : Inputs) (z : List ℕ) → Stands (gathered [] keys) z → Stands (apart keys) z
stands_apart keys z s =
    place_from_contains (apart keys) z (Contains-dedup nat_list_eq_equiv (λ x y e. (bytes_eq-Decides x y).0 e) keys z (contains_from_place keys z (only keys z (gathered-came [] keys z s))))

stands_gathered : (keys : Inputs) (z : List ℕ) → Stands (apart keys) z → Stands (gathered [] keys) z
stands_gathered keys z s = gathered-entered [] keys z (place_from_contains keys z (Contains-from_dedup bytes_eq keys z (contains_from_place (apart keys) z s)))

-- sorted keys, each once, are what is gathered of them
gathered-apart : (keys : Inputs) → IsSorted bytes_cmp keys → gathered [] keys ≡ apart keys
gathered-apart keys up =
    sorted_unique bytes_cmp nat_list_cmp_total (gathered [] keys) (apart keys) (gathered-rise [] keys (rise-nil bytes_cmp)) (IsStrictlySortedBy-dedup nat_list_cmp_total (λ x y. sym (is_eq-slice_cmp x y)) keys up) (stands_apart keys) (stands_gathered keys)

pub exposed-apart : (keys sorted distinct : List (Bor (List ℕ))) → are_taken keys ≡ true → IsPermutation keys sorted → IsSorted (λ x y. bytes_cmp x.now y.now) sorted
    → distinct ≡ dedup (λ x y. bytes_eq x.now y.now) sorted → exposed (texts_view keys) ≡ Ok (texts_view distinct)
exposed-apart keys sorted distinct passes same up once =
    exposed-moved keys sorted passes same
    ∙ ap Ok (gathered-apart (texts_view sorted) (sorted-map now bytes_cmp sorted up) ∙ sym (map-dedup now bytes_eq sorted) ∙ ap texts_view (sym once))
