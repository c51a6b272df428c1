-- How long lists with the same keys are, and how much there is in rows from a place on.
use Rattle.std.proofs.Common.{◌≡◌, ℕ, suc, ◌+◌, ◌<◌, ℤ, List, [], ◌∷◌, length, map, drop, get_or, Bool, true, String, Bor, Global, refl, sym, ap, ◌∙◌, add-one, drop-cons}
use Rattle.std.specs.Cmp.Lexicographic.{pointwise, as_long}
use Rattle.std.specs.Map.{keys_of}
use Rattle.std.specs.Str.{bytes_eq}
use Rattle.std.proofs.lemmas.List.Sums.{sum_by-cons}
use Rattle.price_core.specs.Limits.{limit_view, limits_view}
use Rattle.price_core.specs.declared.totals.Limit.{Limit}
use Rattle.transport_core.specs.Certificate.{alpha_row, alpha_view, beta_row, beta_view}
use Rattle.transport_core.specs.Groups.{is_same_group, row_view, rows_view}
use Rattle.transport_core.specs.Rows.{whole_amount}

length-keys : {X K V : Type 0} (f : X → K × V) (xs : List X) → length (keys_of (map f xs)) ≡ length xs
length-keys f [] = refl
length-keys f (x ∷ xs) = ap suc (length-keys f xs)

as_long_by : {X Y K V W : Type 0} (same : K → K → Bool) (f : X → K × V) (h : Y → K × W) (xs : List X) (ys : List Y) → true ≡ pointwise same (keys_of (map f xs)) (keys_of (map h ys)) → length xs ≡ length ys
as_long_by same f h xs ys passes = sym (length-keys f xs) ∙ (as_long same (keys_of (map f xs)) (keys_of (map h ys)) (sym passes) ∙ length-keys h ys)

pub groups_long : (alpha : List (String Global × ℕ × ℤ)) (groups : List ((Bor (List ℕ) × ℕ) × ℕ)) → true ≡ pointwise is_same_group (keys_of (alpha_view alpha)) (keys_of (rows_view groups)) → length alpha ≡ length groups
groups_long alpha groups passes = as_long_by is_same_group alpha_row row_view alpha groups passes

pub names_long : (beta : List (String Global × ℤ)) (limits : List Limit) → true ≡ pointwise bytes_eq (keys_of (beta_view beta)) (keys_of (limits_view limits)) → length beta ≡ length limits
names_long beta limits passes = as_long_by bytes_eq beta_row limit_view beta limits passes

pub whole_next : {K : Type 0} (rows : List (K × ℕ)) (i : ℕ) (row : K × ℕ) → i < length rows → row ≡ get_or rows i row → whole_amount (drop i rows) ≡ row.1 + whole_amount (drop (i + 1) rows)
whole_next {K} rows i row in_list is =
    let here : drop i rows ≡ row ∷ drop (i + 1) rows = rw add-one (drop-cons rows i row in_list ∙ ap (λ (x : K × ℕ). x ∷ drop (suc i) rows) (sym is)) in
    ap (λ (rs : List (K × ℕ)). whole_amount rs) here ∙ sum_by-cons (λ (r : K × ℕ). r.1) row (drop (i + 1) rows)
