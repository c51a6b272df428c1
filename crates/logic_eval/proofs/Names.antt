-- The names of `missing`.
use Rattle.std.proofs.Common.{◌≡◌, ◌≢◌, ◌<◌, List, [], ◌∷◌, length, get_or, drop, map, Some, None, Ok, ℤ, pos, refl, sym, ap, ◌∙◌, arith, true, false}
use Rattle.std.specs.Borrow.{Bor}
use Rattle.std.specs.Prelude.{filter, int_lt}
use Rattle.flag_text.specs.Readers.{as_list}
use Rattle.flag_text.specs.Shape.{Shape, list}
use Rattle.flag_text.specs.View.{items_of}
use Rattle.flag_text.specs.declared.tree.Tree.{Tree}
use Rattle.logic_values.specs.declared.seen.Seen.{Seen}
use Rattle.logic_values.specs.declared.seen.Seen.TheVariants as seen
use Rattle.logic_values.specs.declared.value.Value.{Value}
use Rattle.logic_eval.specs.Scope.{missing, is_missing, names_from, found_count, missing_unless}
use Rattle.logic_values.specs.Views.{seen_view, value_view}
use Rattle.logic_values.proofs.Items.{shapes_of_items}

pub cons_at : {A : Type 0} (xs : List A) (x : A) → 0 < length xs → x ≡ get_or xs 0 x → xs ≡ x ∷ drop 1 xs
cons_at [] x h is = absurd (omega arith)
cons_at (y ∷ ys) x h is = ap (λ z. z ∷ ys) (sym is)

pub missing_list : (scope : Shape) (vs : List Value) (x : Value) (ts : List Shape) → 0 < length vs → x ≡ get_or vs 0 x → value_view x ≡ list (items_of ts)
    → missing scope (map value_view vs) ≡ filter (is_missing scope) ts
missing_list scope vs x ts h is e =
    ap (λ us. missing scope (map value_view us)) (cons_at vs x h is)
    ∙ (ap (λ t. filter (is_missing scope) (names_from (as_list t) (t ∷ map value_view (drop 1 vs)))) e ∙ ap (filter (is_missing scope)) (shapes_of_items ts))

pub missing_others : (scope : Shape) (vs : List Value) (x : Value) → 0 < length vs → x ≡ get_or vs 0 x → None ≡ as_list (value_view x)
    → missing scope (map value_view vs) ≡ filter (is_missing scope) (map value_view vs)
missing_others scope vs x h is e =
    ap (λ us. missing scope (map value_view us)) (cons_at vs x h is)
    ∙ (ap (λ o. filter (is_missing scope) (names_from o (value_view x ∷ map value_view (drop 1 vs)))) (sym e) ∙ ap (λ us. filter (is_missing scope) (map value_view us)) (sym (cons_at vs x h is)))

pub fewer : (scope : Shape) (n : ℤ) (ts : List Shape) → int_lt (pos (found_count scope ts)) n ≡ true → missing_unless scope (Some n) ts ≡ Ok (list (items_of (filter (is_missing scope) ts)))
fewer scope n ts e = rw e refl

pub enough : (scope : Shape) (n : ℤ) (ts : List Shape) → int_lt (pos (found_count scope ts)) n ≡ false → missing_unless scope (Some n) ts ≡ Ok (list (items_of []))
enough scope n ts e = rw e refl

-- what is no list has no items
pub no_list : (s : Seen) → ((ts : Bor (List Tree)) → s ≢ seen.Trees ts) → ((vs : Bor (List Value)) → s ≢ seen.Values vs) → None ≡ as_list (seen_view s)
no_list seen.Null a b = refl
no_list (seen.Bool t) a b = refl
no_list (seen.Whole n) a b = refl
no_list seen.Other a b = refl
no_list (seen.Text t) a b = refl
no_list (seen.Trees ts) a b = absurd (a ts refl)
no_list (seen.Values vs) a b = absurd (b vs refl)
no_list (seen.Object ms) a b = refl
no_list (seen.Context r) a b = refl
no_list (seen.Fold t u) a b = refl
