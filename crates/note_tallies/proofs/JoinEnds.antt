-- The least and the greatest line of a tally, and the sum of its counts.
use Rattle.std.proofs.Common.{◌≡◌, ℕ, suc, ◌+◌, ◌≤◌, ◌∙◌, ◌&&◌, Bool, true, false, eqb, List, [], ◌∷◌, length, get_or, sum, Option, Some, None, option_map, Ordering, refl, sym, ap, subst, arith}
use Rattle.std.specs.declared.cmp.Ordering.TheVariants.{Less, Equal, Greater}
use Rattle.std.specs.Cmp.Lexicographic.{nat_list_cmp_total}
use Rattle.std.specs.Bool.{beq}
use Rattle.std.specs.Option.{option_or}
use Rattle.std.specs.Ordering.{is_le, is_lt, is_gt}
use Rattle.std.proofs.lemmas.Bool.{and_parts, eqb-true}
use Rattle.std.proofs.lemmas.Cmp.{upto, tied_itself}
use Rattle.std.proofs.lemmas.List.Sums.{sum_by-cons}
use Rattle.book_core.specs.Page.{PageName, bytes_cmp, page_eq}
use Rattle.book_core.specs.Hashed.{has_hash}
use Rattle.note_tallies.specs.Join.{are_alike, are_of_one_kind, follows, IsSum}
use Rattle.note_tallies.specs.Tally.{PageTally, IsPageTally, AreEnds, most_at_point, most_in_all}
use Rattle.note_tallies.proofs.Pages.{same_page}

not_above : (o : Ordering) → is_le o ≡ true → is_gt o ≡ false
not_above Less e = refl
not_above Equal e = refl
not_above Greater e = cc

at_most : (o : Ordering) → is_gt o ≡ false → is_le o ≡ true
at_most Less e = refl
at_most Equal e = refl
at_most Greater e = cc

pub le_from_lt : (o : Ordering) → is_lt o ≡ true → is_le o ≡ true
le_from_lt Less e = refl
le_from_lt Equal e = cc
le_from_lt Greater e = cc

pub le_trans : (a b c : List ℕ) → is_le (bytes_cmp a b) ≡ true → is_le (bytes_cmp b c) ≡ true → is_le (bytes_cmp a c) ≡ true
le_trans a b c low high = at_most (bytes_cmp a c) (upto nat_list_cmp_total a b c (not_above (bytes_cmp a b) low) (not_above (bytes_cmp b c) high))

pub le_itself : (a : List ℕ) → is_le (bytes_cmp a a) ≡ true
le_itself a = ap is_le (tied_itself nat_list_cmp_total a)

same_from_beq : (x y : Bool) → beq x y ≡ true → x ≡ y
same_from_beq true true e = refl
same_from_beq true false e = cc
same_from_beq false true e = cc
same_from_beq false false e = refl

-- the ends of two tallies, of which the second one's lines follow the first one's
pub ends_joined : (page : PageName) (n m : ℕ) (first last next end : Option (List ℕ)) → AreEnds page n first last → AreEnds page m next end → follows last next ≡ true → are_of_one_kind last next ≡ true → AreEnds page (n + m) (option_or first next) (option_or end last)
ends_joined page n m None None None None one other follow kind = omega (arith, one, other)
ends_joined page n m None None (Some next) (Some end) one other follow kind = (omega (arith, one, other.0), other.1, other.2, other.3, other.4)
ends_joined page n m None None None (Some end) one other follow kind = absurd other
ends_joined page n m None None (Some next) None one other follow kind = absurd other
ends_joined page n m None (Some last) next end one other follow kind = absurd one
ends_joined page n m (Some first) None next end one other follow kind = absurd one
ends_joined page n m (Some first) (Some last) None None one other follow kind = (omega (arith, one.0), one.1, one.2, one.3, one.4)
ends_joined page n m (Some first) (Some last) None (Some end) one other follow kind = absurd other
ends_joined page n m (Some first) (Some last) (Some next) None one other follow kind = absurd other
ends_joined page n m (Some first) (Some last) (Some next) (Some end) one other follow kind = (
  omega (arith, one.0),
  one.1,
  other.2,
  le_trans first last end one.3 (le_trans last next end (le_from_lt (bytes_cmp last next) follow) other.3),
  one.4 ∙ same_from_beq (has_hash last) (has_hash next) kind ∙ other.4,
)

-- counts that are added point by point
pub sum_of_both : (now old more : List ℕ) → length now ≡ length old → length more ≡ length old → ((p : ℕ) → get_or now p 0 ≡ get_or old p 0 + get_or more p 0) → sum now ≡ sum old + sum more
sum_of_both [] [] [] same also each = refl
sum_of_both [] [] (z ∷ zs) same also each = absurd (omega (arith, also))
sum_of_both [] (y ∷ ys) more same also each = absurd (omega (arith, same))
sum_of_both (x ∷ xs) [] more same also each = absurd (omega (arith, same))
sum_of_both (x ∷ xs) (y ∷ ys) [] same also each = absurd (omega (arith, also))
sum_of_both (x ∷ xs) (y ∷ ys) (z ∷ zs) same also each =
    let here : x ≡ y + z = each 0 in
    let later = sum_of_both xs ys zs (omega (arith, same)) (omega (arith, also)) (λ p. each (suc p)) in
    let now = sum_by-cons (λ (n : ℕ). n) x xs in
    let old = sum_by-cons (λ (n : ℕ). n) y ys in
    let more = sum_by-cons (λ (n : ℕ). n) z zs in
    omega (arith, here, later, now, old, more)

pub option_map-or : {X Y : Type 0} (f : X → Y) (a b : Option X) → option_map f (option_or a b) ≡ option_or (option_map f a) (option_map f b)
option_map-or f None b = refl
option_map-or f (Some x) b = refl

-- what is joined of two tallies is a tally
pub joined_is : (one other : PageTally) (first last : Option (List ℕ)) (counts : List ℕ) → IsPageTally one → IsPageTally other → are_alike one other ≡ true → follows one.last other.first ≡ true
    → first ≡ option_or one.first other.first → last ≡ option_or other.last one.last → IsSum one.counts other.counts counts → ((p : ℕ) → get_or one.counts p 0 + get_or other.counts p 0 ≤ most_at_point) → one.inputs + other.inputs ≤ most_in_all
    → IsPageTally (record { page = one.page; total = one.total; first = first; last = last; inputs = one.inputs + other.inputs; counts = counts })
joined_is one other first last counts is also alike follow starts stops sums small few =
    let kinds = and_parts (page_eq one.page other.page && eqb one.total other.total) (are_of_one_kind one.last other.first) alike in
    let parts = and_parts (page_eq one.page other.page) (eqb one.total other.total) kinds.0 in
    let page : one.page ≡ other.page = same_page one.page other.page parts.0 in
    let total : one.total ≡ other.total = eqb-true one.total other.total parts.1 in
    let added = sum_of_both counts one.counts other.counts sums.whole (omega (arith, is.whole, also.whole, total)) sums.each in
    let ends = ends_joined one.page one.inputs other.inputs one.first one.last other.first other.last is.ends (subst (λ (p : PageName). AreEnds p other.inputs other.first other.last) (sym page) also.ends) follow kinds.1 in
    record {
      allowed = is.allowed;
      whole = sums.whole ∙ is.whole;
      small = λ p. (let here = sums.each p in let fits = small p in omega (arith, here, fits));
      added = omega (arith, added, is.added, also.added);
      few = few;
      ends = subst (λ (o : Option (List ℕ)). AreEnds one.page (one.inputs + other.inputs) o last) (sym starts) (subst (λ (o : Option (List ℕ)). AreEnds one.page (one.inputs + other.inputs) (option_or one.first other.first) o) (sym stops) ends);
    }
