-- The size of a scope, part by part.
use Rattle.std.proofs.Common.{◌≡◌, ℕ, ◌+◌, ◌<◌, ◌≤◌, ◌||◌, Bool, true, false, List, length, get_or, drop, string_bytes, String, Global, refl, sym, ap, ◌∙◌, arith, Ordering, Less, Equal, Greater, nat_cmp}
use Rattle.std.specs.Prelude.{Box, codes, if◌then◌else◌}
use Rattle.std.specs.Cmp.Lexicographic.{slice_cmp}
use Rattle.std.specs.Ordering.{match_ordering, ordering_reverse, is_eq}
use Rattle.std.specs.Str.{bytes_eq}
use Rattle.std.proofs.lemmas.Cmp.{nat_list_cmp_total}
use Rattle.std.proofs.lemmas.Map.Text.{is_eq-slice_cmp}
use Rattle.std.proofs.lemmas.List.{drop_all}
use Rattle.flag_text.specs.declared.tree.Tree.{Tree}
use Rattle.flag_text.specs.Shape.{Shape, object, Members, no_members, member, comes_first, names_rise, has_other, members_have_other}
use Rattle.flag_text.specs.View.{view, members_view}
use Rattle.flag_text.proofs.Bools.{left, right}
use Rattle.flag_text.proofs.Halving.{same_name}
use Rattle.logic_values.specs.Objects.{reduce_scope, with_member, with_flagd}
use Rattle.logic_eval.specs.Scope.{size, members_size, others_size, others_have_other}
use Rattle.logic_values.specs.Views.{value_view}
use Rattle.logic_values.specs.declared.value.Value.{Value}
use Rattle.logic_values.specs.declared.value.Value.TheVariants as value
use Rattle.logic_values.proofs.Items.{drop_at}
use Rattle.logic_values.proofs.Surfaces.{value_fold}

less_if : (o : Ordering) → match_ordering o true false false ≡ true → o ≡ Less
less_if Less e = refl
less_if Equal e = cc
less_if Greater e = cc

first_later : (k l : List ℕ) (ms : Members) → slice_cmp nat_cmp k l ≡ Less → comes_first l ms ≡ true → comes_first k ms ≡ true
first_later k l no_members less first = refl
first_later k l (member m t ms) less first =
    let next : slice_cmp nat_cmp k m ≡ Less = nat_list_cmp_total.trans k l m less (less_if (slice_cmp nat_cmp l m) first) in
    rw next refl

-- the other way round, a name that comes later is another one
other_later : (k l : List ℕ) → slice_cmp nat_cmp k l ≡ Less → bytes_eq l k ≡ false
other_later k l less = sym (is_eq-slice_cmp l k) ∙ ap is_eq (nat_list_cmp_total.antisymm l k ∙ ap ordering_reverse less)

other_earlier : (k l : List ℕ) → slice_cmp nat_cmp k l ≡ Greater → bytes_eq l k ≡ false
other_earlier k l more = sym (is_eq-slice_cmp l k) ∙ ap is_eq (nat_list_cmp_total.antisymm l k ∙ ap ordering_reverse more)

same_as : (k l : List ℕ) → slice_cmp nat_cmp k l ≡ Equal → bytes_eq l k ≡ true
same_as k l e = sym (is_eq-slice_cmp l k) ∙ ap is_eq (nat_list_cmp_total.antisymm l k ∙ ap ordering_reverse e)

-- behind a name in front of all stand others alone
others_size-first : (k : List ℕ) (ms : Members) → comes_first k ms ≡ true → names_rise ms ≡ true → others_size k ms ≡ members_size ms
others_size-first k no_members first rise = refl
others_size-first k (member l t ms) first rise =
    let less : slice_cmp nat_cmp k l ≡ Less = less_if (slice_cmp nat_cmp k l) first in
    let rest = others_size-first k ms (first_later k l ms less (left (comes_first l ms) _ rise)) (right (comes_first l ms) _ rise) in
    rw (other_later k l less, rest) refl

size-put : (o : Ordering) (k l : List ℕ) (t u : Shape) (ms : Members) → slice_cmp nat_cmp k l ≡ o → names_rise (member l u ms) ≡ true → members_size (with_member k t ms) ≡ size t + others_size k ms
    → members_size (match_ordering o (member k t (member l u ms)) (member k t ms) (member l u (with_member k t ms))) ≡ size t + others_size k (member l u ms)
size-put Less k l t u ms e rise more =
    let first : comes_first k (member l u ms) ≡ true = rw e refl in
    ap (λ n. size t + n) (sym (others_size-first k (member l u ms) first rise))
size-put Equal k l t u ms e rise more =
    let same : k ≡ l = same_name k l e in
    let first : comes_first k ms ≡ true = rw same (left (comes_first l ms) _ rise) in
    let rest = others_size-first k ms first (right (comes_first l ms) _ rise) in
    rw (same_as k l e, rest) (omega arith)
size-put Greater k l t u ms e rise more = rw (other_earlier k l e) (omega arith)

size-with_member : (k : List ℕ) (t : Shape) (ms : Members) → names_rise ms ≡ true → members_size (with_member k t ms) ≡ size t + others_size k ms
unfolding with_member
size-with_member k t no_members rise = refl
size-with_member k t (member l u ms) rise =
    size-put (slice_cmp nat_cmp k l) k l t u ms refl rise (size-with_member k t ms (right (comes_first l ms) _ rise))

pub size-root : (t : Shape) (ms : Members) → names_rise ms ≡ true → size (with_flagd t (object ms)) ≡ 1 + (size t + others_size (codes "$flagd") ms)
size-root t ms rise = ap (λ n. 1 + n) (size-with_member (codes "$flagd") t ms rise)

-- the same of numbers that are not whole
others_other-first : (k : List ℕ) (ms : Members) → comes_first k ms ≡ true → names_rise ms ≡ true → others_have_other k ms ≡ members_have_other ms
others_other-first k no_members first rise = refl
others_other-first k (member l t ms) first rise =
    let less : slice_cmp nat_cmp k l ≡ Less = less_if (slice_cmp nat_cmp k l) first in
    let rest = others_other-first k ms (first_later k l ms less (left (comes_first l ms) _ rise)) (right (comes_first l ms) _ rise) in
    rw (other_later k l less, rest) refl

either_first : (a b c d : Bool) → a ≡ (b || c) → (d || a) ≡ (b || (d || c))
either_first a true c true e = refl
either_first a true c false e = e
either_first a false c true e = refl
either_first a false c false e = e

other-put : (o : Ordering) (k l : List ℕ) (t u : Shape) (ms : Members) → slice_cmp nat_cmp k l ≡ o → names_rise (member l u ms) ≡ true → members_have_other (with_member k t ms) ≡ (has_other t || others_have_other k ms)
    → members_have_other (match_ordering o (member k t (member l u ms)) (member k t ms) (member l u (with_member k t ms))) ≡ (has_other t || others_have_other k (member l u ms))
other-put Less k l t u ms e rise more =
    let first : comes_first k (member l u ms) ≡ true = rw e refl in
    ap (λ b. has_other t || b) (sym (others_other-first k (member l u ms) first rise))
other-put Equal k l t u ms e rise more =
    let same : k ≡ l = same_name k l e in
    let first : comes_first k ms ≡ true = rw same (left (comes_first l ms) _ rise) in
    let rest = others_other-first k ms first (right (comes_first l ms) _ rise) in
    rw (same_as k l e, rest) refl
other-put Greater k l t u ms e rise more = rw (other_earlier k l e) (either_first _ (has_other t) (others_have_other k ms) (has_other u) more)

other-with_member : (k : List ℕ) (t : Shape) (ms : Members) → names_rise ms ≡ true → members_have_other (with_member k t ms) ≡ (has_other t || others_have_other k ms)
unfolding with_member
other-with_member k t no_members rise = refl
other-with_member k t (member l u ms) rise =
    other-put (slice_cmp nat_cmp k l) k l t u ms refl rise (other-with_member k t ms (right (comes_first l ms) _ rise))

pub other-root : (t : Shape) (ms : Members) → names_rise ms ≡ true → has_other (with_flagd t (object ms)) ≡ (has_other t || others_have_other (codes "$flagd") ms)
other-root t ms rise = other-with_member (codes "$flagd") t ms rise

pub fold_other : (so_far current : Box Value Global) → has_other (value_view (value.Fold so_far current)) ≡ (has_other (value_view so_far.value) || has_other (value_view current.value))
fold_other so_far current = ap has_other (value_fold so_far current) ∙ or_false (has_other (value_view so_far.value)) (has_other (value_view current.value))
  where
    or_false : (a b : Bool) → (a || (b || false)) ≡ (a || b)
    or_false true b = refl
    or_false false true = refl
    or_false false false = refl

-- the members from i on, one by one
module _ (k : List ℕ) (xs : List (String Global × Tree)) (i : ℕ) where
  pub others_at : (x : String Global × Tree) → i < length xs → x ≡ get_or xs i x
      → others_size k (members_view (drop i xs)) ≡ (if bytes_eq (string_bytes x.0) k then 0 else size (view x.1)) + others_size k (members_view (drop (i + 1) xs))
  others_at x h is = rw (drop_at xs i x h is) refl

  pub others_end : length xs ≤ i → others_size k (members_view (drop i xs)) ≡ 0
  others_end h = rw (drop_all i xs h) refl

pub size-fold : (t u : Shape) → size (reduce_scope t u) ≡ 1 + (size t + size u)
size-fold t u = omega arith

pub fold_size : (so_far current : Box Value Global) → size (value_view (value.Fold so_far current)) ≡ 1 + (size (value_view so_far.value) + size (value_view current.value))
fold_size so_far current = ap size (value_fold so_far current) ∙ size-fold (value_view so_far.value) (value_view current.value)
