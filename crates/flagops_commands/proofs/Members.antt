-- The totals of a rule as the members of an object: made one by one, and such that they can be printed.
use Rattle.std.proofs.Common.{◌≡◌, ℕ, pos, ◌<◌, ◌^◌, List, [], ◌∷◌, map, true, nat_lt, refl, ap, ◌∙◌, arith}
use Rattle.std.specs.Cmp.Lexicographic.{slice_cmp}
use Rattle.std.specs.List.{AllByRecursion}
use Rattle.std.specs.List.Sorted.{IsStrictlySortedBy}
use Rattle.std.specs.Ordering.{nat_cmp}
use Rattle.std.specs.declared.cmp.Ordering.TheVariants.{Less}
use Rattle.std.proofs.lemmas.Bool.{lt-ltb}
use Rattle.std.proofs.lemmas.Cmp.{nat_list_cmp_total}
use Rattle.flag_text.proofs.Views.{Named, named_view}
use Rattle.flag_text.specs.Shape.{Shape, whole, Members, no_members, member, comes_first, members_are_whole}
use Rattle.flag_text.specs.View.{members_view}
use Rattle.bucket_core.specs.Rule.{Entries, total_of, total_weight}
use Rattle.bucket_core.proofs.Points.{total_of-le}
use Rattle.book_core.proofs.Ordered.{sorted-insert_key}
use Rattle.flagops_commands.specs.Price.{total_members}
use Rattle.flagops_commands.specs.Totals.{names_in_order, totals_by_name}

-- ---- they can be printed

abbrev with_totals : Entries → List (List ℕ) → Entries
with_totals r names = map {B = List ℕ × ℕ} (λ name. (name, total_of r name)) names

first : (r : Entries) (k : List ℕ) (ks : List (List ℕ)) → AllByRecursion (λ l. slice_cmp nat_cmp k l ≡ Less) ks → comes_first k (total_members (with_totals r ks)) ≡ true
first r k [] above = refl
first r k (l ∷ ks) above = rw above.0 refl

whole_each : (r : Entries) (names : List (List ℕ)) → total_weight r < 2 ^ 31 → IsStrictlySortedBy (slice_cmp nat_cmp) names → members_are_whole (total_members (with_totals r names)) ≡ true
unfolding IsStrictlySortedBy
whole_each r [] small rise = refl
whole_each r (k ∷ ks) small rise =
    let fits : nat_lt (total_of r k) (2 ^ 53) ≡ true = lt-ltb (total_of r k) (2 ^ 53) (omega (arith, small, total_of-le r k)) in
    rw (first r k ks rise.0, fits, whole_each r ks small rise.1) refl

in_order : (r : Entries) → IsStrictlySortedBy (slice_cmp nat_cmp) (names_in_order r)
unfolding IsStrictlySortedBy
in_order [] = tt
in_order (e ∷ es) = sorted-insert_key nat_list_cmp_total (names_in_order es) e.0 (in_order es)

pub totals_whole : (r : Entries) → total_weight r < 2 ^ 31 → members_are_whole (total_members (totals_by_name r)) ≡ true
totals_whole r small = whole_each r (names_in_order r) small (in_order r)

-- ---- they are made one by one

abbrev pub whole_member : List ℕ × ℕ → List ℕ × Shape
whole_member e = (e.0, whole (pos e.1))

abbrev of_pairs : List (List ℕ × Shape) → Members
of_pairs [] = no_members
of_pairs (p ∷ ps) = member p.0 p.1 (of_pairs ps)

seen_so : (ms : List Named) → members_view ms ≡ of_pairs (map named_view ms)
seen_so [] = refl
seen_so (m ∷ ms) = ap (member (named_view m).0 (named_view m).1) (seen_so ms)

made_so : (es : Entries) → of_pairs (map whole_member es) ≡ total_members es
made_so [] = refl
made_so (e ∷ es) = ap (member e.0 (whole (pos e.1))) (made_so es)

pub members_made : (ms : List Named) (es : Entries) → map named_view ms ≡ map whole_member es → members_view ms ≡ total_members es
members_made ms es made = seen_so ms ∙ (ap of_pairs made ∙ made_so es)
