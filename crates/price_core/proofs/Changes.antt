-- The order of pairs of names.
use Rattle.std.proofs.Common.{◌≡◌, List, ◌&&◌, Ordering, refl, ◌∙◌}
use Rattle.std.specs.BTreeMap.{is_at}
use Rattle.std.specs.Cmp.{IsTotalOrder}
use Rattle.std.specs.Cmp.Lexicographic.{slice_cmp}
use Rattle.std.specs.Map.{lookup}
use Rattle.std.specs.Ordering.{nat_cmp, is_eq, ordering_then}
use Rattle.std.specs.declared.cmp.Ordering.TheVariants.{Less, Equal, Greater}
use Rattle.std.proofs.lemmas.Cmp.{nat_list_cmp_total, on_total, then_total}
use Rattle.std.proofs.lemmas.Map.Lookups.{exact_bytes, exact_pairs}
use Rattle.std.proofs.lemmas.Map.Text.{is_eq-slice_cmp}
use Rattle.price_core.specs.Pricing.{Pair, is_same_pair, pair_cmp}

pub pair_cmp_total : IsTotalOrder pair_cmp
pair_cmp_total = then_total (on_total (λ (p : Pair). p.0) nat_list_cmp_total) (on_total (λ (p : Pair). p.1) nat_list_cmp_total)

pub pair_exact : (p q : Pair) → pair_cmp p q ≡ Equal → p ≡ q
pair_exact = exact_pairs (slice_cmp nat_cmp) (slice_cmp nat_cmp) exact_bytes exact_bytes

both_equal : (o n : Ordering) → is_eq (ordering_then o n) ≡ (is_eq o && is_eq n)
both_equal Less n = refl
both_equal Equal n = refl
both_equal Greater n = refl

pub is_same-cmp : (p q : Pair) → is_at (pair_cmp p) q ≡ is_same_pair p q
is_same-cmp p q = both_equal (slice_cmp nat_cmp p.0 q.0) (slice_cmp nat_cmp p.1 q.1) ∙ (λ i. is_eq-slice_cmp p.0 q.0 i && is_eq-slice_cmp p.1 q.1 i)

pub lookup-cmp : {X : Type 0} (p : Pair) (es : List (Pair × X)) → lookup (is_at (pair_cmp p)) es ≡ lookup (is_same_pair p) es
lookup-cmp p es = λ i. lookup (λ q. is_same-cmp p q i) es
