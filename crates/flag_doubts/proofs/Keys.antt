-- The keys of a set of texts, by their bytes.
use Rattle.std.proofs.Common.{◌≡◌, ℕ, ◌||◌, List, [], ◌∷◌, map, String, Global, string_bytes, Less, refl, sym, ap, subst, ◌∙◌}
use Rattle.std.proofs.lemmas.Map.Text.{is_eq-slice_cmp}
use Rattle.std.specs.BTreeMap.{is_at}
use Rattle.std.specs.Cmp.Lexicographic.{slice_cmp}
use Rattle.std.specs.List.{AllByRecursion, list_any}
use Rattle.std.specs.List.Sorted.{IsStrictlySortedBy}
use Rattle.std.specs.Ordering.{nat_cmp}
use Rattle.std.specs.Str.{bytes_eq}
use Rattle.std.specs.String.{string_cmp}

below_bytes : (k : String Global) (ks : List (String Global)) → AllByRecursion (λ x. string_cmp k x ≡ Less) ks → AllByRecursion (λ x. slice_cmp nat_cmp (string_bytes k) x ≡ Less) (map string_bytes ks)
below_bytes k [] h = tt
below_bytes k (x ∷ xs) h = (h.0, below_bytes k xs h.1)

pub rising_bytes : (ks : List (String Global)) → IsStrictlySortedBy string_cmp ks → IsStrictlySortedBy (slice_cmp nat_cmp) (map string_bytes ks)
unfolding IsStrictlySortedBy
rising_bytes [] h = tt
rising_bytes (k ∷ ks) h = (below_bytes k ks h.0, rising_bytes ks h.1)

pub among_bytes : (key : List ℕ) (ks : List (String Global)) → list_any (bytes_eq key) (map string_bytes ks) ≡ list_any (is_at (λ k. slice_cmp nat_cmp key (string_bytes k))) ks
among_bytes key [] = refl
among_bytes key (k ∷ ks) =
    ap (λ b. b || list_any (bytes_eq key) (map string_bytes ks)) (sym (is_eq-slice_cmp key (string_bytes k))) ∙ ap (λ b. is_at (λ x. slice_cmp nat_cmp key (string_bytes x)) k || b) (among_bytes key ks)

pub no_keys : (ks : List (String Global)) → ks ≡ [] → IsStrictlySortedBy (slice_cmp nat_cmp) (map string_bytes ks)
unfolding IsStrictlySortedBy
no_keys ks none = subst (λ (xs : List (String Global)). IsStrictlySortedBy (slice_cmp nat_cmp) (map string_bytes xs)) (sym none) tt
