-- A set that outnumbers by the totals of the names is deficient by the points.
use Rattle.std.proofs.Common.{◌≡◌, ◌||◌, ℕ, zero, suc, List, [], ◌∷◌, Bool, true, false, refl, sym, ap, ◌∙◌, subst, arith}
use Rattle.std.specs.List.{All, Contains, list_any, list_all}
use Rattle.std.specs.Map.{keys_of}
use Rattle.std.specs.Str.{bytes_eq}
use Rattle.std.proofs.lemmas.Bool.{and_parts, and_from, or_left, or_right, false≢true}
use Rattle.std.proofs.lemmas.List.Elements.{All-cons, All-nil, All-head, All-tail}
use Rattle.std.proofs.lemmas.Slice.Eq.{bytes_eq-Decides}
use Rattle.bucket_core.specs.Rule.{Entries}
use Rattle.price_core.specs.Limits.{Limits, AreLimits}
use Rattle.price_core.specs.Pricing.{Pricing}
use Rattle.transport_core.specs.declared.certificate.CutKind.{CutKind}
use Rattle.transport_core.specs.declared.certificate.CutKind.TheVariants.{Over, Under}
use Rattle.transport_core.specs.Deficient.{may_become, is_among, IsDeficient, Outnumbers}
use Rattle.transport_core.specs.Fits.{Fits}
use Rattle.transport_core.specs.Rows.{AreTotals}
use Rattle.transport_core.proofs.Cuts.{over_fits_none, under_fits_none}
use Rattle.transport_core.proofs.Keys.{contains_from_any}

-- whether each name is listed
abbrev pub all_listed : List (List ℕ) → List (List ℕ) → Bool
all_listed keys names = list_all (λ name. list_any (bytes_eq name) keys) names

any_from_contains : (xs : List (List ℕ)) (x : List ℕ) → Contains xs x → list_any (bytes_eq x) xs ≡ true
any_from_contains [] x (k, below, is) = absurd (omega arith)
any_from_contains (y ∷ ys) x (zero, below, is) = or_left (bytes_eq x y) (list_any (bytes_eq x) ys) ((bytes_eq-Decides x y).1 (sym is))
any_from_contains (y ∷ ys) x (suc k, below, is) = or_right (bytes_eq x y) (list_any (bytes_eq x) ys) (any_from_contains ys x (k, omega arith, is))

pub listed_from_test : (keys names : List (List ℕ)) → all_listed keys names ≡ true → All (Contains keys) names
listed_from_test keys [] all = All-nil (Contains keys)
listed_from_test keys (n ∷ ns) all =
    let parts = and_parts (list_any (bytes_eq n) keys) (all_listed keys ns) all in
    All-cons (Contains keys) n ns (contains_from_any keys n parts.0) (listed_from_test keys ns parts.1)

pub test_from_listed : (keys names : List (List ℕ)) → All (Contains keys) names → all_listed keys names ≡ true
test_from_listed keys [] all = refl
test_from_listed keys (n ∷ ns) all = and_from (list_any (bytes_eq n) keys) (all_listed keys ns) (any_from_contains keys n (All-head (Contains keys) n ns all)) (test_from_listed keys ns (All-tail (Contains keys) n ns all))

pub names_listed : (kind : CutKind) (old : Entries) (limits : Limits) (pricing : Pricing) (names : List (List ℕ)) → IsDeficient kind old limits pricing names → All (Contains (keys_of limits)) names
names_listed Over old limits pricing names deficient = deficient.listed
names_listed Under old limits pricing names deficient = deficient.listed

pub deficient_from : (kind : CutKind) (old : Entries) (totals : List (List ℕ × ℕ)) (limits : Limits) (pricing : Pricing) (names : List (List ℕ)) → AreTotals old totals → All (Contains (keys_of limits)) names → Outnumbers kind totals limits pricing names → IsDeficient kind old limits pricing names
deficient_from Over old totals limits pricing names are listed more = record { listed = listed; more = omega (arith, are.counts (is_among names), more) }
deficient_from Under old totals limits pricing names are listed fewer = record { listed = listed; fewer = omega (arith, are.counts (λ from. is_among names from || list_any (may_become pricing from) names), fewer) }

pub outnumbers_from : (kind : CutKind) (old : Entries) (totals : List (List ℕ × ℕ)) (limits : Limits) (pricing : Pricing) (names : List (List ℕ)) → AreTotals old totals → IsDeficient kind old limits pricing names → Outnumbers kind totals limits pricing names
outnumbers_from Over old totals limits pricing names are deficient = omega (arith, are.counts (is_among names), deficient.more)
outnumbers_from Under old totals limits pricing names are deficient = omega (arith, are.counts (λ from. is_among names from || list_any (may_become pricing from) names), deficient.fewer)

pub deficient_fits_none : (kind : CutKind) (old rule : Entries) (limits : Limits) (pricing : Pricing) (names : List (List ℕ)) → AreLimits limits → IsDeficient kind old limits pricing names → Fits old rule limits pricing → ⊥
deficient_fits_none Over old rule limits pricing names lawful deficient fits = over_fits_none old rule limits pricing names lawful deficient fits
deficient_fits_none Under old rule limits pricing names lawful deficient fits = under_fits_none old rule limits pricing names lawful deficient fits

-- ---- the same, where the limits and the names are known under other names

module _ (kind : CutKind) (old : Entries) (limits read : Limits) (pricing : Pricing) (names seen : List (List ℕ)) (limits_are : read ≡ limits) (names_are : seen ≡ names) where
  pub refuse_unlisted : false ≡ all_listed (keys_of read) seen → IsDeficient kind old limits pricing names → ⊥
  refuse_unlisted fails deficient =
      let listed = test_from_listed (keys_of limits) names (names_listed kind old limits pricing names deficient) in
      let same = ap (λ ls. all_listed (keys_of ls) seen) limits_are ∙ ap (all_listed (keys_of limits)) names_are in
      false≢true (fails ∙ (same ∙ listed))

  pub accept : (totals : List (List ℕ × ℕ)) → AreTotals old totals → all_listed (keys_of read) seen ≡ true → Outnumbers kind totals read pricing seen → IsDeficient kind old limits pricing names
  accept totals are passes more =
      let same = ap (λ ls. all_listed (keys_of ls) seen) limits_are ∙ ap (all_listed (keys_of limits)) names_are in
      deficient_from kind old totals limits pricing names are (listed_from_test (keys_of limits) names (sym same ∙ passes))
      (subst (λ ns. Outnumbers kind totals limits pricing ns) names_are (subst (λ ls. Outnumbers kind totals ls pricing seen) limits_are more))

  pub listed_here : all_listed (keys_of read) seen ≡ true → All (Contains (keys_of limits)) names
  listed_here passes =
      let same = ap (λ ls. all_listed (keys_of ls) seen) limits_are ∙ ap (all_listed (keys_of limits)) names_are in
      listed_from_test (keys_of limits) names (sym same ∙ passes)

  pub outnumbers_back : (totals : List (List ℕ × ℕ)) → AreTotals old totals → IsDeficient kind old limits pricing names → Outnumbers kind totals read pricing seen
  outnumbers_back totals are deficient =
      subst (λ ls. Outnumbers kind totals ls pricing seen) (sym limits_are) (subst (λ ns. Outnumbers kind totals limits pricing ns) (sym names_are) (outnumbers_from kind old totals limits pricing names are deficient))

  pub refuse_few : (totals : List (List ℕ × ℕ)) → AreTotals old totals → (Outnumbers kind totals read pricing seen → ⊥) → IsDeficient kind old limits pricing names → ⊥
  refuse_few totals are few deficient =
      few (outnumbers_back totals are deficient)
