-- What prices give, from what a search finds.
use Rattle.std.proofs.Common.{◌≡◌, ◌≤◌, ℕ, List, true, not, ◌&&◌, Option, Some, None, IfSome, is_some, unwrap_or, refl, sym, ap, ◌∙◌, subst, arith}
use Rattle.std.specs.Option.{option_copied}
use denote.Ref.{Bor}
use Rattle.std.specs.List.{list_any}
use Rattle.std.specs.Map.{keys_of, lookup}
use Rattle.std.specs.Str.{bytes_eq}
use Rattle.std.proofs.lemmas.Bool.{cond_both}
use Rattle.std.proofs.lemmas.Map.Entries.{All-lookup}
use Rattle.std.proofs.lemmas.Map.Made.{is_some-lookup}
use Rattle.price_core.specs.Pricing.{Pair, Pricing, IsPricing, is_same_pair, price_of, is_forbidden, max_price}

pub named_fits : (p : Pricing) (q : Pair) (n : ℕ) → IsPricing p → Some n ≡ lookup (is_same_pair q) p.named → n ≤ max_price
named_fits p q n lawful is = let P : Option ℕ → Type 0 = λ o. IfSome o (λ k. k ≤ max_price) in subst P (sym is) (All-lookup (λ k. k ≤ max_price) (is_same_pair q) p.named lawful.named_fit)

pub price_small : (p : Pricing) (a b : List ℕ) → IsPricing p → price_of p a b ≤ max_price
price_small p a b lawful =
    cond_both (bytes_eq a b) 0 (unwrap_or (lookup (is_same_pair (a, b)) p.named) p.usual) (λ n. n ≤ max_price) (λ _. omega arith) (λ _. own (lookup (is_same_pair (a, b)) p.named) refl)
  where
    own : (o : Option ℕ) → o ≡ lookup (is_same_pair (a, b)) p.named → unwrap_or o p.usual ≤ max_price
    own None is = lawful.usual_fits
    own (Some n) is = named_fits p (a, b) n lawful is

pub barred-lookup : (q : Pair) (es : List (Pair × Unit {0})) → is_some (lookup (is_same_pair q) es) ≡ list_any (is_same_pair q) (keys_of es)
barred-lookup q es = is_some-lookup (is_same_pair q) es

copied_is_some : {X : Type 0} (o : Option (Bor X)) → is_some o ≡ is_some (option_copied o)
copied_is_some None = refl
copied_is_some (Some x) = refl

-- the answer at names that differ, from what was found among the forbidden changes
pub forbidden_found : (p : Pricing) (a b : List ℕ) (es : List (Pair × Unit {0})) (found : Option (Bor (Unit {0}))) → not (bytes_eq a b) ≡ true → p.barred ≡ keys_of es → option_copied found ≡ lookup (is_same_pair (a, b)) es → is_some found ≡ is_forbidden p a b
forbidden_found p a b es found differ barred is =
    copied_is_some found ∙ (ap is_some is ∙ (barred-lookup (a, b) es ∙ (ap (list_any (is_same_pair (a, b))) (sym barred) ∙ ap (λ t. t && list_any (is_same_pair (a, b)) p.barred) (sym differ))))
