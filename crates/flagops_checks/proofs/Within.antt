-- What is doubted of a `fractional` is doubted of itself, or of what stands in it.
use Rattle.std.proofs.Common.{◌≡◌, ℕ, true, false, ◌||◌, ap, sym, ◌∙◌}
use Rattle.logic_ast.specs.Expression.{Expression, By, Buckets, fractional}
use Rattle.flagops_checks.specs.Sites.{buckets_have, by_has, has_site, is_doubted_site}
use Rattle.flagops_checks.specs.declared.sites.SiteDoubt.{SiteDoubt}

module _ (d : SiteDoubt) (e : Expression) (n : ℕ) (b : By) (bs : Buckets) (is : e ≡ fractional n b bs) where
  parts : has_site d e ≡ (is_doubted_site d b bs || (by_has d b || buckets_have d bs))
  parts = ap (has_site d) is

  pub here : is_doubted_site d b bs ≡ true → true ≡ has_site d e
  here h = sym (parts ∙ ap (λ x. x || (by_has d b || buckets_have d bs)) h)

  pub inside : is_doubted_site d b bs ≡ false → (by_has d b || buckets_have d bs) ≡ has_site d e
  inside h = sym (parts ∙ ap (λ x. x || (by_has d b || buckets_have d bs)) h)
