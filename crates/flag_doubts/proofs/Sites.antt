-- What is sought in a `fractional` is sought in its buckets, and in what stands in it.
use Rattle.std.proofs.Common.{◌≡◌, ℕ, true, false, ◌||◌, ap, sym, ◌∙◌}
use Rattle.std.proofs.lemmas.List.Folds.{list_any-append}
use Rattle.std.specs.List.{list_any}
use Rattle.logic_ast.specs.Expression.{Expression, By, Buckets, fractional}
use Rattle.logic_ast.specs.Sites.{preorder_in_by, preorder_in_buckets}
use Rattle.flag_doubts.specs.Weights.{has_bad_site, is_bad_site, weigh_badly}

module _ (e : Expression) (n : ℕ) (b : By) (bs : Buckets) (is : e ≡ fractional n b bs) where
  parts : has_bad_site e ≡ (weigh_badly bs || (list_any is_bad_site (preorder_in_by b) || list_any is_bad_site (preorder_in_buckets bs)))
  parts = ap has_bad_site is ∙ ap (λ x. weigh_badly bs || x) (list_any-append is_bad_site (preorder_in_by b) (preorder_in_buckets bs))

  pub here : weigh_badly bs ≡ true → true ≡ has_bad_site e
  here h = sym (parts ∙ ap (λ x. x || (list_any is_bad_site (preorder_in_by b) || list_any is_bad_site (preorder_in_buckets bs))) h)

  pub inside : weigh_badly bs ≡ false → (list_any is_bad_site (preorder_in_by b) || list_any is_bad_site (preorder_in_buckets bs)) ≡ has_bad_site e
  inside h = sym (parts ∙ ap (λ x. x || (list_any is_bad_site (preorder_in_by b) || list_any is_bad_site (preorder_in_buckets bs))) h)
