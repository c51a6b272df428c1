-- The input and the buckets of a site, one by one.
use Rattle.std.proofs.Common.{◌≡◌, ℕ, ◌+◌, ◌<◌, List, [], ◌∷◌, length, get_or, drop, Option, Ok, Err, String, Global, string_bytes, ◌∙◌, pos}
use Rattle.flag_text.specs.Shape.{Shape, text, whole}
use Rattle.logic_ast.specs.declared.node.Node.{Node}
use Rattle.logic_ast.specs.declared.node.Bucket.{Bucket}
use Rattle.logic_ast.specs.declared.node.Bucket.TheVariants.{Literal, Computed}
use Rattle.logic_ast.specs.View.{node_view, buckets_view}
use Rattle.logic_values.specs.declared.fault.EvalFault.{EvalFault}
use Rattle.logic_eval.specs.Budget.{Progress, paid}
use Rattle.logic_eval.specs.Evaluation.{meaning, bucket_meanings, pairs, part_of}
use Rattle.logic_eval.proofs.Budgets.{bind_ok, bind_err, paid-gives}
use Rattle.logic_values.proofs.Items.{drop_at}
use Rattle.logic_eval.proofs.Values.{prepended, before_rest}

module _ (d : Option (List ℕ)) (scope : Shape) (xs : List (Bucket Node)) (i : ℕ) (x : Bucket Node) (within : i < length xs) (is : x ≡ get_or xs i x) where
  pub literal_ok : (name : String Global) (weight : ℕ) (p : Progress) → x ≡ Literal name weight
      → paid p (pairs (bucket_meanings d (buckets_view (drop i xs))) scope) ≡ prepended ((text (string_bytes name), whole (pos weight)) ∷ []) (paid p (pairs (bucket_meanings d (buckets_view (drop (i + 1) xs))) scope))
  literal_ok name weight p e = rw (drop_at xs i x within is, e) (before_rest p _ _ _ p (bind_ok p _ _ _ p (paid-gives p (text (string_bytes name))) ∙ (bind_ok p _ _ _ p (paid-gives p (whole (pos weight))) ∙ paid-gives p _)))

  pub computed_name_err : (name weight : Node) (p : Progress) (e : EvalFault) → x ≡ Computed name weight → paid p (part_of (node_view name) (meaning d (node_view name)) scope) ≡ Err e
      → paid p (pairs (bucket_meanings d (buckets_view (drop i xs))) scope) ≡ Err e
  computed_name_err name weight p e h f = rw (drop_at xs i x within is, h) (bind_err p _ _ e (bind_err p _ _ e f))

  pub computed_weight_err : (name weight : Node) (p q : Progress) (v : Shape) (e : EvalFault) → x ≡ Computed name weight → paid p (part_of (node_view name) (meaning d (node_view name)) scope) ≡ Ok (v, q)
      → paid q (part_of (node_view weight) (meaning d (node_view weight)) scope) ≡ Err e
      → paid p (pairs (bucket_meanings d (buckets_view (drop i xs))) scope) ≡ Err e
  computed_weight_err name weight p q v e h f g = rw (drop_at xs i x within is, h) (bind_err p _ _ e (bind_ok p _ _ v q f ∙ bind_err q _ _ e g))

  pub computed_ok : (name weight : Node) (p q r : Progress) (v w : Shape) → x ≡ Computed name weight → paid p (part_of (node_view name) (meaning d (node_view name)) scope) ≡ Ok (v, q)
      → paid q (part_of (node_view weight) (meaning d (node_view weight)) scope) ≡ Ok (w, r)
      → paid p (pairs (bucket_meanings d (buckets_view (drop i xs))) scope) ≡ prepended ((v, w) ∷ []) (paid r (pairs (bucket_meanings d (buckets_view (drop (i + 1) xs))) scope))
  computed_ok name weight p q r v w h f g = rw (drop_at xs i x within is, h) (before_rest p _ _ (v, w) r (bind_ok p _ _ v q f ∙ (bind_ok q _ _ w r g ∙ paid-gives r (v, w))))
