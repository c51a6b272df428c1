-- A loop over the nodes that looks for the nearest unsettled one.
use Rattle.std.proofs.Common.{◌≡◌, ℕ, ◌+◌, ◌<◌, ◌≤◌, ⊎_elim, ℤ, ◌+ℤ◌, ◌≤ℤ◌, Option, Some, None, refl, sym, ap, ◌∙◌, subst, arith}
use Rattle.std.proofs.lemmas.Bool.{cases_eq}
use Rattle.std.proofs.lemmas.Int.{ints}
use Rattle.std.proofs.lemmas.Option.{same_Some}

-- what is known of the nodes below `v`: the least distance by reduced costs of an unsettled one, and its node
pub record IsNearestBelow (nodes : ℕ) (potential : ℕ → ℤ) (distance : ℕ → Option ℤ) (rank : ℕ → ℕ) (least : Option ℤ) (node : ℕ) (node_distance : ℤ) (v : ℕ) : Type 0 where
  pub none : (w : ℕ) (b : ℤ) → w < v → nodes ≤ rank w → distance w ≡ Some b → least ≡ None → ⊥
  pub some : (k : ℤ) → least ≡ Some k → (node < nodes) × (nodes ≤ rank node) × (distance node ≡ Some node_distance) × (node_distance ≡ k +ℤ potential node)
  pub below : (k : ℤ) (w : ℕ) (b : ℤ) → least ≡ Some k → w < v → nodes ≤ rank w → distance w ≡ Some b → (k +ℤ potential w) ≤ℤ b

module _ (nodes : ℕ) (potential : ℕ → ℤ) (distance : ℕ → Option ℤ) (rank : ℕ → ℕ) (least : Option ℤ) (node : ℕ) (node_distance : ℤ) (v : ℕ) (before : IsNearestBelow nodes potential distance rank least node node_distance v) (within : v < nodes) where
  pub passes : ((b : ℤ) → nodes ≤ rank v → distance v ≡ Some b → (k : ℤ) × (least ≡ Some k) × ((k +ℤ potential v) ≤ℤ b)) → IsNearestBelow nodes potential distance rank least node node_distance (v + 1)
  passes here = record {
    none = λ w b w_in un is none.
        ⊎_elim
        (λ (same : w ≡ v).
        let k = here b (subst (λ x. nodes ≤ rank x) same un) (ap distance (sym same) ∙ is) in
        let clash : Some k.0 ≡ None = sym k.1 ∙ none in cc)
        (λ (not : w ≡ v → ⊥). before.none w b (omega (arith, not)) un is none)
        (cases_eq w v);
    some = before.some;
    below = λ k w b k_is w_in un is.
        ⊎_elim
        (λ (same : w ≡ v).
        let other = here b (subst (λ x. nodes ≤ rank x) same un) (ap distance (sym same) ∙ is) in
        let k_same : other.0 ≡ k = same_Some other.0 k (sym other.1 ∙ k_is) in
        omega (arith, ints, other.2, k_same, ap potential same))
        (λ (not : w ≡ v → ⊥). before.below k w b k_is (omega (arith, not)) un is)
        (cases_eq w v);
  }

  pub improves : (new found : ℤ) → nodes ≤ rank v → distance v ≡ Some found → found ≡ new +ℤ potential v → ((k : ℤ) → least ≡ Some k → new ≤ℤ k) → IsNearestBelow nodes potential distance rank (Some new) v found (v + 1)
  improves new found un is sum less = record {
    none = λ w b w_in w_un w_is none. let clash : Some new ≡ None = none in cc;
    some = λ k k_is. let same : new ≡ k = same_Some new k k_is in (within, un, is, omega (arith, ints, sum, same));
    below = λ k w b k_is w_in w_un w_is.
        let k_same : new ≡ k = same_Some new k k_is in
        ⊎_elim
        (λ (same : w ≡ v).
        let b_is : found ≡ b = same_Some found b (sym is ∙ (ap distance (sym same) ∙ w_is)) in
        omega (arith, ints, b_is, sum, k_same, ap potential same))
        (λ (not : w ≡ v → ⊥). from_before k w b k_same w_un w_is (omega (arith, not)) least refl)
        (cases_eq w v);
  }
    where
      from_before : (k : ℤ) (w : ℕ) (b : ℤ) → new ≡ k → nodes ≤ rank w → distance w ≡ Some b → w < v → (o : Option ℤ) → least ≡ o → (k +ℤ potential w) ≤ℤ b
      from_before k w b k_same w_un w_is w_in None o_is = absurd (before.none w b w_in w_un w_is o_is)
      from_before k w b k_same w_un w_is w_in (Some x) o_is = omega (arith, ints, k_same, less x o_is, before.below x w b o_is w_in w_un w_is)

pub renamed : (nodes : ℕ) (potential : ℕ → ℤ) (distance : ℕ → Option ℤ) (rank : ℕ → ℕ) (least least' : Option ℤ) (node node' : ℕ) (node_distance node_distance' : ℤ) (v : ℕ) → least' ≡ least → node' ≡ node → node_distance' ≡ node_distance
    → IsNearestBelow nodes potential distance rank least node node_distance v → IsNearestBelow nodes potential distance rank least' node' node_distance' v
renamed nodes potential distance rank least least' node node' node_distance node_distance' v p q r known =
    subst (λ l. IsNearestBelow nodes potential distance rank l node' node_distance' v) (sym p)
    (subst (λ m. IsNearestBelow nodes potential distance rank least m node_distance' v) (sym q)
    (subst (λ s. IsNearestBelow nodes potential distance rank least node s v) (sym r) known))
