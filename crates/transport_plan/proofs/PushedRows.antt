-- Rows that are pushed one after the other, each a key with its number.
use Rattle.std.proofs.Common.{◌≡◌, List, [], ◌∷◌, ◌++◌, map, append_assoc, sym, ap, ◌∙◌}
use Rattle.std.proofs.lemmas.List.{append-nil, map-append}
use Rattle.std.specs.List.{zip}

module _ {R K V : Type 0} (row : R → K × V) (rows : List R) (whole : List (K × V)) where
  -- one more row is the first of what is left
  pub one_more : (items : List R) (r : R) (k : K) (v : V) (keys keys' : List K) (values values' : List V) → keys ≡ k ∷ keys' → values ≡ v ∷ values' → items ≡ rows ++ r ∷ [] → row r ≡ (k, v)
      → map row rows ++ zip keys values ≡ whole → map row items ++ zip keys' values' ≡ whole
  one_more items r k v keys keys' values values' at_keys at_values pushed is before =
      let rest = zip keys' values' in
      let here : zip keys values ≡ (k, v) ∷ rest = ap (λ ks. zip ks values) at_keys ∙ ap (zip (k ∷ keys')) at_values in
      ap (λ (rs : List R). map row rs ++ rest) pushed
      ∙ (ap (λ (es : List (K × V)). es ++ rest) (map-append row rows (r ∷ []))
      ∙ (append_assoc (map row rows) (row r ∷ []) rest
      ∙ (ap (λ (e : K × V). map row rows ++ e ∷ rest) is ∙ (ap (λ (es : List (K × V)). map row rows ++ es) (sym here) ∙ before))))

  -- nothing is left
  pub all_pushed : (keys : List K) (values : List V) → keys ≡ [] → map row rows ++ zip keys values ≡ whole → map row rows ≡ whole
  all_pushed keys values none before = sym (append-nil (map row rows)) ∙ (ap (λ ks. map row rows ++ zip ks values) (sym none) ∙ before)
