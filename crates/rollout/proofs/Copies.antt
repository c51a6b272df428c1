-- One more of a list's items, and one more flag that is copied, of which is told what `seen` tells.
use Rattle.std.proofs.Common.{◌≡◌, ℕ, zero, suc, ◌+◌, List, [], ◌∷◌, ◌++◌, map, take, Some, String, string_bytes, refl, sym, ap, ap₂, ◌∙◌, add-one}
use Rattle.std.specs.List.{slice_get}
use Rattle.std.specs.declared.alloc.Global.{Global}
use Rattle.std.proofs.lemmas.List.{map-append}
use Rattle.flag_defs.proofs.Sorted.{seen_by}
use Rattle.flag_defs.specs.declared.flag.Flag.{Flag}

take_suc : {X : Type 0} (xs : List X) (i : ℕ) (x : X) → slice_get xs i ≡ Some x → take (suc i) xs ≡ take i xs ++ x ∷ []
take_suc [] i x h = cc
take_suc (y ∷ ys) zero x h = let same : y ≡ x = cc in rw same refl
take_suc (y ∷ ys) (suc i) x h = ap (λ zs. y ∷ zs) (take_suc ys i x h)

module _ {V : Type 0} (seen : Flag → V) where
  pub one_more : (es : List (String Global × Flag)) (key : String Global) (flag : Flag) (fs : List (List ℕ × V)) (i : ℕ) (k : List ℕ) (d : V)
      → map (seen_by seen) es ≡ take i fs → slice_get fs i ≡ Some (k, d) → string_bytes key ≡ k → seen flag ≡ d → map (seen_by seen) (es ++ (key, flag) ∷ []) ≡ take (i + 1) fs
  one_more es key flag fs i k d before at same_key same_flag =
      let next : take (i + 1) fs ≡ take i fs ++ (k, d) ∷ [] = rw add-one (take_suc fs i (k, d) at) in
      map-append (seen_by seen) es ((key, flag) ∷ []) ∙ (ap₂ (λ (gs : List (List ℕ × V)) (f : List ℕ × V). gs ++ f ∷ []) before (ap₂ (λ (x : List ℕ) (y : V). let f : List ℕ × V = (x, y) in f) same_key same_flag) ∙ sym next)

  -- the flags with one more, as what they are
  pub with_one : (es items : List (String Global × Flag)) (key : String Global) (flag : Flag) (fs : List (List ℕ × V)) (k : List ℕ) → items ≡ es ++ (key, flag) ∷ [] → map (seen_by seen) es ≡ fs → string_bytes key ≡ k
      → fs ++ (k, seen flag) ∷ [] ≡ map (seen_by seen) items
  with_one es items key flag fs k is same same_key =
      ap₂ (λ (gs : List (List ℕ × V)) (x : List ℕ). gs ++ (x, seen flag) ∷ []) (sym same) (sym same_key) ∙ (sym (map-append (seen_by seen) es ((key, flag) ∷ [])) ∙ ap (map (seen_by seen)) (sym is))
