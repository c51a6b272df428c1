-- One flag in the place of another of its key, or what is told of it.
use Rattle.std.proofs.Common.{◌≡◌, ◌≢◌, ℕ, Bool, true, false, cond, List, [], ◌∷◌, ◌++◌, Some, Result, Ok, Err, append_assoc, refl, sym, ap, ◌∙◌}
use Rattle.std.specs.BTreeMap.{insert_entry, is_at}
use Rattle.std.specs.Cmp.Lexicographic.{slice_cmp}
use Rattle.std.specs.List.{list_all, fold, AllByRecursion}
use Rattle.std.specs.List.Sorted.{IsStrictlySortedBy}
use Rattle.std.specs.Map.{lookup, set_value, keys_of}
use Rattle.std.specs.Ordering.{is_lt, nat_cmp}
use Rattle.std.specs.Str.{bytes_eq}
use Rattle.std.specs.declared.cmp.Ordering.TheVariants.{Less}
use Rattle.std.proofs.lemmas.Bool.{and_from}
use Rattle.std.proofs.lemmas.Cmp.{nat_list_cmp_total, nat_list_eq_equiv}
use Rattle.std.proofs.lemmas.List.{append-nil}
use Rattle.std.proofs.lemmas.List.Sums.{fold-append}
use Rattle.std.proofs.lemmas.Map.{lookup-set_value, keys-set_value}
use Rattle.std.proofs.lemmas.Map.Steps.{set_value_same}
use Rattle.std.proofs.lemmas.Map.Text.{is_eq-slice_cmp}
use Rattle.std.proofs.lemmas.Slice.Eq.{bytes_eq-Decides}
use Rattle.bucket_core.specs.Rule.{Entries}
use Rattle.book_core.proofs.Ordered.{insert_entry-found}
use Rattle.book_core.proofs.Taken.{insert_entry-above}
use Rattle.flag_defs.specs.Changes.{by_key, with_site}
use Rattle.flag_defs.specs.Definition.{Definition}
use Rattle.flag_defs.specs.Document.{Definitions, limited}
use Rattle.flag_defs.specs.declared.fault.DefFault.{DefFault}
use Rattle.rollout.specs.Change.{IsChanged, OthersStay}

-- ---- entries whose keys rise are in the order of their keys

-- the map with one more entry
abbrev put : {V : Type 0} → List (List ℕ × V) → List ℕ × V → List (List ℕ × V)
put fs f = insert_entry (slice_cmp nat_cmp) fs f.0 f.1

below_one : {V : Type 0} (k : List ℕ) (fs gs : List (List ℕ × V)) (f : List ℕ × V) → AllByRecursion (λ q. slice_cmp nat_cmp k q ≡ Less) (keys_of (fs ++ f ∷ gs)) → slice_cmp nat_cmp k f.0 ≡ Less
below_one k [] gs f below = below.0
below_one k (g ∷ fs) gs f below = below_one k fs gs f below.1

all_below : {V : Type 0} (fs gs : List (List ℕ × V)) (f : List ℕ × V) → IsStrictlySortedBy (slice_cmp nat_cmp) (keys_of (fs ++ f ∷ gs)) → list_all (λ q. is_lt (slice_cmp nat_cmp q f.0)) (keys_of fs) ≡ true
unfolding IsStrictlySortedBy
all_below [] gs f rise = refl
all_below (g ∷ fs) gs f rise = and_from _ _ (ap is_lt (below_one g.0 fs gs f rise.0)) (all_below fs gs f rise.1)

put_in_order : {V : Type 0} (fs gs : List (List ℕ × V)) → IsStrictlySortedBy (slice_cmp nat_cmp) (keys_of (fs ++ gs)) → fold (put {V = V}) fs gs ≡ fs ++ gs
put_in_order fs [] rise = sym (append-nil fs)
put_in_order {V} fs (g ∷ gs) rise =
    let one : put fs g ≡ fs ++ g ∷ [] = insert_entry-above nat_list_cmp_total fs g.0 g.1 (all_below fs gs g rise) in
    let more : (fs ++ g ∷ []) ++ gs ≡ fs ++ g ∷ gs = append_assoc fs (g ∷ []) gs in
    let rises : IsStrictlySortedBy (slice_cmp nat_cmp) (keys_of ((fs ++ g ∷ []) ++ gs)) = rw more rise in
    ap (λ (hs : List (List ℕ × V)). fold (put {V = V}) hs gs) one ∙ (put_in_order (fs ++ g ∷ []) gs rises ∙ more)

-- ---- one more of a key that is there

module _ {V : Type 0} (fs : List (List ℕ × V)) (key : List ℕ) (old new : V) (rise : IsStrictlySortedBy (slice_cmp nat_cmp) (keys_of fs)) (was : lookup (bytes_eq key) fs ≡ Some old) where
  test_is : (let test : List ℕ → Bool = is_at (slice_cmp nat_cmp key) in test) ≡ bytes_eq key
  test_is = λ j k. is_eq-slice_cmp key k j

  put_again : fold (put {V = V}) [] (fs ++ (key, new) ∷ []) ≡ set_value (bytes_eq key) fs new
  put_again =
      let there : lookup (is_at (slice_cmp nat_cmp key)) fs ≡ Some old = ap (λ (test : List ℕ → Bool). lookup test fs) test_is ∙ was in
      fold-append (put {V = V}) [] fs ((key, new) ∷ [])
      ∙ (ap (λ (gs : List (List ℕ × V)). put gs (key, new)) (put_in_order [] fs rise)
      ∙ (insert_entry-found nat_list_cmp_total fs key old new rise there
      ∙ ap (λ (test : List ℕ → Bool). set_value test fs new) test_is))

  -- what was there put again changes nothing
  pub put_same : new ≡ old → fold (put {V = V}) [] (fs ++ (key, new) ∷ []) ≡ fs
  put_same same = put_again ∙ set_value_same (bytes_eq key) fs new (was ∙ ap Some (sym same))

-- ---- one more flag of a key that is there

module _ (fs : Definitions) (key : List ℕ) (old new : Definition) (rise : IsStrictlySortedBy (slice_cmp nat_cmp) (keys_of fs)) (was : lookup (bytes_eq key) fs ≡ Some old) where
  same_test : (x y : List ℕ) → bytes_eq key x ≡ true → bytes_eq key y ≡ bytes_eq x y
  same_test x y h = ap (λ k. bytes_eq k y) ((bytes_eq-Decides key x).0 h)

  looked_up : (q : List ℕ) → lookup (bytes_eq q) (set_value (bytes_eq key) fs new) ≡ cond (bytes_eq key q) (Some new) (lookup (bytes_eq q) fs)
  looked_up q = lookup-set_value nat_list_eq_equiv (bytes_eq key) same_test q new fs (rw was refl)

  there_now : lookup (bytes_eq key) (set_value (bytes_eq key) fs new) ≡ Some new
  there_now = looked_up key ∙ ap (λ b. cond b (Some new) (lookup (bytes_eq key) fs)) ((bytes_eq-Decides key key).1 refl)

  as_before : (q : List ℕ) → q ≢ key → lookup (bytes_eq q) (set_value (bytes_eq key) fs new) ≡ lookup (bytes_eq q) fs
  as_before q apart = looked_up q ∙ ap (λ b. cond b (Some new) (lookup (bytes_eq q) fs)) (unequal (bytes_eq key q) refl)
    where
      unequal : (b : Bool) → bytes_eq key q ≡ b → bytes_eq key q ≡ false
      unequal true e = absurd (apart (sym ((bytes_eq-Decides key q).0 e)))
      unequal false e = e

  within : (after : Definitions) (b : Bool) (e : DefFault) (gs : Definitions) → (let r : Result Definitions DefFault = cond b (Err e) (Ok gs) in r) ≡ Ok after → after ≡ gs
  within after true e gs h = absurd (cc)
  within after false e gs h = cc

  made_again : (after : Definitions) → limited (by_key (fs ++ (key, new) ∷ [])) ≡ Ok after → after ≡ set_value (bytes_eq key) fs new
  made_again after h = within after _ _ _ h ∙ put_again fs key old new rise was

  pub changed : (site : ℕ) (rule : Entries) (after : Definitions) → with_site site rule old ≡ Ok new → limited (by_key (fs ++ (key, new) ∷ [])) ≡ Ok after → IsChanged fs key site rule after
  changed site rule after made h = record { old = old; new = new; was = was; made = made; is = ap (lookup (bytes_eq key)) (made_again after h) ∙ there_now }

  pub others : (after : Definitions) → limited (by_key (fs ++ (key, new) ∷ [])) ≡ Ok after → OthersStay fs key after
  others after h = record {
    keys = ap keys_of (made_again after h) ∙ keys-set_value (bytes_eq key) fs new;
    flags = λ q apart. ap (lookup (bytes_eq q)) (made_again after h) ∙ as_before q apart;
  }
