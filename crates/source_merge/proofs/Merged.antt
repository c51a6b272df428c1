-- What the merge has at each key, and that its keys rise.
use Rattle.std.proofs.Common.{◌≡◌, ℕ, Bool, true, false, cond, List, [], ◌∷◌, ◌++◌, Option, None, Some, append-nil, append_assoc, refl, sym, ap, ◌∙◌, subst}
use Rattle.std.specs.Cmp.Lexicographic.{slice_cmp}
use Rattle.std.specs.List.{fold, AllByRecursion}
use Rattle.std.specs.List.Sorted.{IsStrictlySortedBy}
use Rattle.std.specs.Map.{keys_of, lookup}
use Rattle.std.specs.Option.{option_or}
use Rattle.std.specs.Ordering.{match_ordering, nat_cmp, is_eq, ordering_reverse}
use Rattle.std.specs.Str.{bytes_eq}
use Rattle.std.specs.declared.cmp.Ordering.{Ordering}
use Rattle.std.specs.declared.cmp.Ordering.TheVariants.{Less, Equal, Greater}
use Rattle.std.proofs.lemmas.Cmp.{nat_list_cmp_total}
use Rattle.std.proofs.lemmas.List.Sums.{fold-append}
use Rattle.std.proofs.lemmas.Map.Text.{is_eq-slice_cmp}
use Rattle.std.proofs.lemmas.Slice.Eq.{bytes_eq-Decides}
use Rattle.flag_defs.specs.Changes.{with_entry, by_key}
use Rattle.flag_defs.specs.Definition.{Definition}
use Rattle.flag_defs.specs.Document.{Definitions}
use Rattle.source_merge.specs.Merge.{entries_of, latest, IsMerge, Rise, HaveRisingKeys, all_entries, merge}
use Rattle.source_merge.specs.Sources.{SourceList}

-- the order of keys
abbrev pub key_cmp : List ℕ → List ℕ → Ordering
key_cmp = slice_cmp nat_cmp

-- ---- one more entry

equal_keys : (k x : List ℕ) → key_cmp k x ≡ Equal → k ≡ x
equal_keys k x e = (bytes_eq-Decides k x).0 (sym (is_eq-slice_cmp k x) ∙ ap is_eq e)

apart_keys : (k x : List ℕ) → key_cmp k x ≡ Less → bytes_eq k x ≡ false
apart_keys k x e = sym (is_eq-slice_cmp k x) ∙ ap is_eq e

module _ (q k : List ℕ) (d : Definition) where
  pub lookup-with_entry : (fs : Definitions) → lookup (bytes_eq q) (with_entry fs (k, d)) ≡ cond (bytes_eq q k) (Some d) (lookup (bytes_eq q) fs)
  lookup-with_entry [] = refl
  lookup-with_entry (f ∷ fs) = by (lookup-with_entry fs) (key_cmp k f.0) refl
    where
      rest : Option Definition
      rest = lookup (bytes_eq q) fs

      same : (b : Bool) → cond b (Some d) rest ≡ cond b (Some d) (cond b (Some f.1) rest)
      same true = refl
      same false = refl

      other : key_cmp k f.0 ≡ Greater → (a b : Bool) → bytes_eq q f.0 ≡ a → bytes_eq q k ≡ b → cond a (Some f.1) (cond b (Some d) rest) ≡ cond b (Some d) (cond a (Some f.1) rest)
      other o true true ef ek =
          let one : k ≡ f.0 = sym ((bytes_eq-Decides q k).0 ek) ∙ (bytes_eq-Decides q f.0).0 ef in
          let equal : is_eq (key_cmp k f.0) ≡ true = is_eq-slice_cmp k f.0 ∙ (bytes_eq-Decides k f.0).1 one in
          let unequal : is_eq (key_cmp k f.0) ≡ false = ap is_eq o in
          absurd (cc)
      other o true false ef ek = refl
      other o false b ef ek = refl

      by : lookup (bytes_eq q) (with_entry fs (k, d)) ≡ cond (bytes_eq q k) (Some d) (lookup (bytes_eq q) fs)
          → (o : Ordering) → key_cmp k f.0 ≡ o → lookup (bytes_eq q) (match_ordering o ((k, d) ∷ f ∷ fs) ((f.0, d) ∷ fs) (f ∷ with_entry fs (k, d))) ≡ cond (bytes_eq q k) (Some d) (lookup (bytes_eq q) (f ∷ fs))
      by later Less o = refl
      by later Equal o = same (bytes_eq q f.0) ∙ ap (λ (x : List ℕ). cond (bytes_eq q x) (Some d) (lookup (bytes_eq q) (f ∷ fs))) (sym (equal_keys k f.0 o))
      by later Greater o = ap (λ (r : Option Definition). cond (bytes_eq q f.0) (Some f.1) r) later ∙ other o (bytes_eq q f.0) (bytes_eq q k) refl refl

-- ---- keys stay in order

module _ (k : List ℕ) (d : Definition) where
  above-with_entry : (x : List ℕ) (fs : Definitions) → key_cmp x k ≡ Less → AllByRecursion (λ y. key_cmp x y ≡ Less) (keys_of fs) → AllByRecursion (λ y. key_cmp x y ≡ Less) (keys_of (with_entry fs (k, d)))
  above-with_entry x [] one all = (one, tt)
  above-with_entry x (f ∷ fs) one all = by (above-with_entry x fs one all.1) (key_cmp k f.0)
    where
      by : AllByRecursion (λ y. key_cmp x y ≡ Less) (keys_of (with_entry fs (k, d))) → (o : Ordering) → AllByRecursion (λ y. key_cmp x y ≡ Less) (keys_of (match_ordering o ((k, d) ∷ f ∷ fs) ((f.0, d) ∷ fs) (f ∷ with_entry fs (k, d))))
      by later Less = (one, all)
      by later Equal = all
      by later Greater = (all.0, later)

  below_all : (x : List ℕ) (ys : List (List ℕ)) → key_cmp k x ≡ Less → AllByRecursion (λ y. key_cmp x y ≡ Less) ys → AllByRecursion (λ y. key_cmp k y ≡ Less) ys
  below_all x [] below all = tt
  below_all x (y ∷ ys) below all = (nat_list_cmp_total.trans k x y below all.0, below_all x ys below all.1)

  pub rise-with_entry : (fs : Definitions) → Rise fs → Rise (with_entry fs (k, d))
  unfolding IsStrictlySortedBy
  rise-with_entry [] rise = (tt, tt)
  rise-with_entry (f ∷ fs) rise = by (rise-with_entry fs rise.1) (key_cmp k f.0) refl
    where
      by : Rise (with_entry fs (k, d)) → (o : Ordering) → key_cmp k f.0 ≡ o → Rise (match_ordering o ((k, d) ∷ f ∷ fs) ((f.0, d) ∷ fs) (f ∷ with_entry fs (k, d)))
      by later Less o = ((o, below_all f.0 (keys_of fs) o rise.0), rise)
      by later Equal o = rise
      by later Greater o = (above-with_entry f.0 fs (nat_list_cmp_total.antisymm f.0 k ∙ ap ordering_reverse o) rise.0, later)

pub rise-fold : (fs gs : Definitions) → Rise fs → Rise (fold with_entry fs gs)
rise-fold fs [] rise = rise
rise-fold fs (g ∷ gs) rise = rise-fold (with_entry fs g) gs (rise-with_entry g.0 g.1 fs rise)

-- ---- a document over what there is

none_above : (k : List ℕ) (fs : Definitions) → AllByRecursion (λ y. key_cmp k y ≡ Less) (keys_of fs) → lookup (bytes_eq k) fs ≡ None
none_above k [] all = refl
none_above k (f ∷ fs) all = rw (apart_keys k f.0 all.0) (none_above k fs all.1)

module _ (q : List ℕ) where
  lookup-fold : (fs gs : Definitions) → Rise gs → lookup (bytes_eq q) (fold with_entry fs gs) ≡ option_or (lookup (bytes_eq q) gs) (lookup (bytes_eq q) fs)
  unfolding IsStrictlySortedBy
  lookup-fold fs [] rise = refl
  lookup-fold fs (g ∷ gs) rise =
      lookup-fold (with_entry fs g) gs rise.1
      ∙ (ap (λ (r : Option Definition). option_or later r) (lookup-with_entry q g.0 g.1 fs)
      ∙ by (bytes_eq q g.0) refl)
    where
      later : Option Definition
      later = lookup (bytes_eq q) gs

      before : Option Definition
      before = lookup (bytes_eq q) fs

      first : bytes_eq q g.0 ≡ true → later ≡ None
      first e = ap (λ (x : List ℕ). lookup (bytes_eq x) gs) ((bytes_eq-Decides q g.0).0 e) ∙ none_above g.0 gs rise.0

      by : (b : Bool) → bytes_eq q g.0 ≡ b → option_or later (cond b (Some g.1) before) ≡ option_or (cond b (Some g.1) later) before
      by true e = ap (λ (r : Option Definition). option_or r (Some g.1)) (first e)
      by false e = refl

  or_assoc : (a b c : Option Definition) → option_or a (option_or b c) ≡ option_or (option_or a b) c
  or_assoc None b c = refl
  or_assoc (Some x) b c = refl

  lookup-all : (fs : Definitions) (sources : SourceList) → HaveRisingKeys sources → lookup (bytes_eq q) (fold with_entry fs (all_entries sources)) ≡ option_or (latest q sources) (lookup (bytes_eq q) fs)
  lookup-all fs [] rise = refl
  lookup-all fs (s ∷ ss) rise =
      ap (lookup (bytes_eq q)) (fold-append with_entry fs (entries_of s) (all_entries ss))
      ∙ (lookup-all (fold with_entry fs (entries_of s)) ss rise.1
      ∙ (ap (λ (r : Option Definition). option_or (latest q ss) r) (lookup-fold fs (entries_of s) rise.0)
      ∙ or_assoc (latest q ss) (lookup (bytes_eq q) (entries_of s)) (lookup (bytes_eq q) fs)))

pub rise_none : Rise []
unfolding IsStrictlySortedBy
rise_none = tt

or_none : (a : Option Definition) → option_or a None ≡ a
or_none None = refl
or_none (Some x) = refl

pub merges : (sources : SourceList) → HaveRisingKeys sources → IsMerge sources (merge sources)
unfolding merge IsStrictlySortedBy
merges sources rise = record {
  rising = rise-fold [] (all_entries sources) tt;
  each = λ key. lookup-all key [] sources rise ∙ or_none (latest key sources);
}

-- ---- entries whose keys rise are in the order of their keys

put_last : (fs : Definitions) (g : List ℕ × Definition) → AllByRecursion (λ x. key_cmp x g.0 ≡ Less) (keys_of fs) → with_entry fs g ≡ fs ++ g ∷ []
put_last [] g below = refl
put_last (f ∷ fs) g below =
    let above : key_cmp g.0 f.0 ≡ Greater = nat_list_cmp_total.antisymm g.0 f.0 ∙ ap ordering_reverse below.0 in
    rw above (ap (λ (hs : Definitions). f ∷ hs) (put_last fs g below.1))

below_next : (fs gs : Definitions) (g : List ℕ × Definition) → Rise (fs ++ g ∷ gs) → AllByRecursion (λ x. key_cmp x g.0 ≡ Less) (keys_of fs)
unfolding IsStrictlySortedBy
below_next [] gs g rise = tt
below_next (f ∷ fs) gs g rise = (first fs rise.0, below_next fs gs g rise.1)
  where
    first : (hs : Definitions) → AllByRecursion (λ y. key_cmp f.0 y ≡ Less) (keys_of (hs ++ g ∷ gs)) → key_cmp f.0 g.0 ≡ Less
    first [] all = all.0
    first (h ∷ hs) all = first hs all.1

put_in_order : (fs gs : Definitions) → Rise (fs ++ gs) → fold with_entry fs gs ≡ fs ++ gs
put_in_order fs [] rise = sym (append-nil fs)
put_in_order fs (g ∷ gs) rise =
    let more : (fs ++ g ∷ []) ++ gs ≡ fs ++ g ∷ gs = append_assoc fs (g ∷ []) gs in
    ap (λ (hs : Definitions). fold with_entry hs gs) (put_last fs g (below_next fs gs g rise))
    ∙ (put_in_order (fs ++ g ∷ []) gs (subst Rise (sym more) rise) ∙ more)

pub by_key-rising : (fs : Definitions) → Rise fs → by_key fs ≡ fs
by_key-rising fs rise = put_in_order [] fs rise
