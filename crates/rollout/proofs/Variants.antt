-- Each name of the rule that is planned on has limits: it is a variant of the flag.
use Rattle.std.proofs.Common.{◌≡◌, ℕ, zero, suc, ⊎_elim, List, [], ◌∷◌, length, get_or, true, false, Some, is_some, Less, Equal, Greater, Ordering, refl, sym, ap, ◌∙◌, subst, arith}
use Rattle.std.specs.BTreeMap.{insert_entry}
use Rattle.std.specs.Cmp.Lexicographic.{slice_cmp}
use Rattle.std.specs.List.{All, Contains, list_all}
use Rattle.std.specs.Map.{keys_of}
use Rattle.std.specs.Ordering.{match_ordering, nat_cmp}
use Rattle.std.specs.Str.{bytes_eq}
use Rattle.std.proofs.lemmas.Bool.{cases_Bool, cond-false}
use Rattle.std.proofs.lemmas.List.Elements.{All-nil, All-cons}
use Rattle.std.proofs.lemmas.Slice.Eq.{bytes_eq-Decides}
use Rattle.flag_text.proofs.Bools.{left, right}
use Rattle.flag_text.specs.Readers.{find_member}
use Rattle.flag_text.specs.Shape.{Members, no_members, member}
use Rattle.bucket_core.specs.Rule.{Entries, refinement}
use Rattle.flag_defs.specs.Definition.{Definition}
use Rattle.flag_defs.specs.Flag.{member_names, variant_names, variant_of, variants_in}
use Rattle.price_core.specs.Limits.{Limits, limits_of}
use Rattle.price_core.specs.Request.{limits_on}
use Rattle.transport_core.proofs.Placed.{name_ties}
use Rattle.rollout.specs.Lawful.{names_are_variants}

contains_first : (x : List ℕ) (xs : List (List ℕ)) → Contains (x ∷ xs) x
contains_first x xs = (0, omega arith, refl)

contains_later : (y x : List ℕ) (xs : List (List ℕ)) → Contains xs x → Contains (y ∷ xs) x
contains_later y x xs c = (suc (c.0), omega (arith, c.1), c.2)

-- ---- variants are listed

variant_listed : (name : List ℕ) (ms : Members) → is_some (find_member name ms) ≡ true → Contains (member_names ms) name
variant_listed name no_members h = cc
variant_listed name (member k t ms) h =
    ⊎_elim
    (λ (here : bytes_eq k name ≡ true). subst (λ n. Contains (member_names (member k t ms)) n) ((bytes_eq-Decides k name).0 here) (contains_first k (member_names ms)))
    (λ (not : bytes_eq k name ≡ false). contains_later k name (member_names ms) (variant_listed name ms (ap is_some (sym (cond-false (bytes_eq k name) (Some t) (find_member name ms) not)) ∙ h)))
    (cases_Bool (bytes_eq k name))

each_is_listed : (d : Definition) (names : List (List ℕ)) → list_all (λ name. is_some (variant_of name d)) names ≡ true → All (Contains (variant_names d)) names
each_is_listed d [] h = All-nil (Contains (variant_names d))
each_is_listed d (name ∷ names) h =
    All-cons (Contains (variant_names d)) name names (variant_listed name (variants_in d) (left (is_some (variant_of name d)) _ h)) (each_is_listed d names (right (is_some (variant_of name d)) _ h))

-- ---- variants have limits

inserted_by : (e : List ℕ × (ℕ × ℕ)) (es : Limits) (k : List ℕ) (v : ℕ × ℕ) (o : Ordering) → slice_cmp nat_cmp k e.0 ≡ o → Contains (keys_of (insert_entry (slice_cmp nat_cmp) es k v)) k
    → Contains (keys_of (match_ordering o ((k, v) ∷ e ∷ es) ((e.0, v) ∷ es) (e ∷ insert_entry (slice_cmp nat_cmp) es k v))) k
inserted_by e es k v Less is later = contains_first k (keys_of (e ∷ es))
inserted_by e es k v Equal is later = subst (λ n. Contains (e.0 ∷ keys_of es) n) (sym (name_ties k e.0 is)) (contains_first e.0 (keys_of es))
inserted_by e es k v Greater is later = contains_later e.0 k (keys_of (insert_entry (slice_cmp nat_cmp) es k v)) later

inserted : (es : Limits) (k : List ℕ) (v : ℕ × ℕ) → Contains (keys_of (insert_entry (slice_cmp nat_cmp) es k v)) k
inserted [] k v = contains_first k []
inserted (e ∷ es) k v = inserted_by e es k v (slice_cmp nat_cmp k e.0) refl (inserted es k v)

later_or_first : (y x : List ℕ) (xs ys : List (List ℕ)) → Contains (y ∷ xs) x → (Contains xs x → Contains ys x) → Contains (y ∷ ys) x
later_or_first y x xs ys (zero, below, is) more = (0, omega arith, is)
later_or_first y x xs ys (suc i, below, is) more = contains_later y x ys (more (i, omega (arith, below), is))

kept_by : (e : List ℕ × (ℕ × ℕ)) (es : Limits) (k x : List ℕ) (v : ℕ × ℕ) (o : Ordering) → Contains (keys_of (e ∷ es)) x → (Contains (keys_of es) x → Contains (keys_of (insert_entry (slice_cmp nat_cmp) es k v)) x)
    → Contains (keys_of (match_ordering o ((k, v) ∷ e ∷ es) ((e.0, v) ∷ es) (e ∷ insert_entry (slice_cmp nat_cmp) es k v))) x
kept_by e es k x v Less c more = contains_later k x (keys_of (e ∷ es)) c
kept_by e es k x v Equal c more = c
kept_by e es k x v Greater c more = later_or_first e.0 x (keys_of es) (keys_of (insert_entry (slice_cmp nat_cmp) es k v)) c more

kept : (es : Limits) (k x : List ℕ) (v : ℕ × ℕ) → Contains (keys_of es) x → Contains (keys_of (insert_entry (slice_cmp nat_cmp) es k v)) x
kept [] k x v c = absurd (omega (arith, c.1))
kept (e ∷ es) k x v c = kept_by e es k x v (slice_cmp nat_cmp k e.0) c (λ there. kept es k x v there)

variants_limited : (asked : Limits) (names : List (List ℕ)) → All (Contains (keys_of (limits_on asked names))) names
variants_limited asked [] = All-nil (Contains [])
variants_limited asked (name ∷ names) =
    All-cons (Contains (keys_of (limits_on asked (name ∷ names)))) name names (inserted (limits_on asked names) name (limits_of asked name))
    (λ i d below. kept (limits_on asked names) name (get_or names i d) (limits_of asked name) (variants_limited asked names i d below))

-- ---- the rule's names

refined_names : (k : ℕ) (es : Entries) → keys_of (refinement k es) ≡ keys_of es
refined_names k [] = refl
refined_names k (e ∷ es) = ap (λ ns. e.0 ∷ ns) (refined_names k es)

pub names_limited : (d : Definition) (entries : Entries) (k : ℕ) (asked : Limits) → names_are_variants d entries ≡ true → All (Contains (keys_of (limits_on asked (variant_names d)))) (keys_of (refinement k entries))
names_limited d entries k asked has = λ i x below.
    let names = variant_names d in
    let same = refined_names k entries in
    let n = get_or (keys_of (refinement k entries)) i x in
    let is : get_or (keys_of entries) i x ≡ n = ap (λ ns. get_or ns i x) (sym same) in
    let c = each_is_listed d (keys_of entries) has i x (omega (arith, below, ap length same)) in
    let one = variants_limited asked names c.0 n (omega (arith, c.1)) in
    subst (λ m. Contains (keys_of (limits_on asked names)) m) (ap (λ m. get_or names c.0 m) (sym is) ∙ (c.2 ∙ is)) one
