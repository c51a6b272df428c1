-- The edit that comes to mind first has as many points as the new rule.
use Rattle.std.proofs.Common.{◌≡◌, ◌≢◌, ◌⊎◌, inl, inr, ⊎_elim, ℕ, zero, suc, ◌+◌, ◌<◌, ◌≤◌, List, [], ◌∷◌, ◌++◌, length, map, get_or, Bool, true, false, ◌||◌, cond, sum_by, append-nil, append_assoc, refl, sym, ap, ◌∙◌, subst, arith}
use Rattle.std.specs.List.{All, AllPairs, Contains, list_any}
use Rattle.std.specs.Map.{keys_of}
use Rattle.std.specs.Str.{bytes_eq}
use Rattle.std.proofs.lemmas.Bool.{cases_Bool}
use Rattle.std.proofs.lemmas.List.Elements.{All-cons, All-head, All-tail}
use Rattle.std.proofs.lemmas.List.Folds.{list_any-append}
use Rattle.std.proofs.lemmas.List.Sums.{sum_by-cons}
use Rattle.std.proofs.lemmas.Slice.Eq.{bytes_eq-Decides}
use Rattle.bucket_core.specs.Rule.{Entries, total_of, total_weight}
use Rattle.bucket_core.proofs.Points.{total_weight-cons}
use Rattle.bucket_core.proofs.Totals.{sum_by-total_of}
use Rattle.rule_switches.specs.Edit.{contiguous, firsts, with_totals}

same_name : (a b : List ℕ) → bytes_eq a b ≡ true → a ≡ b
same_name a b = (bytes_eq-Decides a b).0

itself : (a : List ℕ) → bytes_eq a a ≡ true
itself a = (bytes_eq-Decides a a).1 refl

-- ---- a name more

pub firsts-among : (seen ns : List (List ℕ)) (n : List ℕ) → list_any (bytes_eq n) seen ≡ true → firsts seen (n ∷ ns) ≡ firsts seen ns
firsts-among seen ns n is = ap (λ (b : Bool). cond b (firsts seen ns) (n ∷ firsts (seen ++ n ∷ []) ns)) is

pub firsts-new : (seen ns : List (List ℕ)) (n : List ℕ) → list_any (bytes_eq n) seen ≡ false → firsts seen (n ∷ ns) ≡ n ∷ firsts (seen ++ n ∷ []) ns
firsts-new seen ns n fresh = ap (λ (b : Bool). cond b (firsts seen ns) (n ∷ firsts (seen ++ n ∷ []) ns)) fresh

keys-push : (es : Entries) (e : List ℕ × ℕ) → keys_of (es ++ e ∷ []) ≡ keys_of es ++ e.0 ∷ []
keys-push [] e = refl
keys-push (x ∷ es) e = ap (λ ks. x.0 ∷ ks) (keys-push es e)

-- what the entries come to with the names that are left
abbrev pub comes_to : Entries → Entries → List (List ℕ) → Entries
comes_to totals es names = es ++ with_totals totals (firsts (keys_of es) names)

pub one_among : (totals es : Entries) (n : List ℕ) (names : List (List ℕ)) → list_any (bytes_eq n) (keys_of es) ≡ true → comes_to totals es (n ∷ names) ≡ comes_to totals es names
one_among totals es n names is = ap (λ ns. es ++ with_totals totals ns) (firsts-among (keys_of es) names n is)

pub one_new : (totals es : Entries) (n : List ℕ) (names : List (List ℕ)) → list_any (bytes_eq n) (keys_of es) ≡ false → comes_to totals es (n ∷ names) ≡ comes_to totals (es ++ (n, total_of totals n) ∷ []) names
one_new totals es n names fresh =
    let e : List ℕ × ℕ = (n, total_of totals n) in
    ap (λ ns. es ++ with_totals totals ns) (firsts-new (keys_of es) names n fresh)
    ∙ (sym (append_assoc es (e ∷ []) (with_totals totals (firsts (keys_of es ++ n ∷ []) names)))
    ∙ ap (λ ks. (es ++ e ∷ []) ++ with_totals totals (firsts ks names)) (sym (keys-push es e)))

-- the names of both rules
pub both_rules : (before after first second : Entries) → ((more : List (List ℕ)) → comes_to after first more ≡ comes_to after [] (keys_of before ++ more)) → ((more : List (List ℕ)) → comes_to after second more ≡ comes_to after first (keys_of after ++ more))
    → second ≡ contiguous before after
both_rules before after first second one two =
    sym (append-nil second) ∙ (two [] ∙ (one (keys_of after ++ []) ∙ ap (λ ks. with_totals after (firsts [] (keys_of before ++ ks))) (append-nil (keys_of after))))

-- ---- each name stands there once

pairs_cons : (n : List ℕ) (ns : List (List ℕ)) → All (λ m. n ≢ m) ns → AllPairs ◌≢◌ ns → AllPairs ◌≢◌ (n ∷ ns)
pairs_cons n ns apart pairs zero zero d low high = absurd (omega (arith, low))
pairs_cons n ns apart pairs zero (suc j) d low high = apart j d (omega (arith, high))
pairs_cons n ns apart pairs (suc i) zero d low high = absurd (omega (arith, low))
pairs_cons n ns apart pairs (suc i) (suc j) d low high = pairs i j d (omega (arith, low)) (omega (arith, high))

left_false : (a b : Bool) → (a || b) ≡ false → a ≡ false
left_false true b e = cc
left_false false b e = refl

right_false : (a b : Bool) → (a || b) ≡ false → b ≡ false
right_false true b e = absurd cc
right_false false b e = e

-- none of the names stands before, and none twice
record AreNew (seen ns : List (List ℕ)) : Type 0 where
  fresh : All (λ n. list_any (bytes_eq n) seen ≡ false) ns
  pairs : AllPairs ◌≢◌ ns

none_new : (seen : List (List ℕ)) → AreNew seen []
none_new seen = record { fresh = λ k d low. absurd (omega (arith, low)); pairs = λ i j d low high. absurd (omega (arith, high)) }

one_more : (seen : List (List ℕ)) (n : List ℕ) (ns : List (List ℕ)) → list_any (bytes_eq n) seen ≡ false → AreNew (seen ++ n ∷ []) ns → AreNew seen (n ∷ ns)
one_more seen n ns fresh are =
    let parts : (m : List ℕ) → list_any (bytes_eq m) (seen ++ n ∷ []) ≡ false → (list_any (bytes_eq m) seen || (bytes_eq m n || false)) ≡ false = λ m h. sym (list_any-append (bytes_eq m) seen (n ∷ [])) ∙ h in
    record {
      fresh = All-cons (λ m. list_any (bytes_eq m) seen ≡ false) n ns fresh (λ k d low. left_false (list_any (bytes_eq (get_or ns k d)) seen) (bytes_eq (get_or ns k d) n || false) (parts (get_or ns k d) (are.fresh k d low)));
      pairs = pairs_cons n ns (λ k d low same.
          let m = get_or ns k d in
          let other = left_false (bytes_eq m n) false (right_false (list_any (bytes_eq m) seen) (bytes_eq m n || false) (parts m (are.fresh k d low))) in
          let is : bytes_eq m n ≡ true = (bytes_eq-Decides m n).1 (sym same) in
          cc) are.pairs;
    }

all_new : (seen ns : List (List ℕ)) → AreNew seen (firsts seen ns)
all_new seen [] = none_new seen
all_new seen (n ∷ ns) =
    ⊎_elim
    (λ (is : list_any (bytes_eq n) seen ≡ true). subst (AreNew seen) (sym (firsts-among seen ns n is)) (all_new seen ns))
    (λ (fresh : list_any (bytes_eq n) seen ≡ false). subst (AreNew seen) (sym (firsts-new seen ns n fresh)) (one_more seen n (firsts (seen ++ n ∷ []) ns) fresh (all_new (seen ++ n ∷ []) ns)))
    (cases_Bool (list_any (bytes_eq n) seen))

-- ---- each name of the rules stands there

here_first : (x n : List ℕ) (ns : List (List ℕ)) → x ≡ n → Contains (n ∷ ns) x
here_first x n ns same = (0, omega arith, sym same)

later : (x n : List ℕ) (ns : List (List ℕ)) → Contains ns x → Contains (n ∷ ns) x
later x n ns has = (suc has.0, omega (arith, has.1), has.2)

or_cases : (a b : Bool) → (a || b) ≡ true → (a ≡ true) ⊎ (b ≡ true)
or_cases true b e = inl refl
or_cases false b e = inr e

-- a name among those before and one more is among them, or is it
pushed : (x n : List ℕ) (seen : List (List ℕ)) → list_any (bytes_eq x) (seen ++ n ∷ []) ≡ true → (list_any (bytes_eq x) seen ≡ true) ⊎ (x ≡ n)
pushed x n seen is =
    ⊎_elim
    (λ (had : list_any (bytes_eq x) seen ≡ true). inl had)
    (λ (last : (bytes_eq x n || false) ≡ true). inr (⊎_elim (λ (same : bytes_eq x n ≡ true). same_name x n same) (λ (fresh : false ≡ true). absurd cc) (or_cases (bytes_eq x n) false last)))
    (or_cases (list_any (bytes_eq x) seen) (bytes_eq x n || false) (sym (list_any-append (bytes_eq x) seen (n ∷ [])) ∙ is))

has_first : (x : List ℕ) (seen ns : List (List ℕ)) → list_any (bytes_eq x) ns ≡ true → (list_any (bytes_eq x) seen ≡ true) ⊎ Contains (firsts seen ns) x
has_first x seen [] is = absurd cc
has_first x seen (n ∷ ns) is =
    ⊎_elim
    (λ (among : list_any (bytes_eq n) seen ≡ true).
    subst (λ fs. (list_any (bytes_eq x) seen ≡ true) ⊎ Contains fs x) (sym (firsts-among seen ns n among))
    (⊎_elim
    (λ (same : bytes_eq x n ≡ true). inl (ap (λ m. list_any (bytes_eq m) seen) (same_name x n same) ∙ among))
    (λ (rest : list_any (bytes_eq x) ns ≡ true). has_first x seen ns rest)
    (or_cases (bytes_eq x n) (list_any (bytes_eq x) ns) is)))
    (λ (fresh : list_any (bytes_eq n) seen ≡ false).
    subst (λ fs. (list_any (bytes_eq x) seen ≡ true) ⊎ Contains fs x) (sym (firsts-new seen ns n fresh))
    (⊎_elim
    (λ (same : bytes_eq x n ≡ true). inr (here_first x n (firsts (seen ++ n ∷ []) ns) (same_name x n same)))
    (λ (rest : list_any (bytes_eq x) ns ≡ true).
    ⊎_elim
    (λ (had : list_any (bytes_eq x) (seen ++ n ∷ []) ≡ true). ⊎_elim (λ (before : list_any (bytes_eq x) seen ≡ true). inl before) (λ (same : x ≡ n). inr (here_first x n (firsts (seen ++ n ∷ []) ns) same)) (pushed x n seen had))
    (λ (has : Contains (firsts (seen ++ n ∷ []) ns) x). inr (later x n (firsts (seen ++ n ∷ []) ns) has))
    (has_first x (seen ++ n ∷ []) ns rest))
    (or_cases (bytes_eq x n) (list_any (bytes_eq x) ns) is)))
    (cases_Bool (list_any (bytes_eq n) seen))

or_true : (a : Bool) → (a || true) ≡ true
or_true true = refl
or_true false = refl

listed : (pre : List (List ℕ)) (r : Entries) → All (λ e. list_any (bytes_eq e.0) (pre ++ keys_of r) ≡ true) r
listed pre [] = λ k d low. absurd (omega (arith, low))
listed pre (e ∷ es) =
    let moved : (pre ++ e.0 ∷ []) ++ keys_of es ≡ pre ++ e.0 ∷ keys_of es = append_assoc pre (e.0 ∷ []) (keys_of es) in
    All-cons (λ (x : List ℕ × ℕ). list_any (bytes_eq x.0) (pre ++ e.0 ∷ keys_of es) ≡ true) e es
    (list_any-append (bytes_eq e.0) pre (e.0 ∷ keys_of es) ∙ (ap (λ (b : Bool). list_any (bytes_eq e.0) pre || (b || list_any (bytes_eq e.0) (keys_of es))) (itself e.0) ∙ or_true (list_any (bytes_eq e.0) pre)))
    (subst (λ (ks : List (List ℕ)). All (λ (x : List ℕ × ℕ). list_any (bytes_eq x.0) ks ≡ true) es) moved (listed (pre ++ e.0 ∷ []) es))

weights : (r : Entries) (ns : List (List ℕ)) → total_weight (with_totals r ns) ≡ sum_by (total_of r) ns
weights r [] = refl
weights r (n ∷ ns) = omega (arith, total_weight-cons (n, total_of r n) (with_totals r ns), sum_by-cons (total_of r) n ns, weights r ns)

-- as many points as the new rule
pub total_contiguous : (before after : Entries) → total_weight (contiguous before after) ≡ total_weight after
total_contiguous before after =
    let names = keys_of before ++ keys_of after in
    weights after (firsts [] names)
    ∙ sum_by-total_of after (firsts [] names) (all_new [] names).pairs
    (λ k d low. ⊎_elim (λ (none : list_any (bytes_eq (get_or after k d).0) [] ≡ true). absurd cc) (λ (has : Contains (firsts [] names) (get_or after k d).0). has) (has_first (get_or after k d).0 [] names (listed (keys_of before) after k d low)))
