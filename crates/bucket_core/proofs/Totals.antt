-- The totals of the names sum to the total of the rule.
use Rattle.std.proofs.Common.{◌≡◌, ℕ, zero, suc, ◌+◌, ◌<◌, ◌≢◌, inl, inr, List, [], ◌∷◌, length, get_or, sum_by, cond, refl, sym, ap, ◌∙◌, arith}
use Rattle.std.specs.List.{All, AllPairs, Contains}
use Rattle.std.specs.Str.{bytes_eq}
use Rattle.std.proofs.lemmas.Bool.{cases_Bool}
use Rattle.std.proofs.lemmas.List.Elements.{All-head, All-tail}
use Rattle.std.proofs.lemmas.List.Sums.{sum_by-cons}
use Rattle.std.proofs.lemmas.Slice.Eq.{bytes_eq-Decides}
use Rattle.bucket_core.specs.Rule.{Entries, total_weight, total_of}
use Rattle.bucket_core.proofs.Points.{total_weight-cons, total_of-nil, total_of-cons}

-- the weight of an entry at its own name, and 0 at every other
share : List ℕ × ℕ → List ℕ → ℕ
share e name = cond (bytes_eq e.0 name) e.1 0

pairs_tail : (x : List ℕ) (xs : List (List ℕ)) → AllPairs ◌≢◌ (x ∷ xs) → AllPairs ◌≢◌ xs
pairs_tail x xs distinct i j d less within = distinct (suc i) (suc j) d (omega arith) (omega arith)

pairs_head : (x : List ℕ) (xs : List (List ℕ)) → AllPairs ◌≢◌ (x ∷ xs) → All (λ y. x ≢ y) xs
pairs_head x xs distinct k d within = distinct 0 (suc k) d (omega arith) (omega arith)

share-here : (e : List ℕ × ℕ) → share e e.0 ≡ e.1
unfolding share
share-here e = rw ((bytes_eq-Decides e.0 e.0).1 refl) refl

share-other : (e : List ℕ × ℕ) (name : List ℕ) → e.0 ≢ name → share e name ≡ 0
unfolding share
share-other e name apart = elim (cases_Bool (bytes_eq e.0 name)) [
  | inl same ↦ absurd (apart ((bytes_eq-Decides e.0 name).0 same))
  | inr differs ↦ rw differs refl
]

-- among names that are all others it has no share
shares_none : (e : List ℕ × ℕ) (names : List (List ℕ)) → All (λ n. e.0 ≢ n) names → sum_by (share e) names ≡ 0
shares_none e [] apart = refl
shares_none e (n ∷ names) apart =
    omega (arith, sum_by-cons (share e) n names, share-other e n (All-head (λ m. e.0 ≢ m) n names apart), shares_none e names (All-tail (λ m. e.0 ≢ m) n names apart))

-- among distinct names of which one is its own, it has its weight
shares_once : (e : List ℕ × ℕ) (names : List (List ℕ)) (k : ℕ) → AllPairs ◌≢◌ names → k < length names → get_or names k e.0 ≡ e.0 → sum_by (share e) names ≡ e.1
shares_once e [] k distinct within is = absurd (omega arith)
shares_once e (n ∷ names) zero distinct within is =
    let others = shares_none e names (rw is at (pairs_head n names distinct)) in
    omega (arith, sum_by-cons (share e) n names, others, ap (share e) is, share-here e)
shares_once e (n ∷ names) (suc k) distinct within is =
    let apart : e.0 ≢ n = λ same. pairs_head n names distinct k e.0 (omega arith) (sym (is ∙ same)) in
    omega (arith, sum_by-cons (share e) n names, share-other e n apart, shares_once e names k (pairs_tail n names distinct) (omega arith) is)

sum_of_zeros : (f : List ℕ → ℕ) (names : List (List ℕ)) → ((n : List ℕ) → f n ≡ 0) → sum_by f names ≡ 0
sum_of_zeros f [] zeros = refl
sum_of_zeros f (n ∷ names) zeros = omega (arith, sum_by-cons f n names, zeros n, sum_of_zeros f names zeros)

sum_of_sums : (f g h : List ℕ → ℕ) (names : List (List ℕ)) → ((n : List ℕ) → f n ≡ g n + h n) → sum_by f names ≡ sum_by g names + sum_by h names
sum_of_sums f g h [] parts = refl
sum_of_sums f g h (n ∷ names) parts =
    omega (arith, sum_by-cons f n names, sum_by-cons g n names, sum_by-cons h n names, parts n, sum_of_sums f g h names parts)

total_shares : (e : List ℕ × ℕ) (es : Entries) (name : List ℕ) → total_of (e ∷ es) name ≡ share e name + total_of es name
unfolding share
total_shares e es name = total_of-cons e es name

-- over distinct names, among which are all of the rule's, the totals sum to the number of points
pub sum_by-total_of : (r : Entries) (names : List (List ℕ)) → AllPairs ◌≢◌ names → All (λ e. Contains names e.0) r → sum_by (total_of r) names ≡ total_weight r
sum_by-total_of [] names distinct named = sum_of_zeros (total_of []) names total_of-nil
sum_by-total_of (e ∷ es) names distinct named =
    let own = All-head (λ x. Contains names x.0) e es named in
    let rest = sum_by-total_of es names distinct (All-tail (λ x. Contains names x.0) e es named) in
    omega (arith, sum_of_sums (total_of (e ∷ es)) (share e) (total_of es) names (total_shares e es), shares_once e names own.0 distinct own.1 own.2, rest, total_weight-cons e es)
