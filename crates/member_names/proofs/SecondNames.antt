-- Names that stand again behind themselves, by those that were met.
use Rattle.std.proofs.Common.{◌≡◌, ◌+◌, ◌<◌, ℕ, suc, Bool, true, false, not, cond, ◌||◌, List, [], ◌∷◌, length, get_or, map, take, drop, add-one, drop-cons, Option, Some, None, is_some, Bor, refl, sym, ap, ◌∙◌}
use Rattle.std.proofs.lemmas.List.Folds.{list_any_more}
use Rattle.std.proofs.lemmas.Map.Text.{is_eq-slice_cmp}
use Rattle.std.specs.BTreeMap.{is_at}
use Rattle.std.specs.Cmp.Lexicographic.{slice_cmp}
use Rattle.std.specs.List.{list_any}
use Rattle.std.specs.Ordering.{nat_cmp}
use Rattle.std.specs.Str.{bytes_eq}
use Rattle.member_names.specs.Places.{first_again}
use Rattle.member_names.specs.Repeated.{has_twin}

abbrev pub Entry : Type 0
Entry = Bor (List ℕ)

abbrev pub names_of : List Entry → List (List ℕ)
names_of ms = map (λ m. m.now) ms

-- the first of what is left, where it is item i
drop_here : {A : Type 0} (xs : List A) (i : ℕ) (x : A) → i < length xs → x ≡ get_or xs i x → drop i xs ≡ x ∷ drop (i + 1) xs
drop_here xs i x h is = rw (add-one, drop-cons xs i x h) (ap (λ y. y ∷ drop (suc i) xs) (sym is))

-- ---- the first that stands again, by a test for what was met

-- one more was met
abbrev more : Entry → (Entry → Bool) → Entry → Bool
more m met = λ q. cond (bytes_eq m.now q.now) true (met q)

abbrev pub again : (Entry → Bool) → List Entry → Option (List ℕ)
again met [] = None
again met (m ∷ ms) = cond (met m) (Some m.now) (again (more m met) ms)

same_again : (met other : Entry → Bool) → ((q : Entry) → met q ≡ other q) → (ms : List Entry) → again met ms ≡ again other ms
same_again met other same [] = refl
same_again met other same (m ∷ ms) =
    ap (λ b. cond b (Some m.now) (again (more m met) ms)) (same m)
    ∙ ap (cond (other m) (Some m.now)) (same_again (more m met) (more m other) (λ q. ap (cond (bytes_eq m.now q.now) true) (same q)) ms)

either : (a b : Bool) → cond a true b ≡ (a || b)
either true b = refl
either false b = refl

-- the test is that of a list of names
pub by_names : (met : Entry → Bool) (known : List (List ℕ)) → ((q : Entry) → met q ≡ list_any (λ n. bytes_eq n q.now) known) → (ms : List Entry) → again met ms ≡ first_again known (names_of ms)
by_names met known same [] = refl
by_names met known same (m ∷ ms) =
    ap (λ b. cond b (Some m.now) (again (more m met) ms)) (same m)
    ∙ ap (cond (list_any (λ n. bytes_eq n m.now) known) (Some m.now))
    (by_names (more m met) (m.now ∷ known) (λ q. ap (cond (bytes_eq m.now q.now) true) (same q) ∙ either (bytes_eq m.now q.now) (list_any (λ n. bytes_eq n q.now) known)) ms)

-- the first of what is left is new
pub one_met : (met after : Entry → Bool) (xs : List Entry) (i : ℕ) (m : Entry) → i < length xs → m ≡ get_or xs i m → met m ≡ false
    → ((q : Entry) → after q ≡ cond (is_at (λ x. slice_cmp nat_cmp m.now x.now) q) true (met q)) → again met (drop i xs) ≡ again after (drop (i + 1) xs)
one_met met after xs i m h is new grows =
    let ms = drop (i + 1) xs in
    ap (again met) (drop_here xs i m h is) ∙ ap (λ b. cond b (Some m.now) (again (more m met) ms)) new
    ∙ same_again (more m met) after (λ q. sym (grows q ∙ ap (λ b. cond b true (met q)) (is_eq-slice_cmp m.now q.now))) ms

-- it was met before
pub met_again : (met : Entry → Bool) (xs : List Entry) (i : ℕ) (m : Entry) → i < length xs → m ≡ get_or xs i m → met m ≡ true → again met (drop i xs) ≡ Some m.now
met_again met xs i m h is old = ap (again met) (drop_here xs i m h is) ∙ ap (λ b. cond b (Some m.now) (again (more m met) (drop (i + 1) xs))) old

-- one of the names is this
abbrev pub among : List Entry → Entry → Bool
among ns q = list_any (λ n. bytes_eq n.now q.now) ns

-- what stands past the end of a list of names
abbrev pub nameless : Entry
nameless = record { ref_ptr = (0, 0); now = [] }

-- the first i names and one more
pub among_more : (xs : List Entry) (i : ℕ) (m q : Entry) → i < length xs → m ≡ get_or xs i m → among (take (i + 1) xs) q ≡ cond (is_at (λ x. slice_cmp nat_cmp m.now x.now) q) true (among (take i xs) q)
among_more xs i m q h is =
    list_any_more (λ n. bytes_eq n.now q.now) xs i m h ∙ ap (λ n. among (take i xs) q || bytes_eq n.now q.now) (sym is) ∙ turned (among (take i xs) q) (bytes_eq m.now q.now)
    ∙ ap (λ b. cond b true (among (take i xs) q)) (sym (is_eq-slice_cmp m.now q.now))
  where
    turned : (a b : Bool) → (a || b) ≡ cond b true a
    turned true true = refl
    turned true false = refl
    turned false true = refl
    turned false false = refl

-- what a set says of a name that is put into it
pub was_new : (new had : Bool) → new ≡ not had → new ≡ true → had ≡ false
was_new new false e f = refl
was_new new true e f = sym f ∙ e

pub was_met : (new had : Bool) → new ≡ not had → new ≡ false → had ≡ true
was_met new true e f = refl
was_met new false e f = sym f ∙ e

-- ---- a name stands again exactly where one has a twin

-- one of the names is among those that were met
abbrev meets : List (List ℕ) → List (List ℕ) → Bool
meets known [] = false
meets known (k ∷ ks) = list_any (λ n. bytes_eq n k) known || meets known ks

none_meets : (ks : List (List ℕ)) → meets [] ks ≡ false
none_meets [] = refl
none_meets (k ∷ ks) = none_meets ks

swapped : (b x o a : Bool) → ((b || x) || (o || a)) ≡ ((x || o) || (b || a))
swapped true true o a = refl
swapped true false true a = refl
swapped true false false a = refl
swapped false true o a = refl
swapped false false o a = refl

one_more_meets : (k : List ℕ) (known ks : List (List ℕ)) → meets (k ∷ known) ks ≡ (meets known ks || list_any (bytes_eq k) ks)
one_more_meets k known [] = refl
one_more_meets k known (l ∷ ks) =
    ap (λ b. (bytes_eq k l || list_any (λ n. bytes_eq n l) known) || b) (one_more_meets k known ks)
    ∙ swapped (bytes_eq k l) (list_any (λ n. bytes_eq n l) known) (meets known ks) (list_any (bytes_eq k) ks)

or_or : (a b c : Bool) → ((a || b) || c) ≡ (a || (b || c))
or_or true b c = refl
or_or false b c = refl

is_again : (known ks : List (List ℕ)) → is_some (first_again known ks) ≡ (meets known ks || has_twin ks)
is_again known [] = refl
is_again known (k ∷ ks) = go (is_again (k ∷ known) ks) (list_any (λ n. bytes_eq n k) known)
  where
    go : is_some (first_again (k ∷ known) ks) ≡ (meets (k ∷ known) ks || has_twin ks) → (b : Bool)
        → is_some (cond b (Some k) (first_again (k ∷ known) ks)) ≡ ((b || meets known ks) || (list_any (bytes_eq k) ks || has_twin ks))
    go rest true = refl
    go rest false = rest ∙ ap (λ b. b || has_twin ks) (one_more_meets k known ks) ∙ or_or (meets known ks) (list_any (bytes_eq k) ks) (has_twin ks)

pub has_twin_again : (ks : List (List ℕ)) → is_some (first_again [] ks) ≡ has_twin ks
has_twin_again ks = is_again [] ks ∙ ap (λ b. b || has_twin ks) (none_meets ks)
