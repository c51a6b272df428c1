-- The one canonical rule of given points: a run of equal names for each entry.
use Rattle.std.proofs.Common.{◌≡◌, ◌↔◌, MatchOption, ℕ, zero, suc, ◌<◌, ◌≤◌, ◌≢◌, inl, inr, Option, Some, None, Bor, List, [], ◌∷◌, ◌++◌, length, drop, get_or, replicate, true, false, eqb, if◌then◌else◌, refl, sym, ap, subst, ◌∙◌, one-add, append_assoc, arith}
use Rattle.std.specs.List.{All, AllPairs, prefix_len}
use Rattle.std.specs.Prelude.{⊤}
use Rattle.std.specs.Str.{bytes_eq}
use Rattle.std.proofs.lemmas.Bool.{cases_order, cases_Bool, eqb-true, eqb-false, eq-eqb}
use Rattle.std.proofs.lemmas.List.{append-nil}
use Rattle.std.proofs.lemmas.List.Elements.{All-tail, All-head}
use Rattle.std.proofs.lemmas.Slice.Eq.{bytes_eq-Decides}
use Rattle.bucket_core.specs.Canonical.{BeginsApart, IsCanonical}
use Rattle.bucket_core.specs.Rule.{Entries, points, names_at}

-- ---- entries behind a name

-- a name is another than the one before it
abbrev pub IsApart : Option (Bor (List ℕ)) → List ℕ → Type 0
IsApart before name = MatchOption before ⊤ (λ other. name ≢ other.now)

-- no entry has weight 0, and neighbours have different names, the first and the name before it among them
pub Follows : Option (Bor (List ℕ)) → Entries → Type 0
Follows None es = IsCanonical es
Follows (Some name) es = BeginsApart name.now es × IsCanonical es

pub follows_none : (es : Entries) → IsCanonical es ↔ Follows None es
unfolding Follows
follows_none es = (λ h. h, λ h. h)

pub follows_next : (before : Option (Bor (List ℕ))) (name : Bor (List ℕ)) (weight : ℕ) (es : Entries)
    → Follows before ((name.now, weight) ∷ es) ↔ (IsApart before name.now × (0 < weight) × Follows (Some name) es)
unfolding Follows
follows_next None name weight es = (λ h. (tt, h.0, (h.1, h.2)), λ h. (h.1, h.2.0, h.2.1))
follows_next (Some other) name weight es = (λ h. (h.0, h.1.0, (h.1.1, h.1.2)), λ h. (h.0, (h.1, h.2.0, h.2.1)))

-- where the entries begin with one, it is apart from the name before, has weight, and the others follow it
pub follows_step : {X : Type 0} (before : Option (Bor (List ℕ))) (es left : Entries) (name : Bor (List ℕ)) (weight : ℕ) → es ≡ (name.now, weight) ∷ left → (X ↔ Follows before es)
    → X ↔ (IsApart before name.now × (0 < weight) × Follows (Some name) left)
follows_step before es left name weight steps alike =
    let same = rw steps at alike in
    let next = follows_next before name weight left in
    (λ h. next.0 (same.0 h), λ h. same.1 (next.1 h))

pub follows_end : (before : Option (Bor (List ℕ))) → Follows before []
unfolding Follows
follows_end None = tt
follows_end (Some other) = (tt, tt)

-- ---- runs of names

-- one more point in front
one_more : List ℕ → Entries → Entries
one_more n [] = (n, 1) ∷ []
one_more n (e ∷ es) = if bytes_eq e.0 n then (e.0, suc e.1) ∷ es else (n, 1) ∷ e ∷ es

pub runs : List (List ℕ) → Entries
runs [] = []
runs (n ∷ ns) = one_more n (runs ns)

same_name : (n : List ℕ) → bytes_eq n n ≡ true
same_name n = (bytes_eq-Decides n n).1 refl

other_name : (m n : List ℕ) → m ≢ n → bytes_eq m n ≡ false
other_name m n apart = elim (cases_Bool (bytes_eq m n)) [ inl same ↦ absurd (apart ((bytes_eq-Decides m n).0 same)) | inr differs ↦ differs ]

one_more-same : (n : List ℕ) (w : ℕ) (es : Entries) → one_more n ((n, w) ∷ es) ≡ (n, suc w) ∷ es
unfolding one_more
one_more-same n w es = rw (same_name n) refl

one_more-apart : (n : List ℕ) (es : Entries) → BeginsApart n es → one_more n es ≡ (n, 1) ∷ es
unfolding one_more
one_more-apart n [] apart = refl
one_more-apart n (e ∷ es) apart = rw (other_name e.0 n apart) refl

-- ---- they have the names as points

points-one_more : (n : List ℕ) (r : Entries) → points (one_more n r) ≡ n ∷ points r
unfolding points one_more
points-one_more n [] = refl
points-one_more n (e ∷ es) = elim (cases_Bool (bytes_eq e.0 n)) [
  | inl same ↦ rw same (ap (λ m. m ∷ (replicate e.1 e.0 ++ points es)) ((bytes_eq-Decides e.0 n).0 same))
  | inr differs ↦ rw differs refl
]

pub points-runs : (ns : List (List ℕ)) → points (runs ns) ≡ ns
unfolding points runs
points-runs [] = refl
points-runs (n ∷ ns) = points-one_more n (runs ns) ∙ ap (λ ms. n ∷ ms) (points-runs ns)

-- ---- they are canonical

IsCanonical-one_more : (n : List ℕ) (r : Entries) → IsCanonical r → IsCanonical (one_more n r)
unfolding one_more
IsCanonical-one_more n [] h = (omega arith, tt, tt)
IsCanonical-one_more n (e ∷ es) h = elim (cases_Bool (bytes_eq e.0 n)) [
  | inl same ↦ rw same (omega arith, h.1, h.2)
  | inr differs ↦ rw differs (omega arith, λ equal. absurd (cc ((bytes_eq-Decides e.0 n).1 equal, differs)), h)
]

pub IsCanonical-runs : (ns : List (List ℕ)) → IsCanonical (runs ns)
unfolding runs
IsCanonical-runs [] = tt
IsCanonical-runs (n ∷ ns) = IsCanonical-one_more n (runs ns) (IsCanonical-runs ns)

-- ---- and a canonical rule is the runs of its points

runs_past : (n : List ℕ) (w : ℕ) (ns : List (List ℕ)) (es : Entries) → runs ns ≡ es → BeginsApart n es → runs (replicate (suc w) n ++ ns) ≡ (n, suc w) ∷ es
unfolding runs
runs_past n zero ns es is apart = ap (one_more n) is ∙ one_more-apart n es apart
runs_past n (suc w) ns es is apart = ap (one_more n) (runs_past n w ns es is apart) ∙ one_more-same n (suc w) es

runs_entry : (n : List ℕ) (w : ℕ) (es : Entries) → 0 < w → BeginsApart n es → runs (points es) ≡ es → runs (points ((n, w) ∷ es)) ≡ (n, w) ∷ es
unfolding points
runs_entry n zero es some apart is = absurd (omega arith)
runs_entry n (suc w) es some apart is = runs_past n w (points es) es is apart

pub runs-points : (r : Entries) → IsCanonical r → runs (points r) ≡ r
unfolding points runs
runs-points [] h = refl
runs-points (e ∷ es) h = runs_entry e.0 e.1 es h.0 h.1 (runs-points es h.2)

-- no other canonical rule has the same points
pub canonical_unique : (r s : Entries) → IsCanonical r → IsCanonical s → points s ≡ points r → s ≡ r
canonical_unique r s h k same = sym (runs-points s k) ∙ (ap runs same ∙ runs-points r h)

-- ---- a run of equal items, where names are distinct

distinct_names : (names : List (List ℕ)) (i j : ℕ) → AllPairs ◌≢◌ names → i < length names → j < length names → (i ≡ j → ⊥) → get_or names i [] ≢ get_or names j []
distinct_names names i j distinct hi hj apart same = elim (cases_order i j) [
  | inl e ↦ apart e
  | inr o ↦ elim o [ inl below ↦ distinct i j [] below hj same | inr above ↦ distinct j i [] above hi (sym same) ]
]

begins_with_head : (m : List ℕ) (r : Entries) (n : List ℕ) → m ≢ n → BeginsApart n (one_more m r)
unfolding one_more
begins_with_head m [] n apart = apart
begins_with_head m (e ∷ es) n apart = elim (cases_Bool (bytes_eq e.0 m)) [
  | inl same ↦ rw same (λ equal. apart (sym ((bytes_eq-Decides e.0 m).0 same) ∙ equal))
  | inr differs ↦ rw differs apart
]

module _ (names : List (List ℕ)) (distinct : AllPairs ◌≢◌ names) where
  all_tail : (i : ℕ) (items : List ℕ) → All (λ i. i < length names) (i ∷ items) → All (λ i. i < length names) items
  all_tail i items all = All-tail (λ j. j < length names) i items all

  run_more : (item : ℕ) (items : List ℕ) → item < length names → All (λ i. i < length names) items
      → runs (names_at names (item ∷ items)) ≡ (get_or names item [], suc (prefix_len (λ i. eqb i item) items)) ∷ runs (names_at names (drop (prefix_len (λ i. eqb i item) items) items))
  unfolding runs one_more
  run_more item [] h all = refl
  run_more item (i ∷ items) h all = elim (cases_Bool (eqb i item)) [
    | inl same ↦
        let name = get_or names item [] in
        let rest = runs (names_at names items) in
        rw (same, one-add) (ap (λ j. one_more name (one_more (get_or names j []) rest)) (eqb-true i item same) ∙ (ap (one_more name) (run_more item items h (all_tail i items all)) ∙ one_more-same name _ _))
    | inr differs ↦
        rw differs (one_more-apart (get_or names item []) _ (begins_with_head (get_or names i []) (runs (names_at names items)) (get_or names item [])
        (distinct_names names i item distinct (All-head (λ j. j < length names) i items all) h (eqb-false i item differs))))
  ]

  run_front : (item : ℕ) (items : List ℕ) (k : ℕ) → All (λ i. i < length names) (item ∷ items) → k ≡ prefix_len (λ i. eqb i item) (item ∷ items)
      → (0 < k) × (runs (names_at names (item ∷ items)) ≡ (get_or names item [], k) ∷ runs (names_at names (drop k (item ∷ items))))
  run_front item items k all is =
      let more : prefix_len (λ i. eqb i item) (item ∷ items) ≡ suc (prefix_len (λ i. eqb i item) items) = rw (eq-eqb item item refl, one-add) refl in
      rw (is, more) (omega arith, run_more item items (All-head (λ j. j < length names) item items all) (all_tail item items all))

  -- the first item and those after it that equal it are the first entry
  pub run_first : (item : ℕ) (rest : List ℕ) (k : ℕ) → 0 < length rest → item ≡ get_or rest 0 item → All (λ i. i < length names) rest → k ≡ prefix_len (λ i. eqb i item) rest
      → (0 < k) × (runs (names_at names rest) ≡ (get_or names item [], k) ∷ runs (names_at names (drop k rest)))
  run_first item [] k some is all count = absurd (omega arith)
  run_first item (x ∷ items) k some is all count =
      subst (λ j. (0 < k) × (runs (names_at names (x ∷ items)) ≡ (get_or names j [], k) ∷ runs (names_at names (drop k (x ∷ items))))) (sym is)
      (run_front x items k all (subst (λ j. k ≡ prefix_len (λ i. eqb i j) (x ∷ items)) is count))

-- an entry put behind those that are done
pub push_run : (done before after whole : Entries) (e : List ℕ × ℕ) → before ≡ e ∷ after → done ++ before ≡ whole → (done ++ e ∷ []) ++ after ≡ whole
push_run done before after whole e is all = append_assoc done (e ∷ []) after ∙ (ap (λ xs. done ++ xs) (sym is) ∙ all)

-- at the end nothing is left
pub runs_done : (done whole : Entries) (names : List (List ℕ)) (rest : List ℕ) → length rest ≤ 0 → done ++ runs (names_at names rest) ≡ whole → done ≡ whole
unfolding runs
runs_done done whole names [] none all = sym (append-nil done) ∙ all
runs_done done whole names (i ∷ rest) none all = absurd (omega arith)
