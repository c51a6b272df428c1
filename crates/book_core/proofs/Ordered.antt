-- One more key among keys in strictly rising order, and one more entry among entries.
use Rattle.std.proofs.Common.{◌≡◌, ◌+◌, Bool, true, false, cond, List, [], ◌∷◌, map, length, Some, None, Ordering, ◌||◌, refl, sym, ap, ◌∙◌, arith}
use Rattle.std.specs.Prelude.{option_map}
use Rattle.std.specs.declared.cmp.Ordering.TheVariants.{Less, Equal, Greater}
use Rattle.std.specs.Ordering.{is_eq, match_ordering, ordering_reverse}
use Rattle.std.specs.Cmp.{IsTotalOrder}
use Rattle.std.specs.List.{list_any, AllByRecursion}
use Rattle.std.specs.List.Sorted.{IsStrictlySortedBy}
use Rattle.std.specs.Map.{lookup, set_value, keys_of}
use Rattle.std.specs.BTreeMap.{is_at, insert_entry}
use Rattle.std.specs.BTreeSet.{insert_key}

-- what holds of each of the keys, and of one more, holds of each with it
pub All-insert : {K : Type 0} (R : K → K → Ordering) (P : K → Type 0) (ks : List K) (k : K) → AllByRecursion P ks → P k → AllByRecursion P (insert_key R ks k)
All-insert R P [] k all one = (one, tt)
All-insert R P (x ∷ xs) k all one =
    let later = All-insert R P xs k all.1 one in
    elim (R k x) as (λ o. AllByRecursion P (match_ordering o (k ∷ x ∷ xs) (x ∷ xs) (x ∷ insert_key R xs k))) [
      | Less ↦ (one, all)
      | Equal ↦ all
      | Greater ↦ (all.0, later)
    ]

pub All-weaker : {K : Type 0} (P Q : K → Type 0) (ks : List K) → ((k : K) → P k → Q k) → AllByRecursion P ks → AllByRecursion Q ks
All-weaker P Q [] f all = tt
All-weaker P Q (k ∷ ks) f all = (f k all.0, All-weaker P Q ks f all.1)

-- the keys seen by f
pub insert_key-map : {J K : Type 0} (f : J → K) (R : K → K → Ordering) (ks : List J) (k : J) → map f (insert_key (λ a b. R (f a) (f b)) ks k) ≡ insert_key R (map f ks) (f k)
insert_key-map f R [] k = refl
insert_key-map f R (x ∷ xs) k =
    let later = insert_key-map f R xs k in
    elim (R (f k) (f x)) as (λ o. map f (match_ordering o (k ∷ x ∷ xs) (x ∷ xs) (x ∷ insert_key (λ a b. R (f a) (f b)) xs k)) ≡ match_ordering o (f k ∷ f x ∷ map f xs) (f x ∷ map f xs) (f x ∷ insert_key R (map f xs) (f k))) [
      | Less ↦ refl
      | Equal ↦ refl
      | Greater ↦ ap (λ ys. f x ∷ ys) later
    ]

-- a key that is not there is one more
pub length-insert_key : {K : Type 0} (R : K → K → Ordering) (ks : List K) (k : K) → list_any (is_at (R k)) ks ≡ false → length (insert_key R ks k) ≡ length ks + 1
length-insert_key R [] k absent = refl
length-insert_key R (x ∷ xs) k absent =
    let later : list_any (is_at (R k)) xs ≡ false → length (insert_key R xs k) ≡ length xs + 1 = length-insert_key R xs k in
    elim (R k x) as (λ o. (is_eq o || list_any (is_at (R k)) xs) ≡ false → length (match_ordering o (k ∷ x ∷ xs) (x ∷ xs) (x ∷ insert_key R xs k)) ≡ length (x ∷ xs) + 1) [
      | Less ↦ λ _. omega arith
      | Equal ↦ λ e. cc
      | Greater ↦ λ e. let more = later e in omega arith
    ] absent

-- a key below another is below all that are above that one
pub below_all : {K : Type 0} {R : K → K → Ordering} (o : IsTotalOrder R) (k x : K) (xs : List K) → R k x ≡ Less → AllByRecursion (λ y. R x y ≡ Less) xs → AllByRecursion (λ y. R k y ≡ Less) xs
below_all {R = R} o k x xs below above = All-weaker (λ y. R x y ≡ Less) (λ y. R k y ≡ Less) xs (λ y. o.trans k x y below) above

-- a key below all is none of them
absent_below : {K : Type 0} (R : K → K → Ordering) (k : K) (xs : List K) → AllByRecursion (λ y. R k y ≡ Less) xs → list_any (is_at (R k)) xs ≡ false
absent_below R k [] below = refl
absent_below R k (x ∷ xs) below =
    let here : is_eq (R k x) ≡ false = ap is_eq below.0 in
    let later = absent_below R k xs below.1 in
    rw (here, later) refl

-- a key that is there stays as it is
pub insert_key-found : {K : Type 0} {R : K → K → Ordering} → IsTotalOrder R → (ks : List K) (k : K) → IsStrictlySortedBy R ks → list_any (is_at (R k)) ks ≡ true → insert_key R ks k ≡ ks
unfolding IsStrictlySortedBy
insert_key-found o [] k sorted found = cc
insert_key-found {R = R} o (x ∷ xs) k sorted found =
    let later = insert_key-found o xs k sorted.1 in
    let low : R k x ≡ Less → list_any (is_at (R k)) xs ≡ false = λ e. absent_below R k xs (below_all o k x xs e sorted.0) in
    elim (R k x) as (λ r. (r ≡ Less → list_any (is_at (R k)) xs ≡ false) → (is_eq r || list_any (is_at (R k)) xs) ≡ true → match_ordering r (k ∷ x ∷ xs) (x ∷ xs) (x ∷ insert_key R xs k) ≡ x ∷ xs) [
      | Less ↦ λ none e. let no = none refl in cc
      | Equal ↦ λ none e. refl
      | Greater ↦ λ none e. ap (λ ys. x ∷ ys) (later e)
    ] low found

-- the order stays strict
pub sorted-insert_key : {K : Type 0} {R : K → K → Ordering} → IsTotalOrder R → (ks : List K) (k : K) → IsStrictlySortedBy R ks → IsStrictlySortedBy R (insert_key R ks k)
unfolding IsStrictlySortedBy
sorted-insert_key o [] k sorted = (tt, tt)
sorted-insert_key {R = R} o (x ∷ xs) k sorted =
    let later = sorted-insert_key o xs k sorted.1 in
    let low : R k x ≡ Less → AllByRecursion (λ y. R k y ≡ Less) xs = λ e. below_all o k x xs e sorted.0 in
    let high : R k x ≡ Greater → R x k ≡ Less = λ e. o.antisymm x k ∙ ap ordering_reverse e in
    elim (R k x) as (λ r. R k x ≡ r → (r ≡ Less → AllByRecursion (λ y. R k y ≡ Less) xs) → (r ≡ Greater → R x k ≡ Less) → IsStrictlySortedBy R (match_ordering r (k ∷ x ∷ xs) (x ∷ xs) (x ∷ insert_key R xs k))) [
      | Less ↦ λ e below above. ((e, below refl), sorted)
      | Equal ↦ λ e below above. sorted
      | Greater ↦ λ e below above. (All-insert R (λ y. R x y ≡ Less) xs k sorted.0 (above refl), later)
    ] refl low high

-- an entry's value that is written again stays
pub set_value-same : {K X : Type 0} (test : K → Bool) (es : List (K × X)) (v : X) → lookup test es ≡ Some v → set_value test es v ≡ es
set_value-same test [] v found = refl
set_value-same test (e ∷ es) v found =
    let later = set_value-same test es v in
    elim (test e.0) as (λ b. cond b (Some e.1) (lookup test es) ≡ Some v → cond b ((e.0, v) ∷ es) (e ∷ set_value test es v) ≡ e ∷ es) [
      | true ↦ λ f. let same : e.1 ≡ v = cc in ap (λ w. (e.0, w) ∷ es) (sym same)
      | false ↦ λ f. ap (λ fs. e ∷ fs) (later f)
    ] found

-- a key below all is in no entry
pub none_below : {K X : Type 0} (R : K → K → Ordering) (k : K) (es : List (K × X)) → AllByRecursion (λ y. R k y ≡ Less) (keys_of es) → lookup (is_at (R k)) es ≡ None
none_below R k [] below = refl
none_below R k (e ∷ es) below =
    let here : is_eq (R k e.0) ≡ false = ap is_eq below.0 in
    let later = none_below R k es below.1 in
    rw here later

-- to insert at a key that is there is to write its value
pub insert_entry-found : {K X : Type 0} {R : K → K → Ordering} → IsTotalOrder R → (es : List (K × X)) (k : K) (v w : X) → IsStrictlySortedBy R (keys_of es) → lookup (is_at (R k)) es ≡ Some v → insert_entry R es k w ≡ set_value (is_at (R k)) es w
unfolding IsStrictlySortedBy
insert_entry-found o [] k v w sorted found = cc
insert_entry-found {R = R} o (e ∷ es) k v w sorted found =
    let later = insert_entry-found o es k v w sorted.1 in
    let low : R k e.0 ≡ Less → lookup (is_at (R k)) es ≡ None = λ h. none_below R k es (below_all o k e.0 (keys_of es) h sorted.0) in
    elim (R k e.0) as (λ r. (r ≡ Less → lookup (is_at (R k)) es ≡ None) → cond (is_eq r) (Some e.1) (lookup (is_at (R k)) es) ≡ Some v → match_ordering r ((k, w) ∷ e ∷ es) ((e.0, w) ∷ es) (e ∷ insert_entry R es k w) ≡ cond (is_eq r) ((e.0, w) ∷ es) (e ∷ set_value (is_at (R k)) es w)) [
      | Less ↦ λ none h. let no = none refl in cc
      | Equal ↦ λ none h. refl
      | Greater ↦ λ none h. ap (λ fs. e ∷ fs) (later h)
    ] low found

-- the entries with each value seen by f
abbrev pub seen_by : {K X Y : Type 0} → (X → Y) → List (K × X) → List (K × Y)
seen_by {K} {X} f es = map (λ (e : K × X). (e.0, f e.1)) es

pub insert_entry-seen_by : {K X Y : Type 0} (f : X → Y) (R : K → K → Ordering) (es : List (K × X)) (k : K) (v : X) → seen_by f (insert_entry R es k v) ≡ insert_entry R (seen_by f es) k (f v)
insert_entry-seen_by f R [] k v = refl
insert_entry-seen_by {K} {X} {Y} f R (e ∷ es) k v =
    let later = insert_entry-seen_by f R es k v in
    elim (R k e.0) as (λ r. seen_by f (match_ordering r ((k, v) ∷ e ∷ es) ((e.0, v) ∷ es) (e ∷ insert_entry R es k v)) ≡ match_ordering r ((k, f v) ∷ (e.0, f e.1) ∷ seen_by f es) ((e.0, f v) ∷ seen_by f es) ((e.0, f e.1) ∷ insert_entry R (seen_by f es) k (f v))) [
      | Less ↦ refl
      | Equal ↦ refl
      | Greater ↦ ap (λ (fs : List (K × Y)). (e.0, f e.1) ∷ fs) later
    ]

pub set_value-seen_by : {K X Y : Type 0} (f : X → Y) (test : K → Bool) (es : List (K × X)) (v : X) → seen_by f (set_value test es v) ≡ set_value test (seen_by f es) (f v)
set_value-seen_by f test [] v = refl
set_value-seen_by {K} {X} {Y} f test (e ∷ es) v =
    let later = set_value-seen_by f test es v in
    elim (test e.0) as (λ b. seen_by f (cond b ((e.0, v) ∷ es) (e ∷ set_value test es v)) ≡ cond b ((e.0, f v) ∷ seen_by f es) ((e.0, f e.1) ∷ set_value test (seen_by f es) (f v))) [
      | true ↦ refl
      | false ↦ ap (λ (fs : List (K × Y)). (e.0, f e.1) ∷ fs) later
    ]

pub lookup-seen_by : {K X Y : Type 0} (f : X → Y) (test : K → Bool) (es : List (K × X)) → lookup test (seen_by f es) ≡ option_map f (lookup test es)
lookup-seen_by f test [] = refl
lookup-seen_by f test (e ∷ es) =
    let later = lookup-seen_by f test es in
    elim (test e.0) as (λ b. cond b (Some (f e.1)) (lookup test (seen_by f es)) ≡ option_map f (cond b (Some e.1) (lookup test es))) [ true ↦ refl | false ↦ later ]

pub keys_of-seen_by : {K X Y : Type 0} (f : X → Y) (es : List (K × X)) → keys_of (seen_by f es) ≡ keys_of es
keys_of-seen_by f [] = refl
keys_of-seen_by f (e ∷ es) = ap (λ ks. e.0 ∷ ks) (keys_of-seen_by f es)

pub keys_of-insert_entry : {K X : Type 0} (R : K → K → Ordering) (es : List (K × X)) (k : K) (v : X) → keys_of (insert_entry R es k v) ≡ insert_key R (keys_of es) k
keys_of-insert_entry R [] k v = refl
keys_of-insert_entry R (e ∷ es) k v =
    let later = keys_of-insert_entry R es k v in
    elim (R k e.0) as (λ r. keys_of (match_ordering r ((k, v) ∷ e ∷ es) ((e.0, v) ∷ es) (e ∷ insert_entry R es k v)) ≡ match_ordering r (k ∷ e.0 ∷ keys_of es) (e.0 ∷ keys_of es) (e.0 ∷ insert_key R (keys_of es) k)) [
      | Less ↦ refl
      | Equal ↦ refl
      | Greater ↦ ap (λ fs. e.0 ∷ fs) later
    ]

-- what holds of each value, and of one more, holds of each with it
pub All-insert_entry : {K X : Type 0} (R : K → K → Ordering) (P : X → Type 0) (es : List (K × X)) (k : K) (v : X) → AllByRecursion (λ (e : K × X). P e.1) es → P v → AllByRecursion (λ (e : K × X). P e.1) (insert_entry R es k v)
All-insert_entry R P [] k v all one = (one, tt)
All-insert_entry {K} {X} R P (e ∷ es) k v all one =
    let later = All-insert_entry R P es k v all.1 one in
    elim (R k e.0) as (λ r. AllByRecursion (λ (e : K × X). P e.1) (match_ordering r ((k, v) ∷ e ∷ es) ((e.0, v) ∷ es) (e ∷ insert_entry R es k v))) [
      | Less ↦ (one, all)
      | Equal ↦ (one, all.1)
      | Greater ↦ (all.0, later)
    ]
