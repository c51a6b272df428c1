-- Texts in a list, whose bytes rise strictly.
use Rattle.std.proofs.Common.{◌≡◌, ℕ, zero, suc, ◌+◌, ◌-◌, ◌<◌, ◌≤◌, false, true, List, [], ◌∷◌, ◌++◌, map, length, drop, drop-cons, add-one, get_or, Some, None, Err, Ordering, String, string_bytes, slice_get, refl, sym, ap, ap₂, ◌∙◌, subst, inl, inr, arith}
use Rattle.std.specs.Prelude.{option_map}
use Rattle.std.specs.declared.alloc.Global.{Global}
use Rattle.std.specs.declared.cmp.Ordering.TheVariants.{Less, Equal, Greater}
use Rattle.std.specs.Cmp.{IsTotalOrder}
use Rattle.std.specs.Cmp.Lexicographic.{nat_list_cmp_total}
use Rattle.std.specs.List.{HoldsAt, list_all, AllByRecursion}
use Rattle.std.specs.List.Sorted.{IsStrictlySortedBy, IsNonDecreasingBy, IsBinarySearchResult}
use Rattle.std.specs.Ordering.{is_lt, is_eq, ordering_index, ordering_reverse}
use Rattle.std.specs.Str.{bytes_eq}
use Rattle.std.specs.BTreeSet.{insert_key}
use Rattle.std.proofs.Math.ListN.{get_or-map}
use Rattle.std.proofs.lemmas.Bool.{cases_lt, and_parts}
use Rattle.std.proofs.lemmas.List.{length-map, drop_all}
use Rattle.std.proofs.lemmas.List.Folds.{list_any_at}
use Rattle.std.proofs.lemmas.List.Sorted.{searchable_from_sorted}
use Rattle.std.proofs.lemmas.Map.Keys.{Less-from_sorted}
use Rattle.std.proofs.lemmas.Map.Text.{is_eq-slice_cmp}
use Rattle.book_core.specs.Page.{bytes_cmp}
use Rattle.book_core.specs.Book.{Inputs, is_among}
use Rattle.book_core.specs.Reading.{is_above}
use Rattle.book_core.proofs.Noting.{is_among-texts}
use Rattle.book_core.proofs.Ordered.{insert_key-map, sorted-insert_key}
use Rattle.book_core.proofs.Taken.{above_by_last, above_greater, insert_key-above, slice_get-map}

-- ---- the last one

at_place : {K : Type 0} (P : K → Type 0) (ks : List K) (i : ℕ) (k : K) → AllByRecursion P ks → slice_get ks i ≡ Some k → P k
at_place P [] i k all at = cc
at_place P (x ∷ xs) zero k all at = let same : x ≡ k = cc in subst P same all.0
at_place P (x ∷ xs) (suc i) k all at = at_place P xs i k all.1 at

not_less : (o : Ordering) → o ≡ ordering_reverse o → is_lt o ≡ false
not_less Less e = cc
not_less Equal e = refl
not_less Greater e = refl

-- none of the keys is above the last one
last_highest : {K : Type 0} {R : K → K → Ordering} → IsTotalOrder R → (ks : List K) (i : ℕ) (k : K) → IsStrictlySortedBy R ks → i ≡ length ks - 1 → slice_get ks i ≡ Some k → AllByRecursion (λ q. is_lt (R k q) ≡ false) ks
unfolding IsStrictlySortedBy
last_highest o [] i k sorted end at = tt
last_highest {R = R} o (x ∷ []) zero k sorted end at = let same : x ≡ k = cc in (subst (λ y. is_lt (R y x) ≡ false) same (not_less (R x x) (o.antisymm x x)), tt)
last_highest o (x ∷ y ∷ ys) zero k sorted end at = absurd (omega (arith, end))
last_highest {R = R} o (x ∷ xs) (suc i) k sorted end at =
    let below : R x k ≡ Less = at_place (λ q. R x q ≡ Less) xs i k sorted.0 at in
    (ap is_lt (o.antisymm k x ∙ ap ordering_reverse below), last_highest o xs i k sorted.1 (omega (arith, end)) at)

-- above the last text is above all
pub above_last : (list : List (String Global)) (k : String Global) (input : List ℕ) → IsStrictlySortedBy bytes_cmp (map string_bytes list) → slice_get list (length list - 1) ≡ Some k → is_lt (bytes_cmp (string_bytes k) input) ≡ is_above (map string_bytes list) input
above_last list k input sorted at =
    let texts = map string_bytes list in
    let there : slice_get texts (length texts - 1) ≡ Some (string_bytes k) =
    ap (λ n. slice_get texts (n - 1)) (length-map list string_bytes) ∙ slice_get-map string_bytes list (length list - 1) ∙ ap (option_map string_bytes) at in
    above_by_last nat_list_cmp_total texts (string_bytes k) input (last_highest nat_list_cmp_total texts (length texts - 1) (string_bytes k) sorted refl there) there

none_there : {K : Type 0} (ks : List K) (i : ℕ) → slice_get ks i ≡ None → length ks ≤ i
none_there [] i none = omega arith
none_there (x ∷ xs) zero none = cc
none_there (x ∷ xs) (suc i) none = omega (arith, none_there xs i none)

pub above_none : (list : List (String Global)) (input : List ℕ) → slice_get list (length list - 1) ≡ None → is_above (map string_bytes list) input ≡ true
above_none [] input none = refl
above_none (x ∷ xs) input none = absurd (omega (arith, none_there (x ∷ xs) (length (x ∷ xs) - 1) none))

-- ---- an input above all

pub sorted_above : (inputs : Inputs) (input : List ℕ) → IsStrictlySortedBy bytes_cmp inputs → is_above inputs input ≡ true → IsStrictlySortedBy bytes_cmp (inputs ++ input ∷ [])
sorted_above inputs input sorted above =
    subst (IsStrictlySortedBy bytes_cmp) (insert_key-above nat_list_cmp_total inputs input above) (sorted-insert_key nat_list_cmp_total inputs input sorted)

pub not_among : (inputs : Inputs) (input : List ℕ) → is_above inputs input ≡ true → is_among input inputs ≡ false
not_among [] input above = refl
not_among (x ∷ xs) input above =
    let parts = and_parts (is_lt (bytes_cmp x input)) (list_all (λ before. is_lt (bytes_cmp before input)) xs) above in
    let other : bytes_eq input x ≡ false = sym (is_eq-slice_cmp input x) ∙ ap is_eq (above_greater nat_list_cmp_total x input parts.0) in
    rw (other, not_among xs input parts.1) refl

-- ---- a search by halving

pub searchable : (list : List (String Global)) (input : List ℕ) → IsStrictlySortedBy bytes_cmp (map string_bytes list) → IsNonDecreasingBy (λ text. ordering_index (bytes_cmp (string_bytes text) input)) list
searchable list input sorted = searchable_from_sorted nat_list_cmp_total string_bytes list input (λ k d low high.
    let texts = map string_bytes list in
    let size : length texts ≡ length list = length-map list string_bytes in
    let less : bytes_cmp (get_or texts k (string_bytes d)) (get_or texts (k + 1) (string_bytes d)) ≡ Less = Less-from_sorted bytes_cmp texts k (k + 1) (string_bytes d) sorted (omega arith) (omega (arith, size, high)) in
    let here : bytes_cmp (string_bytes (get_or list k d)) (string_bytes (get_or list (k + 1) d)) ≡ Less = rw (sym (get_or-map string_bytes list k d), sym (get_or-map string_bytes list (k + 1) d)) less in
    ap is_lt (nat_list_cmp_total.antisymm (string_bytes (get_or list (k + 1) d)) (string_bytes (get_or list k d)) ∙ ap ordering_reverse here))

compared : (text input : List ℕ) (o : Ordering) → bytes_cmp text input ≡ o → is_eq (bytes_cmp input text) ≡ is_eq (ordering_reverse o)
compared text input o e = ap is_eq (nat_list_cmp_total.antisymm input text ∙ ap ordering_reverse e)

pub found_among : (list : List (String Global)) (input : List ℕ) (i : ℕ) → i < length list → HoldsAt (λ text. bytes_cmp (string_bytes text) input ≡ Equal) list i → is_among input (map string_bytes list) ≡ true
found_among [] input i inside equal = absurd (omega (arith, inside))
found_among (x ∷ xs) input i inside equal =
    sym (is_among-texts input (x ∷ xs)) ∙ list_any_at (λ text. is_eq (bytes_cmp input (string_bytes text))) (x ∷ xs) i x inside (compared (string_bytes (get_or (x ∷ xs) i x)) input Equal (equal x))

apart_among : (list : List (String Global)) (input : List ℕ) → ((i : ℕ) (d : String Global) → i < length list → is_eq (bytes_cmp input (string_bytes (get_or list i d))) ≡ false) → is_among input (map string_bytes list) ≡ false
apart_among [] input apart = refl
apart_among (x ∷ xs) input apart =
    let here : bytes_eq input (string_bytes x) ≡ false = sym (is_eq-slice_cmp input (string_bytes x)) ∙ apart 0 x (omega arith) in
    rw (here, apart_among xs input (λ i d inside. apart (suc i) d (omega (arith, inside)))) refl

pub missed_among : (list : List (String Global)) (input : List ℕ) (place : ℕ) → IsStrictlySortedBy bytes_cmp (map string_bytes list) → place ≤ length list → IsBinarySearchResult (λ text. bytes_cmp (string_bytes text) input) list (Err place) → is_among input (map string_bytes list) ≡ false
missed_among list input place sorted inside result =
    let parts = result (searchable list input sorted) in
    apart_among list input (λ i d low. elim (cases_lt i place) [
      | inl less ↦ compared (string_bytes (get_or list i d)) input Less (parts.0 i d (omega arith) less)
      | inr past ↦ compared (string_bytes (get_or list i d)) input Greater (parts.1 i d past low)
    ])

-- ---- a set from the end of a list

insert_first : {K : Type 0} (R : K → K → Ordering) (k : K) (ks : List K) → AllByRecursion (λ q. R k q ≡ Less) ks → insert_key R ks k ≡ k ∷ ks
insert_first R k [] all = refl
insert_first R k (x ∷ xs) all = rw all.0 refl

sorted-drop : {K : Type 0} (R : K → K → Ordering) (ks : List K) (i : ℕ) → IsStrictlySortedBy R ks → IsStrictlySortedBy R (drop i ks)
unfolding IsStrictlySortedBy
sorted-drop R [] zero sorted = sorted
sorted-drop R [] (suc i) sorted = tt
sorted-drop R (x ∷ xs) zero sorted = sorted
sorted-drop R (x ∷ xs) (suc i) sorted = sorted-drop R xs i sorted.1

insert_head : {K : Type 0} (R : K → K → Ordering) (k : K) (ks : List K) → IsStrictlySortedBy R (k ∷ ks) → insert_key R ks k ≡ k ∷ ks
unfolding IsStrictlySortedBy
insert_head R k ks sorted = insert_first R k ks sorted.0

-- the key before those that were dropped comes first among them
pub insert_dropped : (texts : Inputs) (i j : ℕ) (d : List ℕ) → IsStrictlySortedBy bytes_cmp texts → j ≡ i + 1 → i < length texts → insert_key bytes_cmp (drop j texts) (get_or texts i d) ≡ drop i texts
insert_dropped texts i j d sorted next inside =
    let parts : drop i texts ≡ get_or texts i d ∷ drop (suc i) texts = drop-cons texts i d inside in
    ap (λ n. insert_key bytes_cmp (drop n texts) (get_or texts i d)) (next ∙ add-one i)
    ∙ insert_head bytes_cmp (get_or texts i d) (drop (suc i) texts) (subst (IsStrictlySortedBy bytes_cmp) parts (sorted-drop bytes_cmp texts i sorted)) ∙ sym parts

-- the same of the texts of a set and of a list
pub set_more : (list keys : List (String Global)) (key : String Global) (i j : ℕ) (text : String Global) → IsStrictlySortedBy bytes_cmp (map string_bytes list) → map string_bytes keys ≡ drop j (map string_bytes list) → j ≡ i + 1 → i < length list → text ≡ get_or list i text → string_bytes key ≡ string_bytes text
    → map string_bytes (insert_key (λ a b. bytes_cmp (string_bytes a) (string_bytes b)) keys key) ≡ drop i (map string_bytes list)
set_more list keys key i j text sorted had next inside is copied =
    let texts = map string_bytes list in
    let here : string_bytes key ≡ get_or texts i (string_bytes text) = copied ∙ ap string_bytes is ∙ sym (get_or-map string_bytes list i text) in
    insert_key-map string_bytes bytes_cmp keys key ∙ ap₂ (insert_key bytes_cmp) had here ∙ insert_dropped texts i j (string_bytes text) sorted next (omega (arith, inside, length-map list string_bytes))

pub dropped_whole : (list : List (String Global)) → drop (length list) (map string_bytes list) ≡ []
dropped_whole list = drop_all (length list) (map string_bytes list) (rw (length-map list string_bytes) (omega arith))
