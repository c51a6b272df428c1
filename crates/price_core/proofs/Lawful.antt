-- What is read of a request is lawful: names rise, totals are small, prices fit.
use Rattle.std.proofs.Common.{◌≡◌, ℕ, ◌<◌, ◌≤◌, ◌^◌, ℤ, pos, negsuc, List, [], ◌∷◌, Bool, true, false, cond, codes, leb, ltb, Option, Some, None, option_map, option_and_then, IfSome, Ok, Err, Ordering, refl, ap}
use Rattle.std.specs.Cmp.Lexicographic.{slice_cmp}
use Rattle.std.specs.List.{All, AllByRecursion, list_all}
use Rattle.std.specs.List.Sorted.{IsStrictlySortedBy}
use Rattle.std.specs.Map.{keys_of}
use Rattle.std.specs.Ordering.{nat_cmp, match_ordering}
use Rattle.std.specs.declared.cmp.Ordering.TheVariants.{Less, Equal, Greater}
use Rattle.std.proofs.lemmas.Cmp.{nat_list_cmp_total}
use Rattle.std.proofs.lemmas.List.Elements.{All-nil, All-cons}
use Rattle.std.specs.Str.{bytes_eq}
use Rattle.std.proofs.lemmas.Bool.{leb-true, ltb-true}
use Rattle.flag_text.proofs.Bools.{left, right}
use Rattle.flag_text.specs.Readers.{as_object, find_member, member_of}
use Rattle.flag_text.specs.Shape.{Shape, null, boolean, whole, other, text, list, object, Items, no_items, item, Members, no_members, member, comes_first, is_whole, members_are_whole}
use Rattle.price_core.specs.Limits.{Limits}
use Rattle.price_core.specs.Pricing.{Pair, max_price}
use Rattle.price_core.specs.Request.{Written, number_below, range_of, limit_of, limits_with, totals_in, as_price, as_prices, if_in_range, if_written, if_judged, is_range}
use Rattle.price_core.specs.declared.fault.PriceFault.{PriceFault}
use Rattle.price_core.specs.declared.fault.PriceFault.TheVariants.{BadRequest}

-- ---- what holds of a value, if there is one

some_map : {A B : Type 0} (P : A → Type 0) (Q : B → Type 0) (f : A → B) → ((a : A) → P a → Q (f a)) → (o : Option A) → IfSome o P → IfSome (option_map f o) Q
some_map P Q f h None x = tt
some_map P Q f h (Some a) x = h a x

some_and_then : {A B : Type 0} (P : A → Type 0) (Q : B → Type 0) (f : A → Option B) → ((a : A) → P a → IfSome (f a) Q) → (o : Option A) → IfSome o P → IfSome (option_and_then f o) Q
some_and_then P Q f h None x = tt
some_and_then P Q f h (Some a) x = h a x

some_any : {A : Type 0} (o : Option A) → IfSome o (λ _. Unit {0})
some_any None = tt
some_any (Some a) = tt

pub in_range_is : {X : Type 0} (o : Option X) (x : X) → if_in_range o ≡ Ok x → o ≡ Some x
in_range_is None x h = cc
in_range_is (Some y) x h = cc

pub written_is : {X : Type 0} (o : Option X) (x : X) → if_written o ≡ Ok x → o ≡ Some x
written_is None x h = cc
written_is (Some y) x h = cc

-- ---- prices

price_fits_by : (b : Bool) (n : ℕ) → leb n max_price ≡ b → IfSome (cond b (Some n) None) (λ k. k ≤ max_price)
price_fits_by true n h = leb-true n max_price h
price_fits_by false n h = tt

pub price_fits : (z : ℤ) → IfSome (as_price z) (λ n. n ≤ max_price)
price_fits (pos n) = price_fits_by (leb n max_price) n refl
price_fits (negsuc n) = tt

pub prices_fit : (es : List (Pair × ℤ)) → IfSome (as_prices es) (All (λ e. e.1 ≤ max_price))
prices_fit [] = All-nil (λ (e : Pair × ℕ). e.1 ≤ max_price)
prices_fit (e ∷ es) = let P : Pair × ℕ → Type 0 = λ x. x.1 ≤ max_price in
    some_and_then (λ n. n ≤ max_price) (All P) (λ n. option_map (λ rest. (e.0, n) ∷ rest) (as_prices es))
    (λ n fits. some_map (All P) (All P) (λ rest. (e.0, n) ∷ rest) (λ rest all. All-cons P (e.0, n) rest fits all) (as_prices es) (prices_fit es)) (as_price e.1) (price_fits e.1)

pub prices_keys : (es : List (Pair × ℤ)) → IfSome (as_prices es) (λ ns. keys_of ns ≡ keys_of es)
prices_keys [] = refl
prices_keys (e ∷ es) =
    some_and_then (λ _. Unit {0}) (λ ns. keys_of ns ≡ keys_of (e ∷ es)) (λ n. option_map (λ rest. (e.0, n) ∷ rest) (as_prices es))
    (λ n fits. some_map (λ ns. keys_of ns ≡ keys_of es) (λ ns. keys_of ns ≡ keys_of (e ∷ es)) (λ rest. (e.0, n) ∷ rest) (λ rest same. ap (λ ks. e.0 ∷ ks) same) (as_prices es) (prices_keys es)) (as_price e.1) (some_any (as_price e.1))

-- ---- totals

pub all_ranges : (ls : Limits) → list_all is_range ls ≡ true → All (λ l. l.1.0 ≤ l.1.1) ls
all_ranges [] h = All-nil (λ (l : List ℕ × (ℕ × ℕ)). l.1.0 ≤ l.1.1)
all_ranges (l ∷ ls) h = All-cons (λ (l : List ℕ × (ℕ × ℕ)). l.1.0 ≤ l.1.1) l ls (leb-true l.1.0 l.1.1 (left _ _ h)) (all_ranges ls (right (is_range l) _ h))

number_small_by : (b : Bool) (k n : ℕ) → ltb k n ≡ b → IfSome (cond b (Some k) None) (λ k. k < n)
number_small_by true k n h = ltb-true k n h
number_small_by false k n h = tt

number_small : (n : ℕ) (t : Shape) → IfSome (number_below n t) (λ k. k < n)
number_small n null = tt
number_small n (boolean b) = tt
number_small n (whole (pos k)) = number_small_by (ltb k n) k n refl
number_small n (whole (negsuc k)) = tt
number_small n other = tt
number_small n (text s) = tt
number_small n (list ts) = tt
number_small n (object ms) = tt

abbrev IsSmall : ℕ × ℕ → Type 0
IsSmall r = r.1 < 2 ^ 31

range_small : (ts : Items) → IfSome (range_of ts) IsSmall
range_small no_items = tt
range_small (item a no_items) = tt
range_small (item a (item b no_items)) =
    some_and_then (λ _. Unit {0}) IsSmall (λ l. option_map (λ h. (l, h)) (number_below (2 ^ 31) b))
    (λ l _. some_map (λ k. k < 2 ^ 31) IsSmall (λ h. (l, h)) (λ h small. small) (number_below (2 ^ 31) b) (number_small (2 ^ 31) b)) (number_below (2 ^ 31) a) (some_any (number_below (2 ^ 31) a))
range_small (item a (item b (item d ts))) = tt

one_small : (t : Shape) → IfSome (option_map (λ n. (n, n)) (number_below (2 ^ 31) t)) IsSmall
one_small t = some_map (λ k. k < 2 ^ 31) IsSmall (λ n. (n, n)) (λ h small. small) (number_below (2 ^ 31) t) (number_small (2 ^ 31) t)

limit_small : (ranges : Bool) (t : Shape) → IfSome (limit_of ranges t) IsSmall
limit_small ranges null = one_small null
limit_small ranges (boolean b) = one_small (boolean b)
limit_small ranges (whole n) = one_small (whole n)
limit_small ranges other = one_small other
limit_small ranges (text s) = one_small (text s)
limit_small true (list ts) = range_small ts
limit_small false (list ts) = tt
limit_small ranges (object ms) = one_small (object ms)

limits_small : (ranges : Bool) (ms : Members) → IfSome (limits_with ranges ms) (All (λ l. l.1.1 < 2 ^ 31))
limits_small ranges no_members = All-nil (λ (l : List ℕ × (ℕ × ℕ)). l.1.1 < 2 ^ 31)
limits_small ranges (member k t ms) = let P : List ℕ × (ℕ × ℕ) → Type 0 = λ l. l.1.1 < 2 ^ 31 in
    some_and_then IsSmall (All P) (λ l. option_map (λ ls. (k, l) ∷ ls) (limits_with ranges ms))
    (λ l small. some_map (All P) (All P) (λ ls. (k, l) ∷ ls) (λ ls all. All-cons P (k, l) ls small all) (limits_with ranges ms) (limits_small ranges ms)) (limit_of ranges t) (limit_small ranges t)

-- ---- names that rise

leads : (o : Ordering) → match_ordering o true false false ≡ true → o ≡ Less
leads Less h = refl
leads Equal h = cc
leads Greater h = cc

comes_before : (h k : List ℕ) (ms : Members) → slice_cmp nat_cmp h k ≡ Less → comes_first k ms ≡ true → comes_first h ms ≡ true
comes_before h k no_members less first = refl
comes_before h k (member l t ms) less first = let after : slice_cmp nat_cmp h l ≡ Less = nat_list_cmp_total.trans h k l less (leads (slice_cmp nat_cmp k l) first) in rw after refl

names_above : (ranges : Bool) (k : List ℕ) (ms : Members) → comes_first k ms ≡ true → members_are_whole ms ≡ true → IfSome (limits_with ranges ms) (λ ls. AllByRecursion (λ y. slice_cmp nat_cmp k y ≡ Less) (keys_of ls))
names_above ranges k no_members first good = tt
names_above ranges k (member l t ms) first good =
    let Above : Limits → Type 0 = λ ls. AllByRecursion (λ y. slice_cmp nat_cmp k y ≡ Less) (keys_of ls) in
    let less : slice_cmp nat_cmp k l ≡ Less = leads (slice_cmp nat_cmp k l) first in
    let rest = names_above ranges k ms (comes_before k l ms less (left (comes_first l ms) _ good)) (right (is_whole t) _ (right (comes_first l ms) _ good)) in
    some_and_then (λ _. Unit {0}) Above (λ r. option_map (λ ls. (l, r) ∷ ls) (limits_with ranges ms))
    (λ r _. some_map Above Above (λ ls. (l, r) ∷ ls) (λ ls all. (less, all)) (limits_with ranges ms) rest) (limit_of ranges t) (some_any (limit_of ranges t))

-- two facts of the value, if there is one
some_both : {A : Type 0} (P Q : A → Type 0) (o : Option A) → IfSome o P → IfSome o Q → IfSome o (λ a. P a × Q a)
some_both P Q None p q = tt
some_both P Q (Some a) p q = (p, q)

limits_rise : (ranges : Bool) (ms : Members) → members_are_whole ms ≡ true → IfSome (limits_with ranges ms) (λ ls. IsStrictlySortedBy (slice_cmp nat_cmp) (keys_of ls))
unfolding IsStrictlySortedBy
limits_rise ranges no_members good = tt
limits_rise ranges (member k t ms) good =
    let Above : Limits → Type 0 = λ ls. AllByRecursion (λ y. slice_cmp nat_cmp k y ≡ Less) (keys_of ls) in
    let Rise : Limits → Type 0 = λ ls. IsStrictlySortedBy (slice_cmp nat_cmp) (keys_of ls) in
    let inner = right (is_whole t) _ (right (comes_first k ms) _ good) in
    let rest = some_both Above Rise (limits_with ranges ms) (names_above ranges k ms (left (comes_first k ms) _ good) inner) (limits_rise ranges ms inner) in
    some_and_then (λ _. Unit {0}) Rise (λ r. option_map (λ ls. (k, r) ∷ ls) (limits_with ranges ms))
    (λ r _. some_map (λ ls. Above ls × Rise ls) Rise (λ ls. (k, r) ∷ ls) (λ ls all. (all.0, all.1)) (limits_with ranges ms) rest) (limit_of ranges t) (some_any (limit_of ranges t))

-- ---- the totals of a request

some_cond : (b : Bool) (t : Shape) (o : Option Shape) → is_whole t ≡ true → IfSome o (λ t. is_whole t ≡ true) → IfSome (cond b (Some t) o) (λ t. is_whole t ≡ true)
some_cond true t o h k = h
some_cond false t o h k = k

member_whole : (name : List ℕ) (ms : Members) → members_are_whole ms ≡ true → IfSome (find_member name ms) (λ t. is_whole t ≡ true)
member_whole name no_members good = tt
member_whole name (member k t ms) good =
    some_cond (bytes_eq k name) t (find_member name ms) (left (is_whole t) _ (right (comes_first k ms) _ good)) (member_whole name ms (right (is_whole t) _ (right (comes_first k ms) _ good)))

member_of_whole : (name : List ℕ) (t : Shape) → is_whole t ≡ true → IfSome (member_of name t) (λ t. is_whole t ≡ true)
member_of_whole name null good = tt
member_of_whole name (boolean b) good = tt
member_of_whole name (whole n) good = tt
member_of_whole name other good = tt
member_of_whole name (text s) good = tt
member_of_whole name (list ts) good = tt
member_of_whole name (object ms) good = member_whole name ms good

object_whole : (t : Shape) → is_whole t ≡ true → IfSome (as_object t) (λ ms. members_are_whole ms ≡ true)
object_whole null good = tt
object_whole (boolean b) good = tt
object_whole (whole n) good = tt
object_whole other good = tt
object_whole (text s) good = tt
object_whole (list ts) good = tt
object_whole (object ms) good = good

pub totals_rise : (ranges : Bool) (t : Shape) → is_whole t ≡ true → IfSome (totals_in ranges t) (λ ls. IsStrictlySortedBy (slice_cmp nat_cmp) (keys_of ls))
totals_rise ranges t good =
    let members = some_and_then (λ s. is_whole s ≡ true) (λ ms. members_are_whole ms ≡ true) as_object object_whole (member_of (codes "totals") t) (member_of_whole (codes "totals") t good) in
    some_and_then (λ ms. members_are_whole ms ≡ true) (λ ls. IsStrictlySortedBy (slice_cmp nat_cmp) (keys_of ls)) (limits_with ranges) (limits_rise ranges) (option_and_then as_object (member_of (codes "totals") t)) members

pub totals_small : (ranges : Bool) (t : Shape) → IfSome (totals_in ranges t) (All (λ l. l.1.1 < 2 ^ 31))
totals_small ranges t =
    let members = option_and_then as_object (member_of (codes "totals") t) in
    some_and_then (λ _. Unit {0}) (All (λ l. l.1.1 < 2 ^ 31)) (limits_with ranges) (λ ms _. limits_small ranges ms) members (some_any members)

-- what is not written is not judged
pub judged_err : (o : Option Written) (e : PriceFault) → if_written o ≡ Err e → if_judged o ≡ Err e
judged_err None e h = let is : BadRequest ≡ e = cc in ap Err is
judged_err (Some w) e h = cc
