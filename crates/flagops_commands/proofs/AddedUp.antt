-- The weights of a rule, added up by name, are the totals of its names.
use Rattle.std.proofs.Common.{◌≡◌, ℕ, zero, suc, ◌+◌, ◌≤◌, List, [], ◌∷◌, map, drop, Bool, true, false, cond, Option, Some, unwrap_or, refl, sym, ap, ◌∙◌, subst, add-one, arith}
use Rattle.std.specs.BTreeMap.{insert_entry, is_at}
use Rattle.std.specs.BTreeSet.{insert_key}
use Rattle.std.specs.Cmp.Lexicographic.{slice_cmp}
use Rattle.std.specs.List.{AllByRecursion, slice_get}
use Rattle.std.specs.List.Sorted.{IsStrictlySortedBy}
use Rattle.std.specs.Map.{keys_of, lookup}
use Rattle.std.specs.Ordering.{nat_cmp, match_ordering, on}
use Rattle.std.specs.Str.{bytes_eq}
use Rattle.std.specs.declared.cmp.Ordering.{Ordering}
use Rattle.std.specs.declared.cmp.Ordering.TheVariants.{Less, Equal, Greater}
use Rattle.std.proofs.lemmas.Cmp.{nat_list_cmp_total, tied_itself}
use Rattle.std.proofs.lemmas.Map.Lookups.{exact_bytes}
use Rattle.std.proofs.lemmas.Map.Text.{is_eq-slice_cmp}
use Rattle.std.proofs.lemmas.Option.{none-some, same_Some}
use Rattle.std.proofs.lemmas.Slice.Eq.{bytes_eq-Decides}
use Rattle.std.proofs.lemmas.Bool.{false_from_ne_true}
use denote.Ref.{Bor}
use Rattle.bucket_core.specs.Rule.{Entries, total_weight, total_of}
use Rattle.bucket_core.proofs.Points.{total_of-nil, total_of-cons, total_of-le, total_weight-cons}
use Rattle.price_core.proofs.Inserts.{insert-seen, rise_seen}
use Rattle.flagops_commands.specs.Totals.{names_in_order, totals_by_name}

abbrev pub Named : Type 0
Named = Bor (List ℕ) × ℕ

-- the entries of a map by borrowed names
abbrev pub named : Named → List ℕ × ℕ
named e = (e.0.now, e.1)

abbrev pub named_totals : List Named → Entries
named_totals es = map named es

abbrev pub name_cmp : Bor (List ℕ) → Bor (List ℕ) → Ordering
name_cmp = on (λ (x : Bor (List ℕ)). x.now) (slice_cmp nat_cmp)

-- ---- after one more name

keys-insert_at : (o : Ordering) (k : List ℕ) (v : ℕ) (e : List ℕ × ℕ) (es : Entries) → keys_of (insert_entry (slice_cmp nat_cmp) es k v) ≡ insert_key (slice_cmp nat_cmp) (keys_of es) k
    → keys_of (match_ordering o ((k, v) ∷ e ∷ es) ((e.0, v) ∷ es) (e ∷ insert_entry (slice_cmp nat_cmp) es k v))
    ≡ match_ordering o (k ∷ e.0 ∷ keys_of es) (e.0 ∷ keys_of es) (e.0 ∷ insert_key (slice_cmp nat_cmp) (keys_of es) k)
keys-insert_at Less k v e es more = refl
keys-insert_at Equal k v e es more = refl
keys-insert_at Greater k v e es more = ap (λ ks. e.0 ∷ ks) more

keys-insert : (es : Entries) (k : List ℕ) (v : ℕ) → keys_of (insert_entry (slice_cmp nat_cmp) es k v) ≡ insert_key (slice_cmp nat_cmp) (keys_of es) k
keys-insert [] k v = refl
keys-insert (e ∷ es) k v = keys-insert_at (slice_cmp nat_cmp k e.0) k v e es (keys-insert es k v)

same_name : (a b : List ℕ) → bytes_eq a b ≡ true → a ≡ b
same_name a b h = (bytes_eq-Decides a b).0 h

-- a text is not at once two names that differ
apart : (q k n : List ℕ) → slice_cmp nat_cmp k n ≡ Greater → bytes_eq q k ≡ true → bytes_eq q n ≡ false
apart q k n greater is_k = false_from_ne_true (bytes_eq q n) (λ is_n.
    let same : k ≡ n = sym (same_name q k is_k) ∙ same_name q n is_n in
    let tied : slice_cmp nat_cmp k n ≡ Equal = subst (λ x. slice_cmp nat_cmp k x ≡ Equal) same (tied_itself nat_list_cmp_total k) in
    let clash : Greater ≡ Equal = sym greater ∙ tied in cc)

lookup-insert_by : (a b : Bool) (v w : ℕ) (o rest : Option ℕ) → (a ≡ true → b ≡ false) → o ≡ cond a (Some v) rest → cond b (Some w) o ≡ cond a (Some v) (cond b (Some w) rest)
lookup-insert_by true true v w o rest h more = let no = h refl in cc
lookup-insert_by true false v w o rest h more = more
lookup-insert_by false true v w o rest h more = refl
lookup-insert_by false false v w o rest h more = more

twice : (a : Bool) (v w : ℕ) (rest : Option ℕ) → cond a (Some v) rest ≡ cond a (Some v) (cond a (Some w) rest)
twice true v w rest = refl
twice false v w rest = refl

lookup-insert_at : (q : List ℕ) (o : Ordering) (k : List ℕ) (v : ℕ) (e : List ℕ × ℕ) (es : Entries) → slice_cmp nat_cmp k e.0 ≡ o
    → lookup (bytes_eq q) (insert_entry (slice_cmp nat_cmp) es k v) ≡ cond (bytes_eq q k) (Some v) (lookup (bytes_eq q) es)
    → lookup (bytes_eq q) (match_ordering o ((k, v) ∷ e ∷ es) ((e.0, v) ∷ es) (e ∷ insert_entry (slice_cmp nat_cmp) es k v)) ≡ cond (bytes_eq q k) (Some v) (lookup (bytes_eq q) (e ∷ es))
lookup-insert_at q Less k v e es is more = refl
lookup-insert_at q Equal k v e es is more =
    let rest = lookup (bytes_eq q) es in
    let same : k ≡ e.0 = exact_bytes k e.0 is in
    twice (bytes_eq q e.0) v e.1 rest ∙ ap (λ n. cond (bytes_eq q n) (Some v) (cond (bytes_eq q e.0) (Some e.1) rest)) (sym same)
lookup-insert_at q Greater k v e es is more =
    lookup-insert_by (bytes_eq q k) (bytes_eq q e.0) v e.1 (lookup (bytes_eq q) (insert_entry (slice_cmp nat_cmp) es k v)) (lookup (bytes_eq q) es) (apart q k e.0 is) more

lookup-insert : (q : List ℕ) (es : Entries) (k : List ℕ) (v : ℕ) → lookup (bytes_eq q) (insert_entry (slice_cmp nat_cmp) es k v) ≡ cond (bytes_eq q k) (Some v) (lookup (bytes_eq q) es)
lookup-insert q [] k v = refl
lookup-insert q (e ∷ es) k v = lookup-insert_at q (slice_cmp nat_cmp k e.0) k v e es refl (lookup-insert q es k v)

-- ---- the totals of the entries from one on

abbrev pub total_in : Entries → List ℕ → ℕ
total_in ts q = unwrap_or (lookup (bytes_eq q) ts) 0

-- the names of these entries, each with what they weigh together
pub record AreTotals (ts es : Entries) : Type 0 where
  pub names : keys_of ts ≡ names_in_order es
  pub totals : (q : List ℕ) → total_in ts q ≡ total_of es q

pub totals_none : AreTotals [] []
totals_none = record { names = refl; totals = λ q. sym (total_of-nil q) }

total_by : (b c : Bool) (v w : ℕ) (o : Option ℕ) → c ≡ b → (b ≡ true → v ≡ w + unwrap_or o 0) → unwrap_or (cond b (Some v) o) 0 ≡ cond c w 0 + unwrap_or o 0
total_by true c v w o is h = rw is (h refl)
total_by false c v w o is h = rw is (omega arith)

flipped : (a b : List ℕ) → bytes_eq a b ≡ bytes_eq b a
flipped a b = both (bytes_eq a b) (bytes_eq b a) (λ h. (bytes_eq-Decides b a).1 (sym (same_name a b h))) (λ h. (bytes_eq-Decides a b).1 (sym (same_name b a h)))
  where
    both : (x y : Bool) → (x ≡ true → y ≡ true) → (y ≡ true → x ≡ true) → x ≡ y
    both true y f g = sym (f refl)
    both false true f g = g refl
    both false false f g = refl

pub totals_more : (ts es : Entries) (e : List ℕ × ℕ) → AreTotals ts es → AreTotals (insert_entry (slice_cmp nat_cmp) ts e.0 (total_in ts e.0 + e.1)) (e ∷ es)
totals_more ts es e a = record {
  names = keys-insert ts e.0 (total_in ts e.0 + e.1) ∙ ap (λ ks. insert_key (slice_cmp nat_cmp) ks e.0) a.names;
  totals = λ q.
      ap (λ o. unwrap_or o 0) (lookup-insert q ts e.0 (total_in ts e.0 + e.1))
      ∙ (total_by (bytes_eq q e.0) (bytes_eq e.0 q) (total_in ts e.0 + e.1) e.1 (lookup (bytes_eq q) ts) (flipped e.0 q) (λ is. let same : q ≡ e.0 = same_name q e.0 is in rw same (omega arith))
      ∙ (ap (λ n. cond (bytes_eq e.0 q) e.1 0 + n) (a.totals q) ∙ sym (total_of-cons e es q)));
}

-- what is found there is no more than all weights
pub total_in-le : (ts es : Entries) (q : List ℕ) → AreTotals ts es → total_in ts q ≤ total_weight es
total_in-le ts es q a = rw (a.totals q) (total_of-le es q)

-- ---- names that rise strictly have each its own entry

abbrev with_totals : Entries → List (List ℕ) → Entries
with_totals es ks = map {B = List ℕ × ℕ} (λ k. (k, total_in es k)) ks

found_after : (e : List ℕ × ℕ) (ks : List (List ℕ)) (es : Entries) → AllByRecursion (λ k. slice_cmp nat_cmp e.0 k ≡ Less) ks → with_totals es ks ≡ with_totals (e ∷ es) ks
found_after e [] es h = refl
found_after e (k ∷ ks) es h =
    let other : bytes_eq k e.0 ≡ false = false_from_ne_true (bytes_eq k e.0) (λ is.
    let tied : slice_cmp nat_cmp e.0 k ≡ Equal = subst (λ x. slice_cmp nat_cmp e.0 x ≡ Equal) (sym (same_name k e.0 is)) (tied_itself nat_list_cmp_total e.0) in
    let clash : Less ≡ Equal = sym h.0 ∙ tied in cc) in
    let here : total_in es k ≡ total_in (e ∷ es) k = ap (λ b. unwrap_or (cond b (Some e.1) (lookup (bytes_eq k) es)) 0) (sym other) in
    let first : List ℕ × ℕ → Entries → Entries = λ x xs. x ∷ xs in
    (λ i. first (k, here i) (found_after e ks es h.1 i))

each_found : (es : Entries) → IsStrictlySortedBy (slice_cmp nat_cmp) (keys_of es) → es ≡ with_totals es (keys_of es)
unfolding IsStrictlySortedBy
each_found [] sorted = refl
each_found (e ∷ es) sorted =
    let self : bytes_eq e.0 e.0 ≡ true = (bytes_eq-Decides e.0 e.0).1 refl in
    let here : e.1 ≡ total_in (e ∷ es) e.0 = ap (λ b. unwrap_or (cond b (Some e.1) (lookup (bytes_eq e.0) es)) 0) (sym self) in
    let first : List ℕ × ℕ → Entries → Entries = λ x xs. x ∷ xs in
    (λ i. first (e.0, here i) ((each_found es sorted.1 ∙ found_after e (keys_of es) es sorted.0) i))

pub totals_all : (ts es : Entries) → AreTotals ts es → IsStrictlySortedBy (slice_cmp nat_cmp) (keys_of ts) → ts ≡ totals_by_name es
totals_all ts es a sorted = each_found ts sorted ∙ (λ i. map {B = List ℕ × ℕ} (λ k. (k, a.totals k i)) (a.names i))

-- ---- the same of the program's map

-- the entries from one on begin with it
from_suc : (r : Entries) (i : ℕ) (e : List ℕ × ℕ) → slice_get r i ≡ Some e → drop i r ≡ e ∷ drop (suc i) r
from_suc [] i e is = absurd (none-some e is)
from_suc (x ∷ r) zero e is = ap (λ y. y ∷ r) (same_Some x e is)
from_suc (x ∷ r) (suc i) e is = from_suc r i e is

from_entry : (r : Entries) (i : ℕ) (e : List ℕ × ℕ) → slice_get r i ≡ Some e → drop i r ≡ e ∷ drop (i + 1) r
from_entry r i e is = rw add-one (from_suc r i e is)

pub map_more : (r : Entries) (left i : ℕ) (x : List ℕ × ℕ) (es more : List Named) (k : Bor (List ℕ)) (v : ℕ)
    → left ≡ i + 1 → slice_get r i ≡ Some x → k.now ≡ x.0 → v ≡ total_in (named_totals es) k.now + x.1 → more ≡ insert_entry name_cmp es k v
    → AreTotals (named_totals es) (drop left r) → AreTotals (named_totals more) (drop i r)
map_more r left i x es more k v next is key value put a =
    let step = totals_more (named_totals es) (drop (i + 1) r) x (subst (AreTotals (named_totals es)) (ap (λ n. drop n r) next) a) in
    let made : named_totals more ≡ insert_entry (slice_cmp nat_cmp) (named_totals es) x.0 (total_in (named_totals es) x.0 + x.1) =
    ap named_totals put ∙ (insert-seen (λ (b : Bor (List ℕ)). b.now) (slice_cmp nat_cmp) es k v ∙ (λ j. insert_entry (slice_cmp nat_cmp) (named_totals es) (key j) ((value ∙ ap (λ n. total_in (named_totals es) n + x.1) key) j))) in
    subst (λ ts. AreTotals ts (drop i r)) (sym made) (subst (AreTotals (insert_entry (slice_cmp nat_cmp) (named_totals es) x.0 (total_in (named_totals es) x.0 + x.1))) (sym (from_entry r i x is)) step)

pub map_all : (es : List Named) (r : Entries) → AreTotals (named_totals es) r → IsStrictlySortedBy name_cmp (keys_of es) → named_totals es ≡ totals_by_name r
map_all es r a sorted = totals_all (named_totals es) r a (rise_seen (λ (b : Bor (List ℕ)). b.now) (slice_cmp nat_cmp) es sorted)

pub lookup-borrowed : (q : List ℕ) (es : List Named) → lookup (is_at (λ (k : Bor (List ℕ)). slice_cmp nat_cmp q k.now)) es ≡ lookup (bytes_eq q) (named_totals es)
lookup-borrowed q [] = refl
lookup-borrowed q (e ∷ es) = λ i. cond (is_eq-slice_cmp q e.0.now i) (Some e.1) (lookup-borrowed q es i)

drop_le : (i : ℕ) (r : Entries) → total_weight (drop i r) ≤ total_weight r
drop_le zero r = omega arith
drop_le (suc i) [] = omega arith
drop_le (suc i) (x ∷ r) = omega (arith, drop_le i r, total_weight-cons x r)

-- a weight and what those after it weigh are no more than all weights
pub sum_small : (r : Entries) (left i : ℕ) (x : List ℕ × ℕ) (before : ℕ) → left ≡ i + 1 → slice_get r i ≡ Some x
    → before ≤ total_weight (drop left r) → before + x.1 ≤ total_weight r
sum_small r left i x before next is small =
    let whole : total_weight (drop i r) ≡ x.1 + total_weight (drop (i + 1) r) = ap total_weight (from_entry r i x is) ∙ total_weight-cons x (drop (i + 1) r) in
    let rest : total_weight (drop left r) ≡ total_weight (drop (i + 1) r) = ap (λ n. total_weight (drop n r)) next in
    omega (arith, drop_le i r)
