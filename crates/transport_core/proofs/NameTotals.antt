-- The totals of a rule's names, from its entries, summed up by name.
use Rattle.std.proofs.Common.{◌≡◌, inl, inr, ⊎_elim, ℕ, suc, ◌+◌, ◌*◌, ◌<◌, ◌≤◌, List, [], ◌∷◌, length, replicate, get_or, Bool, true, false, cond, Option, Some, None, Ordering, unwrap_or, sum_by, count_by, string_bytes, refl, sym, ap, ◌∙◌, arith}
use Rattle.std.specs.BTreeMap.{insert_entry, is_at}
use Rattle.std.specs.Bool.{MatchBool}
use Rattle.std.specs.Borrow.{Bor}
use Rattle.std.specs.Cmp.Lexicographic.{slice_cmp}
use Rattle.std.specs.List.Sorted.{IsPermutation, IsStrictlySortedBy}
use Rattle.std.specs.Map.{keys_of, lookup, set_value}
use Rattle.std.specs.Ordering.{nat_cmp, is_eq, on, match_ordering}
use Rattle.std.specs.Str.{bytes_eq}
use Rattle.std.specs.declared.cmp.Ordering.TheVariants.{Less, Equal, Greater}
use Rattle.std.proofs.lemmas.Bool.{cases_Bool, cond-true, cond-false}
use Rattle.std.proofs.lemmas.Bool.Decides.{same_from_decides, Decides-like}
use Rattle.std.proofs.lemmas.Cmp.{nat_list_cmp_total}
use Rattle.std.proofs.lemmas.List.Folds.{sum_by-replicate}
use Rattle.std.proofs.lemmas.List.Sorted.{sum_by-IsPermutation}
use Rattle.std.proofs.lemmas.List.Sums.{sum_by-cons, sum_by-append}
use Rattle.std.proofs.lemmas.Map.Text.{is_eq-slice_cmp}
use Rattle.std.proofs.lemmas.Option.{none-some, same_Some, slice_get_read}
use Rattle.std.proofs.lemmas.Slice.Eq.{bytes_eq-Decides}
use Rattle.bucket_core.specs.Rule.{Entries, total_weight, points, total_of}
use Rattle.price_core.specs.Limits.{Limits, low_of, high_of, limit_view, limits_view}
use Rattle.price_core.specs.declared.totals.Limit.{Limit}
use Rattle.transport_core.specs.Refusals.{KeepsLimits, BreaksLimit}
use Rattle.transport_core.specs.Rows.{whole_amount, AreTotals, total_in, totals_view}
use Rattle.transport_core.proofs.Joined.{passed, passed-cons, both_parts, lookup-amount}
use Rattle.transport_core.proofs.Keys.{lookup-at, get-map}

abbrev pub Lent : Type 0
Lent = Bor (List ℕ) × ℕ

pub same_text : (a b : List ℕ) → bytes_eq a b ≡ true → a ≡ b
same_text a b = (bytes_eq-Decides a b).0

-- ---- the points whose name passes a test, entry by entry

pub times : (b : Bool) (w : ℕ) → w * cond b 1 0 ≡ cond b w 0
times true w = omega arith
times false w = omega arith

passed-points : (test : List ℕ → Bool) (r : Entries) → passed test r ≡ count_by test (points r)
unfolding points
passed-points test [] = refl
passed-points test (e ∷ es) =
    let f : List ℕ → ℕ = λ n. cond (test n) 1 0 in
    omega (arith, sum_by-cons (λ (x : List ℕ × ℕ). cond (test x.0) x.1 0) e es, sum_by-append f (replicate e.1 e.0) (points es), sum_by-replicate f e.1 e.0, times (test e.0) e.1, passed-points test es)

-- ---- summed up by name

abbrev pub name_cmp : Bor (List ℕ) → Bor (List ℕ) → Ordering
name_cmp = on (λ (x : Bor (List ℕ)). x.now) (slice_cmp nat_cmp)

-- whether a row has this name
abbrev pub has_name : List ℕ → Bor (List ℕ) → Bool
has_name name = is_at (λ (k : Bor (List ℕ)). slice_cmp nat_cmp name k.now)

pub has_same : (name : List ℕ) (b : Bor (List ℕ)) → has_name name b ≡ true → name ≡ b.now
has_same name b is = same_text name b.now (sym (is_eq-slice_cmp name b.now) ∙ is)

abbrev lent_view : Lent → List ℕ × ℕ
lent_view r = (r.0.now, r.1)

-- a row is a part of them all
found-le_by : (b : Bool) (r : Lent) (rs : List Lent) (o : Option ℕ) (total : ℕ) → (o ≡ Some total → total ≤ whole_amount rs) → cond b (Some r.1) o ≡ Some total → total ≤ whole_amount (r ∷ rs)
found-le_by true r rs o total later here = omega (arith, sum_by-cons (λ (x : Lent). x.1) r rs, same_Some r.1 total here)
found-le_by false r rs o total later found = omega (arith, sum_by-cons (λ (x : Lent). x.1) r rs, later found)

pub found-le : (has : Bor (List ℕ) → Bool) (rows : List Lent) (total : ℕ) → lookup has rows ≡ Some total → total ≤ whole_amount rows
found-le has [] total found = absurd (none-some total found)
found-le has (r ∷ rs) total found = found-le_by (has r.0) r rs (lookup has rs) total (found-le has rs total) found

-- more points of a name that has a row
module _ (test : List ℕ → Bool) (name : List ℕ) (has : Bor (List ℕ) → Bool) (only : (b : Bor (List ℕ)) → has b ≡ true → name ≡ b.now) where
  passed-set_by : (r : Lent) (rs : List Lent) (total more : ℕ) (b : Bool)
      → (lookup has rs ≡ Some total → passed test (totals_view (set_value has rs (total + more))) ≡ passed test (totals_view rs) + cond (test name) more 0)
      → has r.0 ≡ b → cond b (Some r.1) (lookup has rs) ≡ Some total
      → passed test (totals_view (cond b ((r.0, total + more) ∷ rs) (r ∷ set_value has rs (total + more)))) ≡ passed test (totals_view (r ∷ rs)) + cond (test name) more 0
  passed-set_by r rs total more true later is here =
      let amount : cond (test r.0.now) r.1 0 ≡ cond (test r.0.now) total 0 = ap (λ (n : ℕ). let k : ℕ = cond (test r.0.now) n 0 in k) (same_Some r.1 total here) in
      let moved : cond (test name) more 0 ≡ cond (test r.0.now) more 0 = ap (λ (n : List ℕ). let k : ℕ = cond (test n) more 0 in k) (only r.0 is) in
      omega (arith, passed-cons test (r.0.now, total + more) (totals_view rs), passed-cons test (lent_view r) (totals_view rs), both_parts (test r.0.now) total more, amount, moved)
  passed-set_by r rs total more false later is found =
      omega (arith, passed-cons test (lent_view r) (totals_view rs), passed-cons test (lent_view r) (totals_view (set_value has rs (total + more))), later found)

  pub passed-set : (rows : List Lent) (total more : ℕ) → lookup has rows ≡ Some total → passed test (totals_view (set_value has rows (total + more))) ≡ passed test (totals_view rows) + cond (test name) more 0
  passed-set [] total more found = absurd (none-some total found)
  passed-set (r ∷ rs) total more found = passed-set_by r rs total more (has r.0) (passed-set rs total more) refl found

passed-lent : (test : List ℕ → Bool) (rows : List Lent) → passed test (totals_view rows) ≡ sum_by (λ (x : Lent). cond (test x.0.now) x.1 0) rows
passed-lent test [] = refl
passed-lent test (r ∷ rs) = omega (arith, passed-cons test (lent_view r) (totals_view rs), sum_by-cons (λ (x : Lent). cond (test x.0.now) x.1 0) r rs, passed-lent test rs)

-- points of a name that has none, whose row goes somewhere
pub passed-put : (test : List ℕ → Bool) (rows more : List Lent) (r : Lent) → IsPermutation (r ∷ rows) more → passed test (totals_view more) ≡ passed test (totals_view rows) + cond (test r.0.now) r.1 0
passed-put test rows more r put =
    let f : Lent → ℕ = λ x. cond (test x.0.now) x.1 0 in
    omega (arith, passed-lent test more, sum_by-IsPermutation f (r ∷ rows) more put, sum_by-cons f r rows, passed-lent test rows)

-- points of a name that has none
passed-insert_by : (test : List ℕ → Bool) (r : Lent) (rs : List Lent) (name : Bor (List ℕ)) (more : ℕ) (o : Ordering)
    → (lookup (has_name name.now) rs ≡ None → passed test (totals_view (insert_entry name_cmp rs name more)) ≡ passed test (totals_view rs) + cond (test name.now) more 0)
    → cond (is_eq o) (Some r.1) (lookup (has_name name.now) rs) ≡ None
    → passed test (totals_view (match_ordering o ((name, more) ∷ r ∷ rs) ((r.0, more) ∷ rs) (r ∷ insert_entry name_cmp rs name more))) ≡ passed test (totals_view (r ∷ rs)) + cond (test name.now) more 0
passed-insert_by test r rs name more Less later none = omega (arith, passed-cons test (name.now, more) (totals_view (r ∷ rs)))
passed-insert_by test r rs name more Equal later none = absurd (none-some r.1 (sym none))
passed-insert_by test r rs name more Greater later none =
    omega (arith, passed-cons test (lent_view r) (totals_view rs), passed-cons test (lent_view r) (totals_view (insert_entry name_cmp rs name more)), later none)

pub passed-insert : (test : List ℕ → Bool) (rows : List Lent) (name : Bor (List ℕ)) (more : ℕ) → lookup (has_name name.now) rows ≡ None
    → passed test (totals_view (insert_entry name_cmp rows name more)) ≡ passed test (totals_view rows) + cond (test name.now) more 0
passed-insert test [] name more none = omega (arith, passed-cons test (name.now, more) [])
passed-insert test (r ∷ rs) name more none = passed-insert_by test r rs name more (slice_cmp nat_cmp name.now r.0.now) (passed-insert test rs name more) none

whole-lent : (rows : List Lent) → whole_amount (totals_view rows) ≡ whole_amount rows
whole-lent [] = refl
whole-lent (r ∷ rs) = omega (arith, sum_by-cons (λ (x : List ℕ × ℕ). x.1) (lent_view r) (totals_view rs), sum_by-cons (λ (x : Lent). x.1) r rs, whole-lent rs)

-- what is summed up and what is left are all
abbrev pub SumsUp : List Lent → Entries → Entries → Type 0
SumsUp rows left entries = (test : List ℕ → Bool) → passed test (totals_view rows) + passed test left ≡ passed test entries

pub sums_none : (rows : List Lent) (entries : Entries) → rows ≡ [] → SumsUp rows entries entries
sums_none rows entries none = λ test. let nothing : passed test (totals_view rows) ≡ 0 = ap (λ rs. passed test (totals_view rs)) none in omega (arith, nothing)

-- there is room for the first of the entries that are left
pub sums_fit : (rows : List Lent) (entries left rest : Entries) (e : List ℕ × ℕ) → left ≡ e ∷ rest → SumsUp rows left entries → whole_amount rows + e.1 ≤ total_weight entries
sums_fit rows entries left rest e is sums =
    let all = sums (λ name. true) in
    let front = ap (λ es. passed (λ name. true) es) is ∙ passed-cons (λ name. true) e rest in
    omega (arith, all, front, whole-lent rows)

pub sums_more : (rows more : List Lent) (entries left rest : Entries) (e : List ℕ × ℕ) → left ≡ e ∷ rest → SumsUp rows left entries
    → ((test : List ℕ → Bool) → passed test (totals_view more) ≡ passed test (totals_view rows) + cond (test e.0) e.1 0) → SumsUp more rest entries
sums_more rows more entries left rest e is sums added = λ test.
    let front = ap (λ es. passed test es) is ∙ passed-cons test e rest in
    omega (arith, sums test, added test, front)

-- rows and others are all
abbrev pub AreAll : List Lent → List Lent → List Lent → Type 0
AreAll rows left all = (test : List ℕ → Bool) → passed test (totals_view rows) + passed test (totals_view left) ≡ passed test (totals_view all)

pub row_fits : (rows : List Lent) (r : Lent) (left all : List Lent) → AreAll rows (r ∷ left) all → whole_amount rows + r.1 ≤ whole_amount all
row_fits rows r left all are = omega (arith, are (λ name. true), passed-cons (λ name. true) (lent_view r) (totals_view left), whole-lent rows, whole-lent all)

pub row_added : (rows more : List Lent) (r : Lent) (left all : List Lent) → AreAll rows (r ∷ left) all → ((test : List ℕ → Bool) → passed test (totals_view more) ≡ passed test (totals_view rows) + cond (test r.0.now) r.1 0) → AreAll more left all
row_added rows more r left all are added = λ test. omega (arith, are test, added test, passed-cons test (lent_view r) (totals_view left))

pub totals_summed : (rule : Entries) (sums rows : List Lent) (left : Entries) → left ≡ [] → SumsUp sums left rule
    → IsStrictlySortedBy (slice_cmp nat_cmp) (keys_of (totals_view rows)) → ((test : List ℕ → Bool) → passed test (totals_view rows) ≡ passed test (totals_view sums)) → AreTotals rule (totals_view rows)
totals_summed rule sums rows left none whole rise same = record {
  rise = rise;
  counts = λ test.
      let nothing : passed test left ≡ 0 = ap (λ es. passed test es) none in
      omega (arith, same test, whole test, nothing) ∙ passed-points test rule;
}

-- all are summed up
pub sums_all : (rows : List Lent) (entries left : Entries) → left ≡ [] → SumsUp rows left entries → whole_amount rows ≤ total_weight entries
sums_all rows entries left none sums = omega (arith, sums (λ name. true), whole-lent rows)

-- ---- what is listed of a name

pub bytes_eq-sym : (a b : List ℕ) → bytes_eq a b ≡ bytes_eq b a
bytes_eq-sym a b = same_from_decides (bytes_eq a b) (bytes_eq b a) (bytes_eq-Decides a b) (Decides-like (bytes_eq b a) sym sym (bytes_eq-Decides b a))

count-turned : (name : List ℕ) (ns : List (List ℕ)) → count_by (bytes_eq name) ns ≡ count_by (λ n. bytes_eq n name) ns
count-turned name [] = refl
count-turned name (n ∷ ns) =
    let turned : cond (bytes_eq name n) 1 0 ≡ cond (bytes_eq n name) 1 0 = ap (λ (b : Bool). let k : ℕ = cond b 1 0 in k) (bytes_eq-sym name n) in
    omega (arith, sum_by-cons (λ x. cond (bytes_eq name x) 1 0) n ns, sum_by-cons (λ x. cond (bytes_eq x name) 1 0) n ns, turned, count-turned name ns)

pub total-listed : (rule : Entries) (totals : List (List ℕ × ℕ)) (name : List ℕ) → AreTotals rule totals → total_in totals name ≡ total_of rule name
total-listed rule totals name are = lookup-amount bytes_eq same_text (slice_cmp nat_cmp) nat_list_cmp_total name totals are.rise ∙ (are.counts (bytes_eq name) ∙ count-turned name (points rule))

-- the total at a place is that of its name
pub total-at : (rows : List Lent) (i : ℕ) (row : Lent) → IsStrictlySortedBy (slice_cmp nat_cmp) (keys_of (totals_view rows)) → i < length rows → row ≡ get_or rows i row → total_in (totals_view rows) row.0.now ≡ row.1
total-at rows i row rise below is = ap (λ o. unwrap_or o 0) (lookup-at (totals_view rows) i (lent_view row) rise (get-map lent_view rows i row (slice_get_read rows (length rows) i row refl below is)))

pub low-at : (limits : List Limit) (i : ℕ) (l : Limit) → IsStrictlySortedBy (slice_cmp nat_cmp) (keys_of (limits_view limits)) → i < length limits → l ≡ get_or limits i l → low_of (limits_view limits) (string_bytes l.name) ≡ l.low
low-at limits i l rise below is = ap (λ (o : Option (ℕ × ℕ)). (unwrap_or o (0, 0)).0) (lookup-at (limits_view limits) i (limit_view l) rise (get-map limit_view limits i l (slice_get_read limits (length limits) i l refl below is)))

pub totals-le : (rows : List Lent) (bound : List ℕ → ℕ) (name : List ℕ) → ((k : ℕ) (d : Lent) → k < length rows → (get_or rows k d).1 ≤ bound (get_or rows k d).0.now) → total_in (totals_view rows) name ≤ bound name
totals-le [] bound name le = omega arith
totals-le (r ∷ rs) bound name le =
    let found : Option ℕ = lookup (bytes_eq name) (totals_view rs) in
    ⊎_elim
    (λ (ties : bytes_eq name r.0.now ≡ true). omega (arith, ap (λ o. unwrap_or o 0) (cond-true (bytes_eq name r.0.now) (Some r.1) found ties), le 0 r (omega arith), ap bound (same_text name r.0.now ties)))
    (λ (apart : bytes_eq name r.0.now ≡ false). omega (arith, ap (λ o. unwrap_or o 0) (cond-false (bytes_eq name r.0.now) (Some r.1) found apart), totals-le rs bound name (λ k d below. le (suc k) d (omega arith))))
    (cases_Bool (bytes_eq name r.0.now))

pub lows-le : (limits : List Limit) (bound : List ℕ → ℕ) (name : List ℕ) → ((k : ℕ) (d : Limit) → k < length limits → (get_or limits k d).low ≤ bound (string_bytes (get_or limits k d).name)) → low_of (limits_view limits) name ≤ bound name
lows-le [] bound name le = omega arith
lows-le (l ∷ ls) bound name le =
    let found : Option (ℕ × ℕ) = lookup (bytes_eq name) (limits_view ls) in
    ⊎_elim
    (λ (ties : bytes_eq name (string_bytes l.name) ≡ true).
    omega (arith, ap (λ (o : Option (ℕ × ℕ)). (unwrap_or o (0, 0)).0) (cond-true (bytes_eq name (string_bytes l.name)) (Some (l.low, l.high)) found ties), le 0 l (omega arith), ap bound (same_text name (string_bytes l.name) ties)))
    (λ (apart : bytes_eq name (string_bytes l.name) ≡ false).
    omega (arith, ap (λ (o : Option (ℕ × ℕ)). (unwrap_or o (0, 0)).0) (cond-false (bytes_eq name (string_bytes l.name)) (Some (l.low, l.high)) found apart), lows-le ls bound name (λ k d below. le (suc k) d (omega arith))))
    (cases_Bool (bytes_eq name (string_bytes l.name)))

-- ---- limits, from the listed totals

pub kept : (rule : Entries) (limits : Limits) (totals : List (List ℕ × ℕ)) → AreTotals rule totals → ((name : List ℕ) → total_in totals name ≤ high_of limits name) → ((name : List ℕ) → low_of limits name ≤ total_in totals name) → KeepsLimits rule limits
kept rule limits totals are high low = record { low = λ name. omega (arith, low name, total-listed rule totals name are); high = λ name. omega (arith, high name, total-listed rule totals name are) }

pub broken_high : (rule : Entries) (limits : Limits) (totals : List (List ℕ × ℕ)) → AreTotals rule totals → ((name : List ℕ) × (high_of limits name < total_in totals name)) → (name : List ℕ) × BreaksLimit rule limits name
broken_high rule limits totals are broken = (broken.0, inr (omega (arith, broken.1, total-listed rule totals broken.0 are)))

pub broken_low : (rule : Entries) (limits : Limits) (totals : List (List ℕ × ℕ)) → AreTotals rule totals → ((name : List ℕ) × (total_in totals name < low_of limits name)) → (name : List ℕ) × BreaksLimit rule limits name
broken_low rule limits totals are broken = (broken.0, inl (omega (arith, broken.1, total-listed rule totals broken.0 are)))

pub either_way : (b : Bool) {A B P Q : Type 0} → MatchBool b A B → (A → P) → (B → Q) → MatchBool b P Q
either_way true m f g = f m
either_way false m f g = g m
