-- The flows of an assignment as tallies of its numbers.
use Rattle.std.proofs.Common.{◌≡◌, ℕ, zero, suc, ◌+◌, ◌-◌, ◌*◌, ◌<◌, ◌≤◌, List, [], ◌∷◌, length, take, drop, get_or, set, sum, Bool, true, false, cond, refl, sym, ap, ◌∙◌, arith}
use Rattle.std.proofs.lemmas.Bool.{eqb-true}
use Rattle.std.proofs.lemmas.List.{drop-set-lt, drop-set-add, drop-drop, get_or-drop, take-append-drop}
use Rattle.std.proofs.lemmas.List.Sums.{sum_by-cons, sum_by-append}
use Rattle.transport_core.specs.Assignment.{Arc, is_same_arc, row_flows, arc_flows, spends_all}
use Rattle.transport_core.specs.Groups.{GroupKey}
use Rattle.transport_core.specs.Rows.{amount_of, whole_amount}
use Rattle.transport_core.proofs.Arcs.{spends}
use Rattle.transport_plan.specs.Dealing.{row, IsTally}

-- ---- the numbers of groups that are spent

length_drop : (n : ℕ) (xs : List ℕ) → n ≤ length xs → length xs ≡ n + length (drop n xs)
length_drop zero xs long = omega arith
length_drop (suc n) [] long = absurd (omega arith)
length_drop (suc n) (x ∷ xs) long = omega (arith, length_drop n xs (omega arith))

pub spends_shape : (groups : List (GroupKey × ℕ)) (width : ℕ) (numbers : List ℕ) → spends_all groups width numbers ≡ true → length numbers ≡ length groups * width
spends_shape [] width [] all = omega arith
spends_shape [] width (n ∷ numbers) all = absurd (omega (arith, eqb-true (length (n ∷ numbers)) 0 all))
spends_shape (g ∷ groups) width numbers all =
    let s = spends g groups width numbers all in
    omega (arith, length_drop width numbers s.long, spends_shape groups width (drop width numbers) s.rest)

pub spends_row : (groups : List (GroupKey × ℕ)) (width : ℕ) (numbers : List ℕ) (g : ℕ) (d : GroupKey × ℕ) → spends_all groups width numbers ≡ true → g < length groups → sum (row width numbers g) ≡ (get_or groups g d).1
spends_row [] width numbers g d all below = absurd (omega arith)
spends_row (x ∷ groups) width numbers zero d all below =
    let none : 0 * width ≡ 0 = omega arith in
    ap (λ n. sum (take width (drop n numbers))) none ∙ (spends x groups width numbers all).row
spends_row (x ∷ groups) width numbers (suc g) d all below =
    let next : suc g * width ≡ width + g * width = omega arith in
    ap (λ n. sum (take width (drop n numbers))) next ∙ (ap (λ xs. sum (take width xs)) (sym (drop-drop (g * width) width numbers)) ∙ spends_row groups width (drop width numbers) g d (spends x groups width numbers all).rest (omega arith))

sum-parts : (n : ℕ) (xs : List ℕ) → sum xs ≡ sum (take n xs) + sum (drop n xs)
sum-parts n xs = ap sum (sym (take-append-drop n xs)) ∙ sum_by-append (λ m. m) (take n xs) (drop n xs)

pub spends_sum : (groups : List (GroupKey × ℕ)) (width : ℕ) (numbers : List ℕ) → spends_all groups width numbers ≡ true → sum numbers ≡ whole_amount groups
spends_sum [] width [] all = refl
spends_sum [] width (n ∷ numbers) all = absurd (omega (arith, eqb-true (length (n ∷ numbers)) 0 all))
spends_sum (g ∷ groups) width numbers all =
    let s = spends g groups width numbers all in
    omega (arith, sum-parts width numbers, s.row, spends_sum groups width (drop width numbers) s.rest, sum_by-cons (λ (e : GroupKey × ℕ). e.1) g groups)

-- ---- the flow on an arc is a tally

abbrev pub no_key : GroupKey
no_key = ([], 0)

-- what one more of the points at a group and a name adds to the flow on an arc
abbrev pub on_arc : List GroupKey → List (List ℕ) → Arc → ℕ → ℕ → ℕ
on_arc keys names a g w = cond (is_same_arc a (get_or keys g no_key, get_or names w [])) 1 0

amount-cons : (a : Arc) (f : Arc × ℕ) (fs : List (Arc × ℕ)) → amount_of is_same_arc (f ∷ fs) a ≡ cond (is_same_arc a f.0) f.1 0 + amount_of is_same_arc fs a
amount-cons a f fs = sum_by-cons (λ (x : Arc × ℕ). cond (is_same_arc a x.0) x.1 0) f fs

one_more : (b : Bool) (x : ℕ) → 0 < x → cond b x 0 ≡ cond b (x - 1) 0 + cond b 1 0
one_more true x some = omega arith
one_more false x some = refl

row_taken : (key : GroupKey) (names : List (List ℕ)) (xs : List ℕ) (w : ℕ) (a : Arc) → w < length names → 0 < get_or xs w 0
    → amount_of is_same_arc (row_flows key names xs) a ≡ amount_of is_same_arc (row_flows key names (set xs w (get_or xs w 0 - 1))) a + cond (is_same_arc a (key, get_or names w [])) 1 0
row_taken key [] xs w a within some = absurd (omega arith)
row_taken key (n ∷ names) [] w a within some = absurd (omega arith)
row_taken key (n ∷ names) (x ∷ xs) zero a within some =
    omega (arith, amount-cons a ((key, n), x) (row_flows key names xs), amount-cons a ((key, n), x - 1) (row_flows key names xs), one_more (is_same_arc a (key, n)) x some)
row_taken key (n ∷ names) (x ∷ xs) (suc w) a within some =
    omega (arith, amount-cons a ((key, n), x) (row_flows key names xs), amount-cons a ((key, n), x) (row_flows key names (set xs w (get_or xs w 0 - 1))), row_taken key names xs w a (omega arith) some)

row_beyond : (key : GroupKey) (names : List (List ℕ)) (xs : List ℕ) (i y : ℕ) → length names ≤ i → row_flows key names (set xs i y) ≡ row_flows key names xs
row_beyond key [] xs i y beyond = refl
row_beyond key (n ∷ names) [] i y beyond = refl
row_beyond key (n ∷ names) (x ∷ xs) zero y beyond = absurd (omega arith)
row_beyond key (n ∷ names) (x ∷ xs) (suc i) y beyond = ap (λ fs. ((key, n), x) ∷ fs) (row_beyond key names xs i y (omega arith))

amount-arcs : (a : Arc) (key : GroupKey) (keys : List GroupKey) (names : List (List ℕ)) (xs : List ℕ)
    → amount_of is_same_arc (arc_flows (key ∷ keys) names xs) a ≡ amount_of is_same_arc (row_flows key names xs) a + amount_of is_same_arc (arc_flows keys names (drop (length names) xs)) a
amount-arcs a key keys names xs = sum_by-append (λ (x : Arc × ℕ). cond (is_same_arc a x.0) x.1 0) (row_flows key names xs) (arc_flows keys names (drop (length names) xs))

-- a place of the first row, and one behind it
arcs_taken_at : (keys : List GroupKey) (names : List (List ℕ)) (xs : List ℕ) (g w i : ℕ) (a : Arc) → i ≡ g * length names + w → g < length keys → w < length names → 0 < get_or xs i 0
    → amount_of is_same_arc (arc_flows keys names xs) a ≡ amount_of is_same_arc (arc_flows keys names (set xs i (get_or xs i 0 - 1))) a + on_arc keys names a g w
arcs_taken_at [] names xs g w i a place g_in w_in some = absurd (omega arith)
arcs_taken_at (key ∷ keys) names xs zero w i a place g_in w_in some =
    let here : i ≡ w = omega (arith, place) in
    let k = length names in
    let y : ℕ = get_or xs i 0 - 1 in
    let row_is = row_taken key names xs w a w_in (omega (arith, some, ap (λ n. get_or xs n 0) here)) in
    let moved : amount_of is_same_arc (row_flows key names (set xs w (get_or xs w 0 - 1))) a ≡ amount_of is_same_arc (row_flows key names (set xs i y)) a = ap (λ n. amount_of is_same_arc (row_flows key names (set xs n (get_or xs n 0 - 1))) a) (sym here) in
    let rest : drop k (set xs i y) ≡ drop k xs = drop-set-lt k xs i y (omega (arith, here, w_in)) in
    let rest_is = ap (λ zs. amount_of is_same_arc (arc_flows keys names zs) a) rest in
    omega (arith, amount-arcs a key keys names xs, amount-arcs a key keys names (set xs i y), row_is, moved, rest_is)
arcs_taken_at (key ∷ keys) names xs (suc g) w i a place g_in w_in some =
    let k = length names in
    let y : ℕ = get_or xs i 0 - 1 in
    let j : ℕ = g * k + w in
    let behind : i ≡ k + j = omega (arith, place) in
    let row_is = ap (λ fs. amount_of is_same_arc fs a) (row_beyond key names xs i y (omega (arith, behind))) in
    let read : get_or (drop k xs) j 0 ≡ get_or xs i 0 = get_or-drop k xs j 0 ∙ ap (λ n. get_or xs n 0) (sym behind) in
    let rest : drop k (set xs i y) ≡ set (drop k xs) j y = ap (λ n. drop k (set xs n y)) behind ∙ drop-set-add k xs j y in
    let later = arcs_taken_at keys names (drop k xs) g w j a refl (omega (arith, g_in)) w_in (omega (arith, read, some)) in
    let moved : amount_of is_same_arc (arc_flows keys names (set (drop k xs) j (get_or (drop k xs) j 0 - 1))) a ≡ amount_of is_same_arc (arc_flows keys names (drop k (set xs i y))) a
    = ap (λ n. amount_of is_same_arc (arc_flows keys names (set (drop k xs) j (n - 1))) a) read ∙ ap (λ zs. amount_of is_same_arc (arc_flows keys names zs) a) (sym rest) in
    omega (arith, amount-arcs a key keys names xs, amount-arcs a key keys names (set xs i y), row_is, later, moved)

at_most : (b : Bool) (x : ℕ) → cond b x 0 ≤ x
at_most true x = omega arith
at_most false x = omega arith

row_at_most : (key : GroupKey) (names : List (List ℕ)) (xs : List ℕ) (a : Arc) → amount_of is_same_arc (row_flows key names xs) a ≤ sum (take (length names) xs)
row_at_most key [] xs a = omega arith
row_at_most key (n ∷ names) [] a = omega arith
row_at_most key (n ∷ names) (x ∷ xs) a =
    omega (arith, amount-cons a ((key, n), x) (row_flows key names xs), at_most (is_same_arc a (key, n)) x, row_at_most key names xs a, sum_by-cons (λ m. m) x (take (length names) xs))

arcs_at_most : (keys : List GroupKey) (names : List (List ℕ)) (xs : List ℕ) (a : Arc) → amount_of is_same_arc (arc_flows keys names xs) a ≤ sum xs
arcs_at_most [] names xs a = omega arith
arcs_at_most (key ∷ keys) names xs a = omega (arith, amount-arcs a key keys names xs, row_at_most key names xs a, arcs_at_most keys names (drop (length names) xs) a, sum-parts (length names) xs)

pub arcs_tally : (keys : List GroupKey) (names : List (List ℕ)) (a : Arc) → IsTally (length keys) (length names) (λ xs. amount_of is_same_arc (arc_flows keys names xs) a) (on_arc keys names a)
arcs_tally keys names a = record {
  none = λ xs none. omega (arith, none, arcs_at_most keys names xs a);
  dealt = λ xs g w shape g_in w_in some. arcs_taken_at keys names xs g w (g * length names + w) a refl g_in w_in some;
}
