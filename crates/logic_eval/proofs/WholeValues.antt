-- What an operator gives of whole values is whole.
use Rattle.std.proofs.Common.{◌≡◌, ℕ, zero, suc, ◌<◌, ◌^◌, ℤ, pos, negsuc, Bool, true, false, not, cond, ◌&&◌, ◌||◌, nat_lt, List, [], ◌∷◌, ◌++◌, Option, Some, None, option_and_then, Result, Ok, Err, refl, sym, ap, ◌∙◌, arith}
use Rattle.std.specs.Prelude.{◌+ℤ◌, ◌-ℤ◌, ◌*ℤ◌, neg_ℤ, int_rem, int_lt, filter, flat_map, codes, unwrap_or, slice_get, is_some, IfOk}
use Rattle.std.specs.List.{list_all}
use Rattle.std.specs.Int.{int_min, int_max}
use Rattle.std.specs.Int.RustNames.{unsigned_abs}
use Rattle.std.specs.Ordering.{int_eq, match_ordering, nat_cmp, ordering_reverse}
use Rattle.std.specs.declared.cmp.Ordering.{Ordering}
use Rattle.std.specs.declared.cmp.Ordering.TheVariants.{Less, Equal, Greater}
use Rattle.std.specs.Cmp.Lexicographic.{slice_cmp}
use Rattle.std.proofs.lemmas.Cmp.{nat_list_cmp_total}
use Rattle.std.proofs.lemmas.Int.{rem_below}
use Rattle.flag_text.specs.Readers.{as_list}
use Rattle.flag_text.specs.Shape.{Shape, null, boolean, whole, other, text, list, object, Items, no_items, item, Members, no_members, member, is_in_range, comes_first, is_whole, items_are_whole, members_are_whole, is_tidy, items_are_tidy, members_are_tidy, has_other}
use Rattle.flag_text.specs.View.{items_of}
use Rattle.flag_text.proofs.Bools.{both, left, right, Holds}
use Rattle.flag_text.proofs.Halving.{is_tidy-find_member, same_name}
use Rattle.flag_text.proofs.Rising.{is_whole-tidy}
use Rattle.logic_ast.specs.declared.operator.Operator.{Operator}
use Rattle.logic_ast.specs.declared.operator.Operator.TheVariants as op
use Rattle.logic_values.specs.declared.fault.EvalFault.{EvalFault}
use Rattle.logic_values.specs.declared.fault.EvalFault.TheVariants.{Arithmetic}
use Rattle.logic_values.specs.Arithmetic.{if_number, step, folded, folded_from_first, difference, remainder, remainder_of}
use Rattle.logic_values.specs.Decimals.{has_value, is_decimal, is_readable, spelled_value, spelling_of}
use Rattle.logic_values.specs.Lists.{shapes_of, items_in, parts_of}
use Rattle.logic_values.specs.Truth.{is_true}
use Rattle.logic_values.specs.Number.{in_range, number_of, signed_value}
use Rattle.logic_eval.specs.Operators.{applied, applied_exactly, argument, exact_test, has_decimal, if_tested, is_unreadable}
use Rattle.logic_values.specs.Objects.{reduce_scope, with_member, with_flagd}
use Rattle.logic_eval.specs.Scope.{Situation, flagd, root_scope, index_of, step as path_step, follow, find, variable, is_missing, names_from, missing, found_count, missing_unless}
use Rattle.logic_values.specs.Text.{if_text, part_result, part}
use Rattle.logic_eval.proofs.Tidy.{tidy_whole}

-- the values of a list are whole
abbrev pub are_whole : List Shape → Bool
are_whole vs = items_are_whole (items_of vs)

pub are_whole-shapes : (ts : Items) → items_are_whole ts ≡ true → are_whole (shapes_of ts) ≡ true
are_whole-shapes no_items h = refl
are_whole-shapes (item t ts) h = both (is_whole t) _ (left (is_whole t) _ h) (are_whole-shapes ts (right (is_whole t) _ h))

pub are_whole-items_in : (v : Shape) → is_whole v ≡ true → are_whole (items_in v) ≡ true
are_whole-items_in null h = refl
are_whole-items_in (boolean b) h = refl
are_whole-items_in (whole n) h = refl
are_whole-items_in other h = refl
are_whole-items_in (text s) h = refl
are_whole-items_in (list ts) h = are_whole-shapes ts h
are_whole-items_in (object ms) h = refl

are_whole-parts_of : (v : Shape) → is_whole v ≡ true → are_whole (parts_of v) ≡ true
are_whole-parts_of null h = refl
are_whole-parts_of (boolean b) h = refl
are_whole-parts_of (whole n) h = both (is_in_range n) true h refl
are_whole-parts_of other h = cc
are_whole-parts_of (text s) h = refl
are_whole-parts_of (list ts) h = are_whole-shapes ts h
are_whole-parts_of (object ms) h = both (members_are_whole ms) true h refl

are_whole-append : (vs ws : List Shape) → are_whole vs ≡ true → are_whole ws ≡ true → are_whole (vs ++ ws) ≡ true
are_whole-append [] ws h k = k
are_whole-append (v ∷ vs) ws h k = both (is_whole v) _ (left (is_whole v) _ h) (are_whole-append vs ws (right (is_whole v) _ h) k)

are_whole-flat_map : (vs : List Shape) → are_whole vs ≡ true → are_whole (flat_map parts_of vs) ≡ true
are_whole-flat_map [] h = refl
are_whole-flat_map (v ∷ vs) h =
    are_whole-append (parts_of v) (flat_map parts_of vs) (are_whole-parts_of v (left (is_whole v) _ h)) (are_whole-flat_map vs (right (is_whole v) _ h))

are_whole-filter : (f : Shape → Bool) (vs : List Shape) → are_whole vs ≡ true → are_whole (filter f vs) ≡ true
are_whole-filter f [] h = refl
are_whole-filter f (v ∷ vs) h = go (f v) (are_whole-filter f vs (right (is_whole v) _ h))
  where
    go : (b : Bool) → are_whole (filter f vs) ≡ true → are_whole (cond b (v ∷ filter f vs) (filter f vs)) ≡ true
    go true k = both (is_whole v) _ (left (is_whole v) _ h) k
    go false k = k

-- ---- numbers

in_range-holds : (n : ℤ) → Holds is_in_range (in_range n)
in_range-holds n = go (is_in_range n) refl
  where
    go : (b : Bool) → is_in_range n ≡ b → Holds is_in_range (cond b (Some n) None)
    go true e = e
    go false e = tt

step-holds : (f : ℤ → ℤ → ℤ) (a b : Option ℤ) → Holds is_in_range (step f a b)
step-holds f None b = tt
step-holds f (Some m) None = tt
step-holds f (Some m) (Some n) = in_range-holds (f m n)

folded-holds : (f : ℤ → ℤ → ℤ) (n : Option ℤ) (vs : List Shape) → Holds is_in_range n → Holds is_in_range (folded f n vs)
folded-holds f n [] h = h
folded-holds f n (v ∷ vs) h = folded-holds f (step f n (number_of v)) vs (step-holds f n (number_of v))

decimal-holds : (o : Option ℤ) → Holds is_in_range (option_and_then in_range o)
decimal-holds None = tt
decimal-holds (Some n) = in_range-holds n

number-holds : (v : Shape) → is_whole v ≡ true → Holds is_in_range (number_of v)
number-holds null h = tt
number-holds (boolean b) h = tt
number-holds (whole n) h = h
number-holds other h = tt
number-holds (text s) h = decimal-holds (signed_value s)
number-holds (list ts) h = tt
number-holds (object ms) h = tt

first-holds : (f : ℤ → ℤ → ℤ) (vs : List Shape) → are_whole vs ≡ true → Holds is_in_range (folded_from_first f vs)
first-holds f [] h = tt
first-holds f (v ∷ vs) h = folded-holds f (number_of v) vs (number-holds v (left (is_whole v) _ h))

negated-holds : (o : Option ℤ) → Holds is_in_range (option_and_then (λ n. in_range (neg_ℤ n)) o)
negated-holds None = tt
negated-holds (Some n) = in_range-holds (neg_ℤ n)

difference-holds : (vs : List Shape) → Holds is_in_range (difference vs)
difference-holds [] = tt
difference-holds (a ∷ []) = negated-holds (number_of a)
difference-holds (a ∷ b ∷ rest) = step-holds ◌-ℤ◌ (number_of a) (number_of b)

abs_in_range : (n : ℤ) → is_in_range n ≡ true → unsigned_abs n < 2 ^ 53
abs_in_range (pos n) h = grind (arith, h)
abs_in_range (negsuc n) h = grind (arith, h)

in_range_abs : (n : ℤ) → unsigned_abs n < 2 ^ 53 → is_in_range n ≡ true
in_range_abs (pos n) h = grind (arith, h)
in_range_abs (negsuc n) h = grind (arith, h)

above_zero : (n : ℤ) → int_eq n (pos 0) ≡ false → 0 < unsigned_abs n
above_zero (pos zero) h = cc
above_zero (pos (suc n)) h = omega arith
above_zero (negsuc n) h = omega arith

remainder_of-holds : (m n : ℤ) → is_in_range n ≡ true → Holds is_in_range (remainder_of m n)
remainder_of-holds m n h = go (int_eq n (pos 0)) refl
  where
    go : (b : Bool) → int_eq n (pos 0) ≡ b → Holds is_in_range (cond b None (Some (int_rem m n)))
    go true e = tt
    go false e =
        let low = rem_below m n (above_zero n e) in
        let high = abs_in_range n h in
        in_range_abs (int_rem m n) (omega arith)

remainder-holds : (a b : Shape) → is_whole b ≡ true → Holds is_in_range (remainder a b)
remainder-holds a b h = go (number_of a) (number_of b) (number-holds b h)
  where
    go : (o p : Option ℤ) → Holds is_in_range p → Holds is_in_range (option_and_then (λ m. option_and_then (λ n. remainder_of m n) p) o)
    go None p k = tt
    go (Some m) None k = tt
    go (Some m) (Some n) k = remainder_of-holds m n k

abbrev pub IsWhole : Shape → Type 0
IsWhole v = is_whole v ≡ true

if_number-whole : (o : Option ℤ) → Holds is_in_range o → IfOk (if_number o) IsWhole
if_number-whole None h = tt
if_number-whole (Some n) h = h

-- ---- what a scope holds: names that rise and whole numbers in range, and perhaps numbers that are not whole

abbrev pub IsTidy : Shape → Type 0
IsTidy v = is_tidy v ≡ true

abbrev is_whole_if : Option Shape → Type 0
is_whole_if o = Holds is_whole o

abbrev is_tidy_if : Option Shape → Type 0
is_tidy_if o = Holds is_tidy o

-- ---- paths

get-whole : (vs : List Shape) (i : ℕ) → are_whole vs ≡ true → is_whole_if (slice_get vs i)
get-whole [] i h = tt
get-whole (v ∷ vs) zero h = left (is_whole v) _ h
get-whole (v ∷ vs) (suc i) h = get-whole vs i (right (is_whole v) _ h)

get-tidy : (ts : Items) (i : ℕ) → items_are_tidy ts ≡ true → is_tidy_if (slice_get (shapes_of ts) i)
get-tidy no_items i h = tt
get-tidy (item t ts) zero h = left (is_tidy t) _ h
get-tidy (item t ts) (suc i) h = get-tidy ts i (right (is_tidy t) _ h)

indexed-tidy : (ts : Items) (o : Option ℕ) → items_are_tidy ts ≡ true → is_tidy_if (option_and_then (slice_get (shapes_of ts)) o)
indexed-tidy ts None h = tt
indexed-tidy ts (Some i) h = get-tidy ts i h

step-tidy : (t : Shape) (name : List ℕ) → is_tidy t ≡ true → is_tidy_if (path_step t name)
step-tidy null name h = tt
step-tidy (boolean b) name h = tt
step-tidy (whole n) name h = tt
step-tidy other name h = tt
step-tidy (text s) name h = tt
step-tidy (list ts) name h = indexed-tidy ts (index_of name) h
step-tidy (object ms) name h = is_tidy-find_member name ms h

follow-tidy : (t : Shape) (names : List (List ℕ)) → is_tidy t ≡ true → is_tidy_if (follow t names)
follow-tidy t [] h = h
follow-tidy t (name ∷ names) h = go (path_step t name) (step-tidy t name h) (λ u k. follow-tidy u names k)
  where
    go : (o : Option Shape) → is_tidy_if o → ((u : Shape) → is_tidy u ≡ true → is_tidy_if (follow u names)) → is_tidy_if (option_and_then (λ u. follow u names) o)
    go None k of_rest = tt
    go (Some u) k of_rest = of_rest u k

find_text-tidy : (scope : Shape) (b : Bool) (names : List (List ℕ)) → is_tidy scope ≡ true → is_tidy_if (cond b (Some scope) (follow scope names))
find_text-tidy scope true names h = h
find_text-tidy scope false names h = follow-tidy scope names h

find-tidy : (scope path : Shape) → is_tidy scope ≡ true → is_tidy_if (find scope path)
find-tidy scope null h = h
find-tidy scope (boolean b) h = tt
find-tidy scope (whole n) h = find_text-tidy scope _ _ h
find-tidy scope other h = tt
find-tidy scope (text s) h = find_text-tidy scope _ _ h
find-tidy scope (list ts) h = tt
find-tidy scope (object ms) h = tt

or-whole : (o : Option Shape) (v : Shape) → is_whole_if o → is_whole v ≡ true → is_whole (unwrap_or o v) ≡ true
or-whole None v h k = k
or-whole (Some u) v h k = h

or-tidy : (o : Option Shape) (v : Shape) → is_tidy_if o → is_tidy v ≡ true → is_tidy (unwrap_or o v) ≡ true
or-tidy None v h k = k
or-tidy (Some u) v h k = h

pub variable-tidy : (scope : Shape) (vs : List Shape) → is_tidy scope ≡ true → are_whole vs ≡ true → is_tidy (variable scope vs) ≡ true
variable-tidy scope [] h k = h
variable-tidy scope (path ∷ []) h k = or-tidy (find scope path) null (find-tidy scope path h) refl
variable-tidy scope (path ∷ default ∷ rest) h k =
    or-tidy (find scope path) default (find-tidy scope path h) (tidy_whole default (left (is_whole default) _ (right (is_whole path) _ k)))

-- what is read is whole
pub read-whole : (v : Shape) → is_tidy v ≡ true → IfOk (cond (has_other v) (let r : Result Shape EvalFault = Err Arithmetic in r) (Ok v)) IsWhole
read-whole v h = go (has_other v) refl
  where
    go : (b : Bool) → has_other v ≡ b → IfOk (cond b (let r : Result Shape EvalFault = Err Arithmetic in r) (Ok v)) IsWhole
    go true e = tt
    go false e = is_whole-tidy v h e

-- ---- the names that are missing

names_from-whole : (v : Shape) (vs : List Shape) → is_whole v ≡ true → are_whole vs ≡ true → are_whole (names_from (as_list v) (v ∷ vs)) ≡ true
names_from-whole null vs h k = k
names_from-whole (boolean b) vs h k = k
names_from-whole (whole n) vs h k = both (is_in_range n) _ h k
names_from-whole other vs h k = cc
names_from-whole (text s) vs h k = k
names_from-whole (list ts) vs h k = are_whole-shapes ts h
names_from-whole (object ms) vs h k = both (members_are_whole ms) _ h k

missing-whole : (scope : Shape) (vs : List Shape) → are_whole vs ≡ true → are_whole (missing scope vs) ≡ true
missing-whole scope [] h = refl
missing-whole scope (v ∷ vs) h = are_whole-filter (is_missing scope) (names_from (as_list v) (v ∷ vs)) (names_from-whole v vs (left (is_whole v) _ h) (right (is_whole v) _ h))

missing_unless-whole : (scope : Shape) (o : Option ℤ) (names : List Shape) → are_whole names ≡ true → IfOk (missing_unless scope o names) IsWhole
missing_unless-whole scope None names h = tt
missing_unless-whole scope (Some n) names h = go (int_lt (pos (found_count scope names)) n)
  where
    go : (b : Bool) → are_whole (cond b (filter (is_missing scope) names) []) ≡ true
    go true = are_whole-filter (is_missing scope) names h
    go false = refl

-- ---- the operators that take the values of all their arguments

argument-whole : (k : ℕ) (vs : List Shape) → are_whole vs ≡ true → is_whole (argument k vs) ≡ true
argument-whole k vs h = or-whole (slice_get vs k) null (get-whole vs k h) refl

if_text-whole : (r : Result (List ℕ) EvalFault) → IfOk (if_text r) IsWhole
if_text-whole (Ok s) = refl
if_text-whole (Err f) = tt

part_result-whole : (o : Option (List ℕ)) → IfOk (part_result o) IsWhole
part_result-whole None = tt
part_result-whole (Some cs) = refl

part-whole : (vs : List Shape) → IfOk (part vs) IsWhole
part-whole [] = tt
part-whole (v ∷ []) = tt
part-whole (v ∷ s ∷ []) = part_result-whole _
part-whole (v ∷ s ∷ n ∷ rest) = part_result-whole _

pub applied-whole : (o : Operator) (scope : Shape) (vs : List Shape) → are_whole vs ≡ true → IfOk (applied o scope vs) IsWhole
applied-whole op.Missing scope vs h = missing-whole scope vs h
applied-whole op.MissingSome scope vs h = missing_unless-whole scope _ _ (are_whole-items_in (argument 1 vs) (argument-whole 1 vs h))
applied-whole op.Less scope vs h = refl
applied-whole op.LessOrEqual scope vs h = refl
applied-whole op.Add scope vs h = if_number-whole _ (folded-holds ◌+ℤ◌ (Some (pos 0)) vs refl)
applied-whole op.Subtract scope vs h = if_number-whole _ (difference-holds vs)
applied-whole op.Multiply scope vs h = if_number-whole _ (folded-holds ◌*ℤ◌ (Some (pos 1)) vs refl)
applied-whole op.Remainder scope vs h = if_number-whole _ (remainder-holds (argument 0 vs) (argument 1 vs) (argument-whole 1 vs h))
applied-whole op.Max scope vs h = if_number-whole _ (first-holds int_max vs h)
applied-whole op.Min scope vs h = if_number-whole _ (first-holds int_min vs h)
applied-whole op.Merge scope vs h = are_whole-flat_map vs h
applied-whole op.Cat scope vs h = if_text-whole _
applied-whole op.Substr scope vs h = part-whole vs
applied-whole op.SemVer scope vs h = refl
applied-whole o scope vs h = refl

-- ---- decimals, where a value is compared or tested

-- whole, or a decimal
abbrev pub is_operand : Shape → Bool
is_operand v = is_whole v || is_decimal v

abbrev pub IsOperand : Shape → Type 0
IsOperand v = is_operand v ≡ true

abbrev pub AreOperands : List Shape → Type 0
AreOperands vs = list_all is_operand vs ≡ true

pub operand-whole : (v : Shape) → is_whole v ≡ true → is_operand v ≡ true
operand-whole v h = ap (λ b. b || is_decimal v) h

whole_or : (a b : Bool) → (a || b) ≡ true → b ≡ false → a ≡ true
whole_or true b h e = refl
whole_or false b h e = absurd (not_both (sym e ∙ h))
  where
    not_both : false ≡ true → ⊥
    not_both k = cc

none_here : (a b : Bool) → (a || b) ≡ false → a ≡ false
none_here true b h = absurd (cc)
none_here false b h = refl

none_later : (a b : Bool) → (a || b) ≡ false → b ≡ false
none_later true b h = absurd (cc)
none_later false b h = h

-- without a decimal they are whole
pub operands-whole : (vs : List Shape) → list_all is_operand vs ≡ true → has_decimal vs ≡ false → are_whole vs ≡ true
operands-whole [] h e = refl
operands-whole (v ∷ vs) h e =
    both (is_whole v) _ (whole_or (is_whole v) (is_decimal v) (left (is_operand v) _ h) (none_here (is_decimal v) _ e)) (operands-whole vs (right (is_operand v) _ h) (none_later (is_decimal v) _ e))

-- a decimal counts as true
decimal-true : (v : Shape) → is_decimal v ≡ true → is_true v ≡ true
decimal-true null h = cc
decimal-true (boolean b) h = cc
decimal-true (whole n) h = cc
decimal-true other h = cc
decimal-true (text s) h = cc
decimal-true (list ts) h = cc
decimal-true (object ms) h = refl

-- a value that counts as false is whole
pub false-whole : (v : Shape) → is_operand v ≡ true → is_true v ≡ false → is_whole v ≡ true
false-whole v h f = go (is_decimal v) refl
  where
    not_both : true ≡ false → ⊥
    not_both k = cc

    go : (b : Bool) → is_decimal v ≡ b → is_whole v ≡ true
    go true e = absurd (not_both (sym (decimal-true v e) ∙ f))
    go false e = whole_or (is_whole v) (is_decimal v) h e

readable-decimal : (o : Option (List ℕ)) → has_value (spelled_value o) ≡ true → is_some o ≡ true
readable-decimal None h = absurd (cc)
readable-decimal (Some s) h = refl

-- what is read there is whole, or a decimal
pub read_decimal-operand : (v : Shape) → is_tidy v ≡ true → IfOk (cond (is_unreadable v) (let r : Result Shape EvalFault = Err Arithmetic in r) (Ok v)) IsOperand
read_decimal-operand v h = go (has_other v) (is_readable v) refl refl
  where
    or_right : (a : Bool) → (a || true) ≡ true
    or_right true = refl
    or_right false = refl

    go : (b c : Bool) → has_other v ≡ b → is_readable v ≡ c → IfOk (cond (b && not c) (let r : Result Shape EvalFault = Err Arithmetic in r) (Ok v)) IsOperand
    go true true e f = ap (λ b. is_whole v || b) (readable-decimal (spelling_of v) f) ∙ or_right (is_whole v)
    go true false e f = tt
    go false c e f = operand-whole v (is_whole-tidy v h e)

if_tested-whole : (r : Result Bool EvalFault) → IfOk (if_tested r) IsWhole
if_tested-whole (Ok b) = refl
if_tested-whole (Err e) = tt

pub applied_exactly-whole : (o : Operator) (scope : Shape) (vs : List Shape) → list_all is_operand vs ≡ true → IfOk (applied_exactly o scope vs) IsWhole
applied_exactly-whole o scope vs h = go (has_decimal vs) refl
  where
    go : (b : Bool) → has_decimal vs ≡ b → IfOk (cond b (if_tested (exact_test o vs)) (applied o scope vs)) IsWhole
    go true e = if_tested-whole (exact_test o vs)
    go false e = applied-whole o scope vs (operands-whole vs h e)

-- ---- scopes

pub reduce_scope-tidy : (v t : Shape) → is_whole v ≡ true → is_whole t ≡ true → is_tidy (reduce_scope v t) ≡ true
reduce_scope-tidy v t h k = both (is_tidy v) _ (tidy_whole v h) (both (is_tidy t) true (tidy_whole t k) refl)

-- a name in front of all, and of the one that is put, is in front of the result
first-put : (o : Ordering) (h k l : List ℕ) (t u : Shape) (ms : Members) → slice_cmp nat_cmp h k ≡ Less → comes_first h (member l u ms) ≡ true
    → comes_first h (match_ordering o (member k t (member l u ms)) (member k t ms) (member l u (with_member k t ms))) ≡ true
first-put Less h k l t u ms e f = rw e refl
first-put Equal h k l t u ms e f = rw e refl
first-put Greater h k l t u ms e f = f

first-with_member : (h k : List ℕ) (t : Shape) (ms : Members) → slice_cmp nat_cmp h k ≡ Less → comes_first h ms ≡ true → comes_first h (with_member k t ms) ≡ true
unfolding with_member
first-with_member h k t no_members e f = rw e refl
first-with_member h k t (member l u ms) e f = first-put (slice_cmp nat_cmp k l) h k l t u ms e f

same_first : (k l : List ℕ) (ms : Members) → slice_cmp nat_cmp k l ≡ Equal → comes_first l ms ≡ true → comes_first k ms ≡ true
same_first k l no_members e f = refl
same_first k l (member m t ms) e f = let same : k ≡ l = same_name k l e in rw same f

with_member-put : (o : Ordering) (k l : List ℕ) (t u : Shape) (ms : Members) → slice_cmp nat_cmp k l ≡ o → is_tidy t ≡ true → members_are_tidy (member l u ms) ≡ true
    → members_are_tidy (with_member k t ms) ≡ true
    → members_are_tidy (match_ordering o (member k t (member l u ms)) (member k t ms) (member l u (with_member k t ms))) ≡ true
with_member-put Less k l t u ms e w h more = rw e (both (is_tidy t) _ w h)
with_member-put Equal k l t u ms e w h more =
    both (comes_first k ms) _ (same_first k l ms e (left (comes_first l ms) _ h)) (both (is_tidy t) _ w (right (is_tidy u) _ (right (comes_first l ms) _ h)))
with_member-put Greater k l t u ms e w h more =
    let less : slice_cmp nat_cmp l k ≡ Less = nat_list_cmp_total.antisymm l k ∙ ap ordering_reverse e in
    both (comes_first l (with_member k t ms)) _ (first-with_member l k t ms less (left (comes_first l ms) _ h))
    (both (is_tidy u) _ (left (is_tidy u) _ (right (comes_first l ms) _ h)) more)

with_member-tidy : (k : List ℕ) (t : Shape) (ms : Members) → is_tidy t ≡ true → members_are_tidy ms ≡ true → members_are_tidy (with_member k t ms) ≡ true
unfolding with_member
with_member-tidy k t no_members w h = both (is_tidy t) true w refl
with_member-tidy k t (member l u ms) w h =
    with_member-put (slice_cmp nat_cmp k l) k l t u ms refl w h
    (with_member-tidy k t ms w (right (is_tidy u) _ (right (comes_first l ms) _ h)))

with_flagd-tidy : (t u : Shape) → is_tidy t ≡ true → is_tidy u ≡ true → is_tidy (with_flagd t u) ≡ true
with_flagd-tidy t null h k = k
with_flagd-tidy t (boolean b) h k = k
with_flagd-tidy t (whole n) h k = k
with_flagd-tidy t other h k = k
with_flagd-tidy t (text s) h k = k
with_flagd-tidy t (list ts) h k = k
with_flagd-tidy t (object ms) h k = with_member-tidy (codes "$flagd") t ms h k

pub flagd-tidy : (s : Situation) → s.moment < 2 ^ 53 → is_tidy (flagd s) ≡ true
flagd-tidy s h = let small : nat_lt s.moment (2 ^ 53) ≡ true = grind (arith, h) in rw small refl

pub root_scope-tidy : (s : Situation) → is_tidy s.context ≡ true → s.moment < 2 ^ 53 → is_tidy (root_scope s) ≡ true
root_scope-tidy s h k = with_flagd-tidy (flagd s) s.context (flagd-tidy s k) h
