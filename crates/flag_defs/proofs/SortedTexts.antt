-- The texts of variants with floats in the order of their names, and the variants that these texts spell.
use Rattle.std.proofs.Common.{◌≡◌, ℕ, zero, suc, ◌+◌, ◌≤◌, max, List, Bool, true, false, not, ◌&&◌, ◌||◌, cond, nat_lt, nat_le, Option, Some, None, is_some, Ordering, Less, Equal, Greater, refl, sym, ap, ap₂, ◌∙◌, subst, arith}
use Rattle.std.specs.Ordering.{is_eq, nat_cmp, match_ordering, ordering_reverse}
use Rattle.std.specs.Cmp.Lexicographic.{slice_cmp}
use Rattle.std.specs.Str.{bytes_eq}
use Rattle.std.proofs.lemmas.Bool.{le-leb, lt-ltb}
use Rattle.std.proofs.lemmas.Cmp.{nat_list_cmp_total}
use Rattle.std.proofs.lemmas.Grind.{common_steps}
use Rattle.std.proofs.lemmas.Map.Lookups.{exact_bytes}
use Rattle.std.proofs.lemmas.Map.Text.{is_eq-slice_cmp}
use Rattle.json.specs.Find.{get_member, later_or}
use Rattle.json.specs.Json as json
use Rattle.json.specs.Json.{Json, no_members, member}
use Rattle.json.specs.Print.{print}
use Rattle.json.specs.Tree.{HasNumbers, MembersHaveNumbers, depth, json_tokens, members_depth}
use Rattle.flag_text.proofs.Bools.{Holds, both, left, right}
use Rattle.flag_text.specs.Grammar.{put, members_from}
use Rattle.flag_text.specs.Shape as shape
use Rattle.flag_text.specs.Shape.{text, Members, comes_first, names_rise}
use Rattle.spelled_numbers.specs.Floats.{all_counting, are_within, each_member, has_floats, has_name, has_whole_numbers, is_number, is_object, member_count, of_variants}
use Rattle.flag_defs.specs.SpelledLaw.{as_texts}
use Rattle.flag_defs.proofs.Lasts.{is_less, not_both, one_name, same_name, swapped, twice}

-- ---- members in the order of their names, of one name the last

abbrev pub placed : List ℕ → Json → json.Members → json.Members
placed k j no_members = member k j no_members
placed k j (member l i ms) = match_ordering (slice_cmp nat_cmp k l) (member k j (member l i ms)) (member l j ms) (member l i (placed k j ms))

abbrev pub sorted : json.Members → json.Members → json.Members
sorted no_members before = before
sorted (member k j ms) before = sorted ms (placed k j before)

texts_placed : (k : List ℕ) (j : Json) (ms : json.Members) → as_texts (placed k j ms) ≡ put k (text (print (json_tokens j))) (as_texts ms)
texts_placed k j no_members = refl
texts_placed k j (member l i ms) = by (slice_cmp nat_cmp k l) (texts_placed k j ms)
  where
    by : (o : Ordering) → as_texts (placed k j ms) ≡ put k (text (print (json_tokens j))) (as_texts ms)
        → as_texts (match_ordering o (member k j (member l i ms)) (member l j ms) (member l i (placed k j ms)))
        ≡ match_ordering o (shape.member k (text (print (json_tokens j))) (as_texts (member l i ms))) (shape.member l (text (print (json_tokens j))) (as_texts ms))
        (shape.member l (text (print (json_tokens i))) (put k (text (print (json_tokens j))) (as_texts ms)))
    by Less later = refl
    by Equal later = refl
    by Greater later = ap (shape.member l (text (print (json_tokens i)))) later

-- they are read from the values as texts
pub texts_sorted : (ms before : json.Members) → members_from (each_member of_variants ms) (as_texts before) ≡ Some (as_texts (sorted ms before))
texts_sorted no_members before = refl
texts_sorted (member k j ms) before = ap (members_from (each_member of_variants ms)) (sym (texts_placed k j before)) ∙ texts_sorted ms (placed k j before)

-- ---- numbers

numbers_placed : (k : List ℕ) (j : Json) (ms : json.Members) → HasNumbers j → MembersHaveNumbers ms → MembersHaveNumbers (placed k j ms)
numbers_placed k j no_members h n = (h, tt)
numbers_placed k j (member l i ms) h n = by (slice_cmp nat_cmp k l) (numbers_placed k j ms h n.1)
  where
    by : (o : Ordering) → MembersHaveNumbers (placed k j ms) → MembersHaveNumbers (match_ordering o (member k j (member l i ms)) (member l j ms) (member l i (placed k j ms)))
    by Less later = (h, n)
    by Equal later = (h, n.1)
    by Greater later = (n.0, later)

pub numbers_sorted : (ms before : json.Members) → MembersHaveNumbers ms → MembersHaveNumbers before → MembersHaveNumbers (sorted ms before)
numbers_sorted no_members before n p = p
numbers_sorted (member k j ms) before n p = numbers_sorted ms (placed k j before) n.1 (numbers_placed k j before n.0 p)

-- ---- how many, and how deep

count_placed : (k : List ℕ) (j : Json) (ms : json.Members) → member_count (placed k j ms) ≤ suc (member_count ms)
count_placed k j no_members = omega arith
count_placed k j (member l i ms) = by (slice_cmp nat_cmp k l) (count_placed k j ms)
  where
    by : (o : Ordering) → member_count (placed k j ms) ≤ suc (member_count ms)
        → member_count (match_ordering o (member k j (member l i ms)) (member l j ms) (member l i (placed k j ms))) ≤ suc (suc (member_count ms))
    by Less later = omega arith
    by Equal later = omega arith
    by Greater later = omega (arith, later)

count_sorted : (ms before : json.Members) → member_count (sorted ms before) ≤ member_count ms + member_count before
count_sorted no_members before = omega arith
count_sorted (member k j ms) before = omega (arith, count_sorted ms (placed k j before), count_placed k j before)

depth_placed : (k : List ℕ) (j : Json) (ms : json.Members) (d : ℕ) → depth j ≤ d → members_depth ms ≤ d → members_depth (placed k j ms) ≤ d
depth_placed k j no_members d h n = omega (arith, h)
depth_placed k j (member l i ms) d h n = by (slice_cmp nat_cmp k l) (depth_placed k j ms d h (omega (arith, n)))
  where
    by : (o : Ordering) → members_depth (placed k j ms) ≤ d → members_depth (match_ordering o (member k j (member l i ms)) (member l j ms) (member l i (placed k j ms))) ≤ d
    by Less later = omega (arith, h, n)
    by Equal later = omega (arith, h, n)
    by Greater later = omega (arith, n, later)

depth_sorted : (ms before : json.Members) (d : ℕ) → members_depth ms ≤ d → members_depth before ≤ d → members_depth (sorted ms before) ≤ d
depth_sorted no_members before d n p = p
depth_sorted (member k j ms) before d n p = depth_sorted ms (placed k j before) d (omega (arith, n)) (depth_placed k j before d (omega (arith, n)) p)

test_le : (n k : ℕ) → nat_le n k ≡ true → n ≤ k
test_le n k h = grind (arith, common_steps, h)

test_lt : (n k : ℕ) → nat_lt n k ≡ true → suc n ≤ k
test_lt n k h = grind (arith, common_steps, h)

within_sorted : (ms : json.Members) → are_within ms ≡ true → are_within (sorted ms no_members) ≡ true
within_sorted ms h =
    let few = test_le (member_count ms) 64 (left (nat_le (member_count ms) 64) (nat_lt (members_depth ms) 100) h) in
    let flat = test_lt (members_depth ms) 100 (right (nat_le (member_count ms) 64) (nat_lt (members_depth ms) 100) h) in
    let count = count_sorted ms no_members in
    let deep = depth_sorted ms no_members 99 (omega (arith, flat)) (omega arith) in
    both (nat_le (member_count (sorted ms no_members)) 64) (nat_lt (members_depth (sorted ms no_members)) 100) (le-leb (member_count (sorted ms no_members)) 64 (omega (arith, few, count)))
    (lt-ltb (members_depth (sorted ms no_members)) 100 (omega (arith, deep)))

-- ---- what is found among them

-- the first of a name
abbrev first : List ℕ → json.Members → Option Json
first name no_members = None
first name (member k j ms) = cond (bytes_eq k name) (Some j) (first name ms)

placed_found : (name k : List ℕ) (j : Json) (ms : json.Members) → first name (placed k j ms) ≡ cond (bytes_eq k name) (Some j) (first name ms)
placed_found name k j no_members = refl
placed_found name k j (member l i ms) = by (slice_cmp nat_cmp k l) refl (placed_found name k j ms)
  where
    by : (o : Ordering) → slice_cmp nat_cmp k l ≡ o → first name (placed k j ms) ≡ cond (bytes_eq k name) (Some j) (first name ms)
        → first name (match_ordering o (member k j (member l i ms)) (member l j ms) (member l i (placed k j ms))) ≡ cond (bytes_eq k name) (Some j) (cond (bytes_eq l name) (Some i) (first name ms))
    by Less e later = refl
    by Equal e later = twice (bytes_eq k name) (bytes_eq l name) (Some j) (Some i) (first name ms) (ap (λ (x : List ℕ). bytes_eq x name) (exact_bytes k l e))
    by Greater e later =
        ap (λ (o : Option Json). cond (bytes_eq l name) (Some i) o) later ∙ swapped (bytes_eq k name) (bytes_eq l name) (Some j) (Some i) (first name ms) (not_both k l name e)

later_first : (g : Option Json) (b : Bool) (j : Json) (before : Option Json) → later_or g (cond b (Some j) before) ≡ later_or (later_or g (cond b (Some j) None)) before
later_first (Some i) b j before = refl
later_first None true j before = refl
later_first None false j before = refl

sorted_found : (name : List ℕ) (ms before : json.Members) → first name (sorted ms before) ≡ later_or (get_member name ms) (first name before)
sorted_found name no_members before = refl
sorted_found name (member k j ms) before =
    sorted_found name ms (placed k j before)
    ∙ (ap (later_or (get_member name ms)) (placed_found name k j before) ∙ later_first (get_member name ms) (bytes_eq k name) j (first name before))

-- ---- where names rise, the first of a name is the last

pub other_name : (k l : List ℕ) → slice_cmp nat_cmp k l ≡ Less → bytes_eq l k ≡ false
other_name k l e = sym (is_eq-slice_cmp l k) ∙ ap is_eq (nat_list_cmp_total.antisymm l k ∙ ap ordering_reverse e)

pub before_first : (k l : List ℕ) (ms : Members) → slice_cmp nat_cmp k l ≡ Less → comes_first l ms ≡ true → comes_first k ms ≡ true
before_first k l shape.no_members e h = refl
before_first k l (shape.member m t ms) e h =
    ap (λ (o : Ordering). match_ordering o true false false) (nat_list_cmp_total.trans k l m e (is_less (slice_cmp nat_cmp l m) h))

-- a name in front is none of the names
not_among : (k : List ℕ) (ms : json.Members) → comes_first k (as_texts ms) ≡ true → names_rise (as_texts ms) ≡ true → get_member k ms ≡ None
not_among k no_members h r = refl
not_among k (member l j ms) h r =
    let less = is_less (slice_cmp nat_cmp k l) h in
    let next = left (comes_first l (as_texts ms)) (names_rise (as_texts ms)) r in
    let rest = not_among k ms (before_first k l (as_texts ms) less next) (right (comes_first l (as_texts ms)) (names_rise (as_texts ms)) r) in
    ap₂ (λ (g : Option Json) (b : Bool). later_or g (cond b (Some j) None)) rest (other_name k l less)

one_of : (b : Bool) (j : Json) (g h : Option Json) → g ≡ h → (b ≡ true → g ≡ None) → later_or g (cond b (Some j) None) ≡ cond b (Some j) h
one_of true j g h e none = ap (λ (o : Option Json). later_or o (Some j)) (none refl)
one_of false j g h e none = alone g ∙ e
  where
    alone : (o : Option Json) → later_or o None ≡ o
    alone None = refl
    alone (Some i) = refl

last_is_first : (name : List ℕ) (ms : json.Members) → names_rise (as_texts ms) ≡ true → get_member name ms ≡ first name ms
last_is_first name no_members r = refl
last_is_first name (member k j ms) r =
    let next = left (comes_first k (as_texts ms)) (names_rise (as_texts ms)) r in
    let rest = right (comes_first k (as_texts ms)) (names_rise (as_texts ms)) r in
    one_of (bytes_eq k name) j (get_member name ms) (first name ms) (last_is_first name ms rest)
    (λ b. ap (λ (x : List ℕ). get_member x ms) (sym (same_name k name b)) ∙ not_among k ms next rest)

-- ---- what holds of each that counts

named : (name : List ℕ) (ms : json.Members) → has_name name ms ≡ is_some (get_member name ms)
named name no_members = refl
named name (member k j ms) = ap (λ (b : Bool). bytes_eq k name || b) (named name ms) ∙ by (bytes_eq k name) (get_member name ms)
  where
    by : (b : Bool) (g : Option Json) → (b || is_some g) ≡ is_some (later_or g (cond b (Some j) None))
    by true None = refl
    by true (Some i) = refl
    by false None = refl
    by false (Some i) = refl

found_counts : (f : Json → Bool) (ms : json.Members) → all_counting f ms ≡ true → (name : List ℕ) → Holds f (get_member name ms)
found_counts f no_members h name = tt
found_counts f (member k j ms) h name =
    by (get_member name ms) (bytes_eq k name) (found_counts f ms (right (has_name k ms || f j) (all_counting f ms) h) name)
    (λ b none. alone (has_name k ms) (f j) (named k ms ∙ ap is_some (ap (λ (x : List ℕ). get_member x ms) (same_name k name b) ∙ none)) (left (has_name k ms || f j) (all_counting f ms) h)) refl refl
  where
    alone : (a b : Bool) → a ≡ false → (a || b) ≡ true → b ≡ true
    alone true b e h = cc
    alone false b e h = h

    by : (g : Option Json) (b : Bool) → Holds f g → (bytes_eq k name ≡ true → get_member name ms ≡ None → f j ≡ true) → bytes_eq k name ≡ b → get_member name ms ≡ g → Holds f (later_or g (cond b (Some j) None))
    by (Some i) b later here p q = later
    by None true later here p q = here p q
    by None false later here p q = tt

all_count : (f : Json → Bool) (ms : json.Members) → ((name : List ℕ) → Holds f (get_member name ms)) → all_counting f ms ≡ true
all_count f no_members h = refl
all_count f (member k j ms) h =
    both (has_name k ms || f j) (all_counting f ms) (ap (λ (b : Bool). b || f j) (named k ms) ∙ here (get_member k ms) (bytes_eq k k) (one_name k k refl) (h k))
    (all_count f ms (λ name. earlier (get_member name ms) (cond (bytes_eq k name) (Some j) None) (h name)))
  where
    earlier : (g o : Option Json) → Holds f (later_or g o) → Holds f g
    earlier None o h = tt
    earlier (Some i) o h = h

    here : (g : Option Json) (b : Bool) → b ≡ true → Holds f (later_or g (cond b (Some j) None)) → (is_some g || f j) ≡ true
    here (Some i) b e h = refl
    here None true e h = h
    here None false e h = cc

-- ---- they have floats, as the values have

module _ (ms : json.Members) (r : names_rise (as_texts (sorted ms no_members)) ≡ true) where
  same_found : (name : List ℕ) → get_member name (sorted ms no_members) ≡ get_member name ms
  same_found name = last_is_first name (sorted ms no_members) r ∙ (sorted_found name ms no_members ∙ alone (get_member name ms))
    where
      alone : (o : Option Json) → later_or o None ≡ o
      alone None = refl
      alone (Some i) = refl

  same_counting : (f : Json → Bool) → all_counting f (sorted ms no_members) ≡ all_counting f ms
  same_counting f = by (all_counting f (sorted ms no_members)) (all_counting f ms) refl refl
    where
      there : all_counting f (sorted ms no_members) ≡ true → all_counting f ms ≡ true
      there h = all_count f ms (λ name. subst (Holds f) (same_found name) (found_counts f (sorted ms no_members) h name))

      back : all_counting f ms ≡ true → all_counting f (sorted ms no_members) ≡ true
      back h = all_count f (sorted ms no_members) (λ name. subst (Holds f) (sym (same_found name)) (found_counts f ms h name))

      by : (a b : Bool) → all_counting f (sorted ms no_members) ≡ a → all_counting f ms ≡ b → a ≡ b
      by true true p q = refl
      by false false p q = refl
      by true false p q = sym (there p) ∙ q
      by false true p q = sym p ∙ back q

  pub floats_sorted : has_floats (json.object ms) ≡ true → has_floats (json.object (sorted ms no_members)) ≡ true
  floats_sorted h =
      let rest = (all_counting is_number ms || all_counting is_object ms) && not (all_counting has_whole_numbers ms) in
      both (are_within (sorted ms no_members)) ((all_counting is_number (sorted ms no_members) || all_counting is_object (sorted ms no_members)) && not (all_counting has_whole_numbers (sorted ms no_members)))
      (within_sorted ms (left (are_within ms) rest h))
      (ap₂ (λ (a b : Bool). a && not b) (ap₂ (λ (a b : Bool). a || b) (same_counting is_number) (same_counting is_object)) (same_counting has_whole_numbers) ∙ right (are_within ms) rest h)
