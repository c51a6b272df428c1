-- Where a member is put among members whose names rise, and that they still rise.
use Rattle.std.proofs.Common.{◌≡◌, ℕ, zero, suc, ◌-◌, ◌<◌, ◌≤◌, List, [], ◌∷◌, ◌++◌, length, get_or, slice_set, true, Ordering, Less, Equal, Greater, nat_cmp, refl, sym, ap, ◌∙◌, subst, arith, append_assoc, append-nil, length-append}
use Rattle.std.specs.Bool.{OnTrue}
use Rattle.std.specs.Cmp.Lexicographic.{slice_cmp}
use Rattle.std.specs.List.{All, AllWithin, insert}
use Rattle.std.specs.Ordering.{is_lt, match_ordering, ordering_index, ordering_reverse}
use Rattle.std.proofs.lemmas.Cmp.{nat_list_cmp_total}
use Rattle.std.proofs.lemmas.List.{get_or_default}
use Rattle.std.proofs.Math.Seq.{get_or-append_seam}
use Rattle.flag_text.specs.Grammar.{put}
use Rattle.flag_text.specs.Shape.{Shape, Members, no_members, member, comes_first, names_rise}
use Rattle.flag_text.specs.View.{view, members_view}
use Rattle.flag_text.proofs.Bools.{both, left, right}
use Rattle.flag_text.proofs.Halving.{name_of, before_each, same_name, searchable}
use Rattle.flag_text.proofs.Views.{Named}

-- ---- names still rise

leads-put_at : (o : Ordering) (h k l : List ℕ) (t u : Shape) (ms : Members) → slice_cmp nat_cmp h k ≡ Less → comes_first h (member l u ms) ≡ true
    → comes_first h (match_ordering o (member k t (member l u ms)) (member l t ms) (member l u (put k t ms))) ≡ true
leads-put_at Less h k l t u ms first lead = rw first refl
leads-put_at Equal h k l t u ms first lead = lead
leads-put_at Greater h k l t u ms first lead = lead

leads-put : (h k : List ℕ) (t : Shape) (ms : Members) → slice_cmp nat_cmp h k ≡ Less → comes_first h ms ≡ true → comes_first h (put k t ms) ≡ true
leads-put h k t no_members first lead = rw first refl
leads-put h k t (member l u ms) first lead = leads-put_at (slice_cmp nat_cmp k l) h k l t u ms first lead

rise-put_at : (o : Ordering) (k l : List ℕ) (t u : Shape) (ms : Members) → slice_cmp nat_cmp k l ≡ o → names_rise (member l u ms) ≡ true → names_rise (put k t ms) ≡ true
    → names_rise (match_ordering o (member k t (member l u ms)) (member l t ms) (member l u (put k t ms))) ≡ true
rise-put_at Less k l t u ms is all more = both (match_ordering (slice_cmp nat_cmp k l) true _ _) _ (rw is refl) all
rise-put_at Equal k l t u ms is all more = all
rise-put_at Greater k l t u ms is all more =
    let less : slice_cmp nat_cmp l k ≡ Less = nat_list_cmp_total.antisymm l k ∙ ap ordering_reverse is in
    both (comes_first l (put k t ms)) _ (leads-put l k t ms less (left _ _ all)) more

pub names_rise-put : (k : List ℕ) (t : Shape) (ms : Members) → names_rise ms ≡ true → names_rise (put k t ms) ≡ true
names_rise-put k t no_members all = refl
names_rise-put k t (member l u ms) all = rise-put_at (slice_cmp nat_cmp k l) k l t u ms refl all (names_rise-put k t ms (right (comes_first l ms) _ all))

-- ---- the place of a member

above : (a b : List ℕ) → slice_cmp nat_cmp a b ≡ Less → slice_cmp nat_cmp b a ≡ Greater
above a b e = nat_list_cmp_total.antisymm b a ∙ ap ordering_reverse e

below : (a b : List ℕ) → slice_cmp nat_cmp a b ≡ Greater → slice_cmp nat_cmp b a ≡ Less
below a b e = nat_list_cmp_total.antisymm b a ∙ ap ordering_reverse e

alike : (a b : List ℕ) → slice_cmp nat_cmp a b ≡ Equal → slice_cmp nat_cmp b a ≡ Equal
alike a b e = nat_list_cmp_total.antisymm b a ∙ ap ordering_reverse e

chosen : (o p : Ordering) (a b c : Members) → o ≡ p → match_ordering o a b c ≡ match_ordering p a b c
chosen o p a b c e = rw e refl

-- in front of the first
in_front : (k : List ℕ) (t : Shape) (n : Named) (ms : List Named) → slice_cmp nat_cmp (name_of n) k ≡ Greater → put k t (members_view (n ∷ ms)) ≡ member k t (members_view (n ∷ ms))
in_front k t n ms e = chosen (slice_cmp nat_cmp k (name_of n)) Less _ _ _ (below (name_of n) k e)

-- behind the first
behind : (k : List ℕ) (t : Shape) (n : Named) (ms : List Named) → slice_cmp nat_cmp (name_of n) k ≡ Less → put k t (members_view (n ∷ ms)) ≡ member (name_of n) (view n.1) (put k t (members_view ms))
behind k t n ms e = chosen (slice_cmp nat_cmp k (name_of n)) Greater _ _ _ (above (name_of n) k e)

-- in place of the first
instead : (k : List ℕ) (t : Shape) (n : Named) (ms : List Named) → slice_cmp nat_cmp (name_of n) k ≡ Equal → put k t (members_view (n ∷ ms)) ≡ member (name_of n) t (members_view ms)
instead k t n ms e = chosen (slice_cmp nat_cmp k (name_of n)) Equal _ _ _ (alike (name_of n) k e)

-- at the end, where its name is above each
pub put-past : (ms : List Named) (m : Named) → All (λ n. slice_cmp nat_cmp (name_of n) (name_of m) ≡ Less) ms → put (name_of m) (view m.1) (members_view ms) ≡ members_view (ms ++ m ∷ [])
put-past [] m all = refl
put-past (n ∷ ms) m all =
    behind (name_of m) (view m.1) n ms (all 0 n (omega arith)) ∙ ap (member (name_of n) (view n.1)) (put-past ms m (λ k d h. all (suc k) d (omega arith)))

-- between those below its name and those above
pub put-between : (ms : List Named) (m : Named) (i : ℕ) → i ≤ length ms → AllWithin (λ n. slice_cmp nat_cmp (name_of n) (name_of m) ≡ Less) ms 0 i
    → AllWithin (λ n. slice_cmp nat_cmp (name_of n) (name_of m) ≡ Greater) ms i (length ms) → put (name_of m) (view m.1) (members_view ms) ≡ members_view (insert ms i m)
put-between [] m zero h low high = refl
put-between [] m (suc i) h low high = absurd (omega arith)
put-between (n ∷ ms) m zero h low high = in_front (name_of m) (view m.1) n ms (high 0 n (omega arith) (omega arith))
put-between (n ∷ ms) m (suc i) h low high =
    behind (name_of m) (view m.1) n ms (low 0 n (omega arith) (omega arith))
    ∙ ap (member (name_of n) (view n.1)) (put-between ms m i (omega arith) (λ k d a b. low (suc k) d (omega arith) (omega arith)) (λ k d a b. high (suc k) d (omega arith) (omega arith)))

-- in place of the one of its name
pub put-instead : (ms : List Named) (k : List ℕ) (v : _) (i : ℕ) (n : Named) → names_rise (members_view ms) ≡ true → i < length ms → n ≡ get_or ms i n
    → slice_cmp nat_cmp (name_of n) k ≡ Equal → put k (view v) (members_view ms) ≡ members_view (slice_set ms i (n.0, v))
put-instead [] k v i n rise h is e = absurd (omega arith)
put-instead (o ∷ ms) k v zero n rise h is e =
    instead k (view v) o ms (subst (λ x. slice_cmp nat_cmp (name_of x) k ≡ Equal) is e) ∙ ap (λ x. member (name_of x) (view v) (members_view ms)) (sym is)
put-instead (o ∷ ms) k v (suc i) n rise h is e =
    let rest = right (comes_first (name_of o) (members_view ms)) _ rise in
    let less = before_each (name_of o) ms (left _ _ rise) rest i n (omega arith) in
    let same : name_of n ≡ k = same_name (name_of n) k e in
    behind k (view v) o ms (subst (λ x. slice_cmp nat_cmp (name_of o) x ≡ Less) (ap name_of (sym is) ∙ same) less)
    ∙ ap (member (name_of o) (view o.1)) (put-instead ms k v i n rest (omega arith) is e)

-- ---- a name above the last is above each

least : (o p : Ordering) → ordering_index o ≤ ordering_index p → p ≡ Less → o ≡ Less
least Less p h e = refl
least Equal p h e = absurd (omega (arith, ap ordering_index e))
least Greater p h e = absurd (omega (arith, ap ordering_index e))

past_each : (ms : List Named) (k : List ℕ) (last : Named) → names_rise (members_view ms) ≡ true → 0 < length ms → last ≡ get_or ms (length ms - 1) last
    → slice_cmp nat_cmp (name_of last) k ≡ Less → All (λ n. slice_cmp nat_cmp (name_of n) k ≡ Less) ms
past_each ms k last rise some is e =
    λ j d inside. least _ _ (searchable ms k rise j (length ms - 1) d (omega arith) (omega arith)) (ends d)
  where
    ends : (d : Named) → slice_cmp nat_cmp (name_of (get_or ms (length ms - 1) d)) k ≡ Less
    ends d = subst (λ x. slice_cmp nat_cmp (name_of x) k ≡ Less) (is ∙ get_or_default ms (length ms - 1) last d (omega arith)) e

if_less : (o : Ordering) (P : Type 0) → (o ≡ Less → P) → OnTrue (is_lt o) P
if_less Less P h = h refl
if_less Equal P h = tt
if_less Greater P h = tt

pub past_if : (ms : List Named) (k : List ℕ) (last : Named) → names_rise (members_view ms) ≡ true → 0 < length ms → last ≡ get_or ms (length ms - 1) last
    → OnTrue (is_lt (slice_cmp nat_cmp (name_of last) k)) (All (λ n. slice_cmp nat_cmp (name_of n) k ≡ Less) ms)
past_if ms k last rise some is = if_less _ _ (past_each ms k last rise some is)

-- ---- members that are put in one after another

abbrev pub entered : Members → Members → Members
entered no_members found = found
entered (member k t ms) found = entered ms (put k t found)

pub entered-more : (ms : List Named) (m : Named) (found : Members) → entered (members_view (ms ++ m ∷ [])) found ≡ put (name_of m) (view m.1) (entered (members_view ms) found)
entered-more [] m found = refl
entered-more (n ∷ ms) m found = entered-more ms m (put (name_of n) (view n.1) found)

inside : (ys : List Named) (z : Named) (zs : List Named) → length ys < length (ys ++ z ∷ zs)
inside ys z zs = omega (arith, length-append ys (z ∷ zs))

put-next : (ys : List Named) (z : Named) (zs : List Named) → names_rise (members_view (ys ++ z ∷ zs)) ≡ true → put (name_of z) (view z.1) (members_view ys) ≡ members_view (ys ++ z ∷ [])
put-next [] z zs rise = refl
put-next (y ∷ ys) z zs rise =
    let rest = right (comes_first (name_of y) (members_view (ys ++ z ∷ zs))) _ rise in
    let less = before_each (name_of y) (ys ++ z ∷ zs) (left _ _ rise) rest (length ys) z (inside ys z zs) in
    behind (name_of z) (view z.1) y ys (subst (λ x. slice_cmp nat_cmp (name_of y) (name_of x) ≡ Less) (get_or-append_seam ys z zs z) less)
    ∙ ap (member (name_of y) (view y.1)) (put-next ys z zs rest)

entered-on : (ys zs : List Named) → names_rise (members_view (ys ++ zs)) ≡ true → entered (members_view zs) (members_view ys) ≡ members_view (ys ++ zs)
entered-on ys [] rise = ap members_view (sym (append-nil ys))
entered-on ys (z ∷ zs) rise =
    ap (entered (members_view zs)) (put-next ys z zs rise)
    ∙ entered-on (ys ++ z ∷ []) zs (subst (λ xs. names_rise (members_view xs) ≡ true) (sym (append_assoc ys (z ∷ []) zs)) rise)
    ∙ ap members_view (append_assoc ys (z ∷ []) zs)

pub entered-rising : (ms : List Named) → names_rise (members_view ms) ≡ true → entered (members_view ms) no_members ≡ members_view ms
entered-rising ms rise = entered-on [] ms rise
