-- What is among members after one was put.
use Rattle.std.proofs.Common.{◌≡◌, ℕ, List, [], ◌∷◌, String, Global, string_bytes, string_cmp, Bool, true, false, ◌||◌, cond, Option, Some, Ordering, Less, Equal, Greater, nat_cmp, bytes_eq, refl, sym, ap, ◌∙◌, true≢false, arith}
use Rattle.std.specs.BTreeMap.{insert_entry}
use Rattle.std.specs.Cmp.Lexicographic.{slice_cmp}
use Rattle.std.specs.Ordering.{is_eq, match_ordering}
use Rattle.std.proofs.Math.Nat.{max-le, le-max_left, le-max_right}
use Rattle.std.proofs.lemmas.Map.Lookups.{exact_bytes}
use Rattle.std.proofs.lemmas.Map.Text.{is_eq-slice_cmp}
use Rattle.std.proofs.lemmas.Slice.Eq.{bytes_eq-Decides}
use Rattle.flag_text.proofs.Views.{Named}
use Rattle.flag_text.proofs.Bools.{or_left, or_right}
use Rattle.flag_text.specs.Grammar.{put}
use Rattle.flag_text.specs.Readers.{find_member}
use Rattle.flag_text.specs.Shape.{Shape, Members, no_members, member, levels, members_levels, has_other, members_have_other}
use Rattle.flag_text.specs.View.{view, members_view}
use Rattle.flag_text.specs.declared.tree.Tree.{Tree}
use Rattle.member_names.specs.Kept.{is_among, AgreeOn}
use Rattle.member_names.specs.NamedPassed.{IsPlain, AreMembersPlain, IsTaken}

-- ---- a member that enters a map

placed : (o : Ordering) (a b c : List Named) → members_view (match_ordering o a b c) ≡ match_ordering o (members_view a) (members_view b) (members_view c)
placed Less a b c = refl
placed Equal a b c = refl
placed Greater a b c = refl

pub put_entry : (es : List Named) (k : String Global) (t : Tree) → members_view (insert_entry string_cmp es k t) ≡ put (string_bytes k) (view t) (members_view es)
put_entry [] k t = refl
put_entry (e ∷ es) k t = placed (string_cmp k e.0) _ _ _ ∙ rw (put_entry es k t)

-- ---- how deep they nest, and their numbers

neither : (a b : Bool) → a ≡ false → b ≡ false → (a || b) ≡ false
neither a b p q = rw (p, q) refl

member_plain : (most : ℕ) (k : List ℕ) (t : Shape) (ms : Members) → IsPlain most t → AreMembersPlain most ms → AreMembersPlain most (member k t ms)
member_plain most k t ms a b = (max-le a.0 b.0, neither (has_other t) (members_have_other ms) a.1 b.1)

first_plain : (most : ℕ) (k : List ℕ) (t : Shape) (ms : Members) → AreMembersPlain most (member k t ms) → IsPlain most t
first_plain most k t ms a = (omega (arith, a.0, le-max_left (levels t) (members_levels ms)), or_left (has_other t) (members_have_other ms) a.1)

rest_plain : (most : ℕ) (k : List ℕ) (t : Shape) (ms : Members) → AreMembersPlain most (member k t ms) → AreMembersPlain most ms
rest_plain most k t ms a = (omega (arith, a.0, le-max_right (levels t) (members_levels ms)), or_right (has_other t) (members_have_other ms) a.1)

pub put_plain : (most : ℕ) (k : List ℕ) (t : Shape) (ms : Members) → IsPlain most t → AreMembersPlain most ms → AreMembersPlain most (put k t ms)
put_plain most k t no_members a b = member_plain most k t no_members a b
put_plain most k t (member l u ms) a b = by (slice_cmp nat_cmp k l) (put_plain most k t ms a (rest_plain most l u ms b))
  where
    by : (o : Ordering) → AreMembersPlain most (put k t ms) → AreMembersPlain most (match_ordering o (member k t (member l u ms)) (member l t ms) (member l u (put k t ms)))
    by Less more = member_plain most k t (member l u ms) a b
    by Equal more = member_plain most l t ms a (rest_plain most l u ms b)
    by Greater more = member_plain most l u (put k t ms) (first_plain most l u ms b) more

-- ---- the member of a name

same_name : (k l : List ℕ) → bytes_eq k l ≡ true → k ≡ l
same_name k l h = (bytes_eq-Decides k l).0 h

one_name : (k l : List ℕ) → k ≡ l → bytes_eq k l ≡ true
one_name k l e = (bytes_eq-Decides k l).1 e

-- two names that are not the same are not both a third
not_both : (k l name : List ℕ) → slice_cmp nat_cmp k l ≡ Greater → bytes_eq k name ≡ true → bytes_eq l name ≡ true → ⊥
not_both k l name o p q =
    let differ : bytes_eq k l ≡ false = sym (is_eq-slice_cmp k l) ∙ ap is_eq o in
    let same : bytes_eq k l ≡ true = one_name k l (same_name k name p ∙ sym (same_name l name q)) in
    cc

twice : {X : Type 0} (b c : Bool) (x y z : X) → b ≡ c → cond c x z ≡ cond b x (cond c y z)
twice true true x y z e = refl
twice true false x y z e = cc
twice false true x y z e = cc
twice false false x y z e = refl

swapped : {X : Type 0} (b c : Bool) (x y z : X) → (b ≡ true → c ≡ true → ⊥) → cond c y (cond b x z) ≡ cond b x (cond c y z)
swapped true true x y z h = absurd (h refl refl)
swapped true false x y z h = refl
swapped false true x y z h = refl
swapped false false x y z h = refl

put_found : (name k : List ℕ) (t : Shape) (ms : Members) → find_member name (put k t ms) ≡ cond (bytes_eq k name) (Some t) (find_member name ms)
put_found name k t no_members = refl
put_found name k t (member l u ms) = by (slice_cmp nat_cmp k l) refl (put_found name k t ms)
  where
    by : (o : Ordering) → slice_cmp nat_cmp k l ≡ o → find_member name (put k t ms) ≡ cond (bytes_eq k name) (Some t) (find_member name ms)
        → find_member name (match_ordering o (member k t (member l u ms)) (member l t ms) (member l u (put k t ms))) ≡ cond (bytes_eq k name) (Some t) (cond (bytes_eq l name) (Some u) (find_member name ms))
    by Less e later = refl
    by Equal e later = twice (bytes_eq k name) (bytes_eq l name) (Some t) (Some u) (find_member name ms) (ap (λ (x : List ℕ). bytes_eq x name) (exact_bytes k l e))
    by Greater e later =
        ap (λ (o : Option Shape). cond (bytes_eq l name) (Some u) o) later ∙ swapped (bytes_eq k name) (bytes_eq l name) (Some t) (Some u) (find_member name ms) (not_both k l name e)

-- ---- a member that is kept, or passed over

passed_over : (names : List (List ℕ)) (k : List ℕ) (t : Shape) (all : Members) (name : List ℕ) → is_among names k ≡ false → is_among names name ≡ true → find_member name (put k t all) ≡ find_member name all
passed_over names k t all name other among = put_found name k t all ∙ by (bytes_eq k name) refl
  where
    by : (b : Bool) → bytes_eq k name ≡ b → cond b (Some t) (find_member name all) ≡ find_member name all
    by false e = refl
    by true e = absurd (true≢false (sym among ∙ ap (is_among names) (sym (same_name k name e)) ∙ other))

taken_by : (b : Bool) (names : List (List ℕ)) (k : List ℕ) (t : Shape) (before after all : Members) → is_among names k ≡ b → IsTaken b k t before after → AgreeOn names before all → AgreeOn names after (put k t all)
taken_by true names k t before after all is taken agree =
    λ name among. ap (find_member name) taken ∙ put_found name k t before ∙ ap (cond (bytes_eq k name) (Some t)) (agree name among) ∙ sym (put_found name k t all)
taken_by false names k t before after all is taken agree =
    λ name among. ap (find_member name) taken ∙ agree name among ∙ sym (passed_over names k t all name is among)

-- what is kept agrees with all, and still does after one more
pub agree_more : (names : List (List ℕ)) (k : List ℕ) (t : Shape) (before after all : Members) → IsTaken (is_among names k) k t before after → AgreeOn names before all → AgreeOn names after (put k t all)
agree_more names k t before after all taken agree = taken_by (is_among names k) names k t before after all refl taken agree
