-- Objects that are no decimals: those with more than one member, and those that an evaluation makes.
use Rattle.std.proofs.Common.{◌≡◌, ◌<◌, ◌≤◌, ℕ, List, [], ◌∷◌, length, get_or, None, refl, sym, ap, arith}
use Rattle.std.specs.Borrow.{Bor}
use Rattle.std.specs.Cmp.Lexicographic.{slice_cmp}
use Rattle.std.specs.Ordering.{nat_cmp, match_ordering}
use Rattle.std.specs.Prelude.{codes, String, string_bytes}
use Rattle.std.specs.declared.alloc.Global.{Global}
use Rattle.std.specs.declared.cmp.Ordering.{Ordering}
use Rattle.std.specs.declared.cmp.Ordering.TheVariants.{Less, Equal, Greater}
use Rattle.flag_text.specs.Shape.{Shape, null, boolean, whole, other, text, list, object, Members, no_members, member}
use Rattle.flag_text.specs.View.{view, members_view}
use Rattle.flag_text.specs.declared.tree.Tree.{Tree}
use Rattle.logic_values.specs.Objects.{with_member}
use Rattle.logic_values.specs.Views.{seen_view, value_view}
use Rattle.logic_values.specs.declared.root.Root.{Root}
use Rattle.logic_values.specs.declared.seen.Seen.TheVariants as seen
use Rattle.logic_values.specs.declared.value.Value.{Value}
use Rattle.logic_values.specs.Decimals.{spelling_in, spelling_of}

two : (k l : List ℕ) (t u : Shape) (ms : Members) → spelling_in (member k t (member l u ms)) ≡ None
two k l null u ms = refl
two k l (boolean b) u ms = refl
two k l (whole n) u ms = refl
two k l other u ms = refl
two k l (text s) u ms = refl
two k l (list ts) u ms = refl
two k l (object ns) u ms = refl

pub no_member : (ms : List (String Global × Tree)) → length ms < 1 → spelling_in (members_view ms) ≡ None
no_member [] h = refl
no_member (a ∷ ms) h = absurd (omega (arith, h))

pub one_member : (ms : List (String Global × Tree)) (a : String Global × Tree) → 1 ≤ length ms → length ms < 2 → a ≡ get_or ms 0 a → spelling_in (members_view ms) ≡ spelling_in (member (string_bytes a.0) (view a.1) no_members)
one_member [] a low high is = absurd (omega (arith, low))
one_member (b ∷ []) a low high is = ap (λ m. spelling_in (member (string_bytes m.0) (view m.1) no_members)) (sym is)
one_member (b ∷ c ∷ ms) a low high is = absurd (omega (arith, high))

pub two_members : (ms : List (String Global × Tree)) → 2 ≤ length ms → spelling_in (members_view ms) ≡ None
two_members [] h = absurd (omega (arith, h))
two_members (a ∷ []) h = absurd (omega (arith, h))
two_members (a ∷ b ∷ ms) h = two (string_bytes a.0) (string_bytes b.0) (view a.1) (view b.1) (members_view ms)

-- ---- the context with `$flagd`, which begins with no point

flagd_alone : (t : Shape) → spelling_in (member (codes "$flagd") t no_members) ≡ None
flagd_alone null = refl
flagd_alone (boolean b) = refl
flagd_alone (whole n) = refl
flagd_alone other = refl
flagd_alone (text s) = refl
flagd_alone (list ts) = refl
flagd_alone (object ns) = refl

flagd_first : (t : Shape) (ms : Members) → spelling_in (member (codes "$flagd") t ms) ≡ None
flagd_first t no_members = flagd_alone t
flagd_first t (member l u ms) = two (codes "$flagd") l t u ms

-- behind another member
flagd_behind : (l : List ℕ) (u t : Shape) (ms : Members) → spelling_in (member l u (with_member (codes "$flagd") t ms)) ≡ None
unfolding with_member
flagd_behind l u t no_members = two l (codes "$flagd") u t no_members
flagd_behind l u t (member m v ms) = go (slice_cmp nat_cmp (codes "$flagd") m)
  where
    go : (o : Ordering) → spelling_in (member l u (match_ordering o (member (codes "$flagd") t (member m v ms)) (member (codes "$flagd") t ms) (member m v (with_member (codes "$flagd") t ms)))) ≡ None
    go Less = two l (codes "$flagd") u t (member m v ms)
    go Equal = two l (codes "$flagd") u t ms
    go Greater = two l m u v (with_member (codes "$flagd") t ms)

flagd_among : (t : Shape) (ms : Members) → spelling_in (with_member (codes "$flagd") t ms) ≡ None
unfolding with_member
flagd_among t no_members = flagd_alone t
flagd_among t (member m v ms) = go (slice_cmp nat_cmp (codes "$flagd") m)
  where
    go : (o : Ordering) → spelling_in (match_ordering o (member (codes "$flagd") t (member m v ms)) (member (codes "$flagd") t ms) (member m v (with_member (codes "$flagd") t ms))) ≡ None
    go Less = two (codes "$flagd") m t v ms
    go Equal = flagd_first t ms
    go Greater = flagd_behind m v t ms

pub no_context : (r : Root) → spelling_of (seen_view (seen.Context r)) ≡ None
no_context r = flagd_among (view r.flagd.now) (members_view r.members.now)

-- ---- the scope of the body of `reduce`

pub no_fold : (so_far current : Bor Value) → spelling_of (seen_view (seen.Fold so_far current)) ≡ None
no_fold so_far current = two (codes "accumulator") (codes "current") (value_view so_far.now) (value_view current.now) no_members
