-- Members before others, and a member put in its place by name.
use Rattle.std.proofs.Common.{◌≡◌, ℕ, ◌<◌, ◌≤◌, ◌+◌, length, get_or, take, drop, length-drop, arith, List, [], ◌∷◌, ◌++◌, Vec, String, string_bytes, Global, rules, refl, ap}
use Rattle.std.specs.Ordering.{nat_cmp}
use Rattle.std.specs.declared.cmp.Ordering.TheVariants.{Less, Equal, Greater}
use Rattle.std.specs.Cmp.Lexicographic.{slice_cmp}
use Rattle.std.proofs.lemmas.List.{drop_all, take_all}
use Rattle.flag_text.specs.declared.tree.Tree.{Tree, the_lemmas}
use Rattle.flag_text.specs.declared.tree.Tree.TheVariants as tree
use Rattle.flag_text.specs.Shape.{Shape, object, Members, no_members, member}
use Rattle.flag_text.specs.View.{view, members_view}
use Rattle.logic_values.specs.Objects.{with_member}
use Rattle.logic_values.specs.Views.{before}
use Rattle.logic_values.proofs.Items.{drop_at}

pub view_object : (v : Vec (String Global × Tree) Global) → view (tree.Object v) ≡ object (members_view v.items)
view_object v = search (rules, the_lemmas)

-- one more member before the others
pub before_one_more : (new ms : List (String Global × Tree)) (m : String Global × Tree) (k : List ℕ) (t : Shape) → new ≡ ms ++ m ∷ [] → string_bytes m.0 ≡ k → view m.1 ≡ t
    → (rest : Members) → before new rest ≡ before ms (member k t rest)
before_one_more new ms m k t is e f rest = rw is (go ms)
  where
    go : (ns : List (String Global × Tree)) → before (ns ++ m ∷ []) rest ≡ before ns (member k t rest)
    go [] = rw (e, f) refl
    go (n ∷ ns) = ap (member (string_bytes n.0) (view n.1)) (go ns)

pub before_none : (ms : List (String Global × Tree)) → before ms no_members ≡ members_view ms
before_none [] = refl
before_none (m ∷ ms) = ap (member (string_bytes m.0) (view m.1)) (before_none ms)

-- where a member is put among those from i on
module _ (k : List ℕ) (t : Shape) (xs : List (String Global × Tree)) (i : ℕ) where
  pub with_less : (m : String Global × Tree) → i < length xs → m ≡ get_or xs i m → slice_cmp nat_cmp k (string_bytes m.0) ≡ Less
      → with_member k t (members_view (drop i xs)) ≡ member k t (members_view (drop i xs))
  unfolding with_member
  with_less m h is e = rw (drop_at xs i m h is, e) refl

  pub with_equal : (m : String Global × Tree) → i < length xs → m ≡ get_or xs i m → slice_cmp nat_cmp k (string_bytes m.0) ≡ Equal
      → with_member k t (members_view (drop i xs)) ≡ member k t (members_view (drop (i + 1) xs))
  unfolding with_member
  with_equal m h is e = rw (drop_at xs i m h is, e) refl

  pub with_greater : (m : String Global × Tree) → i < length xs → m ≡ get_or xs i m → slice_cmp nat_cmp k (string_bytes m.0) ≡ Greater
      → with_member k t (members_view (drop i xs)) ≡ member (string_bytes m.0) (view m.1) (with_member k t (members_view (drop (i + 1) xs)))
  unfolding with_member
  with_greater m h is e = rw (drop_at xs i m h is, e) refl

  pub with_end : length xs ≤ i → with_member k t (members_view (drop i xs)) ≡ member k t no_members
  unfolding with_member
  with_end h = rw (drop_all i xs h) refl

-- a slice up to the end
pub tail_all : {A : Type 0} (xs : List A) (j n : ℕ) → length xs ≤ n + j → take n (drop j xs) ≡ drop j xs
tail_all xs j n h = take_all n (drop j xs) (simp length-drop (omega arith))
