-- Requests and members, one by one.
use Rattle.std.proofs.Common.{◌≡◌, ℕ, suc, ◌+◌, ◌<◌, ◌≤◌, Bool, true, false, cond, List, [], ◌∷◌, ◌++◌, length, map, drop, get_or, String, Vec, Global, string_bytes, codes, rules, Option, Some, None, Result, Ok, Err, nat_le, refl, sym, ap, ap₂, ◌∙◌, add-one, arith, drop-cons}
use Rattle.std.specs.Str.{bytes_eq}
use Rattle.std.specs.Prelude.{◌&&◌, IfSome}
use Rattle.std.proofs.lemmas.Bool.{le-leb, leb-true}
use Rattle.flag_text.proofs.Bools.{left, right}
use Rattle.flag_text.proofs.Views.{Named}
use Rattle.flag_text.specs.Shape.{Shape, object, Items, no_items, item, Members, no_members, member}
use Rattle.flag_text.specs.View.{view, items_view, members_view}
use Rattle.flag_text.specs.declared.tree.Tree.{Tree, Object, the_lemmas}
use Rattle.ramp.specs.Steps.{item_count, some_steps, most_steps, with_totals}

pub count_view : (ts : List Tree) → item_count (items_view ts) ≡ length ts
count_view [] = refl
count_view (t ∷ ts) = ap suc (count_view ts)

-- ---- members that grow at their end

abbrev pub members_before : List Named → Members → Members
members_before [] rest = rest
members_before (m ∷ ms) rest = member (string_bytes m.0) (view m.1) (members_before ms rest)

pub before_none : (ms : List Named) → members_before ms no_members ≡ members_view ms
before_none [] = refl
before_none (m ∷ ms) = ap (member (string_bytes m.0) (view m.1)) (before_none ms)

pub before_push : (ms : List Named) (m : Named) (rest : Members) → members_before (ms ++ m ∷ []) rest ≡ members_before ms (member (string_bytes m.0) (view m.1) rest)
before_push [] m rest = refl
before_push (n ∷ ms) m rest = ap (member (string_bytes n.0) (view n.1)) (before_push ms m rest)

-- what is left from a place on
pub front : {X : Type 0} (xs : List X) (i : ℕ) (x : X) → i < length xs → x ≡ get_or xs i x → drop i xs ≡ x ∷ drop (i + 1) xs
front xs i x inside is = rw add-one (drop-cons xs i x inside ∙ ap (λ y. y ∷ drop (suc i) xs) (sym is))

-- one more member is kept
pub kept : (totals : Shape) (xs out : List Named) (i : ℕ) (x y : Named) → i < length xs → x ≡ get_or xs i x → string_bytes y.0 ≡ string_bytes x.0 → view y.1 ≡ view x.1
    → bytes_eq (string_bytes x.0) (codes "steps") ≡ false → with_totals totals (members_view xs) ≡ members_before out (with_totals totals (members_view (drop i xs)))
    → with_totals totals (members_view xs) ≡ members_before (out ++ y ∷ []) (with_totals totals (members_view (drop (i + 1) xs)))
kept totals xs out i x y inside is name value other so_far =
    let rest = with_totals totals (members_view (drop (i + 1) xs)) in
    let here : with_totals totals (members_view (drop i xs)) ≡ member (string_bytes x.0) (view x.1) rest =
    ap (λ (ms : List Named). with_totals totals (members_view ms)) (front xs i x inside is) ∙ ap (λ b. cond b (member (codes "totals") totals no_members) (member (string_bytes x.0) (view x.1) rest)) other in
    so_far ∙ ap (members_before out) (here ∙ ap₂ (λ k t. member k t rest) (sym name) (sym value)) ∙ sym (before_push out y rest)

-- the totals are put, and the members behind are left out
pub put : (totals : Shape) (xs out : List Named) (i : ℕ) (x y : Named) → i < length xs → x ≡ get_or xs i x → string_bytes y.0 ≡ codes "totals" → view y.1 ≡ totals
    → bytes_eq (string_bytes x.0) (codes "steps") ≡ true → with_totals totals (members_view xs) ≡ members_before out (with_totals totals (members_view (drop i xs)))
    → members_view (out ++ y ∷ []) ≡ with_totals totals (members_view xs)
put totals xs out i x y inside is name value steps so_far =
    let rest = with_totals totals (members_view (drop (i + 1) xs)) in
    let here : with_totals totals (members_view (drop i xs)) ≡ member (codes "totals") totals no_members =
    ap (λ (ms : List Named). with_totals totals (members_view ms)) (front xs i x inside is) ∙ ap (λ b. cond b (member (codes "totals") totals no_members) (member (string_bytes x.0) (view x.1) rest)) steps in
    sym (so_far ∙ ap (members_before out) (here ∙ ap₂ (λ k t. member k t no_members) (sym name) (sym value)) ∙ sym (before_push out y no_members) ∙ before_none (out ++ y ∷ []))

pub view-Object : (v : Vec Named Global) → view (Object v) ≡ object (members_view v.items)
view-Object v = search (rules, the_lemmas)

-- ---- so many steps as there may be

pub some_of : (ts : List Tree) → 1 ≤ length ts → length ts ≤ most_steps → some_steps (items_view ts) ≡ Some (items_view ts)
some_of ts h g = rw (count_view ts, le-leb 1 (length ts) h, le-leb (length ts) most_steps g) refl

pub none_of : (ts : List Tree) → (1 ≤ length ts → length ts ≤ most_steps → ⊥) → some_steps (items_view ts) ≡ None
none_of ts never = rw (count_view ts) (go (nat_le 1 (length ts)) (nat_le (length ts) most_steps) refl refl)
  where
    go : (a b : Bool) → nat_le 1 (length ts) ≡ a → nat_le (length ts) most_steps ≡ b → (let o : Option Items = cond (a && b) (Some (items_view ts)) None in o) ≡ None
    go true true x y = absurd (never (leb-true 1 (length ts) x) (leb-true (length ts) most_steps y))
    go true false x y = refl
    go false b x y = refl

pub some_weaker : {A : Type 0} (P Q : A → Type 0) → ((a : A) → P a → Q a) → (o : Option A) → IfSome o P → IfSome o Q
some_weaker P Q f None h = tt
some_weaker P Q f (Some a) h = f a h
