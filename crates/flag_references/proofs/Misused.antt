-- The place of the first operation that is wrong in itself, and the fault that an expression has there.
use Rattle.std.proofs.Common.{◌≡◌, ◌≤◌, ℕ, suc, ◌+◌, List, [], ◌∷◌, length, String, Global, Bool, true, false, not, ◌&&◌, ◌||◌, cond, Option, Some, None, is_some, option_map, option_and_then, refl, sym, ap, ◌∙◌, arith}
use Rattle.flag_text.specs.Shape.{Shape, null, boolean, whole, other, text, list, object, Items, no_items, item, no_members, member}
use Rattle.flag_text.specs.View.{members_view}
use Rattle.flag_text.specs.declared.tree.Tree.{Tree}
use Rattle.logic_ast.proofs.Misused.{operation-misuse}
use Rattle.logic_ast.specs.FirstFault.{first, expression_fault, expressions_fault}
use Rattle.logic_ast.specs.Misuse.{misuse_of, fault_of}
use Rattle.logic_ast.specs.declared.fault.LogicFault.{LogicFault}
use Rattle.logic_ast.specs.declared.misuse.Misuse.{Misuse}
use Rattle.flag_references.specs.Inlining.{name_in, has_reference, items_have_reference}
use Rattle.flag_references.specs.Misplaced.{has_misuse, any_has_misuse, object_has_misuse, first_misused, here_or_inside, object_place, misuse_place, item_at, fault_at}
use Rattle.flag_references.specs.declared.misplaced.MisusePlace.{MisusePlace}
use Rattle.flag_references.specs.declared.misplaced.MisusePlace.TheVariants.{Inside}

pub object_has_misuse-several : (ms : List (String Global × Tree)) → 2 ≤ length ms → object_has_misuse (members_view ms) ≡ false
object_has_misuse-several [] h = absurd (omega arith)
object_has_misuse-several (m ∷ []) h = absurd (omega arith)
object_has_misuse-several (m ∷ n ∷ ms) h = refl

pub object_place-several : (ms : List (String Global × Tree)) → 2 ≤ length ms → object_place (members_view ms) ≡ None
object_place-several [] h = absurd (omega arith)
object_place-several (m ∷ []) h = absurd (omega arith)
object_place-several (m ∷ n ∷ ms) h = refl

or-left : (a b : Bool) → (a || b) ≡ false → a ≡ false
or-left true b h = h
or-left false b h = refl

or-right : (a b : Bool) → (a || b) ≡ false → b ≡ false
or-right true b h = cc
or-right false b h = h

first-some : (f g : Option LogicFault) → is_some f ≡ true → first f g ≡ f
first-some None g h = cc
first-some (Some x) g h = refl

first-none : (f g : Option LogicFault) → is_some f ≡ false → first f g ≡ g
first-none None g h = refl
first-none (Some x) g h = cc

some-first : (f g : Option LogicFault) → is_some (first f g) ≡ (is_some f || is_some g)
some-first None g = refl
some-first (Some x) g = refl

some-fault : (o : Option Misuse) → is_some (option_map fault_of o) ≡ is_some o
some-fault None = refl
some-fault (Some m) = refl

-- ---- there is such an operation exactly where an expression has a fault

no_reference : (a : Bool) (x : Bool) → a ≡ false → (not a && x) ≡ x
no_reference true x h = cc
no_reference false x h = refl

mutual
  pub misuse-fault : (t : Shape) → has_reference t ≡ false → has_misuse t ≡ is_some (expression_fault t)
  misuse-fault null h = refl
  misuse-fault (boolean b) h = refl
  misuse-fault (whole n) h = refl
  misuse-fault other h = refl
  misuse-fault (text s) h = refl
  misuse-fault (list ts) h = items-fault ts h
  misuse-fault (object no_members) h = refl
  misuse-fault (object (member k t no_members)) h =
      let none = or-left (is_some (name_in k t)) (has_reference t || false) h in
      let inside = or-left (has_reference t) false (or-right (is_some (name_in k t)) (has_reference t || false) h) in
      no_reference (is_some (name_in k t)) (is_some (misuse_of k t) || has_misuse t) none
      ∙ (ap (λ b. is_some (misuse_of k t) || b) (misuse-fault t inside)
      ∙ (ap (λ b. b || is_some (expression_fault t)) (sym (some-fault (misuse_of k t)))
      ∙ (sym (some-first (option_map fault_of (misuse_of k t)) (expression_fault t)) ∙ ap is_some (sym (operation-misuse k t)))))
  misuse-fault (object (member k t (member l u ms))) h = refl

  items-fault : (ts : Items) → items_have_reference ts ≡ false → any_has_misuse ts ≡ is_some (expressions_fault ts)
  items-fault no_items h = refl
  items-fault (item t ts) h =
      ap (λ b. b || any_has_misuse ts) (misuse-fault t (or-left (has_reference t) (items_have_reference ts) h))
      ∙ (ap (λ b. is_some (expression_fault t) || b) (items-fault ts (or-right (has_reference t) (items_have_reference ts) h))
      ∙ sym (some-first (expression_fault t) (expressions_fault ts)))

-- ---- and it has that fault

shift-by : (b : Bool) (n : ℕ) (ts : Items) → first_misused (suc (n + 1)) ts ≡ option_map suc (first_misused (n + 1) ts)
    → cond b (Some (suc n)) (first_misused (suc n + 1) ts) ≡ option_map suc (cond b (Some n) (first_misused (n + 1) ts))
shift-by true n ts h = refl
shift-by false n ts h = let e : suc n + 1 ≡ suc (n + 1) = omega arith in ap (λ k. first_misused k ts) e ∙ h

shift : (n : ℕ) (ts : Items) → first_misused (suc n) ts ≡ option_map suc (first_misused n ts)
shift n no_items = refl
shift n (item t ts) = shift-by (has_misuse t) n ts (shift (n + 1) ts)

abbrev fault_in : Items → ℕ → Option LogicFault
fault_in ts n = option_and_then expression_fault (item_at n ts)

behind : (o : Option ℕ) (t : Shape) (ts : Items) → option_and_then (fault_in ts) o ≡ option_and_then (fault_in (item t ts)) (option_map suc o)
behind None t ts = refl
behind (Some n) t ts = refl

first-item : (b : Bool) (t : Shape) (ts : Items) → b ≡ is_some (expression_fault t) → expressions_fault ts ≡ option_and_then (fault_in ts) (first_misused 0 ts)
    → first (expression_fault t) (expressions_fault ts) ≡ option_and_then (fault_in (item t ts)) (cond b (Some 0) (first_misused (0 + 1) ts))
first-item true t ts h rest = first-some (expression_fault t) (expressions_fault ts) (sym h)
first-item false t ts h rest =
    first-none (expression_fault t) (expressions_fault ts) (sym h)
    ∙ (rest ∙ (behind (first_misused 0 ts) t ts ∙ ap (option_and_then (fault_in (item t ts))) (sym (shift 0 ts))))

items-tell : (ts : Items) → items_have_reference ts ≡ false → expressions_fault ts ≡ option_and_then (fault_in ts) (first_misused 0 ts)
items-tell no_items h = refl
items-tell (item t ts) h =
    first-item (has_misuse t) t ts (misuse-fault t (or-left (has_reference t) (items_have_reference ts) h)) (items-tell ts (or-right (has_reference t) (items_have_reference ts) h))

list-place : (o : Option ℕ) (ts : Items) → option_and_then (fault_in ts) o ≡ option_and_then (fault_at (list ts)) (option_map Inside o)
list-place None ts = refl
list-place (Some n) ts = refl

none-is : (f : Option LogicFault) → is_some f ≡ false → f ≡ None
none-is None h = refl
none-is (Some x) h = cc

here-inside : (o : Option Misuse) (b : Bool) (k : List ℕ) (t : Shape) → b ≡ is_some (expression_fault t)
    → first (option_map fault_of o) (expression_fault t) ≡ option_and_then (fault_at (object (member k t no_members))) (here_or_inside o b)
here-inside (Some m) b k t h = refl
here-inside None true k t h = refl
here-inside None false k t h = none-is (expression_fault t) (sym h)

no-name : (a : Bool) (o : Option MisusePlace) → a ≡ false → o ≡ cond a None o
no-name true o h = cc
no-name false o h = refl

pub place-tells : (t : Shape) → has_reference t ≡ false → expression_fault t ≡ option_and_then (fault_at t) (misuse_place t)
place-tells null h = refl
place-tells (boolean b) h = refl
place-tells (whole n) h = refl
place-tells other h = refl
place-tells (text s) h = refl
place-tells (list ts) h = items-tell ts h ∙ list-place (first_misused 0 ts) ts
place-tells (object no_members) h = refl
place-tells (object (member k t no_members)) h =
    let none = or-left (is_some (name_in k t)) (has_reference t || false) h in
    let inside = or-left (has_reference t) false (or-right (is_some (name_in k t)) (has_reference t || false) h) in
    operation-misuse k t
    ∙ (here-inside (misuse_of k t) (has_misuse t) k t (misuse-fault t inside)
    ∙ ap (option_and_then (fault_at (object (member k t no_members)))) (no-name (is_some (name_in k t)) (here_or_inside (misuse_of k t) (has_misuse t)) none))
place-tells (object (member k t (member l u ms))) h = refl

-- ---- there is a place exactly where there is such an operation

some-place : (o : Option ℕ) → is_some (option_map Inside o) ≡ is_some o
some-place None = refl
some-place (Some n) = refl

some-by : (b : Bool) (n : ℕ) (ts : Items) → is_some (first_misused (n + 1) ts) ≡ any_has_misuse ts
    → is_some (cond b (Some n) (first_misused (n + 1) ts)) ≡ (b || any_has_misuse ts)
some-by true n ts h = refl
some-by false n ts h = h

some-first_misused : (n : ℕ) (ts : Items) → is_some (first_misused n ts) ≡ any_has_misuse ts
some-first_misused n no_items = refl
some-first_misused n (item t ts) = some-by (has_misuse t) n ts (some-first_misused (n + 1) ts)

some-operation : (a b : Bool) (o : Option Misuse) → is_some (cond a None (here_or_inside o b)) ≡ (not a && (is_some o || b))
some-operation true b o = refl
some-operation false b (Some m) = refl
some-operation false true None = refl
some-operation false false None = refl

place-misuse : (t : Shape) → is_some (misuse_place t) ≡ has_misuse t
place-misuse null = refl
place-misuse (boolean b) = refl
place-misuse (whole n) = refl
place-misuse other = refl
place-misuse (text s) = refl
place-misuse (list ts) = some-place (first_misused 0 ts) ∙ some-first_misused 0 ts
place-misuse (object no_members) = refl
place-misuse (object (member k t no_members)) = some-operation (is_some (name_in k t)) (has_misuse t) (misuse_of k t)
place-misuse (object (member k t (member l u ms))) = refl

pub place-fault : (t : Shape) → has_reference t ≡ false → is_some (misuse_place t) ≡ is_some (expression_fault t)
place-fault t h = place-misuse t ∙ misuse-fault t h
