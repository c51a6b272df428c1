-- A body that runs over the items of a list, item by item.
use Rattle.std.proofs.Common.{◌≡◌, ◌≢◌, ℕ, ◌+◌, ◌<◌, ◌≤◌, Bool, true, false, List, [], ◌∷◌, length, get_or, drop, map, Option, Ok, Err, refl, sym, ap, ◌∙◌, arith}
use Rattle.std.proofs.lemmas.List.{get_or_default, drop_all}
use Rattle.std.specs.Bool.{beq}
use Rattle.std.specs.Prelude.{not}
use Rattle.flag_text.specs.Shape.{Shape, null, boolean}
use Rattle.logic_ast.specs.declared.node.Node.{Node}
use Rattle.logic_ast.specs.declared.operator.Operator.{Operator}
use Rattle.logic_ast.specs.declared.operator.Operator.TheVariants as op
use Rattle.logic_ast.specs.View.{node_view, nodes_view}
use Rattle.logic_values.specs.declared.fault.EvalFault.{EvalFault}
use Rattle.logic_values.specs.declared.value.Value.{Value}
use Rattle.logic_eval.specs.Budget.{Progress, paid}
use Rattle.logic_values.specs.Comparison.{bool_eq}
use Rattle.logic_eval.specs.Evaluation.{meaning, meanings}
use Rattle.logic_values.specs.Lists.{items_in}
use Rattle.logic_eval.specs.Operators.{Meaning, mapped, kept, occurs, reduced, all_of, over, over_items, over_from_start, start}
use Rattle.logic_values.specs.Objects.{reduce_scope}
use Rattle.logic_eval.specs.Run.{gives, ◌>>=◌}
use Rattle.logic_values.specs.Truth.{is_true}
use Rattle.logic_values.specs.Views.{value_view}
use Rattle.logic_eval.proofs.Budgets.{bind_ok, bind_err, paid-bind, paid-gives}
use Rattle.logic_values.proofs.Items.{drop_at}
use Rattle.logic_eval.proofs.Values.{prepended, prepended-if, prepended-none, before_rest}

-- a test of two truth values, as code writes it
pub bool_eq-same : (w b : Bool) → beq b w ≡ true → bool_eq w b ≡ true
bool_eq-same true true e = refl
bool_eq-same true false e = e
bool_eq-same false true e = e
bool_eq-same false false e = refl

pub bool_eq-other : (w b : Bool) → beq b w ≡ false → bool_eq w b ≡ false
bool_eq-other true true e = e
bool_eq-other true false e = refl
bool_eq-other false true e = refl
bool_eq-other false false e = e

module _ (m : Meaning) (xs : List Value) (i : ℕ) (x : Value) (within : i < length xs) (is : x ≡ get_or xs i x) where
  pub mapped_ok : (p q : Progress) (v : Shape) → paid p (m (value_view x)) ≡ Ok (v, q) → paid p (mapped m (map value_view (drop i xs))) ≡ prepended (v ∷ []) (paid q (mapped m (map value_view (drop (i + 1) xs))))
  mapped_ok p q v e = rw (drop_at xs i x within is) (before_rest p _ _ v q e)

  pub mapped_err : (p : Progress) (e : EvalFault) → paid p (m (value_view x)) ≡ Err e → paid p (mapped m (map value_view (drop i xs))) ≡ Err e
  mapped_err p e f = rw (drop_at xs i x within is) (bind_err p _ _ e f)

  pub kept_true : (p q : Progress) (v : Shape) → paid p (m (value_view x)) ≡ Ok (v, q) → is_true v ≡ true → paid p (kept m (map value_view (drop i xs))) ≡ prepended (value_view x ∷ []) (paid q (kept m (map value_view (drop (i + 1) xs))))
  kept_true p q v e t = rw (drop_at xs i x within is) (bind_ok p _ _ v q e ∙ rw t (paid-bind q _ _ ∙ prepended-if (value_view x ∷ []) _))

  pub kept_false : (p q : Progress) (v : Shape) → paid p (m (value_view x)) ≡ Ok (v, q) → is_true v ≡ false → paid p (kept m (map value_view (drop i xs))) ≡ paid q (kept m (map value_view (drop (i + 1) xs)))
  kept_false p q v e t = rw (drop_at xs i x within is) (bind_ok p _ _ v q e ∙ rw t (paid-bind q _ _ ∙ (prepended-if [] _ ∙ prepended-none _)))

  pub kept_err : (p : Progress) (e : EvalFault) → paid p (m (value_view x)) ≡ Err e → paid p (kept m (map value_view (drop i xs))) ≡ Err e
  kept_err p e f = rw (drop_at xs i x within is) (bind_err p _ _ e f)

  pub occurs_found : (w : Bool) (p q : Progress) (v : Shape) → paid p (m (value_view x)) ≡ Ok (v, q) → bool_eq w (is_true v) ≡ true → paid p (occurs w m (map value_view (drop i xs))) ≡ Ok (true, q)
  occurs_found w p q v e t = rw (drop_at xs i x within is) (bind_ok p _ _ v q e ∙ rw t (paid-gives q true))

  pub occurs_next : (w : Bool) (p q : Progress) (v : Shape) → paid p (m (value_view x)) ≡ Ok (v, q) → bool_eq w (is_true v) ≡ false → paid p (occurs w m (map value_view (drop i xs))) ≡ paid q (occurs w m (map value_view (drop (i + 1) xs)))
  occurs_next w p q v e t = rw (drop_at xs i x within is) (bind_ok p _ _ v q e ∙ rw t refl)

  pub occurs_err : (w : Bool) (p : Progress) (e : EvalFault) → paid p (m (value_view x)) ≡ Err e → paid p (occurs w m (map value_view (drop i xs))) ≡ Err e
  occurs_err w p e f = rw (drop_at xs i x within is) (bind_err p _ _ e f)

  pub reduced_ok : (so_far : Shape) (p q : Progress) (v : Shape) → paid p (m (reduce_scope so_far (value_view x))) ≡ Ok (v, q) → paid p (reduced m so_far (map value_view (drop i xs))) ≡ paid q (reduced m v (map value_view (drop (i + 1) xs)))
  reduced_ok so_far p q v e = rw (drop_at xs i x within is) (bind_ok p _ _ v q e)

  pub reduced_err : (so_far : Shape) (p : Progress) (e : EvalFault) → paid p (m (reduce_scope so_far (value_view x))) ≡ Err e → paid p (reduced m so_far (map value_view (drop i xs))) ≡ Err e
  reduced_err so_far p e f = rw (drop_at xs i x within is) (bind_err p _ _ e f)

-- `all` of no items, and of some
pub all_of_none : (m : Meaning) (xs : List Value) → length xs ≡ 0 → all_of m (map value_view xs) ≡ gives (boolean false)
all_of_none m [] h = refl
all_of_none m (x ∷ xs) h = absurd (omega arith)

pub all_of_some : (m : Meaning) (xs : List Value) → length xs ≢ 0 → all_of m (map value_view xs) ≡ (occurs false m (map value_view xs) >>= λ b. gives (boolean (not b)))
all_of_some m [] h = absurd (h refl)
all_of_some m (x ∷ xs) h = refl

-- an operator that runs no body
pub over_items-other : (o : Operator) (m : Meaning) (ts : List Shape) → o ≢ op.Map → o ≢ op.Filter → o ≢ op.AllOf → o ≢ op.SomeOf → o ≢ op.NoneOf → over_items o m ts ≡ gives null
over_items-other op.Map m ts a b c d e = absurd (a refl)
over_items-other op.Filter m ts a b c d e = absurd (b refl)
over_items-other op.AllOf m ts a b c d e = absurd (c refl)
over_items-other op.SomeOf m ts a b c d e = absurd (d refl)
over_items-other op.NoneOf m ts a b c d e = absurd (e refl)
over_items-other _ m ts a b c d e = refl

-- the first two of the arguments
pub first_two : (xs : List Node) (x y : Node) → 2 ≤ length xs → x ≡ get_or xs 0 x → y ≡ get_or xs 1 y → xs ≡ x ∷ y ∷ drop 2 xs
first_two [] x y h is js = absurd (omega arith)
first_two (a ∷ []) x y h is js = absurd (omega arith)
first_two (a ∷ b ∷ rest) x y h is js = ap (λ z. z ∷ b ∷ rest) (sym is) ∙ ap (λ z. x ∷ z ∷ rest) (sym js)

pub second_is : (xs : List Node) (x : Node) → 2 ≤ length xs → get_or xs 1 x ≡ get_or xs 1 (get_or xs 1 x)
second_is xs x h = get_or_default xs 1 x (get_or xs 1 x) (omega arith)

module _ (d : Option (List ℕ)) (scope : Shape) (xs : List Node) where
  pub over_short : (o : Operator) → length xs < 2 → over o (meanings d (nodes_view xs)) scope ≡ gives null
  over_short o h = go xs h
    where
      go : (ys : List Node) → length ys < 2 → over o (meanings d (nodes_view ys)) scope ≡ gives null
      go [] k = refl
      go (a ∷ []) k = refl
      go (a ∷ b ∷ rest) k = absurd (omega arith)

  pub over_err : (o : Operator) (x : Node) (p : Progress) (e : EvalFault) → 2 ≤ length xs → x ≡ get_or xs 0 x → paid p (meaning d (node_view x) scope) ≡ Err e
      → paid p (over o (meanings d (nodes_view xs)) scope) ≡ Err e
  over_err o x p e h is f = ap (λ ns. paid p (over o (meanings d (nodes_view ns)) scope)) (first_two xs x (get_or xs 1 x) h is (second_is xs x h)) ∙ bind_err p _ _ e f

  pub over_ok : (o : Operator) (x y : Node) (p q : Progress) (v : Shape) → 2 ≤ length xs → x ≡ get_or xs 0 x → y ≡ get_or xs 1 y → paid p (meaning d (node_view x) scope) ≡ Ok (v, q)
      → paid p (over o (meanings d (nodes_view xs)) scope) ≡ paid q (over_items o (meaning d (node_view y)) (items_in v))
  over_ok o x y p q v h is js e = ap (λ ns. paid p (over o (meanings d (nodes_view ns)) scope)) (first_two xs x y h is js) ∙ bind_ok p _ _ v q e

  pub reduce_short : length xs < 2 → over_from_start (meanings d (nodes_view xs)) scope ≡ gives null
  reduce_short h = go xs h
    where
      go : (ys : List Node) → length ys < 2 → over_from_start (meanings d (nodes_view ys)) scope ≡ gives null
      go [] k = refl
      go (a ∷ []) k = refl
      go (a ∷ b ∷ rest) k = absurd (omega arith)

  pub reduce_err : (x : Node) (p : Progress) (e : EvalFault) → 2 ≤ length xs → x ≡ get_or xs 0 x → paid p (meaning d (node_view x) scope) ≡ Err e
      → paid p (over_from_start (meanings d (nodes_view xs)) scope) ≡ Err e
  reduce_err x p e h is f = ap (λ ns. paid p (over_from_start (meanings d (nodes_view ns)) scope)) (first_two xs x (get_or xs 1 x) h is (second_is xs x h)) ∙ bind_err p _ _ e f

  pub reduce_start_err : (x : Node) (p q : Progress) (v : Shape) (e : EvalFault) → 2 ≤ length xs → x ≡ get_or xs 0 x → paid p (meaning d (node_view x) scope) ≡ Ok (v, q)
      → paid q (start (meanings d (nodes_view (drop 2 xs))) scope) ≡ Err e
      → paid p (over_from_start (meanings d (nodes_view xs)) scope) ≡ Err e
  reduce_start_err x p q v e h is f g =
      ap (λ ns. paid p (over_from_start (meanings d (nodes_view ns)) scope)) (first_two xs x (get_or xs 1 x) h is (second_is xs x h)) ∙ (bind_ok p _ _ v q f ∙ bind_err q _ _ e g)

  pub reduce_ok : (x y : Node) (p q r : Progress) (v u : Shape) → 2 ≤ length xs → x ≡ get_or xs 0 x → y ≡ get_or xs 1 y → paid p (meaning d (node_view x) scope) ≡ Ok (v, q)
      → paid q (start (meanings d (nodes_view (drop 2 xs))) scope) ≡ Ok (u, r)
      → paid p (over_from_start (meanings d (nodes_view xs)) scope) ≡ paid r (reduced (meaning d (node_view y)) u (items_in v))
  reduce_ok x y p q r v u h is js f g =
      ap (λ ns. paid p (over_from_start (meanings d (nodes_view ns)) scope)) (first_two xs x y h is js) ∙ (bind_ok p _ _ v q f ∙ bind_ok q _ _ u r g)

  pub start_none : length xs ≤ 2 → start (meanings d (nodes_view (drop 2 xs))) scope ≡ gives null
  start_none h = ap (λ ns. start (meanings d (nodes_view ns)) scope) (drop_all 2 xs h)

  pub start_some : (x : Node) → 2 < length xs → x ≡ get_or xs 2 x → start (meanings d (nodes_view (drop 2 xs))) scope ≡ meaning d (node_view x) scope
  start_some x h is = ap (λ ns. start (meanings d (nodes_view ns)) scope) (drop_at xs 2 x h is)
