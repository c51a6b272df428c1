-- What an expression gives, by its first step.
use Rattle.std.proofs.Common.{◌≡◌, ◌≢◌, ℕ, ◌+◌, ◌<◌, ◌≤◌, ◌||◌, Bool, true, false, not, List, [], ◌∷◌, length, get_or, drop, Option, Ok, Err, Vec, Global, refl, sym, ap, ◌∙◌, arith}
use Rattle.std.specs.Prelude.{if◌then◌else◌}
use Rattle.std.proofs.lemmas.List.{drop_all, get_or_default}
use Rattle.flag_text.specs.declared.tree.Tree.{Tree}
use Rattle.flag_text.specs.Shape.{Shape, null, has_other}
use Rattle.flag_text.specs.View.{view}
use Rattle.logic_ast.specs.declared.node.Node.{Node, fold-roll-Node, ind-Node, roll-Node, the_lemmas}
use Rattle.logic_ast.specs.declared.node.Node.TheOpen.{Node-F}
use Rattle.logic_ast.specs.declared.node.Node.TheVariants as node
use Rattle.logic_ast.specs.declared.operator.Operator.{Operator}
use Rattle.logic_ast.specs.declared.operator.Operator.TheVariants as op
use Rattle.logic_ast.specs.Expression.{Expression, Expressions, literal, operation}
use Rattle.logic_ast.specs.Expression as ast
use Rattle.logic_ast.specs.View.{node_view, nodes_view, view_step}
use Rattle.logic_values.specs.declared.fault.EvalFault.{EvalFault}
use Rattle.logic_values.specs.declared.fault.EvalFault.TheVariants.{Arithmetic}
use Rattle.logic_eval.specs.Budget.{Progress, paid}
use Rattle.logic_values.specs.Comparison.{bool_eq}
use Rattle.logic_eval.specs.Evaluated.{tested_meaning, tested_meanings, tested_operation, conditional_meanings, truth_meanings}
use Rattle.logic_eval.specs.Evaluation.{meaning, meanings, operands, operand_meaning}
use Rattle.logic_eval.specs.Operators.{Meaning, values, applied_exactly, asked, compares, operated, strict, conditional, first_of_truth, found, read, is_unreadable, read_decimal}
use Rattle.logic_eval.specs.Run.{cost, spends, ends, gives, after, ◌>>=◌}
use Rattle.logic_eval.specs.Scope.{size}
use Rattle.logic_values.specs.Truth.{is_true}
use Rattle.logic_eval.proofs.Budgets.{bind_ok, bind_err, cost_ok, cost_err, ends_ok, ends_err, paid-gives}
use Rattle.logic_values.proofs.Items.{drop_at}

pub node_view-literal : (t : Tree) → node_view (node.Literal t) ≡ literal (view t)
node_view-literal t = simp the_lemmas refl

pub node_view-list : (v : Vec Node Global) → node_view (node.List v) ≡ ast.list (nodes_view v.items)
node_view-list v = simp the_lemmas refl

pub node_view-operation : (o : Operator) (v : Vec Node Global) → node_view (node.Operation o v) ≡ operation o (nodes_view v.items)
node_view-operation o v = simp the_lemmas refl

-- a node is paid for as the expression that it is
pub as_seen : (d : Option (List ℕ)) (scope : Shape) (p : Progress) (n : Node) (e : Expression) → node_view n ≡ e → paid p (meaning d (node_view n) scope) ≡ paid p (meaning d e scope)
as_seen d scope p n e is = ap (λ x. paid p (meaning d x scope)) is

-- the same where it is compared or tested
pub operand_seen : (d : Option (List ℕ)) (scope : Shape) (p : Progress) (n : Node) (e : Expression) → node_view n ≡ e → paid p (operand_meaning d (node_view n) scope) ≡ paid p (operand_meaning d e scope)
operand_seen d scope p n e is = ap (λ x. paid p (operand_meaning d x scope)) is

-- a value that can be read, and one that can't
pub read_ok : (p : Progress) (v : Shape) → has_other v ≡ false → paid p (read v) ≡ Ok (v, p)
read_ok p v e = ends_ok p _ v (rw e refl)

pub read_err : (p : Progress) (v : Shape) → has_other v ≡ true → paid p (read v) ≡ Err Arithmetic
read_err p v e = ends_err p _ Arithmetic (rw e refl)

-- the same where it is compared or tested
pub read_decimal_ok : (p : Progress) (v : Shape) → is_unreadable v ≡ false → paid p (read_decimal v) ≡ Ok (v, p)
read_decimal_ok p v e = ends_ok p _ v (rw e refl)

pub read_decimal_err : (p : Progress) (v : Shape) → is_unreadable v ≡ true → paid p (read_decimal v) ≡ Err Arithmetic
read_decimal_err p v e = ends_err p _ Arithmetic (rw e refl)

-- a value that was found is paid for by its size
pub found_ok : (p q : Progress) (v : Shape) (u : Unit {0}) → paid p (spends (size v)) ≡ Ok (u, q) → paid p (found v) ≡ Ok (v, q)
found_ok p q v u e = cost_ok p (size v) (gives v) u q e ∙ paid-gives q v

pub found_err : (p : Progress) (v : Shape) (e : EvalFault) → paid p (spends (size v)) ≡ Err e → paid p (found v) ≡ Err e
found_err p v e h = cost_err p (size v) (gives v) e h

-- an operator that takes the values of all its arguments
pub operated-other : (o : Operator) (ms : List Meaning) → o ≢ op.Var → o ≢ op.If → o ≢ op.And → o ≢ op.Or → o ≢ op.Map → o ≢ op.Filter → o ≢ op.AllOf → o ≢ op.SomeOf → o ≢ op.NoneOf → o ≢ op.Reduce
    → operated o ms ≡ strict o ms
operated-other op.Var ms a b c d e f g h i j = absurd (a refl)
operated-other op.If ms a b c d e f g h i j = absurd (b refl)
operated-other op.And ms a b c d e f g h i j = absurd (c refl)
operated-other op.Or ms a b c d e f g h i j = absurd (d refl)
operated-other op.Map ms a b c d e f g h i j = absurd (e refl)
operated-other op.Filter ms a b c d e f g h i j = absurd (f refl)
operated-other op.AllOf ms a b c d e f g h i j = absurd (g refl)
operated-other op.SomeOf ms a b c d e f g h i j = absurd (h refl)
operated-other op.NoneOf ms a b c d e f g h i j = absurd (i refl)
operated-other op.Reduce ms a b c d e f g h i j = absurd (j refl)
operated-other _ ms a b c d e f g h i j = refl

pub asked-other : (o : Operator) (ms operands : List Meaning) → o ≢ op.If → o ≢ op.And → asked o ms operands ≡ (if compares o then operands else ms)
asked-other op.If ms operands a b = absurd (a refl)
asked-other op.And ms operands a b = absurd (b refl)
asked-other _ ms operands a b = refl

-- an operator that takes the values of all its arguments, which are compared or tested or are not
pub strict-asked : (o : Operator) (d : Option (List ℕ)) (es : Expressions) (scope : Shape) (tested : Bool) → tested ≡ compares o → o ≢ op.If → o ≢ op.And
    → strict o (asked o (meanings d es) (operands d es)) scope ≡ (values (tested_meanings tested d es) scope >>= λ vs. ends (applied_exactly o scope vs))
strict-asked o d es scope tested is a b = ap (λ ms. strict o ms scope) (asked-other o (meanings d es) (operands d es) a b ∙ ap (λ t. tested_meanings t d es) (sym is))

-- an operation that is compared or tested
pub operand-operation : (d : Option (List ℕ)) (o : Operator) (es : Expressions) → operand_meaning d (operation o es) ≡ (λ scope. after (cost 1) (tested_operation o d es scope))
operand-operation d o es = refl

pub tested-other : (o : Operator) (d : Option (List ℕ)) (es : Expressions) → o ≢ op.Var → o ≢ op.And → o ≢ op.Or → tested_operation o d es ≡ operated o (asked o (meanings d es) (operands d es))
tested-other op.Var d es a b c = absurd (a refl)
tested-other op.And d es a b c = absurd (b refl)
tested-other op.Or d es a b c = absurd (c refl)
tested-other _ d es a b c = refl

abbrev is_operation : Expression → Bool
is_operation (operation o es) = true
is_operation e = false

operand-other : (d : Option (List ℕ)) (e : Expression) → is_operation e ≡ false → operand_meaning d e ≡ meaning d e
operand-other d (literal t) f = refl
operand-other d (ast.list es) f = refl
operand-other d (operation o es) f = absurd (cc)
operand-other d (ast.fractional n b bs) f = refl

-- a node that is compared or tested, and is no operation
operand-layer : (d : Option (List ℕ)) (x : Node-F Node) → ((o : Operator) (v : Vec Node Global) → roll-Node x ≡ node.Operation o v → ⊥) → operand_meaning d (node_view (roll-Node x)) ≡ meaning d (node_view (roll-Node x))
operand-layer d (Node-F.Literal t) h = operand-other d (node_view (roll-Node (Node-F.Literal t))) (ap is_operation (fold-roll-Node Expression view_step (Node-F.Literal t)))
operand-layer d (Node-F.List v) h = operand-other d (node_view (roll-Node (Node-F.List v))) (ap is_operation (fold-roll-Node Expression view_step (Node-F.List v)))
operand-layer d (Node-F.Operation o v) h = absurd (h o v (node.rolls-Operation o v))
operand-layer d (Node-F.Fractional site b bs) h = operand-other d (node_view (roll-Node (Node-F.Fractional site b bs))) (ap is_operation (fold-roll-Node Expression view_step (Node-F.Fractional site b bs)))

pub operand-node : (d : Option (List ℕ)) (n : Node) → ((o : Operator) (v : Vec Node Global) → n ≡ node.Operation o v → ⊥) → operand_meaning d (node_view n) ≡ meaning d (node_view n)
operand-node d = ind-Node (λ n. ((o : Operator) (v : Vec Node Global) → n ≡ node.Operation o v → ⊥) → operand_meaning d (node_view n) ≡ meaning d (node_view n)) (λ x y is. operand-layer d x)

-- `if`, where a pair is left
two_at : (xs : List Node) (i : ℕ) (x y : Node) → i + 1 < length xs → x ≡ get_or xs i x → y ≡ get_or xs (i + 1) y → drop i xs ≡ x ∷ y ∷ drop (i + 2) xs
two_at xs i x y h is js =
    let e : i + 2 ≡ i + 1 + 1 = omega arith in
    rw e (drop_at xs i x (omega arith) is ∙ ap (λ zs. x ∷ zs) (drop_at xs (i + 1) y h js))

-- the second of a pair
other_of : (xs : List Node) (i : ℕ) (x : Node) → i < length xs → get_or xs i x ≡ get_or xs i (get_or xs i x)
other_of xs i x h = get_or_default xs i x (get_or xs i x) h

pub conditional_err : (d : Option (List ℕ)) (scope : Shape) (xs : List Node) (i : ℕ) (x : Node) (p : Progress) (e : EvalFault) → i + 1 < length xs → x ≡ get_or xs i x
    → paid p (operand_meaning d (node_view x) scope) ≡ Err e
    → paid p (conditional (conditional_meanings d (nodes_view (drop i xs))) scope) ≡ Err e
conditional_err d scope xs i x p e h is f = rw (two_at xs i x (get_or xs (i + 1) x) h is (other_of xs (i + 1) x h)) (bind_err p _ _ e f)

pub conditional_true : (d : Option (List ℕ)) (scope : Shape) (xs : List Node) (i : ℕ) (x y : Node) (p q : Progress) (v : Shape) → i + 1 < length xs → x ≡ get_or xs i x → y ≡ get_or xs (i + 1) y
    → paid p (operand_meaning d (node_view x) scope) ≡ Ok (v, q) → is_true v ≡ true
    → paid p (conditional (conditional_meanings d (nodes_view (drop i xs))) scope) ≡ paid q (meaning d (node_view y) scope)
conditional_true d scope xs i x y p q v h is js e t = rw (two_at xs i x y h is js) (bind_ok p _ _ v q e ∙ rw t refl)

pub conditional_false : (d : Option (List ℕ)) (scope : Shape) (xs : List Node) (i : ℕ) (x : Node) (p q : Progress) (v : Shape) → i + 1 < length xs → x ≡ get_or xs i x
    → paid p (operand_meaning d (node_view x) scope) ≡ Ok (v, q) → is_true v ≡ false
    → paid p (conditional (conditional_meanings d (nodes_view (drop i xs))) scope) ≡ paid q (conditional (conditional_meanings d (nodes_view (drop (i + 2) xs))) scope)
conditional_false d scope xs i x p q v h is e t = rw (two_at xs i x (get_or xs (i + 1) x) h is (other_of xs (i + 1) x h)) (bind_ok p _ _ v q e ∙ rw t refl)

-- the last argument alone, and none
pub conditional_last : (d : Option (List ℕ)) (scope : Shape) (xs : List Node) (i : ℕ) (x : Node) → i + 1 ≡ length xs → x ≡ get_or xs i x
    → conditional (conditional_meanings d (nodes_view (drop i xs))) scope ≡ meaning d (node_view x) scope
conditional_last d scope xs i x h is = rw (drop_at xs i x (omega arith) is, drop_all (i + 1) xs (omega arith)) refl

pub conditional_end : (d : Option (List ℕ)) (scope : Shape) (xs : List Node) (i : ℕ) → length xs ≤ i → conditional (conditional_meanings d (nodes_view (drop i xs))) scope ≡ gives null
conditional_end d scope xs i h = rw (drop_all i xs h) refl

-- an argument that may be a decimal early
pub early_seen : (early k w : Bool) (d : Option (List ℕ)) (scope : Shape) (p : Progress) (x : Node) → early ≡ (k || not w)
    → paid p (tested_meaning (k || not w) d (node_view x) scope) ≡ paid p (tested_meaning early d (node_view x) scope)
early_seen early k w d scope p x is = ap (λ b. paid p (tested_meaning b d (node_view x) scope)) (sym is)

-- `and` and `or`, where more than one is left
pub first_of_truth_err : (w k : Bool) (d : Option (List ℕ)) (scope : Shape) (xs : List Node) (i : ℕ) (x : Node) (p : Progress) (e : EvalFault) → i + 1 < length xs → x ≡ get_or xs i x
    → paid p (tested_meaning (k || not w) d (node_view x) scope) ≡ Err e
    → paid p (first_of_truth w (truth_meanings w k d (nodes_view (drop i xs))) scope) ≡ Err e
first_of_truth_err true true d scope xs i x p e h is f = rw (two_at xs i x (get_or xs (i + 1) x) h is (other_of xs (i + 1) x h)) (bind_err p _ _ e f)
first_of_truth_err true false d scope xs i x p e h is f = rw (two_at xs i x (get_or xs (i + 1) x) h is (other_of xs (i + 1) x h)) (bind_err p _ _ e f)
first_of_truth_err false true d scope xs i x p e h is f = rw (two_at xs i x (get_or xs (i + 1) x) h is (other_of xs (i + 1) x h)) (bind_err p _ _ e f)
first_of_truth_err false false d scope xs i x p e h is f = rw (two_at xs i x (get_or xs (i + 1) x) h is (other_of xs (i + 1) x h)) (bind_err p _ _ e f)

pub first_of_truth_found : (w k : Bool) (d : Option (List ℕ)) (scope : Shape) (xs : List Node) (i : ℕ) (x : Node) (p q : Progress) (v : Shape) → i + 1 < length xs → x ≡ get_or xs i x
    → paid p (tested_meaning (k || not w) d (node_view x) scope) ≡ Ok (v, q) → bool_eq w (is_true v) ≡ true
    → paid p (first_of_truth w (truth_meanings w k d (nodes_view (drop i xs))) scope) ≡ Ok (v, q)
first_of_truth_found true true d scope xs i x p q v h is e t = rw (two_at xs i x (get_or xs (i + 1) x) h is (other_of xs (i + 1) x h)) (bind_ok p _ _ v q e ∙ rw t (paid-gives q v))
first_of_truth_found true false d scope xs i x p q v h is e t = rw (two_at xs i x (get_or xs (i + 1) x) h is (other_of xs (i + 1) x h)) (bind_ok p _ _ v q e ∙ rw t (paid-gives q v))
first_of_truth_found false true d scope xs i x p q v h is e t = rw (two_at xs i x (get_or xs (i + 1) x) h is (other_of xs (i + 1) x h)) (bind_ok p _ _ v q e ∙ rw t (paid-gives q v))
first_of_truth_found false false d scope xs i x p q v h is e t = rw (two_at xs i x (get_or xs (i + 1) x) h is (other_of xs (i + 1) x h)) (bind_ok p _ _ v q e ∙ rw t (paid-gives q v))

pub first_of_truth_next : (w k : Bool) (d : Option (List ℕ)) (scope : Shape) (xs : List Node) (i : ℕ) (x : Node) (p q : Progress) (v : Shape) → i + 1 < length xs → x ≡ get_or xs i x
    → paid p (tested_meaning (k || not w) d (node_view x) scope) ≡ Ok (v, q) → bool_eq w (is_true v) ≡ false
    → paid p (first_of_truth w (truth_meanings w k d (nodes_view (drop i xs))) scope) ≡ paid q (first_of_truth w (truth_meanings w k d (nodes_view (drop (i + 1) xs))) scope)
first_of_truth_next true true d scope xs i x p q v h is e t =
    let y = get_or xs (i + 1) x in
    let js : y ≡ get_or xs (i + 1) y = other_of xs (i + 1) x h in
    let two : i + 1 + 1 ≡ i + 2 = omega arith in
    rw (two_at xs i x y h is js) (bind_ok p _ _ v q e ∙ rw (t, drop_at xs (i + 1) y h js, two) refl)
first_of_truth_next true false d scope xs i x p q v h is e t =
    let y = get_or xs (i + 1) x in
    let js : y ≡ get_or xs (i + 1) y = other_of xs (i + 1) x h in
    let two : i + 1 + 1 ≡ i + 2 = omega arith in
    rw (two_at xs i x y h is js) (bind_ok p _ _ v q e ∙ rw (t, drop_at xs (i + 1) y h js, two) refl)
first_of_truth_next false true d scope xs i x p q v h is e t =
    let y = get_or xs (i + 1) x in
    let js : y ≡ get_or xs (i + 1) y = other_of xs (i + 1) x h in
    let two : i + 1 + 1 ≡ i + 2 = omega arith in
    rw (two_at xs i x y h is js) (bind_ok p _ _ v q e ∙ rw (t, drop_at xs (i + 1) y h js, two) refl)
first_of_truth_next false false d scope xs i x p q v h is e t =
    let y = get_or xs (i + 1) x in
    let js : y ≡ get_or xs (i + 1) y = other_of xs (i + 1) x h in
    let two : i + 1 + 1 ≡ i + 2 = omega arith in
    rw (two_at xs i x y h is js) (bind_ok p _ _ v q e ∙ rw (t, drop_at xs (i + 1) y h js, two) refl)

pub first_of_truth_last : (w k : Bool) (d : Option (List ℕ)) (scope : Shape) (xs : List Node) (i : ℕ) (x : Node) → i + 1 ≡ length xs → x ≡ get_or xs i x
    → first_of_truth w (truth_meanings w k d (nodes_view (drop i xs))) scope ≡ tested_meaning k d (node_view x) scope
first_of_truth_last true true d scope xs i x h is = rw (drop_at xs i x (omega arith) is, drop_all (i + 1) xs (omega arith)) refl
first_of_truth_last true false d scope xs i x h is = rw (drop_at xs i x (omega arith) is, drop_all (i + 1) xs (omega arith)) refl
first_of_truth_last false true d scope xs i x h is = rw (drop_at xs i x (omega arith) is, drop_all (i + 1) xs (omega arith)) refl
first_of_truth_last false false d scope xs i x h is = rw (drop_at xs i x (omega arith) is, drop_all (i + 1) xs (omega arith)) refl

pub first_of_truth_none : (w k : Bool) (d : Option (List ℕ)) (scope : Shape) (xs : List Node) → length xs ≡ 0 → first_of_truth w (truth_meanings w k d (nodes_view xs)) scope ≡ gives null
first_of_truth_none true true d scope [] h = refl
first_of_truth_none true false d scope [] h = refl
first_of_truth_none false true d scope [] h = refl
first_of_truth_none false false d scope [] h = refl
first_of_truth_none w k d scope (x ∷ xs) h = absurd (omega arith)
