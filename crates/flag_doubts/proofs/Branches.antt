-- The branches of an `if`, a pair of a test and a branch at a time, and the arguments of an `and` or `or`, one at a time.
use Rattle.std.proofs.Common.{◌≡◌, ℕ, ◌+◌, ◌<◌, Bool, true, false, ◌||◌, List, ◌∷◌, length, get_or, drop, Option, Some, None, option_map, refl, ap, sym, ◌∙◌, arith}
use Rattle.std.proofs.lemmas.List.{drop_all, get_or_default}
use Rattle.std.proofs.lemmas.List.Folds.{list_any-append}
use Rattle.std.specs.Bool.{beq}
use Rattle.std.specs.List.{list_any}
use Rattle.logic_ast.specs.View.{node_view, nodes_view}
use Rattle.logic_ast.specs.declared.node.Node.{Node}
use Rattle.logic_values.proofs.Items.{drop_at}
use Rattle.logic_values.specs.Comparison.{bool_eq}
use Rattle.flag_doubts.specs.Outcomes.{Outcome, by_test, literal_truth, outcomes, branches, arguments}

-- a test of two truths, as code writes it
pub bool_eq-same : (wanted truth : Bool) → beq truth wanted ≡ true → bool_eq wanted truth ≡ true
bool_eq-same true true e = refl
bool_eq-same true false e = e
bool_eq-same false true e = e
bool_eq-same false false e = refl

pub bool_eq-other : (wanted truth : Bool) → beq truth wanted ≡ false → bool_eq wanted truth ≡ false
bool_eq-other true true e = e
bool_eq-other true false e = refl
bool_eq-other false true e = refl
bool_eq-other false false e = e

-- two are left
two_at : (xs : List Node) (i : ℕ) (x y : Node) → i + 1 < length xs → x ≡ get_or xs i x → y ≡ get_or xs (i + 1) y → drop i xs ≡ x ∷ y ∷ drop (i + 2) xs
two_at xs i x y h is js =
    let e : i + 2 ≡ i + 1 + 1 = omega arith in
    rw e (drop_at xs i x (omega arith) is ∙ ap (λ zs. x ∷ zs) (drop_at xs (i + 1) y h js))

-- the one behind
other_of : (xs : List Node) (i : ℕ) (x : Node) → i < length xs → get_or xs i x ≡ get_or xs i (get_or xs i x)
other_of xs i x h = get_or_default xs i x (get_or xs i x) h

-- what is sought among what comes out by a test
any_of_either : (p : Outcome → Bool) (test : Option Bool) (first others : List Outcome) → None ≡ test → list_any p (by_test test first others) ≡ (list_any p first || list_any p others)
any_of_either p test first others e = ap (λ t. list_any p (by_test t first others)) (sym e) ∙ list_any-append p first others

module _ (p : Outcome → Bool) (xs : List Node) (i : ℕ) (x : Node) (is : x ≡ get_or xs i x) (h : i + 1 < length xs) where
  -- a pair is left, and its branch is y
  branch_at : (y : Node) → y ≡ get_or xs (i + 1) y
      → list_any p (branches (nodes_view (drop i xs))) ≡ list_any p (by_test (literal_truth (node_view x)) (outcomes (node_view y)) (branches (nodes_view (drop (i + 2) xs))))
  branch_at y js = ap (λ zs. list_any p (branches (nodes_view zs))) (two_at xs i x y h is js)

  pub branch_open : (y : Node) → y ≡ get_or xs (i + 1) y → None ≡ literal_truth (node_view x)
      → list_any p (branches (nodes_view (drop i xs))) ≡ (list_any p (outcomes (node_view y)) || list_any p (branches (nodes_view (drop (i + 2) xs))))
  branch_open y js e = branch_at y js ∙ any_of_either p _ _ _ e

  pub branch_taken : (y : Node) → y ≡ get_or xs (i + 1) y → Some true ≡ literal_truth (node_view x)
      → list_any p (branches (nodes_view (drop i xs))) ≡ list_any p (outcomes (node_view y))
  branch_taken y js e = branch_at y js ∙ ap (λ t. list_any p (by_test t (outcomes (node_view y)) (branches (nodes_view (drop (i + 2) xs))))) (sym e)

  pub branch_passed : Some false ≡ literal_truth (node_view x) → list_any p (branches (nodes_view (drop i xs))) ≡ list_any p (branches (nodes_view (drop (i + 2) xs)))
  branch_passed e =
      let y = get_or xs (i + 1) x in
      branch_at y (other_of xs (i + 1) x h) ∙ ap (λ t. list_any p (by_test t (outcomes (node_view y)) (branches (nodes_view (drop (i + 2) xs))))) (sym e)

  module _ (wanted : Bool) where
    -- an argument is left that is not the last
    argument_at : list_any p (arguments wanted (nodes_view (drop i xs)))
        ≡ list_any p (by_test (option_map (bool_eq wanted) (literal_truth (node_view x))) (outcomes (node_view x)) (arguments wanted (nodes_view (drop (i + 1) xs))))
    argument_at =
        let y = get_or xs (i + 1) x in
        let js : y ≡ get_or xs (i + 1) y = other_of xs (i + 1) x h in
        let two : i + 1 + 1 ≡ i + 2 = omega arith in
        rw (two_at xs i x y h is js, drop_at xs (i + 1) y h js, two) refl

    pub argument_open : None ≡ literal_truth (node_view x)
        → list_any p (arguments wanted (nodes_view (drop i xs))) ≡ (list_any p (outcomes (node_view x)) || list_any p (arguments wanted (nodes_view (drop (i + 1) xs))))
    argument_open e = argument_at ∙ any_of_either p _ _ _ (ap (option_map (bool_eq wanted)) e)

    -- its truth is known, and so it is whether this is the wanted one
    argument_tested : (truth found : Bool) → Some truth ≡ literal_truth (node_view x) → bool_eq wanted truth ≡ found
        → list_any p (arguments wanted (nodes_view (drop i xs))) ≡ list_any p (by_test (Some found) (outcomes (node_view x)) (arguments wanted (nodes_view (drop (i + 1) xs))))
    argument_tested truth found e f =
        argument_at
        ∙ ap (λ t. list_any p (by_test t (outcomes (node_view x)) (arguments wanted (nodes_view (drop (i + 1) xs))))) (ap (option_map (bool_eq wanted)) (sym e) ∙ ap Some f)

    pub argument_taken : (truth : Bool) → Some truth ≡ literal_truth (node_view x) → bool_eq wanted truth ≡ true
        → list_any p (arguments wanted (nodes_view (drop i xs))) ≡ list_any p (outcomes (node_view x))
    argument_taken truth e f = argument_tested truth true e f

    pub argument_passed : (truth : Bool) → Some truth ≡ literal_truth (node_view x) → bool_eq wanted truth ≡ false
        → list_any p (arguments wanted (nodes_view (drop i xs))) ≡ list_any p (arguments wanted (nodes_view (drop (i + 1) xs)))
    argument_passed truth e f = argument_tested truth false e f

-- the last argument
pub argument_last : (p : Outcome → Bool) (wanted : Bool) (xs : List Node) (i : ℕ) (x : Node) → x ≡ get_or xs i x → i + 1 ≡ length xs
    → list_any p (arguments wanted (nodes_view (drop i xs))) ≡ list_any p (outcomes (node_view x))
argument_last p wanted xs i x is h = rw (drop_at xs i x (omega arith) is, drop_all (i + 1) xs (omega arith)) refl

-- the last branch
pub branch_last : (p : Outcome → Bool) (xs : List Node) (i : ℕ) (x : Node) → x ≡ get_or xs i x → i + 1 ≡ length xs
    → list_any p (branches (nodes_view (drop i xs))) ≡ list_any p (outcomes (node_view x))
branch_last p xs i x is h = rw (drop_at xs i x (omega arith) is, drop_all (i + 1) xs (omega arith)) refl
