-- Where an evaluation ends among the arguments of an operation, by the first of those that are left.
use Rattle.std.proofs.Common.{◌≡◌, ℕ, ◌+◌, ◌<◌, ◌≤◌, Bool, true, false, not, ◌||◌, List, [], ◌∷◌, length, get_or, drop, Option, Some, None, refl, sym, ap, ◌∙◌, arith}
use Rattle.std.proofs.lemmas.List.{drop_all, get_or_default}
use Rattle.logic_ast.specs.View.{node_view, nodes_view}
use Rattle.logic_ast.specs.declared.node.Node.{Node}
use Rattle.logic_values.specs.Comparison.{bool_eq}
use Rattle.logic_values.proofs.Items.{drop_at}
use Rattle.logic_eval.specs.Scope.{Situation}
use Rattle.decimal_reads.specs.Reads.{Course, Reading, course_of, goes_on, ends, read_by_test, read_by_truth, read_in, read_in_conditional, read_in_items, read_in_reduce, read_in_start, read_in_truth, reading_or, truth_of}

two_at : (xs : List Node) (i : ℕ) (x y : Node) → i + 1 < length xs → x ≡ get_or xs i x → y ≡ get_or xs (i + 1) y → drop i xs ≡ x ∷ y ∷ drop (i + 2) xs
two_at xs i x y h is js =
    let e : i + 2 ≡ i + 1 + 1 = omega arith in
    rw e (drop_at xs i x (omega arith) is ∙ ap (λ zs. x ∷ zs) (drop_at xs (i + 1) y h js))

other_of : (xs : List Node) (i : ℕ) (x : Node) → i < length xs → get_or xs i x ≡ get_or xs i (get_or xs i x)
other_of xs i x h = get_or_default xs i x (get_or xs i x) h

module _ (s : Situation) (xs : List Node) (i : ℕ) (x : Node) where
  -- ---- of `if`: a test and its result, and a last result

  pub conditional-true : (y : Node) → i + 1 < length xs → x ≡ get_or xs i x → y ≡ get_or xs (i + 1) y → truth_of true s (node_view x) ≡ Some true
      → read_in_conditional s (nodes_view (drop i xs)) ≡ read_in false s (node_view y)
  conditional-true y h is js t =
      ap (λ ns. read_in_conditional s (nodes_view ns)) (two_at xs i x y h is js)
      ∙ ap (λ (o : Option Bool). read_by_test o (read_in true s (node_view x)) (read_in false s (node_view y)) (read_in_conditional s (nodes_view (drop (i + 2) xs)))) t

  pub conditional-false : i + 1 < length xs → x ≡ get_or xs i x → truth_of true s (node_view x) ≡ Some false
      → read_in_conditional s (nodes_view (drop i xs)) ≡ read_in_conditional s (nodes_view (drop (i + 2) xs))
  conditional-false h is t =
      let y = get_or xs (i + 1) x in
      ap (λ ns. read_in_conditional s (nodes_view ns)) (two_at xs i x y h is (other_of xs (i + 1) x h))
      ∙ ap (λ (o : Option Bool). read_by_test o (read_in true s (node_view x)) (read_in false s (node_view y)) (read_in_conditional s (nodes_view (drop (i + 2) xs)))) t

  pub conditional-ends : i + 1 < length xs → x ≡ get_or xs i x → truth_of true s (node_view x) ≡ None
      → read_in_conditional s (nodes_view (drop i xs)) ≡ read_in true s (node_view x)
  conditional-ends h is t =
      let y = get_or xs (i + 1) x in
      ap (λ ns. read_in_conditional s (nodes_view ns)) (two_at xs i x y h is (other_of xs (i + 1) x h))
      ∙ ap (λ (o : Option Bool). read_by_test o (read_in true s (node_view x)) (read_in false s (node_view y)) (read_in_conditional s (nodes_view (drop (i + 2) xs)))) t

  pub conditional-last : i + 1 ≡ length xs → x ≡ get_or xs i x → read_in_conditional s (nodes_view (drop i xs)) ≡ read_in false s (node_view x)
  conditional-last h is = rw (drop_at xs i x (omega arith) is, drop_all (i + 1) xs (omega arith)) refl

  -- ---- of `and` and `or`

  module _ (wanted tested : Bool) where
    abbrev by : (y : Node) → Option Bool → Option Reading
    by y o = read_by_truth wanted o (read_in (tested || not wanted) s (node_view x)) (read_in_truth wanted tested s (nodes_view (y ∷ drop (i + 2) xs)))

    first : i + 1 < length xs → x ≡ get_or xs i x
        → read_in_truth wanted tested s (nodes_view (drop i xs)) ≡ by (get_or xs (i + 1) x) (truth_of (tested || not wanted) s (node_view x))
    first h is = ap (λ ns. read_in_truth wanted tested s (nodes_view ns)) (two_at xs i x (get_or xs (i + 1) x) h is (other_of xs (i + 1) x h))

    pub truth-found : (b : Bool) → i + 1 < length xs → x ≡ get_or xs i x → truth_of (tested || not wanted) s (node_view x) ≡ Some b → bool_eq wanted b ≡ true
        → read_in_truth wanted tested s (nodes_view (drop i xs)) ≡ None
    truth-found b h is t e = first h is ∙ (ap (by (get_or xs (i + 1) x)) t ∙ rw e refl)

    pub truth-next : (b : Bool) → i + 1 < length xs → x ≡ get_or xs i x → truth_of (tested || not wanted) s (node_view x) ≡ Some b → bool_eq wanted b ≡ false
        → read_in_truth wanted tested s (nodes_view (drop i xs)) ≡ read_in_truth wanted tested s (nodes_view (drop (i + 1) xs))
    truth-next b h is t e =
        let y = get_or xs (i + 1) x in
        let two : i + 1 + 1 ≡ i + 2 = omega arith in
        first h is ∙ (ap (by y) t ∙ rw (e, drop_at xs (i + 1) y h (other_of xs (i + 1) x h), two) refl)

    pub truth-ends : i + 1 < length xs → x ≡ get_or xs i x → truth_of (tested || not wanted) s (node_view x) ≡ None
        → read_in_truth wanted tested s (nodes_view (drop i xs)) ≡ read_in (tested || not wanted) s (node_view x)
    truth-ends h is t = first h is ∙ ap (by (get_or xs (i + 1) x)) t

    pub truth-last : i + 1 ≡ length xs → x ≡ get_or xs i x → read_in_truth wanted tested s (nodes_view (drop i xs)) ≡ read_in tested s (node_view x)
    truth-last h is = rw (drop_at xs i x (omega arith) is, drop_all (i + 1) xs (omega arith)) refl

-- ---- of `map` and its like, and of `reduce`

module _ (s : Situation) where
  pub items-short : (xs : List Node) → length xs < 2 → read_in_items s (nodes_view xs) ≡ None
  items-short [] h = refl
  items-short (x ∷ []) h = refl
  items-short (x ∷ y ∷ xs) h = absurd (omega arith)

  pub items-first : (xs : List Node) (x : Node) → 2 ≤ length xs → x ≡ get_or xs 0 x → read_in_items s (nodes_view xs) ≡ read_in false s (node_view x)
  items-first [] x h is = absurd (omega arith)
  items-first (y ∷ []) x h is = absurd (omega arith)
  items-first (y ∷ z ∷ xs) x h is = ap (λ n. read_in false s (node_view n)) (sym is)

  pub reduce-short : (xs : List Node) → length xs < 2 → read_in_reduce s (nodes_view xs) ≡ None
  reduce-short [] h = refl
  reduce-short (x ∷ []) h = refl
  reduce-short (x ∷ y ∷ xs) h = absurd (omega arith)

  abbrev course-at : Node → Course
  course-at x = course_of (node_view x) (truth_of false s (node_view x)) (read_in false s (node_view x))

  pub reduce-ends : (xs : List Node) (x : Node) (r : Option Reading) → 2 ≤ length xs → x ≡ get_or xs 0 x → ends r ≡ course-at x → read_in_reduce s (nodes_view xs) ≡ r
  reduce-ends [] x r h is e = absurd (omega arith)
  reduce-ends (y ∷ []) x r h is e = absurd (omega arith)
  reduce-ends (y ∷ z ∷ xs) x r h is e = ap (λ c. reading_or c (read_in_start s (nodes_view xs))) (ap course-at (sym is) ∙ sym e)

  pub reduce-start : (xs : List Node) (x start : Node) → 2 < length xs → x ≡ get_or xs 0 x → start ≡ get_or xs 2 start → goes_on ≡ course-at x
      → read_in_reduce s (nodes_view xs) ≡ read_in false s (node_view start)
  reduce-start [] x start h is js e = absurd (omega arith)
  reduce-start (y ∷ []) x start h is js e = absurd (omega arith)
  reduce-start (y ∷ z ∷ []) x start h is js e = absurd (omega arith)
  reduce-start (y ∷ z ∷ w ∷ xs) x start h is js e = ap (λ c. reading_or c (read_in false s (node_view w))) (ap course-at (sym is) ∙ sym e) ∙ ap (λ n. read_in false s (node_view n)) (sym js)

  pub reduce-end : (xs : List Node) (x : Node) → 2 ≤ length xs → length xs ≤ 2 → x ≡ get_or xs 0 x → goes_on ≡ course-at x → read_in_reduce s (nodes_view xs) ≡ None
  reduce-end [] x h k is e = absurd (omega arith)
  reduce-end (y ∷ []) x h k is e = absurd (omega arith)
  reduce-end (y ∷ z ∷ []) x h k is e = ap (λ c. reading_or c None) (ap course-at (sym is) ∙ sym e)
  reduce-end (y ∷ z ∷ w ∷ xs) x h k is e = absurd (omega arith)
