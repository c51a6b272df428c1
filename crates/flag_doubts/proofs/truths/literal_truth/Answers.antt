use Rattle.std.proofs.Common.{◌≡◌, ◌==◌, false, not, List, [], ◌∷◌, length, vec_len, Vec, Global, Some, refl, sym, ap, ◌∙◌, arith}
use Rattle.flag_text.specs.Shape as shape
use Rattle.logic_ast.specs.Expression as ast
use Rattle.logic_ast.specs.View.{node_view, nodes_view}
use Rattle.logic_ast.specs.declared.node.Node.{Node, the_lemmas}
use Rattle.logic_ast.specs.declared.node.Node.TheVariants as node
use Rattle.logic_values.specs.Truth.{is_true}
use Rattle.flag_doubts.specs.Outcomes.{as_many, literal_truth}
use Rattle.flag_doubts.proofs.truths.literal_truth.Goals as goal

list_seen : (v : Vec Node Global) → node_view (node.List v) ≡ ast.list (nodes_view v.items)
list_seen v = simp the_lemmas refl

truth_of_list : (xs : List Node) → not (length xs == 0) ≡ is_true (shape.list (as_many (nodes_view xs)))
truth_of_list [] = refl
truth_of_list (x ∷ xs) = let some : (length (x ∷ xs) == 0) ≡ false = grind arith in ap not some

pub returns-in-List : goal.returns-in-List
returns-in-List c =
    let v = c.in-List.items in
    let many : vec_len v ≡ length v.items = omega (arith, v.ok.0) in
    ap Some (ap not (c.is_empty.ensures ∙ ap (λ k. k == 0) many) ∙ truth_of_list v.items) ∙ sym (ap (λ n. literal_truth (node_view n)) c.in-List.is ∙ ap literal_truth (list_seen v))
