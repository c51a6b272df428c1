use Rattle.std.proofs.Common.{◌≡◌, ◌≤◌, ◌<◌, ◌+◌, ◌++◌, true, ℕ, List, [], ◌∷◌, Ok, Vec, Global, drop, length, map, string_bytes, append_assoc, length-append, refl, sym, ap, ◌∙◌, subst, arith}
use Rattle.std.specs.List.{AllByRecursion}
use Rattle.std.proofs.lemmas.List.{map-append}
use Rattle.flag_text.proofs.Bools.{left, right}
use Rattle.flag_text.specs.Printing.{text_of}
use Rattle.flag_text.specs.Reading.{max_levels, tree_of}
use Rattle.flag_text.specs.Shape.{Shape, is_whole, items_are_whole, items_levels, levels}
use Rattle.flag_text.specs.View.{view, items_view}
use Rattle.flag_text.specs.declared.tree.Tree.{Tree}
use Rattle.price_core.specs.Request.{asked_of, if_tree, max_request, request_of}
use Rattle.ramp.specs.Steps.{AsksAsTree, request_with, requests_view, requests_with}
use Rattle.ramp.proofs.Alike.{all_push}
use Rattle.ramp.proofs.Levels.{request_levels}
use Rattle.ramp.proofs.Requests.{front}
use Rattle.ramp.proofs.Whole.{request_whole}
use Rattle.ramp.proofs.steps.requests_with.Goals as goal

pub print_tree-requires : goal.print_tree-requires
print_tree-requires c =
    let x = c.totals-item.result in
    let split = front c.args.steps.now c.loop-totals.totals-index x (omega arith) c.totals-item.is in
    let whole = subst (λ (ts : List Tree). items_are_whole (items_view ts) ≡ true) split c.loop-totals.invariant.whole in
    subst (λ t. is_whole t ≡ true) (sym c.in_ok-request.ensures.value) (request_whole (view c.args.tree.now) (view x) c.requires.whole (left (is_whole (view x)) _ whole))

-- one request more
made_more : (t : Shape) (steps : List Tree) (i : ℕ) (x : Tree) (made grown : List (Vec ℕ Global)) (v : Vec ℕ Global) → drop i steps ≡ x ∷ drop (i + 1) steps → grown ≡ made ++ v ∷ [] → v.items ≡ text_of (request_with t (view x))
    → requests_view made ++ requests_with t (items_view (drop i steps)) ≡ requests_with t (items_view steps) → requests_view grown ++ requests_with t (items_view (drop (i + 1) steps)) ≡ requests_with t (items_view steps)
made_more t steps i x made grown v split is text so_far =
    let rest = requests_with t (items_view (drop (i + 1) steps)) in
    ap (λ (vs : List (Vec ℕ Global)). requests_view vs ++ rest) is
    ∙ ap (λ rs. rs ++ rest) (map-append (λ (w : Vec ℕ Global). w.items) made (v ∷ []))
    ∙ append_assoc (requests_view made) (v.items ∷ []) rest
    ∙ ap (λ r. requests_view made ++ (r ∷ rest)) text
    ∙ ap (λ (ts : List Tree). requests_view made ++ requests_with t (items_view ts)) (sym split)
    ∙ so_far

asks_more : (t : Shape) (made grown : List (Vec ℕ Global)) (v : Vec ℕ Global) → grown ≡ made ++ v ∷ [] → AsksAsTree t v.items → AllByRecursion (AsksAsTree t) (requests_view made) → AllByRecursion (AsksAsTree t) (requests_view grown)
asks_more t made grown v is one all =
    subst (λ rs. AllByRecursion (AsksAsTree t) rs) (sym (ap requests_view is ∙ map-append (λ (w : Vec ℕ Global). w.items) made (v ∷ []))) (all_push (AsksAsTree t) (requests_view made) v.items all one)

pub loop-totals-preserved : goal.loop-totals-preserved
loop-totals-preserved c =
    let t = view c.args.tree.now in
    let steps = c.args.steps.now in
    let i = c.loop-totals.totals-index in
    let x = c.totals-item.result in
    let made = c.loop-totals.requests.items in
    let v = c.into_bytes.result in
    let split = front steps i x (omega arith) c.totals-item.is in
    let whole = subst (λ (ts : List Tree). items_are_whole (items_view ts) ≡ true) split c.loop-totals.invariant.whole in
    let flat : items_levels (items_view (x ∷ drop (i + 1) steps)) < max_levels = subst (λ (ts : List Tree). items_levels (items_view ts) < max_levels) split c.loop-totals.invariant.flat in
    let bytes : v.items ≡ string_bytes c.in_ok-text.text = ap (λ (w : Vec ℕ Global). w.items) c.into_bytes.ensures.value in
    let text : v.items ≡ text_of (request_with t (view x)) = bytes ∙ c.in_ok-text.ensures.text ∙ ap text_of c.in_ok-request.ensures.value in
    let low : levels (view c.in_ok-request.request) ≤ max_levels =
    subst (λ s. levels s ≤ max_levels) (sym c.in_ok-request.ensures.value) (request_levels t (view x) c.requires.shallow (omega (arith, flat))) in
    let asks : AsksAsTree t v.items = (
      view x,
      λ small.
          let read : tree_of v.items max_request ≡ Ok (view c.in_ok-request.request) =
          subst (λ (b : List ℕ). tree_of b max_request ≡ Ok (view c.in_ok-request.request)) (sym bytes) (c.in_ok-text.ensures.reads_back max_request low (subst (λ (b : List ℕ). length b ≤ max_request) bytes small)) in
          ap if_tree read ∙ ap request_of c.in_ok-request.ensures.value,
    ) in
    record {
      made = made_more t steps i x made c.push.new.self.items v split c.in_ok-push.ensures.items text c.loop-totals.invariant.made;
      whole = right (is_whole (view x)) _ whole;
      asks = asks_more t made c.push.new.self.items v c.in_ok-push.ensures.items asks c.loop-totals.invariant.asks;
      flat = omega (arith, flat);
      count = omega (arith, c.loop-totals.invariant.count, ap length c.in_ok-push.ensures.items, length-append made (v ∷ []));
    }
