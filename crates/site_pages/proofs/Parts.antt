-- The text of a node and the sites of a node, from those of its parts.
use Rattle.std.proofs.Common.{◌≡◌, ℕ, Bool, true, false, List, [], ◌∷◌, ◌++◌, append_assoc, cond, map, codes, Option, Some, None, Box, Vec, Global, refl, sym, ap, ◌∙◌}
use Rattle.std.proofs.lemmas.Bool.{and_parts}
use Rattle.std.proofs.lemmas.List.{map-append}
use Rattle.std.specs.Option.{is_some}
use Rattle.std.specs.Prelude.{Result, Ok, Err, OnOk, is_ok}
use Rattle.json.specs.Print.{quoted}
use Rattle.serde_json.specs.Written.{compact_text, items_text}
use Rattle.flag_text.specs.Printing.{data_of, items_data}
use Rattle.flag_text.specs.Shape.{is_whole, items_are_whole}
use Rattle.logic_ast.specs.Expression.{Expression, list, operation, fractional, Expressions, By, no_by, by, Buckets}
use Rattle.logic_ast.specs.Operator.{operator_name}
use Rattle.logic_ast.specs.Sites.{preorder, preorder_in_by, preorder_in_buckets}
use Rattle.logic_ast.specs.View.{node_view, nodes_view, boxed_view}
use Rattle.logic_ast.specs.Writing.{written, all_written, by_written, buckets_written}
use Rattle.logic_ast.specs.declared.node.Node.{Node, the_lemmas}
use Rattle.logic_ast.specs.declared.node.Node.TheVariants.{List as ListNode, Operation}
use Rattle.logic_ast.specs.declared.operator.Operator.{Operator}
use Rattle.site_pages.specs.Sites.{place_of, place_view}
use Rattle.site_pages.specs.Text.{by_piece, opened}
use Rattle.site_pages.specs.declared.sites.Place.{Place}

pub node_view-list : (es : Vec Node Global) → node_view (ListNode es) ≡ list (nodes_view es.items)
node_view-list es = simp the_lemmas

pub node_view-operation : (o : Operator) (es : Vec Node Global) → node_view (Operation o es) ≡ operation o (nodes_view es.items)
node_view-operation o es = simp the_lemmas

-- ---- the text

pub list_text : (a b c : List ℕ) (e : Expression) (es : Expressions) → b ≡ a ++ 91 ∷ [] → c ≡ b ++ items_text false (items_data (all_written es)) → e ≡ list es → c ≡ a ++ compact_text (data_of (written e))
list_text a b c e es first second is =
    second ∙ ap (λ l. l ++ items_text false (items_data (all_written es))) first ∙ append_assoc a (91 ∷ []) (items_text false (items_data (all_written es)))
    ∙ sym (ap (λ x. a ++ compact_text (data_of (written x))) is)

-- an operation of this name on arguments that are written so, with the end of their list
around : (a b c d name arguments : List ℕ) → b ≡ a ++ opened name → c ≡ b ++ arguments → d ≡ c ++ 125 ∷ [] → d ≡ a ++ (123 ∷ (quoted name ++ (58 ∷ 91 ∷ (arguments ++ 125 ∷ []))))
around a b c d name arguments first second third =
    let end = arguments ++ 125 ∷ [] in
    third ∙ ap (λ l. l ++ 125 ∷ []) (second ∙ ap (λ l. l ++ arguments) first) ∙ append_assoc (a ++ opened name) arguments (125 ∷ []) ∙ append_assoc a (opened name) end
    ∙ ap (λ l. a ++ 123 ∷ l) (append_assoc (quoted name) (58 ∷ 91 ∷ []) end)

pub operation_text : (a b c d name : List ℕ) (e : Expression) (o : Operator) (es : Expressions) → name ≡ operator_name o → b ≡ a ++ opened name → c ≡ b ++ items_text false (items_data (all_written es)) → d ≡ c ++ 125 ∷ []
    → e ≡ operation o es → d ≡ a ++ compact_text (data_of (written e))
operation_text a b c d name e o es named first second third is =
    around a b c d (operator_name o) (items_text false (items_data (all_written es))) (first ∙ ap (λ k. a ++ opened k) named) second third ∙ sym (ap (λ x. a ++ compact_text (data_of (written x))) is)

-- the bucketing expression, where there is one, in front of the buckets
in_front : (o : Option (Box Node Global)) (later : Bool) (bs : Buckets) → later ≡ is_some o
    → by_piece (boxed_view o) ++ items_text later (items_data (buckets_written bs)) ≡ items_text false (items_data (by_written (boxed_view o) (buckets_written bs)))
in_front None later bs is = rw is refl
in_front (Some e) later bs is = rw is refl

pub fractional_text : (a b c d f : List ℕ) (e : Expression) (n : ℕ) (o : Option (Box Node Global)) (later : Bool) (bs : Buckets) → later ≡ is_some o → b ≡ a ++ opened (codes "fractional") → c ≡ b ++ by_piece (boxed_view o)
    → d ≡ c ++ items_text later (items_data (buckets_written bs)) → f ≡ d ++ 125 ∷ [] → e ≡ fractional n (boxed_view o) bs → f ≡ a ++ compact_text (data_of (written e))
fractional_text a b c d f e n o later bs some first second third fourth is =
    let both = third ∙ ap (λ l. l ++ items_text later (items_data (buckets_written bs))) second ∙ append_assoc b (by_piece (boxed_view o)) (items_text later (items_data (buckets_written bs))) ∙ ap (λ l. b ++ l) (in_front o later bs some) in
    around a b d f (codes "fractional") (items_text false (items_data (by_written (boxed_view o) (buckets_written bs)))) first both fourth ∙ sym (ap (λ x. a ++ compact_text (data_of (written x))) is)

-- ---- whole numbers

rest_is_whole : (b : By) (bs : Buckets) → items_are_whole (by_written b (buckets_written bs)) ≡ true → items_are_whole (buckets_written bs) ≡ true
rest_is_whole no_by bs h = h
rest_is_whole (by e) bs h = (and_parts (is_whole (written e)) _ h).1

pub buckets_are_whole : (e : Expression) (n : ℕ) (b : By) (bs : Buckets) → e ≡ fractional n b bs → is_whole (written e) ≡ true → items_are_whole (buckets_written bs) ≡ true
buckets_are_whole e n b bs is h = rest_is_whole b bs (and_parts (items_are_whole (by_written b (buckets_written bs))) _ (sym (ap (λ x. is_whole (written x)) is) ∙ h)).0

-- ---- the sites

pub visited : (old first second third : List Place) (x : Place) (e : Expression) (n : ℕ) (b : By) (bs : Buckets) → first ≡ old ++ x ∷ [] → place_view x ≡ (n, b) → map place_view second ≡ map place_view first ++ map place_of (preorder_in_by b)
    → map place_view third ≡ map place_view second ++ map place_of (preorder_in_buckets bs) → e ≡ fractional n b bs → map place_view third ≡ map place_view old ++ map place_of (preorder e)
visited old first second third x e n b bs pushed seen inside after is =
    let front = map place_view old in
    let middle = map place_of (preorder_in_by b) in
    let back = map place_of (preorder_in_buckets bs) in
    after ∙ ap (λ l. l ++ back) (inside ∙ ap (λ l. l ++ middle) (ap (map place_view) pushed ∙ map-append place_view old (x ∷ []) ∙ ap (λ v. front ++ v ∷ []) seen))
    ∙ append_assoc (front ++ (n, b) ∷ []) middle back ∙ append_assoc front ((n, b) ∷ []) (middle ++ back)
    ∙ sym (ap (λ l. front ++ (n, b) ∷ l) (map-append place_of (preorder_in_by b) (preorder_in_buckets bs))) ∙ sym (ap (λ y. front ++ map place_of (preorder y)) is)

-- ---- results

pub on_ok : {X E : Type 0} (r : Result X E) (P Q : Type 0) → (P → Q) → OnOk r P → OnOk r Q
on_ok (Ok x) P Q f p = f p
on_ok (Err e) P Q f p = p

-- what stands in a text after a push that came to pass
pub operated : {X E : Type 0} (r : Result X E) (new more old : List ℕ) {Q : Type 0} → new ≡ cond (is_ok r) more old → (new ≡ more → Q) → OnOk r Q
operated (Ok x) new more old is f = f is
operated (Err e) new more old is f = tt
