use Rattle.std.proofs.Common.{◌≡◌, ℕ, ◌+◌, ◌<◌, ◌^◌, [], ◌∷◌, ◌++◌, get_or, length, map, Some, None, false, not, sym, ap, ap₂, ◌∙◌, subst, arith, add-one, rules}
use Rattle.std.proofs.lemmas.List.{length-map, map-append}
use Rattle.std.specs.Vec.Iter.{into_iter_items}
use Rattle.flag_text.specs.Shape.{list, item}
use Rattle.flag_text.specs.View.{view, items_view}
use Rattle.flag_text.specs.declared.tree.Tree.{the_lemmas as tree_lemmas}
use Rattle.logic_ast.specs.Expression.{Expression, fractional, literal, By, no_by, by, Buckets, computed_bucket}
use Rattle.logic_ast.specs.FirstFault.{is_list_tree}
use Rattle.logic_ast.specs.Reading.{expression_from, bucket_from, computed_from}
use Rattle.logic_ast.specs.Sites.{sites, sites_in, sites_in_by, sites_in_buckets, sites_in_bucket}
use Rattle.logic_ast.specs.View.{buckets_of, node_view, boxed_view, bucket_view, buckets_view}
use Rattle.logic_ast.proofs.Readings.{turn, none_left, none_counted, some_counted, node-fits, node-value, node-number, nodes-value, site_of_rest, sites_of, site-end, site-bucket, site-by, site-none_by, site-none_buckets, site-fits, sites_in_buckets-last, computed-first}
use Rattle.logic_ast.proofs.Sizes.{object_from-several}
use Rattle.logic_ast.proofs.Trees.{view-object}
use Rattle.logic_ast.proofs.Views.{node_view-fractional, node_view-literal, node_view-one}
use Rattle.logic_ast.proofs.Written.{site_from-other}
use Rattle.logic_ast.proofs.read.+read.Goals as goal
use Rattle.logic_ast.proofs.read.+read.Goals.{read_list-then-is_none+else-is_empty, read_list-else-is_none}

pub read_object-returns-then-len-gt1-clause-value : goal.read_object-returns-then-len-gt1-clause-value
read_object-returns-then-len-gt1-clause-value t c =
    node_view-literal _ ∙ (ap literal (view-object c.args.members) ∙ sym (object_from-several c.args.next.now c.args.members.items (omega (arith, c.len.ensures, c.if-len-gt1.true))))

pub read_object-returns-then-len-gt1-clause-next : goal.read_object-returns-then-len-gt1-clause-next
read_object-returns-then-len-gt1-clause-next t c =
    let none = ap sites (object_from-several c.args.next.now c.args.members.items (omega (arith, c.len.ensures, c.if-len-gt1.true))) in
    omega (arith, none)

pub read_nodes-read_node-requires : goal.read_nodes-read_node-requires
read_nodes-read_node-requires t c =
    let l = c.loop-item in
    let began = c.into_iter-item-iterator.ensures.into_iter_gives in
    let at = turn c.into_iter-item-iterator.result c.args.items.items began.0 (began.1 ∙ c.args.items.ok.0) l.yielded l.item-iterator c.next.new.self l.yielded_by c.next.result c.in-Some.item c.in-Some.is c.next.ensures.steps in
    (search (rules, tree_lemmas, at.0, at.1), node-fits c.args.next.now l.next c.args.items.items (into_iter_items c.next.new.self) c.in-Some.item l.nodes.items (rw c.in-Some.ensures.steps.0 at l.invariant.value) l.invariant.number c.requires)

pub read_nodes-loop-item-preserved : goal.read_nodes-loop-item-preserved
read_nodes-loop-item-preserved t c =
    let l = c.loop-item in
    record {
      value = node-value c.args.next.now l.next c.read_node.new.next c.args.items.items (into_iter_items c.next.new.self) c.in-Some.item l.nodes.items c.push.new.self.items c.in_ok-read_node.field-0 (rw c.in-Some.ensures.steps.0 at l.invariant.value) c.in_ok-push.ensures.items c.in_ok-read_node.ensures.value c.in_ok-read_node.ensures.next;
      number = node-number c.args.next.now l.next c.read_node.new.next l.nodes.items c.push.new.self.items c.in_ok-read_node.field-0 (expression_from l.next (view c.in-Some.item)) l.invariant.number c.in_ok-push.ensures.items c.in_ok-read_node.ensures.value c.in_ok-read_node.ensures.next;
      count = omega (arith, l.invariant.count, ap length c.in-Some.ensures.steps.0, c.in-Some.ensures.steps.1);
    }

pub read_nodes-returns-clause-value : goal.read_nodes-returns-clause-value
read_nodes-returns-clause-value t c =
    let l = c.loop-item in
    let none = none_left (into_iter_items l.item-iterator) (sym l.invariant.count ∙ c.in-None.ensures.steps.0) in
    nodes-value c.args.next.now l.next c.args.items.items l.nodes.items (rw none at l.invariant.value)

pub read_nodes-returns-clause-next : goal.read_nodes-returns-clause-next
read_nodes-returns-clause-next t c =
    let l = c.loop-item in
    let none = none_left (into_iter_items l.item-iterator) (sym l.invariant.count ∙ c.in-None.ensures.steps.0) in
    l.invariant.number ∙ ap (λ es. c.args.next.now + sites_in es) (nodes-value c.args.next.now l.next c.args.items.items l.nodes.items (rw none at l.invariant.value))

pub read_list-read_bucket-requires : goal.read_list-read_bucket-requires
read_list-read_bucket-requires t c =
    let l = c.loop-item in
    let b = boxed_view l.by in
    let bs = map bucket_view l.buckets.items in
    let ps = items_view c.in-List.parts.items in
    let rest = items_view (into_iter_items c.next.new.self) in
    let is : view c.in-Some.item ≡ list ps = search (rules, tree_lemmas) in
    let here = ap (λ xs. site_of_rest b bs l.next (items_view xs)) (sym c.in-Some.ensures.steps.0) ∙ l.invariant.value in
    let made = bucket_from l.next ps in
    let after = sym (site-bucket b bs l.next (view c.in-Some.item) ps rest is) ∙ here in
    let ts = items_view c.args.items.items in
    let fits = subst (λ j. j + sites_of (site_of_rest no_by [] j ts) < 2 ^ 32) (sym (add-one c.args.next.now)) (omega (arith, c.requires)) in
    let room = site-fits b (bs ++ made ∷ []) (l.next + sites_in_bucket made) (c.args.next.now + 1) rest ts after fits in
    let began = c.into_iter-item-iterator.ensures.into_iter_gives in
    let at = turn c.into_iter-item-iterator.result c.args.items.items began.0 (began.1 ∙ c.args.items.ok.0) l.yielded l.item-iterator c.next.new.self l.yielded_by c.next.result c.in-Some.item c.in-Some.is c.next.ensures.steps in
    (search (rules, tree_lemmas, at.0, at.1), omega (arith, l.invariant.number, room, sites_in_buckets-last bs made))

pub read_list-loop-item-preserved-in_ok-push-in-List : goal.read_list-loop-item-preserved-in_ok-push-in-List
read_list-loop-item-preserved-in_ok-push-in-List t c =
    let l = c.loop-item in
    let b = boxed_view l.by in
    let bs = map bucket_view l.buckets.items in
    let ps = items_view c.in-List.parts.items in
    let rest = items_view (into_iter_items c.next.new.self) in
    let is : view c.in-Some.item ≡ list ps = search (rules, tree_lemmas) in
    let here = ap (λ xs. site_of_rest b bs l.next (items_view xs)) (sym c.in-Some.ensures.steps.0) ∙ l.invariant.value in
    let made = bucket_from l.next ps in
    let more : map bucket_view c.push.new.self.items ≡ bs ++ made ∷ [] =
    ap (map bucket_view) c.in_ok-push-in-List.ensures.items ∙ (map-append bucket_view l.buckets.items (c.in_ok-read_bucket-in-List.field-0 ∷ []) ∙ ap (λ x. bs ++ x ∷ []) c.in_ok-read_bucket-in-List.ensures.value) in
    let number = c.in_ok-read_bucket-in-List.ensures.next in
    record {
      value = ap₂ (λ xs j. site_of_rest b xs j rest) more number ∙ (sym (site-bucket b bs l.next (view c.in-Some.item) ps rest is) ∙ here);
      number = omega (arith, l.invariant.number, number, ap (λ xs. sites_in_buckets (buckets_of xs)) more, sites_in_buckets-last bs made);
      count = omega (arith, l.invariant.count, ap length c.in-Some.ensures.steps.0, c.in-Some.ensures.steps.1);
    }

pub read_list-read_node-requires : goal.read_list-read_node-requires
read_list-read_node-requires t c =
    let l = c.loop-item in
    let tree = view c.in-Some.item in
    let rest = items_view (into_iter_items c.next.new.self) in
    let none : l.by ≡ None = search rules in
    let empty : l.buckets.items ≡ [] = none_counted l.buckets.items l.buckets.len l.buckets.ok.0 (sym c.is_empty.ensures ∙ c.if-is_empty.true) in
    let other : is_list_tree tree ≡ false = search (rules, tree_lemmas) in
    let start = ap₂ (λ b xs. site_of_rest (boxed_view b) (map bucket_view xs) l.next (item tree rest)) (sym none) (sym empty) in
    let here = ap (λ xs. site_of_rest (boxed_view l.by) (map bucket_view l.buckets.items) l.next (items_view xs)) (sym c.in-Some.ensures.steps.0) ∙ l.invariant.value in
    let e = expression_from l.next tree in
    let after = sym (site-by l.next tree rest other) ∙ (start ∙ here) in
    let ts = items_view c.args.items.items in
    let fits = subst (λ j. j + sites_of (site_of_rest no_by [] j ts) < 2 ^ 32) (sym (add-one c.args.next.now)) (omega (arith, c.requires)) in
    let room = site-fits (by e) [] (l.next + sites e) (c.args.next.now + 1) rest ts after fits in
    let began = c.into_iter-item-iterator.ensures.into_iter_gives in
    let at = turn c.into_iter-item-iterator.result c.args.items.items began.0 (began.1 ∙ c.args.items.ok.0) l.yielded l.item-iterator c.next.new.self l.yielded_by c.next.result c.in-Some.item c.in-Some.is c.next.ensures.steps in
    (search (rules, tree_lemmas, at.0, at.1), omega (arith, l.invariant.number, room, ap (λ b. sites_in_by (boxed_view b)) none, ap (λ xs. sites_in_buckets (buckets_view xs)) empty))

pub read_list-loop-item-preserved-then-is_empty : goal.read_list-loop-item-preserved-then-is_empty
read_list-loop-item-preserved-then-is_empty t c =
    let l = c.loop-item in
    let tree = view c.in-Some.item in
    let rest = items_view (into_iter_items c.next.new.self) in
    let none : l.by ≡ None = search rules in
    let empty : l.buckets.items ≡ [] = none_counted l.buckets.items l.buckets.len l.buckets.ok.0 (sym c.is_empty.ensures ∙ c.if-is_empty.true) in
    let other : is_list_tree tree ≡ false = search (rules, tree_lemmas) in
    let start = ap₂ (λ b xs. site_of_rest (boxed_view b) (map bucket_view xs) l.next (item tree rest)) (sym none) (sym empty) in
    let here = ap (λ xs. site_of_rest (boxed_view l.by) (map bucket_view l.buckets.items) l.next (items_view xs)) (sym c.in-Some.ensures.steps.0) ∙ l.invariant.value in
    let e = expression_from l.next tree in
    let seen = ap node_view c.in_ok-new-in_default.ensures.ok ∙ c.in_ok-read_node-in_default.ensures.value in
    let number = c.in_ok-read_node-in_default.ensures.next in
    record {
      value = ap₂ (λ (x : Expression) (j : ℕ). site_of_rest (by x) (map bucket_view l.buckets.items) j rest) seen number
          ∙ (ap (λ xs. site_of_rest (by e) (map bucket_view xs) (l.next + sites e) rest) empty ∙ (sym (site-by l.next tree rest other) ∙ (start ∙ here)));
      number = omega (arith, l.invariant.number, number, ap sites seen, ap (λ b. sites_in_by (boxed_view b)) none);
      count = omega (arith, l.invariant.count, ap length c.in-Some.ensures.steps.0, c.in-Some.ensures.steps.1);
    }

pub read_list-loop-item-preserved : goal.read_list-loop-item-preserved
read_list-loop-item-preserved t c =
    let l = c.loop-item in
    let tree = view c.in-Some.item in
    let rest = items_view (into_iter_items c.next.new.self) in
    let bs = map bucket_view l.buckets.items in
    let other : is_list_tree tree ≡ false = search (rules, tree_lemmas) in
    let passed : site_of_rest (boxed_view l.by) bs l.next (item tree rest) ≡ site_of_rest (boxed_view l.by) bs l.next rest =
    elim c.if-is_none.branch [
      | read_list-then-is_none+else-is_empty w ↦
          site-none_buckets (boxed_view l.by) bs l.next tree rest other (omega (arith, some_counted l.buckets.items l.buckets.len l.buckets.ok.0 (sym w.is_empty.ensures ∙ w.if-is_empty.false), length-map l.buckets.items bucket_view))
      | read_list-else-is_none w ↦ site-none_by l.by bs l.next tree rest other (c.is_none.ensures ∙ ap not w.if-is_none.false)
    ] in
    record {
      value = sym passed ∙ (ap (λ xs. site_of_rest (boxed_view l.by) bs l.next (items_view xs)) (sym c.in-Some.ensures.steps.0) ∙ l.invariant.value);
      number = l.invariant.number;
      count = omega (arith, l.invariant.count, ap length c.in-Some.ensures.steps.0, c.in-Some.ensures.steps.1);
    }

pub read_list-returns-clause-value : goal.read_list-returns-clause-value
read_list-returns-clause-value t c =
    let l = c.loop-item in
    let k = c.args.next.now in
    let ts = items_view c.args.items.items in
    let none = none_left (into_iter_items l.item-iterator) (sym l.invariant.count ∙ c.in-None.ensures.steps.0) in
    let made = sym (site-end (boxed_view l.by) (map bucket_view l.buckets.items) l.next) ∙ (rw none at l.invariant.value ∙ ap (λ j. site_of_rest no_by [] j ts) (add-one k)) in
    node_view-fractional _ _ _ ∙ ap (λ (p : By × Buckets). fractional k p.0 p.1) made

pub read_list-returns-clause-next : goal.read_list-returns-clause-next
read_list-returns-clause-next t c =
    let l = c.loop-item in
    let k = c.args.next.now in
    let ts = items_view c.args.items.items in
    let none = none_left (into_iter_items l.item-iterator) (sym l.invariant.count ∙ c.in-None.ensures.steps.0) in
    let made = sym (site-end (boxed_view l.by) (map bucket_view l.buckets.items) l.next) ∙ (rw none at l.invariant.value ∙ ap (λ j. site_of_rest no_by [] j ts) (add-one k)) in
    omega (arith, l.invariant.number, ap sites_of made)

pub read_computed-read_node-requires : goal.read_computed-read_node-requires
read_computed-read_node-requires t c =
    let k = c.args.next.now in
    let parts = c.args.parts.items in
    let first : parts ≡ c.in-Some.name ∷ into_iter_items c.next.new.self = sym c.into_iter-parts.ensures.rest ∙ c.in-Some.ensures.items in
    let at : c.in-Some.name ≡ get_or parts 0 c.in-Some.name = sym (ap (λ xs. get_or xs 0 c.in-Some.name) first) in
    let many : 0 < length parts = omega (arith, ap length first) in
    let is = ap (λ xs. sites_in_bucket (computed_from k (items_view xs))) first in
    (search (rules, tree_lemmas, at, many), omega (arith, is, computed-first k (view c.in-Some.name) (items_view (into_iter_items c.next.new.self)), c.requires))

pub read_computed-returns-in_default-next-clause-value : goal.read_computed-returns-in_default-next-clause-value
read_computed-returns-in_default-next-clause-value t c =
    let k = c.args.next.now in
    let parts = c.args.parts.items in
    let first : parts ≡ c.in-Some.name ∷ into_iter_items c.next.new.self = sym c.into_iter-parts.ensures.rest ∙ c.in-Some.ensures.items in
    let none = none_left (into_iter_items c.next.new.self) (omega (arith, c.in-Some.ensures.cases.1, c.in_default-next.ensures.cases.0, c.into_iter-parts.ensures.len, c.args.parts.ok.0, ap length first)) in
    let is = ap (λ xs. computed_from k (items_view xs)) (first ∙ ap (λ xs. c.in-Some.name ∷ xs) none) in
    ap₂ computed_bucket c.in_ok-name.ensures.value node_view-one ∙ sym is

pub read_computed-returns-in_default-next-clause-next : goal.read_computed-returns-in_default-next-clause-next
read_computed-returns-in_default-next-clause-next t c =
    let k = c.args.next.now in
    let parts = c.args.parts.items in
    let first : parts ≡ c.in-Some.name ∷ into_iter_items c.next.new.self = sym c.into_iter-parts.ensures.rest ∙ c.in-Some.ensures.items in
    let none = none_left (into_iter_items c.next.new.self) (omega (arith, c.in-Some.ensures.cases.1, c.in_default-next.ensures.cases.0, c.into_iter-parts.ensures.len, c.args.parts.ok.0, ap length first)) in
    let is = ap (λ xs. computed_from k (items_view xs)) (first ∙ ap (λ xs. c.in-Some.name ∷ xs) none) in
    omega (arith, ap sites_in_bucket is, c.in_ok-name.ensures.next)

pub read_computed-read_node-requires-2 : goal.read_computed-read_node-requires-2
read_computed-read_node-requires-2 t c =
    let k = c.args.next.now in
    let parts = c.args.parts.items in
    let both : parts ≡ c.in-Some.name ∷ c.in-Some-next.weight ∷ into_iter_items c.next-2.new.self = sym c.into_iter-parts.ensures.rest ∙ (c.in-Some.ensures.items ∙ ap (λ xs. c.in-Some.name ∷ xs) c.in-Some-next.ensures.items) in
    let is = ap (λ xs. computed_from k (items_view xs)) both in
    let at : c.in-Some-next.weight ≡ get_or parts 1 c.in-Some-next.weight = sym (ap (λ xs. get_or xs 1 c.in-Some-next.weight) both) in
    let many : 1 < length parts = omega (arith, ap length both) in
    let after = ap (λ j. j + sites (expression_from j (view c.in-Some-next.weight))) c.in_ok-name.ensures.next in
    (search (rules, tree_lemmas, at, many), omega (arith, ap sites_in_bucket is, after, c.requires))

pub read_computed-returns-clause-value : goal.read_computed-returns-clause-value
read_computed-returns-clause-value t c =
    let k = c.args.next.now in
    let parts = c.args.parts.items in
    let both : parts ≡ c.in-Some.name ∷ c.in-Some-next.weight ∷ into_iter_items c.next-2.new.self = sym c.into_iter-parts.ensures.rest ∙ (c.in-Some.ensures.items ∙ ap (λ xs. c.in-Some.name ∷ xs) c.in-Some-next.ensures.items) in
    let is = ap (λ xs. computed_from k (items_view xs)) both in
    ap₂ computed_bucket c.in_ok-name.ensures.value (c.in_ok-weight.ensures.value ∙ ap (λ j. expression_from j (view c.in-Some-next.weight)) c.in_ok-name.ensures.next) ∙ sym is

pub read_computed-returns-clause-next : goal.read_computed-returns-clause-next
read_computed-returns-clause-next t c =
    let k = c.args.next.now in
    let parts = c.args.parts.items in
    let both : parts ≡ c.in-Some.name ∷ c.in-Some-next.weight ∷ into_iter_items c.next-2.new.self = sym c.into_iter-parts.ensures.rest ∙ (c.in-Some.ensures.items ∙ ap (λ xs. c.in-Some.name ∷ xs) c.in-Some-next.ensures.items) in
    let is = ap (λ xs. computed_from k (items_view xs)) both in
    let after = c.in_ok-weight.ensures.next ∙ ap (λ j. j + sites (expression_from j (view c.in-Some-next.weight))) c.in_ok-name.ensures.next in
    omega (arith, ap sites_in_bucket is, after)

pub read_site-returns-in_ok-by-in_default : goal.read_site-returns-in_ok-by-in_default
read_site-returns-in_ok-by-in_default t c =
    let k = c.args.next.now in
    let tree = view c.args.value in
    let other : is_list_tree tree ≡ false = search (rules, tree_lemmas) in
    let made = site_from-other k tree other in
    let value = c.in_ok-read_node-in_default.ensures.value ∙ ap (λ j. expression_from j tree) (add-one k) in
    let number = c.in_ok-read_node-in_default.ensures.next ∙ ap (λ j. j + sites (expression_from j tree)) (add-one k) in
    record {
      value = node_view-fractional k (Some c.in_ok-by-in_default.by) c.new-buckets.result ∙ (ap₂ (fractional k) (ap (λ n. by (node_view n)) c.in_ok-by-in_default.ensures.ok ∙ ap by value) (ap buckets_view c.new-buckets.ensures.items) ∙ sym made);
      next = omega (arith, ap sites made, number);
    }
