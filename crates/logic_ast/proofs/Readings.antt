-- One part after another is read.
use Rattle.std.proofs.Common.{◌≡◌, ℕ, ◌+◌, ◌<◌, ◌≤◌, ◌^◌, true, false, List, [], ◌∷◌, ◌++◌, map, length, get_or, nat_eq, Option, Some, None, Box, String, Global, refl, sym, ap, ◌∙◌, arith, add-zero, drop, ap₂, add-one, drop-cons}
use Rattle.std.specs.Iterator.{Yields}
use Rattle.std.specs.Option.{is_some}
use Rattle.std.specs.Vec.Iter.{into_iter_items, into_iter_len, into_iter_steps}
use Rattle.std.specs.declared.vec.IntoIter.{IntoIter}
use Rattle.std.proofs.lemmas.Iterator.Adapters.{YieldsList-from_vec}
use Rattle.std.proofs.lemmas.Iterator.Consumers.{YieldsList-turn}
use Rattle.std.proofs.lemmas.List.{length_push, map-append}
use Rattle.flag_text.specs.Shape.{Shape, Items, no_items, list, item as item_of}
use Rattle.flag_text.specs.View.{view, items_view}
use Rattle.flag_text.specs.declared.tree.Tree.{Tree}
use Rattle.logic_ast.specs.Expression.{Expression, Expressions, no_expressions, expression, By, no_by, by, Buckets, no_buckets, bucket, Bucket}
use Rattle.logic_ast.specs.Sites.{sites, sites_in, sites_in_by, sites_in_buckets, sites_in_bucket}
use Rattle.logic_ast.specs.FirstFault.{is_list_tree}
use Rattle.logic_ast.specs.Reading.{expression_from, expressions_from, by_from, buckets_from, bucket_from, computed_from}
use Rattle.logic_ast.specs.View.{expressions_of, buckets_of, node_view, nodes_view, boxed_view}
use Rattle.logic_ast.specs.declared.node.Node.{Node}
use Rattle.logic_ast.proofs.Written.{by_from-other, buckets_from-other}

-- these, and then those
abbrev pub onto : List Expression → Expressions → Expressions
onto [] more = more
onto (e ∷ es) more = expression e (onto es more)

pub onto-none : (es : List Expression) → onto es no_expressions ≡ expressions_of es
onto-none [] = refl
onto-none (e ∷ es) = ap (expression e) (onto-none es)

pub onto-last : (es : List Expression) (e : Expression) (more : Expressions) → onto (es ++ e ∷ []) more ≡ onto es (expression e more)
onto-last [] e more = refl
onto-last (d ∷ es) e more = ap (expression d) (onto-last es e more)

pub sites-onto : (es : List Expression) (more : Expressions) → sites_in (onto es more) ≡ sites_in (expressions_of es) + sites_in more
sites-onto [] more = omega arith
sites-onto (e ∷ es) more = omega (arith, sites-onto es more)

abbrev pub onto_buckets : List Bucket → Buckets → Buckets
onto_buckets [] more = more
onto_buckets (b ∷ bs) more = bucket b (onto_buckets bs more)

pub onto_buckets-none : (bs : List Bucket) → onto_buckets bs no_buckets ≡ buckets_of bs
onto_buckets-none [] = refl
onto_buckets-none (b ∷ bs) = ap (bucket b) (onto_buckets-none bs)

pub onto_buckets-last : (bs : List Bucket) (b : Bucket) (more : Buckets) → onto_buckets (bs ++ b ∷ []) more ≡ onto_buckets bs (bucket b more)
onto_buckets-last [] b more = refl
onto_buckets-last (d ∷ bs) b more = ap (bucket d) (onto_buckets-last bs b more)

pub sites-onto_buckets : (bs : List Bucket) (more : Buckets) → sites_in_buckets (onto_buckets bs more) ≡ sites_in_buckets (buckets_of bs) + sites_in_buckets more
sites-onto_buckets [] more = omega arith
sites-onto_buckets (b ∷ bs) more = omega (arith, sites-onto_buckets bs more)

pub sites_in-last : (es : List Expression) (e : Expression) → sites_in (expressions_of (es ++ e ∷ [])) ≡ sites_in (expressions_of es) + sites e
sites_in-last [] e = omega arith
sites_in-last (d ∷ es) e = omega (arith, sites_in-last es e)

pub sites_in_buckets-last : (bs : List Bucket) (b : Bucket) → sites_in_buckets (buckets_of (bs ++ b ∷ [])) ≡ sites_in_buckets (buckets_of bs) + sites_in_bucket b
sites_in_buckets-last [] b = omega arith
sites_in_buckets-last (d ∷ bs) b = omega (arith, sites_in_buckets-last bs b)

-- ---- a list at a place

pub dropped : {A : Type 0} (xs : List A) (i : ℕ) (x : A) → i < length xs → x ≡ get_or xs i x → drop i xs ≡ x ∷ drop (i + 1) xs
dropped xs i x h e = drop-cons xs i x h ∙ ap₂ (λ y ys. y ∷ ys) (sym e) (ap (λ k. drop k xs) (sym (add-one i)))

-- ---- what a loop that consumes a list has left

pub none_left : {A : Type 0} (xs : List A) → length xs ≡ 0 → xs ≡ []
none_left [] h = refl
none_left (x ∷ xs) h = absurd (omega arith)

pub none_counted : {A : Type 0} (xs : List A) (n : ℕ) → n ≡ length xs → nat_eq n 0 ≡ true → xs ≡ []
none_counted [] n e h = refl
none_counted (x ∷ xs) n e h = grind arith

pub some_counted : {A : Type 0} (xs : List A) (n : ℕ) → n ≡ length xs → nat_eq n 0 ≡ false → 0 < length xs
some_counted [] n e h = grind arith
some_counted (x ∷ xs) n e h = omega arith

pub one_member : (ms new : List (String Global × Tree)) (m : String Global × Tree) → length ms < 2 → ms ≡ new ++ m ∷ [] → ms ≡ m ∷ []
one_member ms [] m h is = is
one_member ms (n ∷ new) m h is = absurd (omega (arith, ap length is, length_push new m))

-- the turn of a loop that consumes a list has the next of its items
pub turn : (s : IntoIter Tree Global) (xs : List Tree) → into_iter_items s ≡ xs → into_iter_len s ≡ length xs → (ys : List Tree) (t u : IntoIter Tree Global)
    → Yields into_iter_steps s ys t → (r : Option Tree) (x : Tree) → r ≡ Some x → into_iter_steps t r u → (length ys < length xs) × (x ≡ get_or xs (length ys) x)
turn s xs items count ys t u led r x is step = YieldsList-turn (YieldsList-from_vec xs items count) ys t led r u x is step

-- ---- one more node

pub node-fits : (first next : ℕ) (all rest : List Tree) (item : Tree) (ns : List Node)
    → expressions_from first (items_view all) ≡ onto (map node_view ns) (expressions_from next (items_view (item ∷ rest))) → next ≡ first + sites_in (nodes_view ns)
    → first + sites_in (expressions_from first (items_view all)) < 2 ^ 32 → next + sites (expression_from next (view item)) < 2 ^ 32
node-fits first next all rest item ns h e fits = omega (arith, ap sites_in h ∙ sites-onto (map node_view ns) (expressions_from next (items_view (item ∷ rest))), e, fits)

pub node-value : (first next then : ℕ) (all rest : List Tree) (item : Tree) (ns new : List Node) (n : Node)
    → expressions_from first (items_view all) ≡ onto (map node_view ns) (expressions_from next (items_view (item ∷ rest)))
    → new ≡ ns ++ n ∷ [] → node_view n ≡ expression_from next (view item) → then ≡ next + sites (expression_from next (view item))
    → expressions_from first (items_view all) ≡ onto (map node_view new) (expressions_from then (items_view rest))
node-value first next then all rest item ns new n h is seen number =
    h ∙ (sym (onto-last (map node_view ns) (expression_from next (view item)) (expressions_from (next + sites (expression_from next (view item))) (items_view rest)))
    ∙ rw (is, map-append node_view ns (n ∷ []), seen, number) refl)

pub node-number : (first next then : ℕ) (ns new : List Node) (n : Node) (e : Expression) → next ≡ first + sites_in (nodes_view ns)
    → new ≡ ns ++ n ∷ [] → node_view n ≡ e → then ≡ next + sites e → then ≡ first + sites_in (nodes_view new)
node-number first next then ns new n e number is seen after =
    let both : sites_in (nodes_view new) ≡ sites_in (nodes_view ns) + sites e = rw (is, map-append node_view ns (n ∷ []), ← seen) (sites_in-last (map node_view ns) (node_view n)) in
    omega (arith, number, after, both)

pub nodes-value : (first next : ℕ) (all : List Tree) (ns : List Node) → expressions_from first (items_view all) ≡ onto (map node_view ns) no_expressions → nodes_view ns ≡ expressions_from first (items_view all)
nodes-value first next all ns h = sym (h ∙ onto-none (map node_view ns))

-- ---- one more argument of a site

-- what all arguments make, when these have been made of those before the rest; the first is the bucketing expression unless it is a list
abbrev pub site_of_rest : By → List Bucket → ℕ → Items → By × Buckets
site_of_rest no_by [] k ts = (by_from k ts, buckets_from (k + sites_in_by (by_from k ts)) ts)
site_of_rest no_by (b ∷ bs) k ts = (no_by, onto_buckets (b ∷ bs) (buckets_from k ts))
site_of_rest (by e) bs k ts = (by e, onto_buckets bs (buckets_from k ts))

abbrev pub sites_of : By × Buckets → ℕ
sites_of p = sites_in_by p.0 + sites_in_buckets p.1

pub site-end : (b : By) (bs : List Bucket) (k : ℕ) → site_of_rest b bs k no_items ≡ (b, buckets_of bs)
site-end no_by [] k = refl
site-end no_by (c ∷ cs) k = ap (λ xs. (no_by, xs)) (onto_buckets-none (c ∷ cs))
site-end (by e) bs k = ap (λ xs. (by e, xs)) (onto_buckets-none bs)

site-bucket-list : (b : By) (bs : List Bucket) (k : ℕ) (ps ts : Items)
    → site_of_rest b bs k (item_of (list ps) ts) ≡ site_of_rest b (bs ++ bucket_from k ps ∷ []) (k + sites_in_bucket (bucket_from k ps)) ts
site-bucket-list no_by [] k ps ts = ap (λ j. (no_by, buckets_from j (item_of (list ps) ts))) (add-zero k)
site-bucket-list no_by (c ∷ cs) k ps ts = ap (λ xs. (no_by, xs)) (sym (onto_buckets-last (c ∷ cs) (bucket_from k ps) (buckets_from (k + sites_in_bucket (bucket_from k ps)) ts)))
site-bucket-list (by e) bs k ps ts = ap (λ xs. (by e, xs)) (sym (onto_buckets-last bs (bucket_from k ps) (buckets_from (k + sites_in_bucket (bucket_from k ps)) ts)))

pub site-bucket : (b : By) (bs : List Bucket) (k : ℕ) (t : Shape) (ps ts : Items) → t ≡ list ps
    → site_of_rest b bs k (item_of t ts) ≡ site_of_rest b (bs ++ bucket_from k ps ∷ []) (k + sites_in_bucket (bucket_from k ps)) ts
site-bucket b bs k t ps ts is = ap (λ x. site_of_rest b bs k (item_of x ts)) is ∙ site-bucket-list b bs k ps ts

pub site-by : (k : ℕ) (t : Shape) (ts : Items) → is_list_tree t ≡ false
    → site_of_rest no_by [] k (item_of t ts) ≡ site_of_rest (by (expression_from k t)) [] (k + sites (expression_from k t)) ts
site-by k t ts other =
    let made = by_from-other k t ts other in
    ap (λ (b : By). (b, buckets_from (k + sites_in_by b) (item_of t ts))) made ∙ ap (λ xs. (by (expression_from k t), xs)) (buckets_from-other (k + sites (expression_from k t)) t ts other)

-- what is no list and not the first is passed over
pub site-none_by : (b : Option (Box Node Global)) (bs : List Bucket) (k : ℕ) (t : Shape) (ts : Items) → is_list_tree t ≡ false → is_some b ≡ true
    → site_of_rest (boxed_view b) bs k (item_of t ts) ≡ site_of_rest (boxed_view b) bs k ts
site-none_by None bs k t ts other h = cc
site-none_by (Some e) bs k t ts other h = ap (λ xs. (by (node_view e.value), onto_buckets bs xs)) (buckets_from-other k t ts other)

pub site-none_buckets : (b : By) (bs : List Bucket) (k : ℕ) (t : Shape) (ts : Items) → is_list_tree t ≡ false → 0 < length bs → site_of_rest b bs k (item_of t ts) ≡ site_of_rest b bs k ts
site-none_buckets no_by [] k t ts other h = absurd (omega arith)
site-none_buckets no_by (c ∷ cs) k t ts other h = ap (λ xs. (no_by, onto_buckets (c ∷ cs) xs)) (buckets_from-other k t ts other)
site-none_buckets (by e) bs k t ts other h = ap (λ xs. (by e, onto_buckets bs xs)) (buckets_from-other k t ts other)

pub site-sites : (b : By) (bs : List Bucket) (k : ℕ) (ts : Items) → sites_in_by b + sites_in_buckets (buckets_of bs) ≤ sites_of (site_of_rest b bs k ts)
site-sites no_by [] k ts = omega arith
site-sites no_by (c ∷ cs) k ts = omega (arith, sites-onto_buckets (c ∷ cs) (buckets_from k ts))
site-sites (by e) bs k ts = omega (arith, sites-onto_buckets bs (buckets_from k ts))

pub site-fits : (b : By) (bs : List Bucket) (k first : ℕ) (ts all : Items) → site_of_rest b bs k ts ≡ site_of_rest no_by [] first all
    → first + sites_of (site_of_rest no_by [] first all) < 2 ^ 32 → first + (sites_in_by b + sites_in_buckets (buckets_of bs)) < 2 ^ 32
site-fits b bs k first ts all h fits = omega (arith, site-sites b bs k ts, ap sites_of h, fits)

-- ---- a computed bucket

pub computed-first : (k : ℕ) (name : Shape) (ts : Items) → sites (expression_from k name) ≤ sites_in_bucket (computed_from k (item_of name ts))
computed-first k name no_items = omega arith
computed-first k name (item_of weight ts) = omega arith
