-- What is written for an answer is read as its tree.
use Rattle.std.proofs.Common.{◌≡◌, ℕ, suc, ◌<◌, ◌≤◌, ◌^◌, ℤ, pos, negsuc, List, [], ◌∷◌, true, Some, option_map, option_and_then, refl, ap, ◌∙◌, arith}
use Rattle.std.proofs.lemmas.Bool.{ltb-true}
use Rattle.json.specs.Tree.{depth, items_depth}
use Rattle.serde_json.specs.Data as value
use Rattle.serde_json.specs.Read.{of_json, of_items}
use Rattle.serde_json.specs.Written.{outline, items_outline}
use Rattle.serde_json.proofs.Numbers.{number_of-decimal, number_of-negative}
use Rattle.flag_text.specs.Printing.{data_of, items_data}
use Rattle.flag_text.specs.Shape.{Shape, whole, text, levels, is_in_range, is_whole, items_are_whole}
use Rattle.flag_text.proofs.Bools.{left, right}
use Rattle.transport_core.specs.Groups.{GroupKey}
use Rattle.transport_core.specs.WrittenCertificate.{items_by, alpha_written, beta_written}
use Rattle.transport_core.specs.declared.certificate.CutKind.TheVariants.{Over, Under}
use Rattle.plan_text.specs.Answer.{Answer, emit, none_exists}
use Rattle.plan_text.specs.PlanFile.{entry_written, planned_written}
use Rattle.plan_text.proofs.RowsAgain.{rows_levels}

abbrev pub Reads : Shape → Type 0
Reads t = of_json (outline (data_of t)) ≡ Some (data_of t)

pub whole_reads : (n : ℤ) → is_in_range n ≡ true → Reads (whole n)
whole_reads (pos n) h =
    let small : n < 2 ^ 53 = ltb-true n (2 ^ 53) h in
    ap (option_map value.number) (number_of-decimal n (omega arith))
whole_reads (negsuc n) h =
    let small : suc n < 2 ^ 53 = ltb-true (suc n) (2 ^ 53) h in
    ap (option_map value.number) (number_of-negative n (omega arith))

rows_read : {X : Type 0} (f : X → Shape) → ((x : X) → is_whole (f x) ≡ true → Reads (f x)) → (xs : List X) → items_are_whole (items_by f xs) ≡ true
    → of_items (items_outline (items_data (items_by f xs))) ≡ Some (items_data (items_by f xs))
rows_read f each [] h = refl
rows_read f each (x ∷ xs) h =
    ap (option_and_then (λ d. option_map (value.item d) (of_items (items_outline (items_data (items_by f xs)))))) (each x (left _ _ h))
    ∙ ap (option_map (value.item (data_of (f x)))) (rows_read f each xs (right (is_whole (f x)) _ h))

alpha_reads : (a : GroupKey × ℤ) → is_whole (alpha_written a) ≡ true → Reads (alpha_written a)
alpha_reads a h =
    let count = whole_reads (pos a.0.1) (left (is_in_range (pos a.0.1)) _ h) in
    let n = whole_reads a.1 (left (is_in_range a.1) _ (right (is_in_range (pos a.0.1)) _ h)) in
    rw (count, n) refl

beta_reads : (b : List ℕ × ℤ) → is_whole (beta_written b) ≡ true → Reads (beta_written b)
beta_reads b h = let n = whole_reads b.1 (left (is_in_range b.1) _ h) in rw n refl

entry_reads : (e : List ℕ × ℕ) → is_whole (entry_written e) ≡ true → Reads (entry_written e)
entry_reads e h = let n = whole_reads (pos e.1) (left (is_in_range (pos e.1)) _ h) in rw n refl

pub answer_reads : (a : Answer) → is_whole (planned_written a) ≡ true → Reads (planned_written a)
answer_reads (emit rule c) h =
    let one = whole_reads (pos 1) refl in
    let alpha = rows_read alpha_written alpha_reads c.alpha (left _ _ h) in
    let more = right (items_are_whole (items_by alpha_written c.alpha)) _ h in
    let beta = rows_read beta_written beta_reads c.beta (left _ _ more) in
    let last = right (items_are_whole (items_by beta_written c.beta)) _ more in
    let cost = whole_reads (pos c.cost) (left (is_in_range (pos c.cost)) _ last) in
    let entries = rows_read entry_written entry_reads rule (left _ _ (right (is_in_range (pos c.cost)) _ last)) in
    rw (alpha, beta, cost, one, entries) refl
answer_reads (none_exists Over names) h = let one = whole_reads (pos 1) refl in let all = rows_read text (λ s _. refl) names (left _ _ h) in rw (all, one) refl
answer_reads (none_exists Under names) h = let two = whole_reads (pos 2) refl in let all = rows_read text (λ s _. refl) names (left _ _ h) in rw (all, two) refl

-- ---- how deep it is

rows_depth : {X : Type 0} (n : ℕ) (f : X → Shape) (xs : List X) → ((x : X) → depth (outline (data_of (f x))) ≤ n) → items_depth (items_outline (items_data (items_by f xs))) ≤ n
rows_depth n f [] h = omega arith
rows_depth n f (x ∷ xs) h = let first = h x in let rest = rows_depth n f xs h in omega (arith, first, rest)

pub answer_depth : (a : Answer) → depth (outline (data_of (planned_written a))) ≤ 3
answer_depth (emit rule c) =
    let alpha = rows_depth 1 alpha_written c.alpha (λ x. omega arith) in
    let beta = rows_depth 1 beta_written c.beta (λ x. omega arith) in
    let entries = rows_depth 1 entry_written rule (λ x. omega arith) in
    omega (arith, alpha, beta, entries)
answer_depth (none_exists Over names) = let flat = rows_depth 0 text names (λ x. omega arith) in omega (arith, flat)
answer_depth (none_exists Under names) = let flat = rows_depth 0 text names (λ x. omega arith) in omega (arith, flat)

pub answer_levels : (a : Answer) → levels (planned_written a) ≤ 3
answer_levels (emit rule c) =
    let alpha = rows_levels 1 alpha_written c.alpha (λ x. omega arith) in
    let beta = rows_levels 1 beta_written c.beta (λ x. omega arith) in
    let entries = rows_levels 1 entry_written rule (λ x. omega arith) in
    omega (arith, alpha, beta, entries)
answer_levels (none_exists Over names) = let flat = rows_levels 0 text names (λ x. omega arith) in omega (arith, flat)
answer_levels (none_exists Under names) = let flat = rows_levels 0 text names (λ x. omega arith) in omega (arith, flat)
