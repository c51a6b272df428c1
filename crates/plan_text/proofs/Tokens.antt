-- The tokens of an answer's tree: their text is the tree's, and the tree is read from them.
use Rattle.std.proofs.Common.{◌≡◌, ℕ, suc, ◌<◌, ◌≤◌, ◌^◌, ℤ, pos, negsuc, List, [], ◌∷◌, length, true, Some, Ok, option_map, option_and_then, refl, sym, ap, ap₂, ◌∙◌, arith, append-nil}
use Rattle.std.specs.Str.{IsUtf8}
use Rattle.std.proofs.lemmas.Bool.{ltb-true}
use Rattle.json.specs.Json as json
use Rattle.json.specs.Lex.{tokens}
use Rattle.json.specs.Print.{print}
use Rattle.json.specs.Tree.{json_tokens, depth, items_depth}
use Rattle.json.proofs.Printed.Trees.{value-json_tokens}
use Rattle.serde_json.specs.Data as value
use Rattle.serde_json.specs.Read.{of_json, of_items, read, max_depth}
use Rattle.serde_json.specs.Written.{outline, items_outline, members_outline}
use Rattle.serde_json.proofs.Numbers.{number_of-decimal, number_of-negative}
use Rattle.serde_json.proofs.Texts.{print-outline}
use Rattle.flag_text.specs.Grammar.{written, items_written, members_written}
use Rattle.flag_text.specs.Printing.{data_of, items_data, members_data, text_of}
use Rattle.flag_text.specs.Reading.{tree_of}
use Rattle.flag_text.specs.Shape.{Shape, null, boolean, whole, other, text, list, object, Items, no_items, item, Members, no_members, member, comes_first, is_in_range, is_whole, items_are_whole, members_are_whole}
use Rattle.flag_text.proofs.Bools.{left, right}
use Rattle.flag_text.proofs.Printed.{members_data-rising, tree_of-written}
use Rattle.transport_core.specs.Groups.{GroupKey}
use Rattle.transport_core.specs.declared.certificate.CutKind.TheVariants.{Over, Under}
use Rattle.plan_text.specs.Answer.{Answer, emit, none_exists}
use Rattle.transport_core.specs.WrittenCertificate.{items_by, alpha_written, beta_written}
use Rattle.plan_text.specs.PlanFile.{entry_written, planned_written}
use Rattle.plan_text.proofs.ReadBack.{planned_levels}

-- ---- the text

mutual
  outline-written : (t : Shape) → is_whole t ≡ true → outline (data_of t) ≡ written t
  outline-written null h = refl
  outline-written (boolean b) h = refl
  outline-written (whole (pos n)) h = refl
  outline-written (whole (negsuc n)) h = refl
  outline-written other h = refl
  outline-written (text s) h = refl
  outline-written (list ts) h = ap json.array (items_outline-written ts h)
  outline-written (object ms) h = ap json.object (members_outline-written ms h)

  items_outline-written : (ts : Items) → items_are_whole ts ≡ true → items_outline (items_data ts) ≡ items_written ts
  items_outline-written no_items h = refl
  items_outline-written (item t ts) h = ap₂ json.item (outline-written t (left _ _ h)) (items_outline-written ts (right (is_whole t) _ h))

  members_outline-written : (ms : Members) → members_are_whole ms ≡ true → members_outline (members_data ms) ≡ members_written ms
  members_outline-written no_members h = refl
  members_outline-written (member k t ms) h =
      let rest = right (comes_first k ms) _ h in
      ap members_outline (members_data-rising k t ms h) ∙ ap₂ (json.member k) (outline-written t (left _ _ rest)) (members_outline-written ms (right (is_whole t) _ rest))

pub print-written : (t : Shape) → is_whole t ≡ true → print (json_tokens (written t)) ≡ text_of t
unfolding text_of
print-written t h = ap (λ j. print (json_tokens j)) (sym (outline-written t h)) ∙ print-outline (data_of t)

-- ---- what it is read as

abbrev Reads : Shape → Type 0
Reads t = of_json (written t) ≡ Some (data_of t)

whole_reads : (n : ℤ) → is_in_range n ≡ true → Reads (whole n)
whole_reads (pos n) h =
    let small : n < 2 ^ 53 = ltb-true n (2 ^ 53) h in
    ap (option_map value.number) (number_of-decimal n (omega arith))
whole_reads (negsuc n) h =
    let small : suc n < 2 ^ 53 = ltb-true (suc n) (2 ^ 53) h in
    ap (option_map value.number) (number_of-negative n (omega arith))

rows_read : {X : Type 0} (f : X → Shape) → ((x : X) → is_whole (f x) ≡ true → Reads (f x)) → (xs : List X) → items_are_whole (items_by f xs) ≡ true
    → of_items (items_written (items_by f xs)) ≡ Some (items_data (items_by f xs))
rows_read f each [] h = refl
rows_read f each (x ∷ xs) h =
    ap (option_and_then (λ d. option_map (value.item d) (of_items (items_written (items_by f xs))))) (each x (left _ _ h)) ∙ ap (option_map (value.item (data_of (f x)))) (rows_read f each xs (right (is_whole (f x)) _ h))

alpha_reads : (a : GroupKey × ℤ) → is_whole (alpha_written a) ≡ true → Reads (alpha_written a)
alpha_reads a h =
    let count = whole_reads (pos a.0.1) (left (is_in_range (pos a.0.1)) _ h) in
    let n = whole_reads a.1 (left (is_in_range a.1) _ (right (is_in_range (pos a.0.1)) _ h)) in
    rw (count, n) refl

beta_reads : (b : List ℕ × ℤ) → is_whole (beta_written b) ≡ true → Reads (beta_written b)
beta_reads b h = let n = whole_reads b.1 (left (is_in_range b.1) _ h) in rw n refl

entry_reads : (e : List ℕ × ℕ) → is_whole (entry_written e) ≡ true → Reads (entry_written e)
entry_reads e h = let n = whole_reads (pos e.1) (left (is_in_range (pos e.1)) _ h) in rw n refl

one_reads : Reads (whole (pos 1))
one_reads = whole_reads (pos 1) refl

two_reads : Reads (whole (pos 2))
two_reads = whole_reads (pos 2) refl

answer_reads : (a : Answer) → is_whole (planned_written a) ≡ true → Reads (planned_written a)
answer_reads (emit rule c) h =
    let alpha = rows_read alpha_written alpha_reads c.alpha (left _ _ h) in
    let more = right (items_are_whole (items_by alpha_written c.alpha)) _ h in
    let beta = rows_read beta_written beta_reads c.beta (left _ _ more) in
    let last = right (items_are_whole (items_by beta_written c.beta)) _ more in
    let cost = whole_reads (pos c.cost) (left (is_in_range (pos c.cost)) _ last) in
    let entries = rows_read entry_written entry_reads rule (left _ _ (right (is_in_range (pos c.cost)) _ last)) in
    rw (alpha, beta, cost, one_reads, entries) refl
answer_reads (none_exists Over names) h = let all = rows_read text (λ s _. refl) names (left _ _ h) in rw (all, one_reads) refl
answer_reads (none_exists Under names) h = let all = rows_read text (λ s _. refl) names (left _ _ h) in rw (all, two_reads) refl

-- ---- how deep it is

rows_depth : {X : Type 0} (n : ℕ) (f : X → Shape) (xs : List X) → ((x : X) → depth (written (f x)) ≤ n) → items_depth (items_written (items_by f xs)) ≤ n
rows_depth n f [] h = omega arith
rows_depth n f (x ∷ xs) h = let first = h x in let rest = rows_depth n f xs h in omega (arith, first, rest)

shallow : (a : Answer) → depth (written (planned_written a)) ≤ max_depth
shallow (emit rule c) =
    let alpha = rows_depth 1 alpha_written c.alpha (λ x. omega arith) in
    let beta = rows_depth 1 beta_written c.beta (λ x. omega arith) in
    let entries = rows_depth 1 entry_written rule (λ x. omega arith) in
    omega (arith, alpha, beta, entries)
shallow (none_exists Over names) = let flat = rows_depth 0 text names (λ x. omega arith) in omega (arith, flat)
shallow (none_exists Under names) = let flat = rows_depth 0 text names (λ x. omega arith) in omega (arith, flat)

-- bytes with these tokens
pub tree_of-answer : (bytes : List ℕ) (limit : ℕ) (a : Answer) → is_whole (planned_written a) ≡ true → length bytes ≤ limit → IsUtf8 bytes → tokens bytes ≡ json_tokens (written (planned_written a))
    → tree_of bytes limit ≡ Ok (planned_written a)
tree_of-answer bytes limit a h fits u is =
    let t = planned_written a in
    let known : read bytes ≡ Some (data_of t) =
    ap (λ ts. option_and_then of_json (option_and_then (λ p. json.if_last p.0 p.1) (json.value max_depth ts))) (is ∙ sym (append-nil (json_tokens (written t))))
    ∙ ap (λ r. option_and_then of_json (option_and_then (λ p. json.if_last p.0 p.1) r)) (value-json_tokens (written t) max_depth [] (shallow a))
    ∙ answer_reads a h in
    tree_of-written bytes limit t h (planned_levels a) fits u known
