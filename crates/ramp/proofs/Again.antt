-- What is printed of answers reads as the answers.
use Rattle.std.proofs.Common.{◌≡◌, ℕ, suc, ◌+◌, ◌<◌, ◌≤◌, ◌^◌, pos, negsuc, Bool, true, false, cond, ltb, List, [], ◌∷◌, ◌++◌, length, map, append-nil, append_assoc, length-append, codes, Option, Some, None, option_and_then, Result, Ok, Err, eq-eqb, refl, sym, ap, ap₂, ◌∙◌, subst, arith}
use Rattle.std.specs.Fmt.{decimal}
use Rattle.std.specs.List.{All, AllByRecursion, AllWithin, slice_split}
use Rattle.std.specs.Result.{result_ok}
use Rattle.std.specs.Str.{IsUtf8, is_utf8}
use Rattle.std.proofs.lemmas.Bool.{lt-ltb, ltb-true}
use Rattle.std.proofs.lemmas.Fmt.{IsAscii-decimal}
use Rattle.std.proofs.lemmas.List.Elements.{All-from_all_within, All-from_recursion, recursion_from_All}
use Rattle.std.proofs.lemmas.List.Splits.{slice_split_at}
use Rattle.std.proofs.lemmas.Str.{IsUtf8-append, IsUtf8-from_ascii, IsUtf8-from_is_utf8}
use Rattle.json.specs.Json as json
use Rattle.json.specs.Lex.{tokens}
use Rattle.json.specs.Tree.{HasNumbers, ItemsHaveNumbers, MembersHaveNumbers, json_tokens}
use Rattle.json.proofs.Printed.Decimals.{IsNumber-decimal, IsNumber-signed_decimal}
use Rattle.json.proofs.Printed.Tokens.{tokens-print}
use Rattle.json.proofs.Printed.Trees.{ArePrintable-json_tokens, value-json_tokens}
use Rattle.json.proofs.Printed.Utf8.{IsUtf8-are_ascii}
use Rattle.serde_json.specs.Data.{Data}
use Rattle.serde_json.specs.Read.{max_depth, of_json, read}
use Rattle.serde_json.specs.Written.{compact_text, items_outline, members_outline, outline}
use Rattle.serde_json.proofs.Texts.{print-outline}
use Rattle.flag_text.specs.Printing.{data_of, items_data, members_data, text_of}
use Rattle.flag_text.specs.Reading.{if_json, if_whole, json_of, tree_of}
use Rattle.flag_text.specs.Shape as shape
use Rattle.flag_text.specs.Shape.{Shape, Items, Members, comes_first, is_whole, items_are_whole, members_are_whole, levels}
use Rattle.flag_text.specs.declared.fault.TextFault.TheVariants.{TooLarge}
use Rattle.flag_text.proofs.Bools.{both, left, right}
use Rattle.flag_text.proofs.Printed.{members_data-rising, tree_of-written}
use Rattle.book_core.specs.Reading.{is_feed}
use Rattle.plan_text.specs.Answer.{Answer, IsOrdered, planned_view}
use Rattle.plan_text.specs.PlanFile.{IsWhole, answer_of, if_tree, max_plan, planned_written}
use Rattle.plan_text.specs.declared.planned.Planned.{Planned}
use Rattle.ramp.specs.Lines.{ReadsAgain, and_more, lines_from, read_parts, step_in, step_line, step_of}
use Rattle.ramp.proofs.Parts.{read_cons, some_part}
use Rattle.ramp.proofs.StepTexts.{free-text, line_is, step_shape, step_text, text_of-step}
use Rattle.ramp.proofs.Written.{Reads, answer_depth, answer_levels, answer_reads, whole_reads}

-- ---- the text of a step is UTF-8 where that of its plan is read

-- a text of which an answer is read is UTF-8
read_text : (large utf8 : Bool) (o : Option Data) (a : Answer) → if_tree (if_whole (cond large (Err TooLarge) (if_json (cond utf8 o None)))) ≡ Ok a → utf8 ≡ true
read_text true utf8 o a h = absurd (cc)
read_text false true o a h = refl
read_text false false o a h = absurd (cc)

plan_utf8 : (bytes : List ℕ) (a : Answer) → answer_of bytes ≡ Ok a → IsUtf8 bytes
unfolding json_of
plan_utf8 bytes a h = IsUtf8-from_is_utf8 bytes (read_text (ltb max_plan (length bytes)) (is_utf8 bytes) (read bytes) a h)

step_utf8 : (n : ℕ) (plan : List ℕ) → n < 2 ^ 53 → IsUtf8 plan → IsUtf8 (step_text n plan)
step_utf8 n plan small utf8 =
    let number = IsUtf8-append (decimal n) (125 ∷ []) (IsUtf8-from_ascii _ (IsAscii-decimal n (omega arith))) (IsUtf8-are_ascii (125 ∷ []) refl) in
    let end = IsUtf8-append (codes ",\"step\":") _ (IsUtf8-are_ascii (codes ",\"step\":") refl) number in
    IsUtf8-append (codes "{\"plan\":") _ (IsUtf8-are_ascii (codes "{\"plan\":") refl) (IsUtf8-append plan _ utf8 end)

-- ---- the numbers of a tree of whole numbers are numbers

mutual
  has_numbers : (t : Shape) → is_whole t ≡ true → HasNumbers (outline (data_of t))
  has_numbers shape.null h = tt
  has_numbers (shape.boolean b) h = tt
  has_numbers (shape.whole (pos n)) h = let small = ltb-true n (2 ^ 53) h in IsNumber-decimal n (omega (arith, small))
  has_numbers (shape.whole (negsuc n)) h = let small = ltb-true (suc n) (2 ^ 53) h in IsNumber-signed_decimal (negsuc n) (omega (arith, small))
  has_numbers shape.other h = tt
  has_numbers (shape.text s) h = tt
  has_numbers (shape.list ts) h = items_have_numbers ts h
  has_numbers (shape.object ms) h = members_have_numbers ms h

  items_have_numbers : (ts : Items) → items_are_whole ts ≡ true → ItemsHaveNumbers (items_outline (items_data ts))
  items_have_numbers shape.no_items h = tt
  items_have_numbers (shape.item t ts) h = (has_numbers t (left _ _ h), items_have_numbers ts (right (is_whole t) _ h))

  members_have_numbers : (ms : Members) → members_are_whole ms ≡ true → MembersHaveNumbers (members_outline (members_data ms))
  members_have_numbers shape.no_members h = tt
  members_have_numbers (shape.member k t ms) h =
      let rest = right (comes_first k ms) _ h in
      subst (λ ds. MembersHaveNumbers (members_outline ds)) (sym (members_data-rising k t ms h)) (has_numbers t (left _ _ rest), members_have_numbers ms (right (is_whole t) _ rest))

-- ---- the line of a step

module _ (n : ℕ) (a : Answer) (small : n < 2 ^ 53) (whole : IsWhole a) where
  abbrev S : Shape
  S = step_shape n (planned_written a)

  step_whole : is_whole S ≡ true
  step_whole = both (is_whole (planned_written a)) _ whole (both (ltb n (2 ^ 53)) true (lt-ltb n (2 ^ 53) small) refl)

  step_reads : Reads S
  step_reads =
      let plan = answer_reads a whole in
      let number = whole_reads (pos n) (lt-ltb n (2 ^ 53) small) in
      rw (plan, number) refl

  known : read (text_of S) ≡ Some (data_of S)
  unfolding text_of
  known =
      let j = outline (data_of S) in
      let deep = answer_depth a in
      let is : tokens (text_of S) ≡ json_tokens j ++ [] =
      ap tokens (sym (print-outline (data_of S))) ∙ tokens-print (json_tokens j) (ArePrintable-json_tokens j (has_numbers S step_whole)) ∙ sym (append-nil (json_tokens j)) in
      ap (λ ts. option_and_then of_json (option_and_then (λ p. json.if_last p.0 p.1) (json.value max_depth ts))) is
      ∙ ap (λ r. option_and_then of_json (option_and_then (λ p. json.if_last p.0 p.1) r)) (value-json_tokens j max_depth [] (omega (arith, deep)))
      ∙ step_reads

  step_read : ReadsAgain a → length (text_of S) ≤ max_plan → step_of n (text_of S) ≡ Some a
  step_read again fits =
      let utf8 : IsUtf8 (text_of S) = subst IsUtf8 (sym (text_of-step n (planned_written a))) (step_utf8 n (text_of (planned_written a)) small (plan_utf8 (text_of (planned_written a)) a again)) in
      let low = answer_levels a in
      let tree : tree_of (text_of S) max_plan ≡ Ok S = tree_of-written (text_of S) max_plan S step_whole (omega (arith, low)) fits utf8 known in
      let same = eq-eqb n n refl in
      ap (λ r. option_and_then (step_in n) (result_ok r)) tree ∙ rw (same, again) refl

-- ---- all lines

-- each answer can be written, and its plan file reads as it
abbrev pub AreAgain : List Answer → Type 0
AreAgain answers = AllByRecursion (λ a. IsWhole a × ReadsAgain a) answers

some_byte : (n : ℕ) (as_ : List Answer) → length as_ ≤ length (lines_from n as_)
some_byte n [] = omega arith
some_byte n (a ∷ as_) =
    let line = step_line n a in
    let later = some_byte (suc n) as_ in
    omega (arith, length-append line (lines_from (suc n) as_), later, ap length (line_is n a), length-append (step_text n (text_of (planned_written a))) (10 ∷ []))

lines_again : (as_ : List Answer) (n : ℕ) → AreAgain as_ → n + length as_ < 2 ^ 53 → length (lines_from n as_) ≤ max_plan → read_parts n (slice_split is_feed (lines_from n as_)) ≡ Ok as_
lines_again [] n all few fits = refl
lines_again (a ∷ as_) n all few fits =
    let rest = lines_from (suc n) as_ in
    let body = text_of (step_shape n (planned_written a)) in
    let small : n < 2 ^ 53 = omega (arith, few) in
    let is : step_line n a ≡ body ++ 10 ∷ [] = line_is n a ∙ ap (λ s. s ++ 10 ∷ []) (sym (text_of-step n (planned_written a))) in
    let whole : lines_from n (a ∷ as_) ≡ body ++ 10 ∷ rest = ap (λ s. s ++ rest) is ∙ append_assoc body (10 ∷ []) rest in
    let free = free-text (step_shape n (planned_written a)) (step_whole n a small all.0.0) in
    let split : slice_split is_feed (lines_from n (a ∷ as_)) ≡ body ∷ slice_split is_feed rest =
    ap (slice_split is_feed) whole ∙ slice_split_at is_feed body 10 rest (All-from_recursion (λ (b : ℕ). is_feed b ≡ false) body free) refl in
    let room = length-append body (10 ∷ rest) in
    let this = step_read n a small all.0.0 all.0.1 (omega (arith, fits, ap length whole, room)) in
    let later = lines_again as_ (suc n) all.1 (omega (arith, few)) (omega (arith, fits, ap length whole, room)) in
    ap (read_parts n) split ∙ read_cons n body (slice_split is_feed rest) (some_part rest) ∙ ap₂ (and_more n) this later

-- from the first step on
pub file_again : (as_ : List Answer) → AreAgain as_ → length (lines_from 1 as_) ≤ max_plan → read_parts 1 (slice_split is_feed (lines_from 1 as_)) ≡ Ok as_
file_again as_ all fits = let some = some_byte 1 as_ in lines_again as_ 1 all (omega (arith, fits, some)) fits

-- ---- answers of the program

are_again : (ps : List Planned) → AllByRecursion (λ p. IsWhole (planned_view p)) ps → AllByRecursion (λ p. IsOrdered (planned_view p) → ReadsAgain (planned_view p)) ps → AllByRecursion (λ p. IsOrdered (planned_view p)) ps
    → AreAgain (map planned_view ps)
are_again [] whole reads ordered = tt
are_again (p ∷ ps) whole reads ordered = ((whole.0, reads.0 ordered.0), are_again ps whole.1 reads.1 ordered.1)

pub again : (ps : List Planned) → All (λ p. IsWhole (planned_view p)) ps → AllWithin (λ p. IsOrdered (planned_view p) → ReadsAgain (planned_view p)) ps 0 (length ps) → All (λ p. IsOrdered (planned_view p)) ps
    → AreAgain (map planned_view ps)
again ps whole reads ordered =
    let Again : Planned → Type 0 = λ p. IsOrdered (planned_view p) → ReadsAgain (planned_view p) in
    are_again ps (recursion_from_All (λ (p : Planned). IsWhole (planned_view p)) ps whole) (recursion_from_All Again ps (All-from_all_within Again ps reads)) (recursion_from_All (λ (p : Planned). IsOrdered (planned_view p)) ps ordered)
