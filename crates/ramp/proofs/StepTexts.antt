-- The text of a step's line: what it is, and that it has no line feed within.
use Rattle.std.proofs.Common.{◌≡◌, ℕ, suc, ◌<◌, ◌^◌, pos, negsuc, Bool, true, false, List, [], ◌∷◌, ◌++◌, append_assoc, codes, refl, sym, ap, ◌∙◌, subst, arith}
use Rattle.std.specs.Char.{digit_value}
use Rattle.std.specs.Fmt.{decimal}
use Rattle.std.specs.List.{AllByRecursion}
use Rattle.std.specs.Str.Parse.{AllDigits}
use Rattle.std.proofs.lemmas.Bool.{ltb-true, ne_eqb}
use Rattle.std.proofs.lemmas.Fmt.{decimal_is_IsNumeral}
use Rattle.json.specs.Print.{escape_byte, quoted}
use Rattle.serde_json.specs.Data as json
use Rattle.serde_json.specs.Written.{comma_if, compact_text, items_text, members_text}
use Rattle.flag_text.specs.Printing.{data_of, items_data, members_data, text_of}
use Rattle.flag_text.specs.Shape as shape
use Rattle.flag_text.specs.Shape.{Shape, Items, Members, whole, object, no_members, member, comes_first, is_in_range, is_whole, items_are_whole, members_are_whole}
use Rattle.flag_text.proofs.Bools.{left, right}
use Rattle.flag_text.proofs.Printed.{members_data-rising}
use Rattle.book_core.specs.Reading.{is_feed}
use Rattle.book_core.proofs.Fed.{NoFeed, no_feed-input}
use Rattle.plan_text.specs.Answer.{Answer}
use Rattle.plan_text.specs.PlanFile.{planned_written}
use Rattle.ramp.specs.Lines.{step_line}

-- ---- what it is

-- a plan beside the number of its step
abbrev pub step_shape : ℕ → Shape → Shape
step_shape n plan = object (member (codes "plan") plan (member (codes "step") (whole (pos n)) no_members))

-- its text, around that of the plan
abbrev pub step_text : ℕ → List ℕ → List ℕ
step_text n plan = codes "{\"plan\":" ++ (plan ++ (codes ",\"step\":" ++ (decimal n ++ codes "}")))

pub text_of-step : (n : ℕ) (plan : Shape) → text_of (step_shape n plan) ≡ step_text n (text_of plan)
unfolding text_of escape_byte
text_of-step n plan = refl

-- the line is that text and a line feed
pub line_is : (n : ℕ) (a : Answer) → step_line n a ≡ step_text n (text_of (planned_written a)) ++ 10 ∷ []
line_is n a =
    let plan = text_of (planned_written a) in
    ap (λ s. codes "{\"plan\":" ++ (plan ++ (codes ",\"step\":" ++ s))) (sym (append_assoc (decimal n) (125 ∷ []) (10 ∷ [])))
    ∙ ap (λ s. codes "{\"plan\":" ++ s) (sym (append_assoc plan (codes ",\"step\":" ++ (decimal n ++ 125 ∷ [])) (10 ∷ [])))

-- ---- it has no line feed

free-append : (xs ys : List ℕ) → NoFeed xs → NoFeed ys → NoFeed (xs ++ ys)
free-append [] ys first later = later
free-append (x ∷ xs) ys first later = (first.0, free-append xs ys first.1 later)

free-digits : (ds : List ℕ) → AllDigits 10 ds → NoFeed ds
free-digits [] all = tt
free-digits (d ∷ ds) all =
    let here : is_feed d ≡ false = ne_eqb d 10 (λ e. let low : digit_value 10 < 10 = subst (λ x. digit_value x < 10) e all.0 in omega (arith, low)) in
    (here, free-digits ds all.1)

free-decimal : (n : ℕ) → n < 2 ^ 53 → NoFeed (decimal n)
free-decimal n small = free-digits (decimal n) (decimal_is_IsNumeral n (omega arith)).0.1

free-quoted : (s : List ℕ) → NoFeed (quoted s)
unfolding text_of
free-quoted s = no_feed-input s

free-comma : (later : Bool) → NoFeed (comma_if later)
free-comma true = (refl, tt)
free-comma false = tt

mutual
  free : (t : Shape) → is_whole t ≡ true → NoFeed (compact_text (data_of t))
  free shape.null h = (refl, (refl, (refl, (refl, tt))))
  free (shape.boolean true) h = (refl, (refl, (refl, (refl, tt))))
  free (shape.boolean false) h = (refl, (refl, (refl, (refl, (refl, tt)))))
  free (shape.whole (pos n)) h = free-decimal n (ltb-true n (2 ^ 53) h)
  free (shape.whole (negsuc n)) h = (refl, free-decimal (suc n) (ltb-true (suc n) (2 ^ 53) h))
  free shape.other h = (refl, (refl, (refl, (refl, tt))))
  free (shape.text s) h = free-quoted s
  free (shape.list ts) h = (refl, items_free false ts h)
  free (shape.object ms) h = (refl, members_free false ms h)

  items_free : (later : Bool) (ts : Items) → items_are_whole ts ≡ true → NoFeed (items_text later (items_data ts))
  items_free later shape.no_items h = (refl, tt)
  items_free later (shape.item t ts) h =
      free-append (comma_if later) _ (free-comma later) (free-append (compact_text (data_of t)) _ (free t (left _ _ h)) (items_free true ts (right (is_whole t) _ h)))

  members_free : (later : Bool) (ms : Members) → members_are_whole ms ≡ true → NoFeed (members_text later (members_data ms))
  members_free later shape.no_members h = (refl, tt)
  members_free later (shape.member k t ms) h =
      let rest = right (comes_first k ms) _ h in
      let value = free-append (compact_text (data_of t)) _ (free t (left _ _ rest)) (members_free true ms (right (is_whole t) _ rest)) in
      subst (λ ds. NoFeed (members_text later ds)) (sym (members_data-rising k t ms h))
      (free-append (comma_if later) _ (free-comma later) (free-append (quoted k) (58 ∷ (compact_text (data_of t) ++ members_text true (members_data ms))) (free-quoted k) (refl, value)))

pub free-text : (t : Shape) → is_whole t ≡ true → NoFeed (text_of t)
unfolding text_of
free-text t h = free t h
