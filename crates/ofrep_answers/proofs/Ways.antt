-- There is a way to what a context is refused for.
use Rattle.std.proofs.Common.{◌≡◌, ◌<◌, ◌==◌, ◌-◌, ◌+◌, ℕ, zero, suc, max, Bool, true, false, if◌then◌else◌, nat_lt, List, [], ◌∷◌, codes, length, Option, Some, None, option_map, is_some, Result, Ok, Err, refl, arith}
use Rattle.std.proofs.lemmas.Bool.{ltb-true, ltb-false}
use Rattle.std.specs.Str.{is_utf8}
use Rattle.flag_text.specs.Reading.{if_json, json_of, max_levels, shape_of}
use Rattle.flag_text.specs.Readers.{find_member}
use Rattle.flag_text.specs.Shape.{Shape, null, boolean, whole, other, text, list, object, Items, no_items, item, Members, no_members, member}
use Rattle.flag_text.specs.declared.fault.TextFault.TheVariants as text_fault
use Rattle.ofrep_answers.specs.Context.{body_context, context_as, context_in, context_within, max_body, read_as, whole_context}
use Rattle.ofrep_answers.specs.Deep.{is_too_deep}
use Rattle.ofrep_answers.specs.ContextLaw.{HasWays}
use Rattle.ofrep_answers.specs.Way.{first, way_to, way_in_items, way_in_members, way_in, way_of}
use Rattle.ofrep_answers.specs.declared.fault.ContextFault.{ContextFault}
use Rattle.ofrep_answers.specs.declared.fault.ContextFault.TheVariants as fault
use Rattle.spelled_numbers.specs.Levels.{sent_items_levels, sent_levels, sent_members_levels, stand_for_number, without_spelling}
use Rattle.spelled_numbers.specs.Sent.{if_shallow, respelled}

here : (f : List ℕ → List ℕ) (o later : Option (List ℕ)) → is_some o ≡ true → is_some (first (option_map f o) later) ≡ true
here f None later h = cc
here f (Some way) later h = refl

behind : (f : List ℕ → List ℕ) (o later : Option (List ℕ)) → is_some later ≡ true → is_some (first (option_map f o) later) ≡ true
behind f None later h = h
behind f (Some way) later h = refl

one_of : {C : Type 0} (n a b : ℕ) → n < max a b → (n < a → C) → (n < b → C) → C
one_of {C} n a b h f g = by (nat_lt n a) refl
  where
    by : (q : Bool) → nat_lt n a ≡ q → C
    by true e = f (ltb-true n a e)
    by false e = g (omega (arith, ltb-false n a e, h))

beyond : (b : Bool) (rest : Option (List ℕ)) → (b ≡ false → is_some rest ≡ true) → is_some (if b then Some [] else rest) ≡ true
beyond true rest k = refl
beyond false rest k = k refl

less : (n m : ℕ) → n < suc m → (n == 0) ≡ false → n - 1 < m
less zero m h e = cc
less (suc n) m h e = omega (arith, h)

no_number : (n : ℕ) (b : Bool) (m : ℕ) (rest : Option (List ℕ)) → n < (if b then 0 else suc m) → (n < suc m → is_some rest ≡ true) → is_some (if b then None else rest) ≡ true
no_number n true m rest h k = absurd (omega (arith, h))
no_number n false m rest h k = k h

-- the way to what nests deeper than there may be
mutual
  deep : (n : ℕ) (t : Shape) → n < sent_levels t → is_some (way_to n t) ≡ true
  deep n null h = absurd (omega (arith, h))
  deep n (boolean b) h = absurd (omega (arith, h))
  deep n (whole z) h = absurd (omega (arith, h))
  deep n other h = absurd (omega (arith, h))
  deep n (text s) h = absurd (omega (arith, h))
  deep n (list ts) h = beyond (n == 0) (way_in_items (n - 1) ts 0) (λ e. deep-items (n - 1) ts 0 (less n (sent_items_levels ts) h e))
  deep n (object ms) h = no_number n (stand_for_number ms) (sent_members_levels ms) _ h (λ k. beyond (n == 0) (way_in_members (n - 1) ms) (λ e. deep-members (n - 1) ms (less n (sent_members_levels ms) k e)))

  deep-items : (n : ℕ) (ts : Items) (place : ℕ) → n < sent_items_levels ts → is_some (way_in_items n ts place) ≡ true
  deep-items n no_items place h = absurd (omega (arith, h))
  deep-items n (item t ts) place h =
      one_of n (sent_levels t) (sent_items_levels ts) h (λ e. here _ (way_to n t) (way_in_items n ts (place + 1)) (deep n t e)) (λ e. behind _ (way_to n t) (way_in_items n ts (place + 1)) (deep-items n ts (place + 1) e))

  deep-members : (n : ℕ) (ms : Members) → n < sent_members_levels ms → is_some (way_in_members n ms) ≡ true
  deep-members n no_members h = absurd (omega (arith, h))
  deep-members n (member k t ms) h =
      one_of n (sent_levels t) (sent_members_levels ms) h (λ e. here _ (way_to n t) (way_in_members n ms) (deep n t e)) (λ e. behind _ (way_to n t) (way_in_members n ms) (deep-members n ms e))

of_shallow : (t : Shape) → read_as (if_shallow (Ok t)) ≡ Err fault.TooDeep → is_some (way_to max_levels t) ≡ true
of_shallow t e = by (nat_lt max_levels (sent_levels t)) refl e
  where
    by : (b : Bool) → nat_lt max_levels (sent_levels t) ≡ b → read_as (if b then Err text_fault.TooDeep else Ok (without_spelling t)) ≡ Err fault.TooDeep → is_some (way_to max_levels t) ≡ true
    by true below a = deep max_levels t (ltb-true max_levels (sent_levels t) below)
    by false below a = cc

of_member : (o : Option Shape) → context_in o ≡ Err fault.TooDeep → is_some (way_in o) ≡ true
of_member None e = cc
of_member (Some null) e = cc
of_member (Some (object ms)) e = by (stand_for_number ms) e
  where
    by : (b : Bool) → context_as (if b then other else object ms) ≡ Err fault.TooDeep → is_some (way_to max_levels (object ms)) ≡ true
    by true a = cc
    by false a = of_shallow (object ms) a
of_member (Some (boolean b)) e = cc
of_member (Some (whole n)) e = cc
of_member (Some other) e = cc
of_member (Some (text x)) e = cc
of_member (Some (list ts)) e = cc

of_tree : (t : Shape) → body_context (Ok t) ≡ Err fault.TooDeep → is_some (way_of (Ok t)) ≡ true
of_tree (object ms) e = by (stand_for_number ms) e
  where
    by : (b : Bool) → context_within (if b then other else object ms) ≡ Err fault.TooDeep → is_some (way_of (Ok (object ms))) ≡ true
    by true a = cc
    by false a = of_member (find_member (codes "context") ms) a
of_tree null e = cc
of_tree (boolean b) e = cc
of_tree (whole n) e = cc
of_tree other e = cc
of_tree (text x) e = cc
of_tree (list ts) e = cc

abbrev unread : Bool → Result Shape ContextFault
unread b = Err (if b then fault.BodyTooDeep else fault.NotJson)

not_deep : (b : Bool) → unread b ≡ Err fault.TooDeep → ⊥
not_deep true e = cc
not_deep false e = cc

of_doc : (body : List ℕ) (b u : Bool) (j : _) → whole_context body (if b then Err text_fault.TooLarge else (if u then if_json j else Err text_fault.NotJson)) ≡ Err fault.TooDeep
    → is_some (way_of (if b then Err text_fault.TooLarge else (if u then if_json j else Err text_fault.NotJson))) ≡ true
of_doc body true u j e = cc
of_doc body false false j e = absurd (not_deep (is_too_deep body) e)
of_doc body false true None e = absurd (not_deep (is_too_deep body) e)
of_doc body false true (Some d) e = of_tree (shape_of d) e

pub ways : HasWays
ways [] e = cc
ways (b ∷ bytes) e = of_doc (b ∷ bytes) (nat_lt max_body (length (b ∷ bytes))) (is_utf8 (b ∷ bytes)) (json_of (respelled (b ∷ bytes))) e
