-- The place of a name that stands again, over what was read and one more; and that there is one exactly where a name has a twin.
use Rattle.std.proofs.Common.{◌≡◌, ◌++◌, ◌||◌, ℕ, List, [], Option, Some, None, is_some, option_map, String, Global, string_bytes, refl, sym, ap, ap₂, ◌∙◌}
use Rattle.std.specs.Option.{option_or}
use Rattle.json.specs.Json.{Json, null, boolean, number, string, array, object, Items, no_items, item, Members, no_members, member}
use Rattle.member_names.specs.Places.{behind, items_place, members_place, next, place_of, step_at, step_to, told, twin_place, first_again}
use Rattle.member_names.specs.Repeated.{has_twin, item_repeats, member_names, member_repeats, repeats}
use Rattle.member_names.proofs.Grammar.{joined, joined_items}
use Rattle.member_names.proofs.SecondNames.{has_twin_again}

abbrev pub Place : Type 0
Place = Option (List ℕ)

-- the number of the item behind these, of which the first has the number n
abbrev pub behind_items : ℕ → Items → ℕ
behind_items n no_items = n
behind_items n (item j js) = behind_items (next n) js

pub one_behind : (n : ℕ) (ds : Items) (j : Json) → behind_items n (joined_items ds (item j no_items)) ≡ next (behind_items n ds)
one_behind n no_items j = refl
one_behind n (item d ds) j = one_behind (next n) ds j

or_last : (a : Place) → option_or a None ≡ a
or_last None = refl
or_last (Some p) = refl

or_more : (a b c : Place) → option_or a (option_or b c) ≡ option_or (option_or a b) c
or_more None b c = refl
or_more (Some p) b c = refl

pub items_place-more : (n : ℕ) (ds : Items) (j : Json) → items_place n (joined_items ds (item j no_items)) ≡ option_or (items_place n ds) (behind (step_at (behind_items n ds)) (place_of j))
items_place-more n no_items j = or_last (behind (step_at n) (place_of j))
items_place-more n (item d ds) j =
    let first = behind (step_at n) (place_of d) in
    ap (option_or first) (items_place-more (next n) ds j) ∙ or_more first (items_place (next n) ds) (behind (step_at (behind_items (next n) ds)) (place_of j))

pub members_place-more : (k : List ℕ) (j : Json) (ds : Members) → members_place (joined ds (member k j no_members)) ≡ option_or (members_place ds) (behind (step_to k) (place_of j))
members_place-more k j no_members = or_last (behind (step_to k) (place_of j))
members_place-more k j (member l d ds) =
    let first = behind (step_to l) (place_of d) in
    ap (option_or first) (members_place-more k j ds) ∙ or_more first (members_place ds) (behind (step_to k) (place_of j))

-- ---- whether there is a place

either_told : (a b : Place) → is_some (option_or a b) ≡ (is_some a || is_some b)
either_told None b = refl
either_told (Some p) b = refl

pub mapped_told : {A B : Type 0} (f : A → B) (o : Option A) → is_some (option_map f o) ≡ is_some o
mapped_told f None = refl
mapped_told f (Some a) = refl

twin_told : (names : List (List ℕ)) → is_some (twin_place names) ≡ has_twin names
twin_told names = mapped_told step_to (first_again [] names) ∙ has_twin_again names

mutual
  pub place_told : (j : Json) → is_some (place_of j) ≡ repeats j
  place_told null = refl
  place_told (boolean b) = refl
  place_told (number s) = refl
  place_told (string s) = refl
  place_told (array js) = items_told 0 js
  place_told (object ms) = either_told (twin_place (member_names ms)) (members_place ms) ∙ ap₂ (λ a b. a || b) (twin_told (member_names ms)) (members_told ms)

  items_told : (n : ℕ) (js : Items) → is_some (items_place n js) ≡ item_repeats js
  items_told n no_items = refl
  items_told n (item j js) =
      either_told (behind (step_at n) (place_of j)) (items_place (next n) js) ∙ ap₂ (λ a b. a || b) (mapped_told (λ p. step_at n ++ p) (place_of j) ∙ place_told j) (items_told (next n) js)

  pub members_told : (ms : Members) → is_some (members_place ms) ≡ member_repeats ms
  members_told no_members = refl
  members_told (member k j ms) =
      either_told (behind (step_to k) (place_of j)) (members_place ms) ∙ ap₂ (λ a b. a || b) (mapped_told (λ p. step_to k ++ p) (place_of j) ∙ place_told j) (members_told ms)

-- ---- whether a text of a place is told

module _ (o : Option (String Global)) where
  pub place_is_told : (j : Json) → told o ≡ place_of j → is_some o ≡ repeats j
  place_is_told j is = sym (mapped_told string_bytes o) ∙ ap (λ p. is_some p) is ∙ place_told j

  pub members_are_told : (ms : Members) → told o ≡ members_place ms → is_some o ≡ member_repeats ms
  members_are_told ms is = sym (mapped_told string_bytes o) ∙ ap (λ p. is_some p) is ∙ members_told ms

  pub twin_is_told : (other : Option (String Global)) (names own : List (List ℕ)) → told o ≡ option_or (twin_place names) (told other) → names ≡ own → is_some o ≡ (has_twin own || is_some other)
  twin_is_told other names own is same =
      sym (mapped_told string_bytes o) ∙ ap (λ p. is_some p) is ∙ either_told (twin_place names) (told other) ∙ ap₂ (λ a b. a || b) (twin_told names) (mapped_told string_bytes other)
      ∙ ap (λ ns. has_twin ns || is_some other) same

  pub behind_is_told : (before inner : Option (String Global)) (step : List ℕ) → told o ≡ option_or (told before) (behind step (told inner)) → is_some o ≡ (is_some before || is_some inner)
  behind_is_told before inner step is =
      sym (mapped_told string_bytes o) ∙ ap (λ p. is_some p) is ∙ either_told (told before) (behind step (told inner))
      ∙ ap₂ (λ a b. a || b) (mapped_told string_bytes before) (mapped_told (λ p. step ++ p) (told inner) ∙ mapped_told string_bytes inner)
