-- The grammar's loops, a turn at a time, over what was read and what is left.
use Rattle.std.proofs.Common.{◌≡◌, ℕ, ◌-◌, ◌<◌, ◌≤◌, List, [], ◌∷◌, ◌++◌, length, Option, Some, None, refl, ap, ◌∙◌}
use Rattle.json.specs.Json.{Json, Items, no_items, item, Members, no_members, member, Parse, parse_map, after_end_array, read_key, items, members}
use Rattle.json.specs.Token.{Token}
use Rattle.json.proofs.Grammar.{items_end, items_fail, items_more, members_end, members_no_key, members_fail, members_more}
use Rattle.member_names.specs.Repeated.{member_names}

-- the ones and then the others
abbrev pub joined_items : Items → Items → Items
joined_items no_items js = js
joined_items (item j ds) js = item j (joined_items ds js)

abbrev pub joined : Members → Members → Members
joined no_members ms = ms
joined (member k j ds) ms = member k j (joined ds ms)

items_joined : (ds : Items) (j : Json) (js : Items) → joined_items ds (item j js) ≡ joined_items (joined_items ds (item j no_items)) js
items_joined no_items j js = refl
items_joined (item d ds) j js = ap (item d) (items_joined ds j js)

items_whole : (ds : Items) → joined_items ds no_items ≡ ds
items_whole no_items = refl
items_whole (item d ds) = ap (item d) (items_whole ds)

members_joined : (ds : Members) (k : List ℕ) (j : Json) (ms : Members) → joined ds (member k j ms) ≡ joined (joined ds (member k j no_members)) ms
members_joined no_members k j ms = refl
members_joined (member l d ds) k j ms = ap (member l d) (members_joined ds k j ms)

members_whole : (ds : Members) → joined ds no_members ≡ ds
members_whole no_members = refl
members_whole (member l d ds) = ap (member l d) (members_whole ds)

items_shifted : (ds : Items) (j : Json) (o : Option (Items × List Token)) → parse_map (joined_items ds) (parse_map (item j) o) ≡ parse_map (joined_items (joined_items ds (item j no_items))) o
items_shifted ds j None = refl
items_shifted ds j (Some q) = ap (λ js. Some (js, q.1)) (items_joined ds j q.0)

members_shifted : (ds : Members) (k : List ℕ) (j : Json) (o : Option (Members × List Token)) → parse_map (joined ds) (parse_map (member k j) o) ≡ parse_map (joined (joined ds (member k j no_members))) o
members_shifted ds k j None = refl
members_shifted ds k j (Some q) = ap (λ ms. Some (ms, q.1)) (members_joined ds k j q.0)

pub items_first : (o : Option (Items × List Token)) → o ≡ parse_map (joined_items no_items) o
items_first None = refl
items_first (Some q) = refl

pub members_first : (o : Option (Members × List Token)) → o ≡ parse_map (joined no_members) o
members_first None = refl
members_first (Some q) = refl

module _ (p : Parse Json) (n : ℕ) (ts : List Token) where
  module _ (all : Option (Items × List Token)) (ds : Items) (so_far : all ≡ parse_map (joined_items ds) (items p n ts)) where
    pub item_taken : (r : List Token) (j : Json) → 0 < n → after_end_array ts ≡ None → p ts ≡ Some (j, r) → all ≡ parse_map (joined_items (joined_items ds (item j no_items))) (items p (n - 1) r)
    item_taken r j some going is = so_far ∙ ap (parse_map (joined_items ds)) (items_more p n ts r j some going is) ∙ items_shifted ds j (items p (n - 1) r)

    pub item_refused : after_end_array ts ≡ None → p ts ≡ None → all ≡ None
    item_refused going none = so_far ∙ ap (parse_map (joined_items ds)) (items_fail p n ts going none)

    pub items_over : (r : List Token) → length ts ≤ n → after_end_array ts ≡ Some r → all ≡ Some (ds, r)
    items_over r enough is = so_far ∙ ap (parse_map (joined_items ds)) (items_end p n ts r enough is) ∙ ap (λ js. Some (js, r)) (items_whole ds)

  module _ (all : Option (Members × List Token)) (ds : Members) (so_far : all ≡ parse_map (joined ds) (members p n ts)) where
    pub member_taken : (k : List ℕ) (s r : List Token) (j : Json) → 0 < n → read_key ts ≡ Some (Some k, s) → p s ≡ Some (j, r)
        → all ≡ parse_map (joined (joined ds (member k j no_members))) (members p (n - 1) r)
    member_taken k s r j some key is = so_far ∙ ap (parse_map (joined ds)) (members_more p n k ts s r j some key is) ∙ members_shifted ds k j (members p (n - 1) r)

    pub member_refused : (k : List ℕ) (s : List Token) → read_key ts ≡ Some (Some k, s) → p s ≡ None → all ≡ None
    member_refused k s key none = so_far ∙ ap (parse_map (joined ds)) (members_fail p n k ts s key none)

    pub key_refused : read_key ts ≡ None → all ≡ None
    key_refused none = so_far ∙ ap (parse_map (joined ds)) (members_no_key p n ts none)

    pub members_over : (r : List Token) → length ts ≤ n → read_key ts ≡ Some (None, r) → all ≡ Some (ds, r)
    members_over r enough is = so_far ∙ ap (parse_map (joined ds)) (members_end p n ts r enough is) ∙ ap (λ ms. Some (ms, r)) (members_whole ds)

-- the names of members with one more
pub member_names-more : (k : List ℕ) (j : Json) (ds : Members) → member_names (joined ds (member k j no_members)) ≡ member_names ds ++ k ∷ []
member_names-more k j no_members = refl
member_names-more k j (member l d ds) = ap (λ names. l ∷ names) (member_names-more k j ds)
