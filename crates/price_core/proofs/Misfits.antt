-- Changes that stand twice are found by a set of those that were seen; and a misfit is all that keeps a tree from being a request.
use Rattle.std.proofs.Common.{◌≡◌, ℕ, suc, ◌+◌, ◌<◌, ℤ, List, [], ◌∷◌, map, drop, length, get_or, Bool, true, false, not, ◌&&◌, ◌||◌, cond, if◌then◌else◌, codes, IfSome, Option, Some, None, is_some, is_none, option_map, option_and_then, Ordering, refl, sym, ap, ◌∙◌, add-one}
use Rattle.std.proofs.Math.Seq.{drop-cons}
use Rattle.std.specs.BTreeMap.{is_at}
use Rattle.std.specs.BTreeSet.{insert_key}
use Rattle.std.specs.List.{list_any}
use Rattle.std.specs.Map.{keys_of}
use Rattle.std.specs.Option.{option_or}
use Rattle.std.specs.Ordering.{match_ordering, on}
use Rattle.std.specs.declared.cmp.Ordering.TheVariants.{Less, Equal, Greater}
use Rattle.std.specs.Str.{bytes_eq}
use Rattle.std.proofs.lemmas.Bool.Decides.{same_from_decides, Decides-like}
use Rattle.std.proofs.lemmas.Slice.Eq.{bytes_eq-Decides}
use denote.Ref.{Bor}
use Rattle.flag_text.specs.Readers.{as_list, as_whole}
use Rattle.flag_text.specs.Shape.{Shape, null, boolean, whole, other, text, list, object, Items, no_items, item, Members, no_members, member}
use Rattle.flag_text.specs.View.{view, items_view}
use Rattle.flag_text.specs.declared.tree.Tree.{Tree}
use Rattle.price_core.specs.Limits.{Limits}
use Rattle.price_core.specs.Misfit.{unless, first_unread, first_unlimited, change_parts, first_again, list_in, misfit_of}
use Rattle.price_core.specs.Pricing.{Pair, is_same_pair, pair_cmp, lent_pair}
use Rattle.price_core.specs.Request.{Written, form_in, flag_in, site_in, usual_in, members_in, limit_of, limits_with, pair_of, price_parts, bar_parts, each_of, stands_twice, in_order, once_each, written_of}
use Rattle.price_core.specs.declared.misfit.Misfit.{Misfit}
use Rattle.price_core.specs.declared.misfit.Misfit.TheVariants.{Plan, Flag, Site, Price, Totals, Total, Prices, PricesItem, PricesTwice, Forbid, ForbidItem, ForbidTwice}
use Rattle.price_core.proofs.Changes.{pair_exact, is_same-cmp}
use Rattle.price_core.proofs.Inserts.{once_more, turned}

-- ---- the set of the changes that were seen

abbrev Lent : Type 0
Lent = Bor (List ℕ) × Bor (List ℕ)

abbrev lent_cmp : Lent → Lent → Ordering
lent_cmp = on lent_pair pair_cmp

seen-is : (p : Lent) (ks : List Lent) → list_any (is_at (lent_cmp p)) ks ≡ list_any (is_same_pair (lent_pair p)) (map lent_pair ks)
seen-is p [] = refl
seen-is p (k ∷ ks) = λ i. is_same-cmp (lent_pair p) (lent_pair k) i || seen-is p ks i

module _ (test : Pair → Bool) where
  any-insert_at : (o : Ordering) (p k : Lent) (ks : List Lent) → lent_cmp p k ≡ o
      → list_any test (map lent_pair (insert_key lent_cmp ks p)) ≡ (test (lent_pair p) || list_any test (map lent_pair ks))
      → list_any test (map lent_pair (match_ordering o (p ∷ k ∷ ks) (k ∷ ks) (k ∷ insert_key lent_cmp ks p))) ≡ (test (lent_pair p) || list_any test (map lent_pair (k ∷ ks)))
  any-insert_at Less p k ks is more = refl
  any-insert_at Equal p k ks is more =
      let rest = list_any test (map lent_pair ks) in
      let b = test (lent_pair k) in
      once_more b rest ∙ ap (λ q. test q || (b || rest)) (sym (pair_exact (lent_pair p) (lent_pair k) is))
  any-insert_at Greater p k ks is more = ap (λ x. test (lent_pair k) || x) more ∙ turned (test (lent_pair k)) (test (lent_pair p)) (list_any test (map lent_pair ks))

  any-insert : (ks : List Lent) (p : Lent) → list_any test (map lent_pair (insert_key lent_cmp ks p)) ≡ (test (lent_pair p) || list_any test (map lent_pair ks))
  any-insert [] p = refl
  any-insert (k ∷ ks) p = any-insert_at (lent_cmp p k) p k ks refl (any-insert ks p)

-- ---- the first change that stands there before

and_then-same : {A B : Type 0} (f g : A → Option B) → ((a : A) → f a ≡ g a) → (o : Option A) → option_and_then f o ≡ option_and_then g o
and_then-same f g h None = refl
and_then-same f g h (Some a) = h a

-- it depends on what is seen alone
again-same : (ks ls : List Pair) → ((p : Pair) → list_any (is_same_pair p) ks ≡ list_any (is_same_pair p) ls) → (n : ℕ) (ts : Items) → first_again ks n ts ≡ first_again ls n ts
again-same ks ls h n no_items = refl
again-same ks ls h n (item t ts) =
    and_then-same (λ p. cond (list_any (is_same_pair p) ks) (Some n) (first_again (p ∷ ks) (n + 1) ts)) (λ p. cond (list_any (is_same_pair p) ls) (Some n) (first_again (p ∷ ls) (n + 1) ts))
    (λ p. λ i. cond (h p i) (Some n) (again-same (p ∷ ks) (p ∷ ls) (λ q. ap (λ x. is_same_pair q p || x) (h q)) (n + 1) ts i)) (option_and_then change_parts (as_list t))

turn-true : (b : Bool) → not b ≡ true → b ≡ false
turn-true true h = sym h
turn-true false h = refl

turn-false : (b : Bool) → not b ≡ false → b ≡ true
turn-false true h = refl
turn-false false h = sym h

-- one more item
module _ (items : List Tree) (i : ℕ) (x : Tree) (seen : List Lent) (p : Lent) (added : Bool) (all : Option ℕ)
    (inside : i < length items) (is : x ≡ get_or items i x) (change : Some (lent_pair p) ≡ option_and_then change_parts (as_list (view x)))
    (new : added ≡ not (list_any (is_at (lent_cmp p)) seen)) (rest : first_again (map lent_pair seen) i (items_view (drop i items)) ≡ all) where
  next : cond (list_any (is_same_pair (lent_pair p)) (map lent_pair seen)) (Some i) (first_again (lent_pair p ∷ map lent_pair seen) (i + 1) (items_view (drop (i + 1) items))) ≡ all
  next =
      let front : drop i items ≡ x ∷ drop (i + 1) items = rw add-one (drop-cons items i x inside ∙ ap (λ y. y ∷ drop (suc i) items) (sym is)) in
      ap (λ o. option_and_then (λ q. cond (list_any (is_same_pair q) (map lent_pair seen)) (Some i) (first_again (q ∷ map lent_pair seen) (i + 1) (items_view (drop (i + 1) items)))) o) change
      ∙ (ap (λ ts. first_again (map lent_pair seen) i (items_view ts)) (sym front) ∙ rest)

  pub again_found : added ≡ false → Some i ≡ all
  again_found old =
      let b : list_any (is_same_pair (lent_pair p)) (map lent_pair seen) ≡ true = sym (seen-is p seen) ∙ turn-false (list_any (is_at (lent_cmp p)) seen) (sym new ∙ old) in
      sym (ap (λ b. cond b (Some i) (first_again (lent_pair p ∷ map lent_pair seen) (i + 1) (items_view (drop (i + 1) items)))) b) ∙ next

  pub again_more : (more : List Lent) → added ≡ true → more ≡ insert_key lent_cmp seen p → first_again (map lent_pair more) (i + 1) (items_view (drop (i + 1) items)) ≡ all
  again_more more fresh made =
      let b : list_any (is_same_pair (lent_pair p)) (map lent_pair seen) ≡ false = sym (seen-is p seen) ∙ turn-true (list_any (is_at (lent_cmp p)) seen) (sym new ∙ fresh) in
      ap (λ ks. first_again (map lent_pair ks) (i + 1) (items_view (drop (i + 1) items))) made
      ∙ (again-same (map lent_pair (insert_key lent_cmp seen p)) (lent_pair p ∷ map lent_pair seen) (λ q. any-insert (is_same_pair q) seen p) (i + 1) (items_view (drop (i + 1) items))
      ∙ (sym (ap (λ b. cond b (Some i) (first_again (lent_pair p ∷ map lent_pair seen) (i + 1) (items_view (drop (i + 1) items)))) b) ∙ next))

-- ---- what is found is what keeps it from being a request

is_none-step : {A B C : Type 0} (n : ℕ) (o : Option A) (f : A → B → C) (rest : Option B) (found : Option ℕ) → is_some found ≡ is_none rest
    → is_some (cond (is_some o) found (Some n)) ≡ is_none (option_and_then (λ x. option_map (λ xs. f x xs) rest) o)
is_none-step n None f rest found h = refl
is_none-step n (Some x) f None found h = h
is_none-step n (Some x) f (Some xs) found h = h

unlimited-none : (ranges : Bool) (n : ℕ) (ms : Members) → is_some (first_unlimited (limit_of ranges) n ms) ≡ is_none (limits_with ranges ms)
unlimited-none ranges n no_members = refl
unlimited-none ranges n (member k t ms) = is_none-step n (limit_of ranges t) (λ l (ls : Limits). (k, l) ∷ ls) (limits_with ranges ms) (first_unlimited (limit_of ranges) (n + 1) ms) (unlimited-none ranges (n + 1) ms)

unread-none : {X : Type 0} (f : Items → Option X) (n : ℕ) (ts : Items) → is_some (first_unread f n ts) ≡ is_none (each_of f ts)
unread-none f n no_items = refl
unread-none {X} f n (item t ts) = is_none-step n (option_and_then f (as_list t)) (λ x (xs : List X). x ∷ xs) (each_of f ts) (first_unread f (n + 1) ts) (unread-none f (n + 1) ts)

-- what f reads of an item begins with a change
abbrev Begins : {X : Type 0} → (Items → Option (Pair × X)) → Type 0
Begins {X} f = (ts : Items) (e : Pair × X) → f ts ≡ Some e → change_parts ts ≡ Some e.0

begins_price_at : (o : Option Pair) (w : Option ℤ) (e : Pair × ℤ) → option_and_then (λ p. option_map (λ k. (p, k)) w) o ≡ Some e → o ≡ Some e.0
begins_price_at None w e h = cc
begins_price_at (Some p) None e h = cc
begins_price_at (Some p) (Some k) e h = ap (λ o. option_map (λ (e : Pair × ℤ). e.0) o) h

begins_price : Begins price_parts
begins_price no_items e h = cc
begins_price (item a no_items) e h = cc
begins_price (item a (item b no_items)) e h = cc
begins_price (item a (item b (item n no_items))) e h = begins_price_at (pair_of a b) (as_whole n) e h
begins_price (item a (item b (item n (item d ts)))) e h = cc

begins_bar_at : (o : Option Pair) (e : Pair × Unit {0}) → option_map (λ p. (p, tt)) o ≡ Some e → o ≡ Some e.0
begins_bar_at None e h = cc
begins_bar_at (Some p) e h = ap (λ o. option_map (λ (e : Pair × Unit {0}). e.0) o) h

begins_bar : Begins bar_parts
begins_bar no_items e h = cc
begins_bar (item a no_items) e h = cc
begins_bar (item a (item b no_items)) e h = begins_bar_at (pair_of a b) e h
begins_bar (item a (item b (item d ts))) e h = cc

bytes_eq-turned : (a b : List ℕ) → bytes_eq a b ≡ bytes_eq b a
bytes_eq-turned a b = same_from_decides (bytes_eq a b) (bytes_eq b a) (bytes_eq-Decides a b) (Decides-like (bytes_eq b a) sym sym (bytes_eq-Decides b a))

is_same-turned : (p q : Pair) → is_same_pair p q ≡ is_same_pair q p
is_same-turned p q = λ i. bytes_eq-turned p.0 q.0 i && bytes_eq-turned p.1 q.1 i

crossed : (a b x y : Bool) → ((a || b) || (x || y)) ≡ ((a || x) || (b || y))
crossed true b x y = refl
crossed false true true y = refl
crossed false true false y = refl
crossed false false x y = refl

any-either : (f g h : Pair → Bool) → ((q : Pair) → f q ≡ (g q || h q)) → (ps : List Pair) → list_any f ps ≡ (list_any g ps || list_any h ps)
any-either f g h is [] = refl
any-either f g h is (p ∷ ps) = (λ i. is p i || any-either f g h is ps i) ∙ crossed (g p) (h p) (list_any g ps) (list_any h ps)

some-cond : {A : Type 0} (b : Bool) (x : A) (o : Option A) → is_some (cond b (Some x) o) ≡ (b || is_some o)
some-cond true x o = refl
some-cond false x o = refl

sorted_out : (a v w s : Bool) → (a || ((w || v) || s)) ≡ ((a || v) || (w || s))
sorted_out true v w s = refl
sorted_out false true true s = refl
sorted_out false true false s = refl
sorted_out false false true s = refl
sorted_out false false false s = refl

-- whether one of the changes is among those that were seen, or stands twice
abbrev are_again : List Pair → List Pair → Bool
are_again seen ps = list_any (λ q. list_any (is_same_pair q) seen) ps || stands_twice ps

again-front : (seen : List Pair) (p : Pair) (ps : List Pair) → (list_any (is_same_pair p) seen || are_again (p ∷ seen) ps) ≡ are_again seen (p ∷ ps)
again-front seen p ps =
    let a = list_any (is_same_pair p) seen in
    let v = list_any (λ q. list_any (is_same_pair q) seen) ps in
    let w = list_any (is_same_pair p) ps in
    ap (λ x. a || (x || stands_twice ps)) (any-either (λ q. is_same_pair q p || list_any (is_same_pair q) seen) (is_same_pair p) (λ q. list_any (is_same_pair q) seen) (λ q. ap (λ x. x || list_any (is_same_pair q) seen) (is_same-turned q p)) ps)
    ∙ sorted_out a v w (stands_twice ps)

module _ {X : Type 0} (f : Items → Option (Pair × X)) (begins : Begins f) where
  begins_at : (l : Option Items) (e : Pair × X) → option_and_then f l ≡ Some e → option_and_then change_parts l ≡ Some e.0
  begins_at None e h = cc
  begins_at (Some ts) e h = begins ts e h

  again_at : (seen : List Pair) (n : ℕ) (ts : Items) (o : Option (Pair × X)) (c : Option Pair) → ((e : Pair × X) → o ≡ Some e → c ≡ Some e.0) → (rest : Option (List (Pair × X)))
      → ((p : Pair) → IfSome rest (λ es. is_some (first_again (p ∷ seen) (n + 1) ts) ≡ are_again (p ∷ seen) (keys_of es)))
      → IfSome (option_and_then (λ x. option_map (λ xs. x ∷ xs) rest) o) (λ es. is_some (option_and_then (λ p. cond (list_any (is_same_pair p) seen) (Some n) (first_again (p ∷ seen) (n + 1) ts)) c) ≡ are_again seen (keys_of es))
  again_at seen n ts None c first rest more = tt
  again_at seen n ts (Some e) c first None more = tt
  again_at seen n ts (Some e) c first (Some es) more =
      ap (λ o. is_some (option_and_then (λ p. cond (list_any (is_same_pair p) seen) (Some n) (first_again (p ∷ seen) (n + 1) ts)) o)) (first e refl)
      ∙ (some-cond (list_any (is_same_pair e.0) seen) n (first_again (e.0 ∷ seen) (n + 1) ts)
      ∙ (ap (λ x. list_any (is_same_pair e.0) seen || x) (more e.0) ∙ again-front seen e.0 (keys_of es)))

  again-is : (seen : List Pair) (n : ℕ) (ts : Items) → IfSome (each_of f ts) (λ es. is_some (first_again seen n ts) ≡ are_again seen (keys_of es))
  again-is seen n no_items = refl
  again-is seen n (item t ts) = again_at seen n ts (option_and_then f (as_list t)) (option_and_then change_parts (as_list t)) (begins_at (as_list t)) (each_of f ts) (λ p. again-is (p ∷ seen) (n + 1) ts)

none-any : (ps : List Pair) → list_any (λ q. list_any (is_same_pair q) []) ps ≡ false
none-any [] = refl
none-any (p ∷ ps) = none-any ps

-- a change is found to stand twice exactly where one does
abbrev IsOnce : {X : Type 0} → Option ℕ → Option (List (Pair × X)) → Type 0
IsOnce found o = IfSome o (λ es. is_some found ≡ stands_twice (keys_of es))

again-twice : {X : Type 0} (f : Items → Option (Pair × X)) → Begins f → (ts : Items) → IsOnce (first_again [] 0 ts) (each_of f ts)
again-twice f begins ts = at_first (first_again [] 0 ts) (each_of f ts) (again-is f begins [] 0 ts)
  where
    at_first : {X : Type 0} (found : Option ℕ) (o : Option (List (Pair × X))) → IfSome o (λ es. is_some found ≡ are_again [] (keys_of es)) → IsOnce found o
    at_first found None h = tt
    at_first found (Some es) h = h ∙ ap (λ b. b || stands_twice (keys_of es)) (none-any (keys_of es))

-- ---- the whole, by its parts

none_after : {A : Type 0} (B : Type 0) (o : Option A) → is_none (option_and_then {T = A} {U = B} (λ a. None) o) ≡ true
none_after B None = refl
none_after B (Some a) = refl

none_after_two : {A B : Type 0} (C : Type 0) (o : Option A) (p : Option B) → is_none (option_and_then {T = A} {U = C} (λ a. option_and_then {T = B} {U = C} (λ b. None) p) o) ≡ true
none_after_two C None p = refl
none_after_two C (Some a) p = none_after C p

once-none_at : {X : Type 0} (b : Bool) (x : X) → is_none (if b then None else Some x) ≡ b
once-none_at true x = refl
once-none_at false x = refl

once-none : {X : Type 0} (es : List (Pair × X)) → is_none (once_each es) ≡ stands_twice (keys_of es)
once-none es = once-none_at (stands_twice (keys_of es)) (in_order es)

-- both lists name each change once, or a place is found
once-both : {A B C : Type 0} (a b : Option ℕ) (x : Option A) (y : Option B) (w : A → B → C) → is_some a ≡ is_none x → is_some b ≡ is_none y
    → is_some (option_or (option_map PricesTwice a) (option_map ForbidTwice b)) ≡ is_none (option_and_then (λ n. option_and_then (λ m. Some (w n m)) y) x)
once-both (Some n) b None y w h k = refl
once-both (Some n) b (Some x) y w h k = cc
once-both None b None y w h k = cc
once-both None (Some n) (Some x) None w h k = refl
once-both None (Some n) (Some x) (Some y) w h k = cc
once-both None None (Some x) None w h k = cc
once-both None None (Some x) (Some y) w h k = refl

all-read : {C : Type 0} (total price bar price_twice bar_twice : Option ℕ) (limits : Option Limits) (prices : Option (List (Pair × ℤ))) (bars : Option (List (Pair × Unit {0}))) (w : Limits → List (Pair × ℤ) → List (Pair × Unit {0}) → C)
    → is_some total ≡ is_none limits → is_some price ≡ is_none prices → is_some bar ≡ is_none bars → IsOnce price_twice prices → IsOnce bar_twice bars
    → is_some (option_or (option_or (option_or (option_or (option_map Total total) (option_map PricesItem price)) (option_map ForbidItem bar)) (option_map PricesTwice price_twice)) (option_map ForbidTwice bar_twice))
    ≡ is_none (option_and_then (λ ls. option_and_then (λ named. option_and_then (λ barred. Some (w ls named barred)) (option_and_then once_each bars)) (option_and_then once_each prices)) limits)
all-read (Some n) price bar pt bt None prices bars w t p b po bo = refl
all-read (Some n) price bar pt bt (Some ls) prices bars w t p b po bo = cc
all-read None price bar pt bt None prices bars w t p b po bo = cc
all-read None (Some n) bar pt bt (Some ls) None bars w t p b po bo = refl
all-read None (Some n) bar pt bt (Some ls) (Some es) bars w t p b po bo = cc
all-read None None bar pt bt (Some ls) None bars w t p b po bo = cc
all-read {C} None None (Some n) pt bt (Some ls) (Some es) None w t p b po bo = sym (none_after C (once_each es))
all-read None None (Some n) pt bt (Some ls) (Some es) (Some bs) w t p b po bo = cc
all-read None None None pt bt (Some ls) (Some es) None w t p b po bo = cc
all-read None None None pt bt (Some ls) (Some es) (Some bs) w t p b po bo = once-both pt bt (once_each es) (once_each bs) (w ls) (po ∙ sym (once-none es)) (bo ∙ sym (once-none bs))

infixl 10 ◌or◌
abbrev ◌or◌ : {A : Type 0} → Option A → Option A → Option A
o or p = option_or o p

-- `misfit_of` and `written_of` of an object, by what is read of its members
module _ (form : Option Bool) (flag : Option (List ℕ)) (site : Option ℕ) (members : Option Members) (usual : Option ℤ) (prices bars : Option Items) where
  abbrev misfit_with : Option Misfit
  misfit_with =
      unless (is_some form) Plan or unless (is_some flag) Flag or unless (is_some site) Site or unless (is_some members) Totals or unless (is_some usual) Price or unless (is_some prices) Prices or unless (is_some bars) Forbid
      or option_map Total (option_and_then (λ ranges. option_and_then (first_unlimited (limit_of ranges) 0) members) form)
      or option_map PricesItem (option_and_then (first_unread price_parts 0) prices)
      or option_map ForbidItem (option_and_then (first_unread bar_parts 0) bars)
      or option_map PricesTwice (option_and_then (first_again [] 0) prices)
      or option_map ForbidTwice (option_and_then (first_again [] 0) bars)

  abbrev written_with : Option Written
  written_with =
      option_and_then (λ ranges. option_and_then (λ flag. option_and_then (λ site. option_and_then (λ usual. option_and_then (λ totals. option_and_then (λ named. option_and_then (λ barred.
      Some (record { flag = flag; site = site; totals = totals; usual = usual; named = named; barred = barred }))
      (option_and_then once_each (option_and_then (each_of bar_parts) bars))) (option_and_then once_each (option_and_then (each_of price_parts) prices))) (option_and_then (limits_with ranges) members)) usual) site) flag) form

by-parts : (form : Option Bool) (flag : Option (List ℕ)) (site : Option ℕ) (members : Option Members) (usual : Option ℤ) (prices bars : Option Items)
    → is_some (misfit_with form flag site members usual prices bars) ≡ is_none (written_with form flag site members usual prices bars)
by-parts None flag site members usual prices bars = refl
by-parts (Some r) None site members usual prices bars = refl
by-parts (Some r) (Some f) None members usual prices bars = refl
by-parts (Some r) (Some f) (Some s) None None prices bars = refl
by-parts (Some r) (Some f) (Some s) None (Some u) prices bars = refl
by-parts (Some r) (Some f) (Some s) (Some ms) None prices bars = refl
by-parts (Some r) (Some f) (Some s) (Some ms) (Some u) None bars = sym (none_after Written (limits_with r ms))
by-parts (Some r) (Some f) (Some s) (Some ms) (Some u) (Some ps) None = sym (none_after_two Written (limits_with r ms) (option_and_then once_each (each_of price_parts ps)))
by-parts (Some r) (Some f) (Some s) (Some ms) (Some u) (Some ps) (Some bs) =
    all-read (first_unlimited (limit_of r) 0 ms) (first_unread price_parts 0 ps) (first_unread bar_parts 0 bs) (first_again [] 0 ps) (first_again [] 0 bs) (limits_with r ms) (each_of price_parts ps) (each_of bar_parts bs)
    (λ totals named barred. record { flag = f; site = s; totals = totals; usual = u; named = named; barred = barred })
    (unlimited-none r 0 ms) (unread-none price_parts 0 ps) (unread-none bar_parts 0 bs) (again-twice price_parts begins_price ps) (again-twice bar_parts begins_bar bs)

pub misfit-written : (t : Shape) → is_some (misfit_of t) ≡ is_none (written_of t)
misfit-written null = refl
misfit-written (boolean b) = refl
misfit-written (whole n) = refl
misfit-written other = refl
misfit-written (text s) = refl
misfit-written (list ts) = refl
misfit-written (object ms) =
    let t = object ms in
    by-parts (form_in t) (flag_in t) (site_in t) (members_in t) (usual_in t) (list_in (codes "prices") t) (list_in (codes "forbid") t)

-- ---- the first member that is not of its kind

some-map : {A B : Type 0} (f : A → B) (o : Option A) → is_some (option_map f o) ≡ is_some o
some-map f None = refl
some-map f (Some x) = refl

pub unless-read : {A : Type 0} (m : Misfit) (o read : Option A) (b : Bool) (r : Option Misfit) → o ≡ read → b ≡ is_some o → r ≡ unless b m → r ≡ unless (is_some read) m
unless-read m o read b r is some told = told ∙ ap (λ b. unless b m) (some ∙ ap is_some is)

pub unless-seen : {A B : Type 0} (seen : A → B) (m : Misfit) (o : Option A) (read : Option B) (b : Bool) (r : Option Misfit) → option_map seen o ≡ read → b ≡ is_some o → r ≡ unless b m → r ≡ unless (is_some read) m
unless-seen seen m o read b r is some told = told ∙ ap (λ b. unless b m) (some ∙ (sym (some-map seen o) ∙ ap is_some is))

pub or-both : (r a b c d : Option Misfit) → r ≡ option_or a b → a ≡ c → b ≡ d → r ≡ option_or c d
or-both r a b c d is p q = is ∙ (λ i. option_or (p i) (q i))
