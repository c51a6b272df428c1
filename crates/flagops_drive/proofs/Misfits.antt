-- A misfit is all that keeps a tree from being a list of asks.
use Rattle.std.proofs.Common.{◌≡◌, ◌<◌, ◌^◌, nat_lt, ℕ, suc, ◌+◌, Bool, true, false, cond, List, [], ◌∷◌, length, Option, Some, None, is_some, is_none, IfSome, option_and_then, option_map, Bor, Vec, Global, refl, sym, ap, subst, ◌∙◌, arith}
use Rattle.std.specs.Option.{option_or}
use Rattle.flag_defs.specs.declared.kind.Kind.{Kind}
use Rattle.flag_text.specs.Readers.{as_list}
use Rattle.flag_text.specs.Shape.{Shape, null, boolean, whole, other, text, list, object, Items, no_items, item}
use Rattle.flag_text.specs.View.{items_view, view}
use Rattle.flag_text.specs.declared.tree.Tree.{Tree, the_lemmas}
use Rattle.flag_text.specs.declared.tree.Tree.TheVariants as tree
use Rattle.flagops_drive.specs.Asks.{Ask, ask_in, asks_in, asks_of, context_in, default_in, if_few, key_in, moment_in, want_in}
use Rattle.flagops_drive.specs.Misfit.{ask_misfit, first_misfit, item_count, misfit_of, unless_few, unread}
use Rattle.flagops_drive.specs.declared.misfit.AskMember.TheVariants.{Key, Want, Default, Context, Moment}
use Rattle.flagops_drive.specs.declared.misfit.Misfit.{Misfit}

-- ---- an ask, by what is read of its members

module _ (key : Option (List ℕ)) (want : Option Kind) (default : Option Shape) (context : Option Shape) (moment : Option ℕ) where
  abbrev misfit_with : Misfit → Misfit → Misfit → Misfit → Misfit → Option Misfit
  misfit_with a b c d e =
      option_or (option_or (option_or (option_or (cond (is_some key) None (Some a)) (cond (is_some want) None (Some b))) (cond (is_some default) None (Some c))) (cond (is_some context) None (Some d))) (cond (is_some moment) None (Some e))

  abbrev ask_with : Option Ask
  ask_with =
      option_and_then (λ key. option_and_then (λ want. option_and_then (λ default. option_and_then (λ context. option_and_then (λ moment.
      Some (record { key = key; want = want; default = default; context = context; moment = moment })) moment) context) default) want) key

by-members : (key : Option (List ℕ)) (want : Option Kind) (default : Option Shape) (context : Option Shape) (moment : Option ℕ) (a b c d e : Misfit)
    → is_some (misfit_with key want default context moment a b c d e) ≡ is_none (ask_with key want default context moment)
by-members None want default context moment a b c d e = refl
by-members (Some k) None default context moment a b c d e = refl
by-members (Some k) (Some w) None context moment a b c d e = refl
by-members (Some k) (Some w) (Some v) None moment a b c d e = refl
by-members (Some k) (Some w) (Some v) (Some o) None a b c d e = refl
by-members (Some k) (Some w) (Some v) (Some o) (Some m) a b c d e = refl

ask-none : (n : ℕ) (t : Shape) → is_some (ask_misfit n t) ≡ is_none (ask_in t)
unfolding ask_in
ask-none n t = by-members (key_in t) (want_in t) (default_in t) (context_in t) (moment_in t) (unread n t Key) (unread n t Want) (unread n t Default) (unread n t Context) (unread n t Moment)

-- ---- a list

one_more : (m : Option Misfit) (ask : Option Ask) (more : Option Misfit) (rest : Option (List Ask)) → is_some m ≡ is_none ask → is_some more ≡ is_none rest
    → is_some (option_or m more) ≡ is_none (option_and_then (λ a. option_map (λ xs. a ∷ xs) rest) ask)
one_more None None more rest one all = cc
one_more None (Some a) more None one all = all
one_more None (Some a) more (Some xs) one all = all
one_more (Some m) None more rest one all = refl
one_more (Some m) (Some a) more rest one all = cc

items-none : (n : ℕ) (ts : Items) → is_some (first_misfit n ts) ≡ is_none (asks_in ts)
items-none n no_items = refl
items-none n (item t ts) = one_more (ask_misfit n t) (ask_in t) (first_misfit (n + 1) ts) (asks_in ts) (ask-none n t) (items-none (n + 1) ts)

-- there are as many asks as items
counted_more : (ask : Option Ask) (rest : Option (List Ask)) (n : ℕ) (asks : List Ask) → ((xs : List Ask) → rest ≡ Some xs → length xs ≡ n)
    → option_and_then (λ a. option_map (λ xs. a ∷ xs) rest) ask ≡ Some asks → length asks ≡ suc n
counted_more None rest n asks each h = cc
counted_more (Some a) None n asks each h = cc
counted_more (Some a) (Some xs) n asks each h = let same : a ∷ xs ≡ asks = cc in subst (λ (ys : List Ask). length ys ≡ suc n) same (ap suc (each xs refl))

counted : (ts : Items) (asks : List Ask) → asks_in ts ≡ Some asks → length asks ≡ item_count ts
counted no_items asks h = let same : [] ≡ asks = cc in subst (λ (ys : List Ask). length ys ≡ 0) same refl
counted (item t ts) asks h = counted_more (ask_in t) (asks_in ts) (item_count ts) asks (counted ts) h

-- all are asks, and there are few
few-none : (b : Bool) (m : Misfit) (asks : List Ask) → is_some (cond b None (Some m)) ≡ is_none (cond b (Some asks) None)
few-none true m asks = refl
few-none false m asks = refl

listed : (m : Option Misfit) (o : Option (List Ask)) (n : ℕ) → is_some m ≡ is_none o → ((xs : List Ask) → o ≡ Some xs → length xs ≡ n)
    → is_some (option_or m (unless_few n)) ≡ is_none (option_and_then if_few o)
listed None None n are each = cc
listed None (Some xs) n are each = subst (λ k. is_some (unless_few k) ≡ is_none (if_few xs)) (each xs refl) (few-none (nat_lt (length xs) (2 ^ 32)) _ xs)
listed (Some m) None n are each = refl
listed (Some m) (Some xs) n are each = cc

pub misfit-asks : (t : Shape) → is_some (misfit_of t) ≡ is_none (asks_of t)
unfolding asks_of
misfit-asks null = refl
misfit-asks (boolean b) = refl
misfit-asks (whole n) = refl
misfit-asks other = refl
misfit-asks (text s) = refl
misfit-asks (list ts) = listed (first_misfit 0 ts) (asks_in ts) (item_count ts) (items-none 0 ts) (counted ts)
misfit-asks (object ms) = refl

-- ---- the list of a tree

item_count-items : (ts : List Tree) → item_count (items_view ts) ≡ length ts
item_count-items [] = refl
item_count-items (t ∷ ts) = ap suc (item_count-items ts)

view_list : (v : Vec Tree Global) → view (tree.List v) ≡ list (items_view v.items)
view_list v = simp the_lemmas refl

-- what its items and their number tell
pub misfit-list : (t : Tree) (v : Vec Tree Global) (items : List Tree) (count : ℕ) (m few r : Option Misfit) → t ≡ tree.List v → items ≡ v.items → count ≡ length v.items
    → m ≡ first_misfit 0 (items_view items) → few ≡ unless_few count → r ≡ option_or m few → r ≡ misfit_of (view t)
misfit-list t v items count m few r is same counts first fits either =
    let found : m ≡ first_misfit 0 (items_view v.items) = first ∙ ap (λ (ts : List Tree). first_misfit 0 (items_view ts)) same in
    let told : few ≡ unless_few (item_count (items_view v.items)) = fits ∙ ap unless_few (counts ∙ sym (item_count-items v.items)) in
    either ∙ ((λ i. option_or (found i) (told i)) ∙ sym (ap (λ (u : Tree). misfit_of (view u)) is ∙ ap misfit_of (view_list v)))

-- ---- the items of a tree without a misfit

abbrev seen : Bor (List Tree) → Items
seen ts = items_view ts.now

there : (o : Option (List Ask)) → is_none o ≡ false → is_some o ≡ true
there None h = cc
there (Some asks) h = refl

are_asked : (t : Shape) → is_some (misfit_of t) ≡ false → is_some (asks_of t) ≡ true
are_asked t none = there (asks_of t) (sym (misfit-asks t) ∙ none)

not_asked : (o : Option (List Ask)) → is_none o ≡ true → false ≡ is_some o
not_asked None h = refl
not_asked (Some asks) h = cc

pub unasked : (t : Shape) → is_some (misfit_of t) ≡ true → false ≡ is_some (asks_of t)
unasked t told = not_asked (asks_of t) (sym (misfit-asks t) ∙ told)

is_list : (t : Shape) → is_some (misfit_of t) ≡ false → is_some (as_list t) ≡ true
is_list null none = cc
is_list (boolean b) none = cc
is_list (whole n) none = cc
is_list other none = cc
is_list (text s) none = cc
is_list (list ts) none = refl
is_list (object ms) none = cc

some_seen : (r : Option (Bor (List Tree))) → is_some (option_map seen r) ≡ is_some r
some_seen None = refl
some_seen (Some ts) = refl

pub are-listed : (t : Shape) (r : Option (Bor (List Tree))) → option_map seen r ≡ as_list t → is_some (misfit_of t) ≡ false → is_some r ≡ is_some (asks_of t)
are-listed t r is none = sym (some_seen r) ∙ (ap is_some is ∙ (is_list t none ∙ sym (are_asked t none)))

kept : (b : Bool) (asks : List Ask) → is_some (cond b (Some asks) None) ≡ true → (b ≡ true) × (Some asks ≡ cond b (Some asks) None)
kept true asks h = (refl, refl)
kept false asks h = cc

all_kept : (o : Option (List Ask)) → is_some (option_and_then if_few o) ≡ true → o ≡ option_and_then if_few o
all_kept None h = refl
all_kept (Some asks) h = (kept (nat_lt (length asks) (2 ^ 32)) asks h).1

few_kept : (o : Option (List Ask)) (n : ℕ) → ((asks : List Ask) → o ≡ Some asks → length asks ≡ n) → is_some (option_and_then if_few o) ≡ true → nat_lt n (2 ^ 32) ≡ true
few_kept None n each h = cc
few_kept (Some asks) n each h = subst (λ k. nat_lt k (2 ^ 32) ≡ true) (each asks refl) (kept (nat_lt (length asks) (2 ^ 32)) asks h).0

-- what its items ask
asked : (t : Shape) (ts : Items) → Some ts ≡ as_list t → option_and_then if_few (asks_in ts) ≡ asks_of t
unfolding asks_of
asked t ts is = ap (λ o. option_and_then if_few (option_and_then asks_in o)) is

pub items-listed : (t : Shape) (r : Option (Bor (List Tree))) → option_map seen r ≡ as_list t → is_some (misfit_of t) ≡ false → IfSome r (λ items. asks_in (items_view items.now) ≡ asks_of t)
items-listed t None is none = tt
items-listed t (Some items) is none = let same = asked t (seen items) is in all_kept (asks_in (seen items)) (ap is_some same ∙ are_asked t none) ∙ same

pub few-listed : (t : Shape) (r : Option (Bor (List Tree))) → option_map seen r ≡ as_list t → is_some (misfit_of t) ≡ false → IfSome r (λ items. length items.now < 2 ^ 32)
few-listed t None is none = tt
few-listed t (Some items) is none =
    let few : nat_lt (item_count (seen items)) (2 ^ 32) ≡ true = few_kept (asks_in (seen items)) (item_count (seen items)) (counted (seen items)) (ap is_some (asked t (seen items) is) ∙ are_asked t none) in
    let counts : item_count (seen items) ≡ length items.now = item_count-items items.now in
    grind (arith, few, counts)
