-- The requests of steps ask for a rule of one site, by the same prices.
use Rattle.std.proofs.Common.{◌≡◌, ℕ, ℤ, pos, ◌^◌, ◌≤◌, nat_lt, Bool, true, false, cond, List, [], ◌∷◌, ◌++◌, length, codes, Option, Some, None, option_and_then, Result, Ok, Err, refl, sym, ap, ◌∙◌}
use Rattle.std.specs.List.{AllByRecursion, list_all}
use Rattle.std.specs.Str.{bytes_eq}
use Rattle.flag_text.specs.Readers.{as_text, as_whole, find_member, member_of}
use Rattle.flag_text.specs.Shape.{Shape, null, boolean, whole, other, text, list, object, Members, no_members, member}
use Rattle.price_core.specs.Limits.{Limits}
use Rattle.price_core.specs.Pricing.{Pair, Pricing}
use Rattle.price_core.specs.Request.{Asked, Written, asked_of, bar_parts, barred_in, flag_in, form_in, has_self_pair, if_judged, if_priced, if_there, is_range, judged as judged_written, max_request, named_in, number_below, once_each, pairs_in, price_parts, pricing_of, request_of, site_in, totals_in, usual_in, written_of}
use Rattle.price_core.specs.declared.fault.PriceFault.{PriceFault}
use Rattle.price_core.specs.declared.fault.PriceFault.TheVariants as price
use Rattle.std.proofs.lemmas.Bool.{ltb-false}
use Rattle.ramp.specs.Steps.{AskAlike, AsksAsTree, AsksFor, judged, judged_by, request_with, with_totals}

-- ---- what two requests with other totals have in common

other_name : (b : Bool) (name k : List ℕ) (x y t : Shape) (ms : Members) → bytes_eq (codes "totals") name ≡ false → find_member name (with_totals x ms) ≡ find_member name (with_totals y ms)
    → find_member name (cond b (member (codes "totals") x no_members) (member k t (with_totals x ms))) ≡ find_member name (cond b (member (codes "totals") y no_members) (member k t (with_totals y ms)))
other_name true name k x y t ms apart rest = rw apart refl
other_name false name k x y t ms apart rest = ap (λ o. cond (bytes_eq k name) (Some t) o) rest

found_alike : (name : List ℕ) (x y : Shape) (ms : Members) → bytes_eq (codes "totals") name ≡ false → find_member name (with_totals x ms) ≡ find_member name (with_totals y ms)
found_alike name x y no_members apart = refl
found_alike name x y (member k t ms) apart = other_name (bytes_eq k (codes "steps")) name k x y t ms apart (found_alike name x y ms apart)

member_alike : (name : List ℕ) (t x y : Shape) → bytes_eq (codes "totals") name ≡ false → member_of name (request_with t x) ≡ member_of name (request_with t y)
member_alike name null x y apart = refl
member_alike name (boolean b) x y apart = refl
member_alike name (whole n) x y apart = refl
member_alike name other x y apart = refl
member_alike name (text s) x y apart = refl
member_alike name (list ts) x y apart = refl
member_alike name (object ms) x y apart = found_alike name x y ms apart

-- ---- what a request has of its tree

-- the prices of a tree, where it has them
abbrev priced : Option ℤ → Option (List (Pair × ℤ)) → Option (List (Pair × Unit {0})) → Option Pricing
priced (Some usual) (Some named) (Some barred) = pricing_of (record { flag = []; site = 0; totals = []; usual = usual; named = named; barred = barred })
priced usual named barred = None

abbrev prices_in : Shape → Option Pricing
prices_in t = priced (usual_in t) (named_in t) (barred_in t)

record Of (t : Shape) (a : Asked) : Type 0 where
  flag : flag_in t ≡ Some a.flag
  site : site_in t ≡ Some a.site
  prices : prices_in t ≡ Some a.prices

of_written : (w : Written) (a : Asked) → judged_written w ≡ Ok a → (w.flag ≡ a.flag) × (w.site ≡ a.site) × (pricing_of w ≡ Some a.prices)
of_written w a h = go (has_self_pair w) (pricing_of w) h
  where
    in_range : (b : Bool) (p : Pricing) → (let r : Result Asked PriceFault = cond b (Ok (record { flag = w.flag; site = w.site; totals = w.totals; prices = p })) (Err price.EmptyRange) in r) ≡ Ok a
        → (w.flag ≡ a.flag) × (w.site ≡ a.site) × (Some p ≡ Some a.prices)
    in_range false p h = absurd (cc)
    in_range true p h =
        let same : (let x : Asked = record { flag = w.flag; site = w.site; totals = w.totals; prices = p } in x) ≡ a = cc in
        (ap (λ (x : Asked). x.flag) same, ap (λ (x : Asked). x.site) same, ap (λ (x : Asked). Some x.prices) same)

    go : (b : Bool) (o : Option Pricing) → (let r : Result Asked PriceFault = cond b (Err price.SelfPair) (if_priced w o) in r) ≡ Ok a → (w.flag ≡ a.flag) × (w.site ≡ a.site) × (o ≡ Some a.prices)
    go true o h = absurd (cc)
    go false None h = absurd (cc)
    go false (Some p) h = in_range (list_all is_range w.totals) p h

abbrev chain : Option Bool → Option (List ℕ) → Option ℕ → Option ℤ → (Bool → Option Limits) → Option (List (Pair × ℤ)) → Option (List (Pair × Unit {0})) → Option Written
chain ranges flag site usual totals named barred =
    option_and_then (λ r. option_and_then (λ f. option_and_then (λ n. option_and_then (λ u. option_and_then (λ ls. option_and_then (λ ps. option_and_then (λ bs.
    Some (record { flag = f; site = n; totals = ls; usual = u; named = ps; barred = bs })) barred) named) (totals r)) usual) site) flag) ranges

of_chain : (ranges : Option Bool) (flag : Option (List ℕ)) (site : Option ℕ) (usual : Option ℤ) (totals : Bool → Option Limits) (named : Option (List (Pair × ℤ))) (barred : Option (List (Pair × Unit {0}))) (a : Asked)
    → if_judged (chain ranges flag site usual totals named barred) ≡ Ok a → (flag ≡ Some a.flag) × (site ≡ Some a.site) × (priced usual named barred ≡ Some a.prices)
of_chain None flag site usual totals named barred a h = absurd (cc)
of_chain (Some r) None site usual totals named barred a h = absurd (cc)
of_chain (Some r) (Some f) None usual totals named barred a h = absurd (cc)
of_chain (Some r) (Some f) (Some n) None totals named barred a h = absurd (cc)
of_chain (Some r) (Some f) (Some n) (Some u) totals named barred a h = of_totals (totals r) named barred h
  where
    of_totals : (ls : Option Limits) (named : Option (List (Pair × ℤ))) (barred : Option (List (Pair × Unit {0})))
        → if_judged (option_and_then (λ ls. option_and_then (λ ps. option_and_then (λ bs. Some (record { flag = f; site = n; totals = ls; usual = u; named = ps; barred = bs })) barred) named) ls) ≡ Ok a
        → (Some f ≡ Some a.flag) × (Some n ≡ Some a.site) × (priced (Some u) named barred ≡ Some a.prices)
    of_totals None named barred h = absurd (cc)
    of_totals (Some ls) None barred h = absurd (cc)
    of_totals (Some ls) (Some ps) None h = absurd (cc)
    of_totals (Some ls) (Some ps) (Some bs) h =
        let w : Written = record { flag = f; site = n; totals = ls; usual = u; named = ps; barred = bs } in
        let parts = of_written w a h in
        (ap Some parts.0, ap Some parts.1, parts.2)

of_tree : (t : Shape) (a : Asked) → request_of t ≡ Ok a → Of t a
of_tree t a h =
    let parts = of_chain (form_in t) (flag_in t) (site_in t) (usual_in t) (λ ranges. totals_in ranges t) (named_in t) (barred_in t) a h in
    record { flag = parts.0; site = parts.1; prices = parts.2 }

some_same : {X : Type 0} (x y : X) → Some x ≡ Some y → x ≡ y
some_same x y h = cc

abbrev site_of : Option Shape → Option ℕ
site_of o = if_there 0 (number_below (2 ^ 32)) o

abbrev usual_of : Option Shape → Option ℤ
usual_of o = if_there (pos 1) as_whole o

abbrev named_of : Option Shape → Option (List (Pair × ℤ))
named_of o = option_and_then once_each (pairs_in price_parts o)

abbrev barred_of : Option Shape → Option (List (Pair × Unit {0}))
barred_of o = option_and_then once_each (pairs_in bar_parts o)

-- two requests of one tree
pub alike : (t x y : Shape) (a b : Asked) → request_of (request_with t x) ≡ Ok a → request_of (request_with t y) ≡ Ok b → (b.flag ≡ a.flag) × (b.site ≡ a.site) × (b.prices ≡ a.prices)
alike t x y a b h g =
    let p = of_tree (request_with t x) a h in
    let q = of_tree (request_with t y) b g in
    let same : (name : List ℕ) → bytes_eq (codes "totals") name ≡ false → member_of name (request_with t y) ≡ member_of name (request_with t x) = λ name apart. member_alike name t y x apart in
    let flags : flag_in (request_with t y) ≡ flag_in (request_with t x) = ap (option_and_then as_text) (same (codes "flag") refl) in
    let sites : site_in (request_with t y) ≡ site_in (request_with t x) = ap site_of (same (codes "site") refl) in
    let prices : prices_in (request_with t y) ≡ prices_in (request_with t x) = λ i. priced (usual_of (same (codes "price") refl i)) (named_of (same (codes "prices") refl i)) (barred_of (same (codes "forbid") refl i)) in (
      some_same b.flag a.flag (sym q.flag ∙ flags ∙ p.flag),
      some_same b.site a.site (sym q.site ∙ sites ∙ p.site),
      some_same b.prices a.prices (sym q.prices ∙ prices ∙ p.prices),
    )

-- ---- of the texts

fits : (request : List ℕ) (a : Asked) → asked_of request ≡ Ok a → length request ≤ max_request
fits request a h = by (nat_lt max_request (length request)) refl
  where
    by : (b : Bool) → nat_lt max_request (length request) ≡ b → length request ≤ max_request
    by true large = let none : asked_of request ≡ Err price.BadRequest = rw large refl in absurd (cc)
    by false small = ltb-false max_request (length request) small

one_asks : (t : Shape) (first : Asked) (x : Shape) (request : List ℕ) → request_of (request_with t x) ≡ Ok first → AsksAsTree t request → AsksFor first request
one_asks t first x request is (y, asks) = go (asked_of request) refl
  where
    go : (r : Result Asked PriceFault) → asked_of request ≡ r → AsksFor first request
    go (Err e) h = rw h tt
    go (Ok a) h = let both = alike t x y first a is (sym (asks (fits request a h)) ∙ h) in rw h both

asks_all : (t : Shape) (first : Asked) (x : Shape) (requests : List (List ℕ)) → request_of (request_with t x) ≡ Ok first → AllByRecursion (AsksAsTree t) requests → AllByRecursion (AsksFor first) requests
asks_all t first x [] is all = tt
asks_all t first x (r ∷ rs) is all = (one_asks t first x r is all.0, asks_all t first x rs is all.1)

-- the requests of steps that were judged
pub ask_alike : {u : Unit {0}} (t : Shape) (requests : List (List ℕ)) → judged 1 requests ≡ Ok u → AllByRecursion (AsksAsTree t) requests → AskAlike requests
ask_alike {u} t [] is all = (record { flag = []; site = 0; totals = []; prices = record { usual = 0; named = []; barred = [] } }, tt)
ask_alike {u} t (r ∷ rs) is all = go (asked_of r) refl is
  where
    go : (o : Result Asked PriceFault) → asked_of r ≡ o → judged_by 1 o (judged 2 rs) ≡ Ok u → AskAlike (r ∷ rs)
    go (Err e) asks h = absurd (cc)
    go (Ok first) asks h = (first, asks_all t first all.0.0 (r ∷ rs) (sym (all.0.1 (fits r first asks)) ∙ asks) all)

pub all_push : {X : Type 0} (P : X → Type 0) (xs : List X) (y : X) → AllByRecursion P xs → P y → AllByRecursion P (xs ++ y ∷ [])
all_push P [] y all one = (one, tt)
all_push P (x ∷ xs) y all one = (all.0, all_push P xs y all.1 one)
