-- Nobody falls back: what holds of the rule of one step, and of all that follow.
use Rattle.std.proofs.Common.{◌≡◌, ◌≢◌, ℕ, zero, suc, ◌==◌, ◌<◌, ◌≤◌, ◌*◌, Bool, true, false, cond, List, [], ◌∷◌, Option, Some, None, unwrap_or, Result, Ok, Err, Ordering, Less, Equal, Greater, refl, sym, ap, ap₂, ◌∙◌, subst, arith}
use Rattle.std.specs.BTreeMap.{insert_entry}
use Rattle.std.specs.Cmp.Lexicographic.{slice_cmp}
use Rattle.std.specs.List.{AllByRecursion}
use Rattle.std.specs.Map.{lookup}
use Rattle.std.specs.Ordering.{match_ordering, nat_cmp}
use Rattle.std.specs.Prelude.{IfOk, IfSome}
use Rattle.std.specs.Str.{bytes_eq}
use Rattle.std.proofs.lemmas.Map.Entries.{All-lookup}
use Rattle.std.proofs.lemmas.Slice.Eq.{bytes_eq-Decides}
use Rattle.flag_text.proofs.Bools.{left, right}
use Rattle.flag_text.proofs.Halving.{same_name}
use Rattle.bucket_core.proofs.Hashes.{point_of-below}
use Rattle.bucket_core.proofs.Points.{at_below, total_of-some}
use Rattle.bucket_core.proofs.Refined.{choice-refinement, total_weight-refinement}
use Rattle.bucket_core.specs.Point.{point_of}
use Rattle.bucket_core.specs.Rule.{Entries, at, choice, refinement, total_weight}
use Rattle.book_core.specs.Book.{Contents, inputs_on}
use Rattle.flag_defs.specs.Flags.{AreFlags}
use Rattle.flag_defs.specs.Changes.{rules_with_site, retargeted, with_site}
use Rattle.flag_defs.specs.Definition.{Definition, broken, good, are_variants}
use Rattle.flag_defs.specs.Document.{Definitions}
use Rattle.flag_defs.specs.Flag.{is_definition, targeting_in, variant_names}
use Rattle.flag_defs.specs.Rules.{are_targetings, is_default, is_targeting}
use Rattle.logic_ast.specs.Expression.{Expression}
use Rattle.logic_ast.specs.Formed.{is_formed, is_well_formed}
use Rattle.logic_ast.specs.Sites.{Site, entries_of, if_entries, if_site, parts_at, site_at, with_entries}
use Rattle.logic_ast.specs.declared.fault.LogicFault.{LogicFault}
use Rattle.price_core.specs.Limits.{Limits, high_of, limits_of}
use Rattle.price_core.specs.Pricing.{is_forbidden}
use Rattle.price_core.specs.Request.{Asked, all_known, asked_of, limits_on}
use Rattle.price_core.specs.declared.fault.PriceFault.{PriceFault}
use Rattle.price_core.specs.declared.fault.PriceFault.TheVariants as price
use Rattle.plan_text.specs.Answer.{Answer, emit, none_exists}
use Rattle.transport_core.specs.Certificate.{DualPrices}
use Rattle.rollout.proofs.Changed.{changed}
use Rattle.rollout.proofs.Sites.{steps_of}
use Rattle.rollout.specs.Applied.{applied}
use Rattle.rollout.proofs.Bounded.{came}
use Rattle.rollout.specs.Lawful.{Place, Problem, and_then, by_logic, by_price, names_are_variants, limits_for, or_refuse, place_in, place_of, problem_at, sized, weighed}
use Rattle.rollout.specs.Plan.{IsPlan}
use Rattle.rollout.specs.Refined.{problem_refined}
use Rattle.rollout.specs.declared.fault.RolloutFault.{RolloutFault}
use Rattle.rollout.specs.declared.fault.RolloutFault.TheVariants.{NoSite, NoWeight, UnknownFlag, UnknownVariant}
use Rattle.rollout.specs.declared.refining.Refining.TheVariants.{Times}
use Rattle.book_core.specs.Site.{page_at}
use Rattle.ramp.specs.Laws.{AsksAt, ForbidsLeaving, NeverLost, rules_of}
use Rattle.ramp.specs.Ramp.{ArePlans, IsStep, Standing, in_book, with_rule}
use Rattle.ramp.proofs.Sites.{parts_again}

-- ---- a name without a limit of its own has no points

inserted : (asked : Limits) (o : Ordering) (es : Limits) (e : List ℕ × (ℕ × ℕ)) (k : List ℕ) → slice_cmp nat_cmp k e.0 ≡ o → e.1.1 ≤ high_of asked e.0
    → AllByRecursion (λ (l : List ℕ × (ℕ × ℕ)). l.1.1 ≤ high_of asked l.0) es
    → AllByRecursion (λ (l : List ℕ × (ℕ × ℕ)). l.1.1 ≤ high_of asked l.0) (insert_entry (slice_cmp nat_cmp) es k (limits_of asked k))
    → AllByRecursion (λ (l : List ℕ × (ℕ × ℕ)). l.1.1 ≤ high_of asked l.0) (match_ordering o ((k, limits_of asked k) ∷ e ∷ es) ((e.0, limits_of asked k) ∷ es) (e ∷ insert_entry (slice_cmp nat_cmp) es k (limits_of asked k)))
inserted asked Less es e k is one all more = (omega arith, (one, all))
inserted asked Equal es e k is one all more = let same : k ≡ e.0 = same_name k e.0 is in (subst (λ (n : List ℕ). high_of asked n ≤ high_of asked e.0) (sym same) (omega arith), all)
inserted asked Greater es e k is one all more = (one, more)

insert_low : (asked : Limits) (es : Limits) (k : List ℕ) → AllByRecursion (λ (l : List ℕ × (ℕ × ℕ)). l.1.1 ≤ high_of asked l.0) es
    → AllByRecursion (λ (l : List ℕ × (ℕ × ℕ)). l.1.1 ≤ high_of asked l.0) (insert_entry (slice_cmp nat_cmp) es k (limits_of asked k))
insert_low asked [] k all = (omega arith, tt)
insert_low asked (e ∷ es) k all = inserted asked (slice_cmp nat_cmp k e.0) es e k refl all.0 all.1 (insert_low asked es k all.1)

all_low : (asked : Limits) (names : List (List ℕ)) → AllByRecursion (λ (l : List ℕ × (ℕ × ℕ)). l.1.1 ≤ high_of asked l.0) (limits_on asked names)
all_low asked [] = tt
all_low asked (n ∷ ns) = insert_low asked (limits_on asked ns) n (all_low asked ns)

low_by : (asked : Limits) (e : List ℕ × (ℕ × ℕ)) (es : Limits) (name : List ℕ) → e.1.1 ≤ high_of asked e.0 → high_of es name ≤ high_of asked name
    → (b : Bool) → bytes_eq name e.0 ≡ b → (unwrap_or (cond b (Some e.1) (lookup (bytes_eq name) es)) (0, 0)).1 ≤ high_of asked name
low_by asked e es name one rest true is = let same : name ≡ e.0 = (bytes_eq-Decides name e.0).0 is in subst (λ (n : List ℕ). e.1.1 ≤ high_of asked n) (sym same) one
low_by asked e es name one rest false is = rest

low_of : (asked : Limits) (es : Limits) (name : List ℕ) → AllByRecursion (λ (l : List ℕ × (ℕ × ℕ)). l.1.1 ≤ high_of asked l.0) es → high_of es name ≤ high_of asked name
low_of asked [] name all = omega arith
low_of asked (e ∷ es) name all = low_by asked e es name all.0 (low_of asked es name all.1) (bytes_eq name e.0) refl

high_low : (asked : Limits) (names : List (List ℕ)) (name : List ℕ) → high_of (limits_on asked names) name ≤ high_of asked name
high_low asked names name = low_of asked (limits_on asked names) name (all_low asked names)

-- ---- what a problem is of

unpriced : (r : Result Asked PriceFault) (asked : Asked) → by_price r ≡ Ok asked → r ≡ Ok asked
unpriced (Ok x) asked h = cc
unpriced (Err e) asked h = absurd (cc)

limited : (place : Place) (asked : Asked) (limits : Limits) → limits_for place asked ≡ Ok limits → limits_on asked.totals (variant_names place.flag) ≡ limits
limited place asked limits h = by (names_are_variants place.flag place.entries) (all_known (variant_names place.flag) asked) h
  where
    by : (a b : Bool) → cond a (by_price (cond b (Ok (limits_on asked.totals (variant_names place.flag))) (Err price.UnknownVariant))) (Err UnknownVariant) ≡ Ok limits → limits_on asked.totals (variant_names place.flag) ≡ limits
    by true true h = cc
    by true false h = absurd (cc)
    by false b h = absurd (cc)

pub record Asks (fs : Definitions) (m : ℕ) (request : List ℕ) (p : Problem) : Type 0 where
  pub asked : Asked
  pub is : asked_of request ≡ Ok asked
  pub place : Place
  pub stands : place_of fs asked.flag asked.site ≡ Ok place
  pub old : p.old ≡ refinement m place.entries
  pub limits : p.limits ≡ limits_on asked.totals (variant_names place.flag)
  pub prices : p.pricing ≡ asked.prices
  pub some : 0 < total_weight place.entries

problem_in : Problem → Result Problem RolloutFault → Problem
problem_in d (Ok p) = p
problem_in d (Err e) = d

weighed_some : (entries : Entries) (u : Unit {0}) → weighed entries ≡ Ok u → 0 < total_weight entries
weighed_some entries u h = by (total_weight entries) refl h
  where
    by : (n : ℕ) → total_weight entries ≡ n → cond (n == 0) (Err NoWeight) (Ok tt) ≡ Ok u → 0 < total_weight entries
    by zero is h = cc
    by (suc n) is h = omega (arith, is)

pub asks_of : (fs : Definitions) (m : ℕ) (request : List ℕ) (book : Contents) (p : Problem) → problem_refined m fs request book ≡ Ok p → Asks fs m request p
unfolding problem_in
asks_of fs m request book p h =
    let a = came (by_price (asked_of request)) (λ asked. and_then (place_of fs asked.flag asked.site) (λ place. problem_at (Times m) book asked place)) p h in
    let place = came (place_of fs a.from.flag a.from.site) (λ place. problem_at (Times m) book a.from place) p a.gives in
    let total = total_weight place.from.entries in
    let problem : Limits → Problem = λ limits. record { old = refinement m place.from.entries; limits = limits; pricing = a.from.prices; inputs = inputs_on book place.from.page } in
    let weight = came (weighed place.from.entries) (λ _. and_then (limits_for place.from a.from) (λ limits. and_then (sized limits (total * m)) (λ _. Ok (problem limits)))) p place.gives in
    let limits = came (limits_for place.from a.from) (λ limits. and_then (sized limits (total * m)) (λ _. Ok (problem limits))) p weight.gives in
    let size = came (sized limits.from (total * m)) (λ _. Ok (problem limits.from)) p limits.gives in
    let is : problem limits.from ≡ p = ap (problem_in (problem limits.from)) size.gives in
    record {
      asked = a.from;
      is = unpriced (asked_of request) a.from a.was;
      place = place.from;
      stands = place.was;
      old = ap (λ (q : Problem). q.old) (sym is);
      limits = ap (λ (q : Problem). q.limits) (sym is) ∙ sym (limited place.from a.from limits.from limits.was);
      prices = ap (λ (q : Problem). q.pricing) (sym is);
      some = weighed_some place.from.entries weight.from weight.was;
    }

-- ---- one step

module _ (name : List ℕ) (fs : Definitions) (m : ℕ) (request : List ℕ) (p : Problem) (asks : Asks fs m request p) (rule : Entries) (c : DualPrices) (some : 0 < m) (plan : IsPlan p (emit rule c)) where
  step_total : total_weight rule ≡ total_weight asks.place.entries * m
  step_total = plan.proves.fits.weight ∙ ap total_weight asks.old ∙ total_weight-refinement m asks.place.entries

  step_keeps : ForbidsLeaving name request → (user : List ℕ) → choice asks.place.entries user ≡ Some name → choice rule user ≡ Some name
  step_keeps forbids user had =
      let fits = plan.proves.fits in
      let pt = point_of (total_weight rule) user in
      let was : choice p.old user ≡ Some name = ap (λ r. choice r user) asks.old ∙ choice-refinement m asks.place.entries user some ∙ had in
      let was_at : at p.old pt ≡ Some name = ap (λ w. at p.old (point_of w user)) fits.weight ∙ was in
      let below : pt < total_weight rule = point_of-below (total_weight rule) user (omega (arith, fits.weight, plan.lawful.some)) in
      by (at_below rule pt below).0 (at_below rule pt below).1 was_at
    where
      by : (to : List ℕ) → at rule (point_of (total_weight rule) user) ≡ Some to → at p.old (point_of (total_weight rule) user) ≡ Some name → choice rule user ≡ Some name
      by to now was_at = go (bytes_eq name to) refl
        where
          go : (b : Bool) → bytes_eq name to ≡ b → choice rule user ≡ Some name
          go true is = now ∙ ap Some (sym ((bytes_eq-Decides name to).0 is))
          go false is =
              let apart : to ≢ name = λ e. let same : bytes_eq name to ≡ true = (bytes_eq-Decides name to).1 (sym e) in cc in
              let points = total_of-some rule (point_of (total_weight rule) user) to now in
              let high : high_of p.limits to ≤ high_of asks.asked.totals to =
              subst (λ (ls : Limits). high_of ls to ≤ high_of asks.asked.totals to) (sym asks.limits) (high_low asks.asked.totals (variant_names asks.place.flag) to) in
              let given : 0 < high_of asks.asked.totals to = omega (arith, points, plan.proves.fits.high to, high) in
              let P : Result Asked PriceFault → Type 0 = λ r. IfOk r (λ asked. (to : List ℕ) → to ≢ name → 0 < high_of asked.totals to → is_forbidden asked.prices name to ≡ true) in
              let barred : is_forbidden asks.asked.prices name to ≡ true = (subst P asks.is forbids) to apart given in
              let allowed : is_forbidden p.pricing name to ≡ false = plan.proves.fits.allowed (point_of (total_weight rule) user) name to was_at now in
              let same : is_forbidden p.pricing name to ≡ is_forbidden asks.asked.prices name to = ap (λ prices. is_forbidden prices name to) asks.prices in
              absurd (cc)

-- ---- the site of the next step

-- a flag whose site was given a rule has a targeting with it
retargeted_is : (n : ℕ) (r : Entries) (old new : Definition) (t : Expression) → with_site n r old ≡ Ok new → targeting_in new ≡ Some t → (e : Expression) × (t ≡ with_entries n r e)
retargeted_is n r broken new t made is = absurd (cc)
retargeted_is n r (good rules) new t made is = of_targeting rules.targeting made
  where
    of_entries : (o : Option Entries) (e : Expression) → retargeted rules (if_entries o (λ _. with_entries n r e)) ≡ Ok new → t ≡ with_entries n r e
    of_entries None e h = absurd (cc)
    of_entries (Some q) e h =
        let same : good (record rules { targeting = Some (with_entries n r e) }) ≡ new = cc in
        let one : Some (with_entries n r e) ≡ Some t = ap targeting_in same ∙ is in
        cc

    of_site : (o : Option Site) (e : Expression) → retargeted rules (if_site o (λ s. if_entries (entries_of s.buckets) (λ _. with_entries n r e))) ≡ Ok new → t ≡ with_entries n r e
    of_site None e h = absurd (cc)
    of_site (Some s) e h = of_entries (entries_of s.buckets) e h

    of_targeting : (o : Option Expression) → rules_with_site n r rules o ≡ Ok new → (e : Expression) × (t ≡ with_entries n r e)
    of_targeting None h = absurd (cc)
    of_targeting (Some e) h = (e, of_site (site_at n e) e h)

rules_formed : (d : Definition) (t : Expression) → is_definition d ≡ true → targeting_in d ≡ Some t → is_formed 0 t ≡ true
rules_formed broken t h is = absurd (cc)
rules_formed (good r) t h is =
    let targetings : are_targetings r.targeting ≡ true = right (is_default r.variants r.default_variant) _ (right (are_variants r.variants) _ h) in
    let one : is_targeting t ≡ true = subst (λ o. are_targetings o ≡ true) is targetings in
    left (is_formed 0 t) _ (left (is_well_formed t) _ one)

flag_formed : (fs : Definitions) (key : List ℕ) (d : Definition) (t : Expression) → AreFlags fs → lookup (bytes_eq key) fs ≡ Some d → targeting_in d ≡ Some t → is_formed 0 t ≡ true
flag_formed fs key d t lawful was is =
    let each = All-lookup (λ (d : Definition). is_definition d ≡ true) (bytes_eq key) fs lawful.each in
    rules_formed d t (subst (λ o. IfSome o (λ (d : Definition). is_definition d ≡ true)) was each) is

refused_not : {A : Type 0} (e : RolloutFault) (o : Option A) (x : A) → or_refuse e o ≡ Ok x → o ≡ Some x
refused_not e (Some y) x h = cc
refused_not e None x h = absurd (cc)

by_logic_ok : {A : Type 0} (r : Result A LogicFault) (x : A) → by_logic r ≡ Ok x → r ≡ Ok x
by_logic_ok (Ok y) x h = cc
by_logic_ok (Err e) x h = absurd (cc)

entries_in : Entries → Result Place RolloutFault → Entries
entries_in d (Ok place) = place.entries
entries_in d (Err e) = d

next_place : (fs next : Definitions) (key : List ℕ) (site : ℕ) (rule : Entries) (place : Place) → AreFlags fs → AreFlags next → applied fs key site rule ≡ Ok next → place_of next key site ≡ Ok place → place.entries ≡ rule
unfolding entries_in
next_place fs next key site rule place lawful lawful_next is h =
    let s = steps_of fs key site rule next is in
    let ch = changed fs key s.flag s.changed lawful.rise s.was site rule next s.made s.is in
    let flag = came (or_refuse UnknownFlag (lookup (bytes_eq key) next)) (λ flag. and_then (or_refuse NoSite (targeting_in flag)) (λ targeting. place_in key site flag targeting)) place h in
    let there = refused_not UnknownFlag (lookup (bytes_eq key) next) flag.from flag.was in
    let targeting = came (or_refuse NoSite (targeting_in flag.from)) (λ targeting. place_in key site flag.from targeting) place flag.gives in
    let has = refused_not NoSite (targeting_in flag.from) targeting.from targeting.was in
    let parts = came (by_logic (parts_at site targeting.from)) (λ parts. and_then (by_logic (page_at key site targeting.from)) (λ page. Ok (record { flag = flag.from; entries = parts.1; page = page }))) place targeting.gives in
    let page = came (by_logic (page_at key site targeting.from)) (λ page. Ok (record { flag = flag.from; entries = parts.from.1; page = page })) place parts.gives in
    let entries : parts.from.1 ≡ place.entries = ap (entries_in parts.from.1) page.gives in
    let one : Some flag.from ≡ Some ch.new = sym there ∙ ch.is in
    let same : flag.from ≡ ch.new = cc in
    let new_has : targeting_in ch.new ≡ Some targeting.from = ap targeting_in (sym same) ∙ has in
    let t = retargeted_is site rule ch.old ch.new targeting.from ch.made new_has in
    let formed : is_formed 0 (with_entries site rule t.0) ≡ true = subst (λ e. is_formed 0 e ≡ true) t.1 (flag_formed next key flag.from targeting.from lawful_next there has) in
    let found : parts_at site (with_entries site rule t.0) ≡ Ok parts.from = ap (parts_at site) (sym t.1) ∙ by_logic_ok (parts_at site targeting.from) parts.from parts.was in
    sym entries ∙ parts_again site rule t.0 parts.from formed found

-- ---- the next step

-- what is asked of a site by its request
same_place : (fs : Definitions) (m : ℕ) (request : List ℕ) (p : Problem) (asks : Asks fs m request p) (key : List ℕ) (site : ℕ) → AsksAt key site request → place_of fs key site ≡ Ok asks.place
same_place fs m request p asks key site at_site =
    let P : Result Asked PriceFault → Type 0 = λ r. IfOk r (λ asked. (asked.flag ≡ key) × (asked.site ≡ site)) in
    let here : (asks.asked.flag ≡ key) × (asks.asked.site ≡ site) = subst P asks.is at_site in
    ap₂ (λ k n. place_of fs k n) (sym here.0) (sym here.1) ∙ asks.stands

one_place : (fs : Definitions) (key : List ℕ) (site : ℕ) (place other : Place) → place_of fs key site ≡ Ok place → place_of fs key site ≡ Ok other → place ≡ other
one_place fs key site place other h g = let same : Ok place ≡ Ok other = sym h ∙ g in cc

with_rule_is : (fs : Definitions) (m : ℕ) (request : List ℕ) (p : Problem) (asks : Asks fs m request p) (key : List ℕ) (site : ℕ) (rule : Entries) (next : Definitions) → AsksAt key site request
    → with_rule fs request rule ≡ Ok next → applied fs key site rule ≡ Ok next
with_rule_is fs m request p asks key site rule next at_site h =
    let P : Result Asked PriceFault → Type 0 = λ r. IfOk r (λ asked. (asked.flag ≡ key) × (asked.site ≡ site)) in
    let here : (asks.asked.flag ≡ key) × (asks.asked.site ≡ site) = subst P asks.is at_site in
    let made : with_rule fs request rule ≡ applied fs asks.asked.flag asks.asked.site rule = ap (λ r. and_then (by_price r) (λ (asked : Asked). applied fs asked.flag asked.site rule)) asks.is in
    ap₂ (λ k n. applied fs k n rule) (sym here.0) (sym here.1) ∙ (sym made ∙ h)

record Here (fs : Definitions) (m : ℕ) (request : List ℕ) (answer : Answer) : Type 0 where
  lawful : AreFlags fs
  problem : Problem
  asks : Asks fs m request problem
  plan : IsPlan problem answer

here_of : (fs : Definitions) (m : ℕ) (request : List ℕ) (book : Contents) (answer : Answer) → IsStep (Ok fs) m request (in_book book) answer → Here fs m request answer
here_of fs m request book answer step =
    let stands : Ok fs ≡ Ok step.flags = step.stands in
    let same : step.flags ≡ fs = cc in
    record {
      lawful = subst AreFlags same step.lawful;
      problem = step.plan.0;
      asks = subst (λ (x : Definitions). Asks x m request step.plan.0) same (asks_of step.flags m request book step.plan.0 step.plan.1);
      plan = step.plan.2;
    }

module _ (key : List ℕ) (site : ℕ) (book : Contents) where
  -- what a rule leaves, where there is a next step
  record After (fs : Definitions) (request : List ℕ) (rule : Entries) (requests : List (List ℕ)) (answers : List Answer) : Type 0 where
    next : Definitions
    left : with_rule fs request rule ≡ Ok next
    lawful : AreFlags next
    place : Place
    stands : place_of next key site ≡ Ok place
    plans : ArePlans (Ok next) 1 requests (in_book book) answers

  after : (fs : Definitions) (request : List ℕ) (rule : Entries) (requests : List (List ℕ)) (b : Answer) (bs : List Answer) → AllByRecursion (AsksAt key site) requests
      → ArePlans (with_rule fs request rule) 1 requests (in_book book) (b ∷ bs) → After fs request rule requests (b ∷ bs)
  after fs request rule [] b bs at h = absurd h
  after fs request rule (r ∷ rs) b bs at h =
      let next = h.0.flags in
      let P : Standing → Type 0 = λ s. ArePlans s 1 (r ∷ rs) (in_book book) (b ∷ bs) in
      let plans : ArePlans (Ok next) 1 (r ∷ rs) (in_book book) (b ∷ bs) = subst P h.0.stands h in
      let here = here_of next 1 r book b plans.0 in
      record { next = next; left = h.0.stands; lawful = here.lawful; place = here.asks.place; stands = same_place next 1 r here.problem here.asks key site at.0; plans = plans }

  -- the site of the next step has the rule
  entries_after : (fs : Definitions) (m : ℕ) (request : List ℕ) (rule : Entries) (c : DualPrices) (requests : List (List ℕ)) (answers : List Answer) (here : Here fs m request (emit rule c)) (n : After fs request rule requests answers)
      → AsksAt key site request → n.place.entries ≡ rule
  entries_after fs m request rule c requests answers here n at =
      next_place fs n.next key site rule n.place here.lawful n.lawful (with_rule_is fs m request here.problem here.asks key site rule n.next at n.left) n.stands

  own_place : (fs : Definitions) (m : ℕ) (request : List ℕ) (a : Answer) (here : Here fs m request a) (place : Place) → AsksAt key site request → place_of fs key site ≡ Ok place → place ≡ here.asks.place
  own_place fs m request a here place at is = one_place fs key site place here.asks.place is (same_place fs m request here.problem here.asks key site at)

  module _ (name : List ℕ) where
    first_keeps : (fs : Definitions) (m : ℕ) (request : List ℕ) (rule : Entries) (c : DualPrices) (here : Here fs m request (emit rule c)) (place : Place) → 0 < m → place_of fs key site ≡ Ok place → AsksAt key site request
        → ForbidsLeaving name request → (user : List ℕ) → choice place.entries user ≡ Some name → choice rule user ≡ Some name
    first_keeps fs m request rule c here place some is at forbids user had =
        let own = own_place fs m request (emit rule c) here place at is in
        step_keeps name fs m request here.problem here.asks rule c some here.plan forbids user (subst (λ (x : Place). choice x.entries user ≡ Some name) own had)

    kept : (fs : Definitions) (m : ℕ) (place : Place) (requests : List (List ℕ)) (answers : List Answer) → 0 < m → place_of fs key site ≡ Ok place → AllByRecursion (AsksAt key site) requests
        → AllByRecursion (ForbidsLeaving name) requests → ArePlans (Ok fs) m requests (in_book book) answers → (user : List ℕ) → choice place.entries user ≡ Some name
        → AllByRecursion (λ other. choice other user ≡ Some name) (rules_of answers)
    kept fs m place requests [] some is at forbids h user had = tt
    kept fs m place [] (a ∷ more) some is at forbids h user had = absurd h
    kept fs m place (r ∷ rs) (none_exists kind names ∷ []) some is at forbids h user had = tt
    kept fs m place (r ∷ rs) (none_exists kind names ∷ b ∷ bs) some is at forbids h user had = absurd h.1
    kept fs m place (r ∷ rs) (emit rule c ∷ []) some is at forbids h user had = (first_keeps fs m r rule c (here_of fs m r book (emit rule c) h.0) place some is at.0 forbids.0 user had, tt)
    kept fs m place (r ∷ rs) (emit rule c ∷ b ∷ bs) some is at forbids h user had =
        let here = here_of fs m r book (emit rule c) h.0 in
        let first = first_keeps fs m r rule c here place some is at.0 forbids.0 user had in
        let n = after fs r rule rs b bs at.1 h.1 in
        let entries = entries_after fs m r rule c rs (b ∷ bs) here n at.0 in
        (first, kept n.next 1 n.place rs (b ∷ bs) (omega arith) n.stands at.1 forbids.1 n.plans user (ap (λ x. choice x user) entries ∙ first))

    pub never_lost : (fs : Definitions) (m : ℕ) (place : Place) (requests : List (List ℕ)) (answers : List Answer) → 0 < m → place_of fs key site ≡ Ok place → AllByRecursion (AsksAt key site) requests
        → AllByRecursion (ForbidsLeaving name) requests → ArePlans (Ok fs) m requests (in_book book) answers → NeverLost name place.entries (rules_of answers)
    never_lost fs m place requests [] some is at forbids h = tt
    never_lost fs m place [] (a ∷ more) some is at forbids h = absurd h
    never_lost fs m place (r ∷ rs) (none_exists kind names ∷ []) some is at forbids h = tt
    never_lost fs m place (r ∷ rs) (none_exists kind names ∷ b ∷ bs) some is at forbids h = absurd h.1
    never_lost fs m place (r ∷ rs) (emit rule c ∷ []) some is at forbids h = (kept fs m place (r ∷ rs) (emit rule c ∷ []) some is at forbids h, tt)
    never_lost fs m place (r ∷ rs) (emit rule c ∷ b ∷ bs) some is at forbids h =
        let here = here_of fs m r book (emit rule c) h.0 in
        let n = after fs r rule rs b bs at.1 h.1 in
        let entries = entries_after fs m r rule c rs (b ∷ bs) here n at.0 in
        let rest : NeverLost name n.place.entries (rules_of (b ∷ bs)) = never_lost n.next 1 n.place rs (b ∷ bs) (omega arith) n.stands at.1 forbids.1 n.plans in
        (kept fs m place (r ∷ rs) (emit rule c ∷ b ∷ bs) some is at forbids h, subst (λ (x : Entries). NeverLost name x (rules_of (b ∷ bs))) entries rest)

  -- ---- one total

  first_total : (fs : Definitions) (m : ℕ) (request : List ℕ) (rule : Entries) (c : DualPrices) (here : Here fs m request (emit rule c)) (place : Place) → 0 < m → place_of fs key site ≡ Ok place → AsksAt key site request
      → total_weight rule ≡ total_weight place.entries * m
  first_total fs m request rule c here place some is at =
      step_total [] fs m request here.problem here.asks rule c some here.plan ∙ ap (λ (x : Place). total_weight x.entries * m) (sym (own_place fs m request (emit rule c) here place at is))

  pub totals : (fs : Definitions) (m : ℕ) (place : Place) (requests : List (List ℕ)) (answers : List Answer) (w : ℕ) → total_weight place.entries * m ≡ w → 0 < m → place_of fs key site ≡ Ok place
      → AllByRecursion (AsksAt key site) requests → ArePlans (Ok fs) m requests (in_book book) answers → AllByRecursion (λ rule. total_weight rule ≡ w) (rules_of answers)
  totals fs m place requests [] w e some is at h = tt
  totals fs m place [] (a ∷ more) w e some is at h = absurd h
  totals fs m place (r ∷ rs) (none_exists kind names ∷ []) w e some is at h = tt
  totals fs m place (r ∷ rs) (none_exists kind names ∷ b ∷ bs) w e some is at h = absurd h.1
  totals fs m place (r ∷ rs) (emit rule c ∷ []) w e some is at h = (first_total fs m r rule c (here_of fs m r book (emit rule c) h.0) place some is at.0 ∙ e, tt)
  totals fs m place (r ∷ rs) (emit rule c ∷ b ∷ bs) w e some is at h =
      let here = here_of fs m r book (emit rule c) h.0 in
      let first = first_total fs m r rule c here place some is at.0 ∙ e in
      let n = after fs r rule rs b bs at.1 h.1 in
      let entries = entries_after fs m r rule c rs (b ∷ bs) here n at.0 in
      let again : total_weight n.place.entries * 1 ≡ w = omega (arith, ap total_weight entries, first) in
      (first, totals n.next 1 n.place rs (b ∷ bs) w again (omega arith) n.stands at.1 n.plans)
