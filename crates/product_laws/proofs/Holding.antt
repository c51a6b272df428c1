-- What is planned on a book holds of each list of the inputs that were recorded on the page of the request.
use Rattle.std.proofs.Common.{◌≡◌, ℕ, ◌*◌, List, [], refl, sym, ap, ◌∙◌, subst, arith}
use Rattle.std.specs.Prelude.{Result, Ok, Err}
use Rattle.std.specs.List.{IsDistinct}
use Rattle.std.specs.Str.{bytes_eq}
use Rattle.std.proofs.lemmas.List.Sums.{sum-map}
use Rattle.bucket_core.specs.Rule.{Entries, refinement, total_weight}
use Rattle.flag_defs.specs.Document.{Definitions}
use Rattle.book_core.specs.Book.{Contents, IsBook, is_among, inputs_on}
use Rattle.book_core.specs.Page.{PageName}
use Rattle.book_share.proofs.Pages.{rising_distinct, rising_page}
use Rattle.price_core.specs.Cost.{cost_of, input_cost}
use Rattle.price_core.specs.Limits.{Limits}
use Rattle.price_core.specs.Pricing.{Pricing}
use Rattle.price_core.specs.Request.{Asked, asked_of}
use Rattle.plan_text.specs.Answer.{Answer, emit, none_exists, planned_view}
use Rattle.plan_text.specs.declared.planned.Planned.{Planned}
use Rattle.rollout.specs.Lawful.{Place, Problem, and_then, by_price, limits_for, place_of, sized, weighed}
use Rattle.rollout.specs.Plan.{IsPlan, IsPlanned}
use Rattle.rollout.specs.Refined.{problem_refined}
use Rattle.rollout.specs.Verified.{Shows}
use Rattle.rollout.specs.declared.fault.RolloutFault.{RolloutFault}
use Rattle.product_laws.specs.Recorded.{HoldsOf, Record, of_keys}
use Rattle.product_laws.proofs.Sums.{same_sum}

refused : {X E : Type 0} {e : E} {x : X} → Err e ≡ Ok x → ⊥
refused h = cc

-- ---- what a request asks, apart from the book

abbrev made : ℕ → Asked → Place → Contents → Limits → Problem
made m asked place b limits = record { old = refinement m place.entries; limits = limits; pricing = asked.prices; inputs = inputs_on b place.page }

-- what is asked at a site, by a factor
abbrev by_factor : ℕ → Contents → Asked → Place → Result Problem RolloutFault
by_factor m b asked place =
    and_then (weighed place.entries) (λ _. and_then (limits_for place asked) (λ limits. and_then (sized limits (total_weight place.entries * m)) (λ _. Ok (made m asked place b limits))))

module _ (m : ℕ) (book : Contents) (p : Problem) where
  module _ (asked : Asked) (place : Place) where
    last : (limits : Limits) (u : Result (Unit {0}) RolloutFault) → and_then u (λ _. Ok (made m asked place book limits)) ≡ Ok p
        → (and_then u (λ _. Ok (made m asked place [] limits)) ≡ Ok (of_keys p [])) × (p.inputs ≡ inputs_on book place.page)
    unfolding inputs_on
    last limits (Err e) h = absurd (refused h)
    last limits (Ok u) h =
        let same : made m asked place book limits ≡ p = cc in
        let both : (made m asked place [] limits ≡ of_keys p []) × (p.inputs ≡ inputs_on book place.page) = subst (λ (q : Problem). (made m asked place [] limits ≡ of_keys q []) × (q.inputs ≡ inputs_on book place.page)) same (refl, refl) in
        (ap Ok both.0, both.1)

    parts : (w : Result (Unit {0}) RolloutFault) (l : Result Limits RolloutFault) (s : Limits → Result (Unit {0}) RolloutFault)
        → and_then w (λ _. and_then l (λ limits. and_then (s limits) (λ _. Ok (made m asked place book limits)))) ≡ Ok p
        → (and_then w (λ _. and_then l (λ limits. and_then (s limits) (λ _. Ok (made m asked place [] limits)))) ≡ Ok (of_keys p [])) × (p.inputs ≡ inputs_on book place.page)
    parts (Err e) l s h = absurd (refused h)
    parts (Ok u) (Err e) s h = absurd (refused h)
    parts (Ok u) (Ok limits) s h = last limits (s limits) h

  at_place : (asked : Asked) (place : Result Place RolloutFault) → and_then place (λ it. by_factor m book asked it) ≡ Ok p
      → (page : PageName) × (and_then place (λ it. Ok it.page) ≡ Ok page) × (and_then place (λ it. by_factor m [] asked it) ≡ Ok (of_keys p [])) × (p.inputs ≡ inputs_on book page)
  at_place asked (Err e) h = absurd (refused h)
  at_place asked (Ok place) h =
      let both = parts asked place (weighed place.entries) (limits_for place asked) (λ limits. sized limits (total_weight place.entries * m)) h in
      (place.page, refl, both.0, both.1)

  at_request : (flags : Definitions) (a : Result Asked RolloutFault) → and_then a (λ asked. and_then (place_of flags asked.flag asked.site) (λ it. by_factor m book asked it)) ≡ Ok p
      → (page : PageName) × (and_then a (λ asked. and_then (place_of flags asked.flag asked.site) (λ it. Ok it.page)) ≡ Ok page)
      × (and_then a (λ asked. and_then (place_of flags asked.flag asked.site) (λ it. by_factor m [] asked it)) ≡ Ok (of_keys p [])) × (p.inputs ≡ inputs_on book page)
  at_request flags (Err e) h = absurd (refused h)
  at_request flags (Ok asked) h = at_place asked (place_of flags asked.flag asked.site) h

-- ---- what is shown of one list is shown of another of the same inputs

shown_of : (p : Problem) (answer : Answer) (keys : List (List ℕ)) → ((old new : Entries) (pricing : Pricing) → cost_of old new p.inputs pricing ≡ cost_of old new keys pricing)
    → Shows p answer → Shows (of_keys p keys) answer
shown_of p (emit rule c) keys same shows = record {
  fits = shows.fits;
  least = λ other fits. omega (arith, same p.old rule p.pricing, same p.old other p.pricing, shows.least other fits);
}
shown_of p (none_exists kind names) keys same shows = shows

same_cost : (xs ys : List (List ℕ)) → IsDistinct bytes_eq xs → IsDistinct bytes_eq ys → ((q : List ℕ) → is_among q xs ≡ is_among q ys)
    → (old new : Entries) (pricing : Pricing) → cost_of old new xs pricing ≡ cost_of old new ys pricing
same_cost xs ys one other same old new pricing =
    let f = input_cost old new pricing in sum-map f xs ∙ same_sum f xs ys one other same ∙ sym (sum-map f ys)

-- ---- the whole

module _ (recorded : Record) (m : ℕ) (flags : Definitions) (request : List ℕ) (book : Contents) (answer : Answer) where
  held : IsBook book → ((page : PageName) (input : List ℕ) → is_among input (inputs_on book page) ≡ recorded page input) → (r : Result Problem RolloutFault) → problem_refined m flags request book ≡ r
      → (p : Problem) → r ≡ Ok p → IsPlan p answer → HoldsOf recorded m flags request answer
  held is_book same r is p ok plan =
      let found = at_request m book p flags (by_price (asked_of request)) (is ∙ ok) in
      let page = found.0 in
      let inputs = inputs_on book page in
      let distinct : IsDistinct bytes_eq inputs = rising_distinct inputs (rising_page book page is_book) in
      record {
        page = page;
        named = found.1;
        problem = of_keys p [];
        asked = found.2;
        some = inputs;
        are = record { distinct = distinct; all = same page };
        shows = λ keys they. shown_of p answer keys
            (subst (λ (xs : List (List ℕ)). (old new : Entries) (pricing : Pricing) → cost_of old new xs pricing ≡ cost_of old new keys pricing) (sym found.3)
            (same_cost inputs keys distinct they.distinct (λ q. same page q ∙ sym (they.all q)))) plan.shows;
      }

pub plan_holds : (recorded : Record) (m : ℕ) (flags : Definitions) (request : List ℕ) (book : Contents) (planned : Planned) → IsBook book
    → ((page : PageName) (input : List ℕ) → is_among input (inputs_on book page) ≡ recorded page input) → IsPlanned (problem_refined m flags request book) (Ok planned)
    → HoldsOf recorded m flags request (planned_view planned)
plan_holds recorded m flags request book planned is_book same is_planned = go (problem_refined m flags request book) refl is_planned
  where
    go : (r : Result Problem RolloutFault) → problem_refined m flags request book ≡ r → IsPlanned r (Ok planned) → HoldsOf recorded m flags request (planned_view planned)
    go (Err f) is plan = absurd plan
    go (Ok p) is plan = held recorded m flags request book (planned_view planned) is_book same (Ok p) is p refl plan
