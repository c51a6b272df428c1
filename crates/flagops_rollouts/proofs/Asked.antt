-- What a request asks of a tally, by the parts that it comes of.
use Rattle.std.proofs.Common.{◌≡◌, ◌≢◌, ◌∙◌, ◌*◌, ◌==◌, ◌&&◌, ℕ, List, [], Bool, true, false, cond, refl, sym, ap}
use Rattle.std.specs.Prelude.{Result, Ok, Err}
use Rattle.std.proofs.lemmas.Bool.{and_parts, eqb-true}
use Rattle.bucket_core.proofs.Refined.{total_weight-refinement}
use Rattle.bucket_core.specs.Rule.{refinement, total_weight}
use Rattle.book_core.specs.Book.{Contents, Inputs, inputs_on}
use Rattle.book_core.specs.Counts.{counts_of}
use Rattle.book_core.specs.Page.{page_eq}
use Rattle.flag_defs.specs.Document.{Definitions}
use Rattle.price_core.specs.Limits.{Limits}
use Rattle.price_core.specs.Request.{Asked, asked_of}
use Rattle.rollout.proofs.Bounded.{came}
use Rattle.rollout.specs.Lawful.{Place, Problem, and_then, by_price, factor, limits_for, place_of, problem_at, problem_of, sized, weighed}
use Rattle.rollout.specs.CheckedTally.{AreTallied, TallyProblem, tally_problem_at, tally_problem_of, with_counts}
use Rattle.rollout.specs.declared.fault.RolloutFault.{RolloutFault}
use Rattle.rollout.specs.declared.fault.RolloutFault.TheVariants.{NoWeight, OtherTally}
use Rattle.rollout.specs.declared.refining.Refining.{Refining}
use Rattle.note_tallies.specs.Tally.{PageTally}

refused : {X E : Type 0} {e : E} {x : X} → Err e ≡ Ok x → ⊥
refused h = cc

-- a site without weight is refused, and then another tally
abbrev with_weight : Bool → Result (Unit {0}) RolloutFault
with_weight none = cond none (Err NoWeight) (Ok tt)

abbrev with_tally : Bool → Result (Unit {0}) RolloutFault
with_tally of = cond of (Ok tt) (Err OtherTally)

module _ (t : PageTally) (asked : Asked) (place : Place) where
  abbrev made : ℕ → Inputs → Limits → Problem
  made k inputs limits = record { old = refinement k place.entries; limits = limits; pricing = asked.prices; inputs = inputs }

  -- what is asked by a factor, of these inputs
  abbrev asked_by : ℕ → Inputs → Result Problem RolloutFault
  asked_by k inputs = and_then (limits_for place asked) (λ limits. and_then (sized limits (total_weight place.entries * k)) (λ _. Ok (made k inputs limits)))

  -- the tally is of the page, and of so many times the total
  abbrev is_of : ℕ → Bool
  is_of k = page_eq place.page t.page && (total_weight place.entries * k == t.total)

  abbrev tally_by : ℕ → Result TallyProblem RolloutFault
  tally_by k = and_then (weighed place.entries) (λ _. and_then (with_tally (is_of k)) (λ _. and_then (asked_by k []) (λ p. Ok (with_counts p t.counts))))

  -- what is asked of the tally
  pub record IsAsked (k : ℕ) (p : TallyProblem) : Type 0 where
    pub some : (total_weight place.entries == 0) ≡ false
    pub page : page_eq place.page t.page ≡ true
    pub total : total_weight place.entries * k ≡ t.total
    pub old : p.old ≡ refinement k place.entries
    pub counts : p.counts ≡ t.counts

  made_old : (k : ℕ) (p : TallyProblem) (limits : Limits) (u : Result (Unit {0}) RolloutFault) → and_then (and_then u (λ _. Ok (made k [] limits))) (λ q. Ok (with_counts q t.counts)) ≡ Ok p
      → (p.old ≡ refinement k place.entries) × (p.counts ≡ t.counts)
  made_old k p limits (Err e) h = absurd (refused h)
  made_old k p limits (Ok u) h = let same : with_counts (made k [] limits) t.counts ≡ p = cc in (ap (λ (x : TallyProblem). x.old) (sym same), ap (λ (x : TallyProblem). x.counts) (sym same))

  parts_of : (k : ℕ) (p : TallyProblem) (none other : Bool) (limits : Result Limits RolloutFault) → (total_weight place.entries == 0) ≡ none → is_of k ≡ other
      → and_then (with_weight none) (λ _. and_then (with_tally other) (λ _. and_then (and_then limits (λ l. and_then (sized l (total_weight place.entries * k)) (λ _. Ok (made k [] l)))) (λ q. Ok (with_counts q t.counts)))) ≡ Ok p
      → IsAsked k p
  parts_of k p true other limits some of h = absurd (refused h)
  parts_of k p false false limits some of h = absurd (refused h)
  parts_of k p false true (Err e) some of h = absurd (refused h)
  parts_of k p false true (Ok l) some of h =
      let parts = and_parts (page_eq place.page t.page) (total_weight place.entries * k == t.total) of in
      let is = made_old k p l (sized l (total_weight place.entries * k)) h in
      record { some = some; page = parts.0; total = eqb-true (total_weight place.entries * k) t.total parts.1; old = is.0; counts = is.1 }

  pub asked_is : (refining : Refining) (p : TallyProblem) → tally_problem_at refining t asked place ≡ Ok p → IsAsked (factor refining (total_weight place.entries)) p
  asked_is refining p h = parts_of (factor refining (total_weight place.entries)) p (total_weight place.entries == 0) (is_of (factor refining (total_weight place.entries))) (limits_for place asked) refl refl h

  -- by another refinement with the same factor it asks the same
  pub asked_again : (one other : Refining) → factor one (total_weight place.entries) ≡ factor other (total_weight place.entries) → tally_problem_at one t asked place ≡ tally_problem_at other t asked place
  asked_again one other same = ap tally_by same

  -- inputs with the tally's counts have those of what is asked
  pub tallied_at : (k : ℕ) (p : TallyProblem) (inputs : Inputs) → IsAsked k p → t.counts ≡ counts_of inputs t.total → AreTallied p inputs
  tallied_at k p inputs is of =
      let total : total_weight p.old ≡ t.total = ap total_weight is.old ∙ (total_weight-refinement k place.entries ∙ is.total) in
      is.counts ∙ (of ∙ ap (counts_of inputs) (sym total))

  -- ---- a refusal that is not of the tally

  refused_last : (k : ℕ) (inputs : Inputs) (limits : Limits) (u : Result (Unit {0}) RolloutFault) (f : RolloutFault)
      → and_then (and_then u (λ _. Ok (made k [] limits))) (λ q. Ok (with_counts q t.counts)) ≡ Err f → and_then u (λ _. Ok (made k inputs limits)) ≡ Err f
  refused_last k inputs limits (Err e) f h = cc
  refused_last k inputs limits (Ok u) f h = absurd (refused (sym h))

  refused_parts : (k : ℕ) (inputs : Inputs) (f : RolloutFault) (w : Result (Unit {0}) RolloutFault) (other : Bool) (limits : Result Limits RolloutFault) → f ≢ OtherTally
      → and_then w (λ _. and_then (with_tally other) (λ _. and_then (and_then limits (λ l. and_then (sized l (total_weight place.entries * k)) (λ _. Ok (made k [] l)))) (λ q. Ok (with_counts q t.counts)))) ≡ Err f
      → and_then w (λ _. and_then limits (λ l. and_then (sized l (total_weight place.entries * k)) (λ _. Ok (made k inputs l)))) ≡ Err f
  refused_parts k inputs f (Err e) other limits apart h = cc
  refused_parts k inputs f (Ok u) false limits apart h = absurd (apart cc)
  refused_parts k inputs f (Ok u) true (Err e) apart h = cc
  refused_parts k inputs f (Ok u) true (Ok l) apart h = refused_last k inputs l (sized l (total_weight place.entries * k)) f h

  refused_at : (refining : Refining) (book : Contents) (f : RolloutFault) → f ≢ OtherTally → tally_problem_at refining t asked place ≡ Err f → problem_at refining book asked place ≡ Err f
  refused_at refining book f apart h =
      let k = factor refining (total_weight place.entries) in
      refused_parts k (inputs_on book place.page) f (weighed place.entries) (is_of k) (limits_for place asked) apart h

-- ---- the whole

-- the request and its site, which what is asked of a tally came of
pub record IsPlaced (refining : Refining) (flags : Definitions) (request : List ℕ) (t : PageTally) (p : TallyProblem) : Type 0 where
  pub asked : Asked
  pub place : Place
  pub reads : by_price (asked_of request) ≡ Ok asked
  pub stands : place_of flags asked.flag asked.site ≡ Ok place
  pub asks : tally_problem_at refining t asked place ≡ Ok p

pub placed : (refining : Refining) (flags : Definitions) (request : List ℕ) (t : PageTally) (p : TallyProblem) → tally_problem_of refining flags request t ≡ Ok p → IsPlaced refining flags request t p
placed refining flags request t p h =
    let asked = came (by_price (asked_of request)) (λ asked. and_then (place_of flags asked.flag asked.site) (λ place. tally_problem_at refining t asked place)) p h in
    let place = came (place_of flags asked.from.flag asked.from.site) (λ place. tally_problem_at refining t asked.from place) p asked.gives in
    record { asked = asked.from; place = place.from; reads = asked.was; stands = place.was; asks = place.gives }

-- where they stand, the tally is asked the same by another refinement with the same factor
pub asked_by_again : (one other : Refining) (flags : Definitions) (request : List ℕ) (t : PageTally) (p : TallyProblem) (is : IsPlaced one flags request t p)
    → factor other (total_weight is.place.entries) ≡ factor one (total_weight is.place.entries) → tally_problem_of other flags request t ≡ Ok p
asked_by_again one other flags request t p is same =
    ap (λ r. and_then r (λ asked. and_then (place_of flags asked.flag asked.site) (λ place. tally_problem_at other t asked place))) is.reads
    ∙ (ap (λ r. and_then r (λ place. tally_problem_at other t is.asked place)) is.stands
    ∙ (asked_again t is.asked is.place other one same ∙ is.asks))

pub are_tallied : (refining : Refining) (flags : Definitions) (request : List ℕ) (t : PageTally) (p : TallyProblem) (inputs : Inputs) → tally_problem_of refining flags request t ≡ Ok p → t.counts ≡ counts_of inputs t.total → AreTallied p inputs
are_tallied refining flags request t p inputs h of =
    let is = placed refining flags request t p h in
    tallied_at t is.asked is.place (factor refining (total_weight is.place.entries)) p inputs (asked_is t is.asked is.place refining p is.asks) of

module _ (refining : Refining) (flags : Definitions) (book : Contents) (t : PageTally) (f : RolloutFault) (apart : f ≢ OtherTally) where
  refused_place : (asked : Asked) (place : Result Place RolloutFault) → and_then place (λ it. tally_problem_at refining t asked it) ≡ Err f → and_then place (λ it. problem_at refining book asked it) ≡ Err f
  refused_place asked (Err e) h = cc
  refused_place asked (Ok place) h = refused_at t asked place refining book f apart h

  refused_request : (a : Result Asked RolloutFault) → and_then a (λ asked. and_then (place_of flags asked.flag asked.site) (λ place. tally_problem_at refining t asked place)) ≡ Err f
      → and_then a (λ asked. and_then (place_of flags asked.flag asked.site) (λ place. problem_at refining book asked place)) ≡ Err f
  refused_request (Err e) h = cc
  refused_request (Ok asked) h = refused_place asked (place_of flags asked.flag asked.site) h

-- a request that is refused on a tally, and not for the tally, is refused on each book
pub refused_alike : (refining : Refining) (flags : Definitions) (request : List ℕ) (book : Contents) (t : PageTally) (f : RolloutFault) → f ≢ OtherTally → tally_problem_of refining flags request t ≡ Err f
    → problem_of refining flags request book ≡ Err f
refused_alike refining flags request book t f apart h = refused_request refining flags book t f apart (by_price (asked_of request)) h
