-- What the steps of a rollout keep, so that nobody falls back; and that what is planned is told as valid.
use Rattle.std.specs.Prelude.{◌≡◌, ◌≢◌, ◌<◌, ◌*◌, ℕ, List, [], ◌∷◌, Option, None, Some, unwrap_or, true, IfOk, Result, Ok, Err}
use Rattle.std.specs.List.{AllByRecursion}
use Rattle.price_core.specs.Limits.{high_of}
use Rattle.book_core.specs.Book.{Contents, Inputs, inputs_on}
use Rattle.book_core.specs.Counts.{counts_of}
use Rattle.bucket_core.specs.Rule.{Entries, choice, total_weight}
use Rattle.flag_defs.specs.Document.{Definitions}
use Rattle.plan_text.specs.Answer.{Answer, emit, none_exists}
use Rattle.price_core.specs.Pricing.{is_forbidden}
use Rattle.price_core.specs.Request.{asked_of}
use Rattle.rollout.specs.Lawful.{Place, place_of}
use Rattle.rollout.specs.VerifyFault.{is_want}
use Rattle.transport_core.specs.Certificate.{DualPrices}
use Rattle.rollout.specs.declared.fault.RolloutFault.TheVariants.{OtherTally}
use Rattle.rollout.specs.declared.verify_fault.VerifyFault.TheVariants.{Request}
use Rattle.note_tallies.specs.JoinLaw.{IsTallyOf}
use Rattle.note_tallies.specs.Tally.{PageTally}
use Rattle.ramp.specs.Ramp.{ArePlans, IsRefused, Recorded, in_book, in_tally, Standing}
use Rattle.ramp.specs.Right.{IsTold}
use Rattle.ramp.specs.declared.fault.RampFault.{RampFault}
use Rattle.ramp.specs.declared.fault.StepFault.{StepFault}
use Rattle.ramp.specs.declared.fault.RampFault.TheVariants.{Step, Lines}

-- it was recorded of some inputs: a book has its own, and of a tally there are inputs of which so many fall on each point
abbrev pub IsOfInputs : Recorded → Type 0
IsOfInputs (in_book book) = Unit {0}
IsOfInputs (in_tally t) = (inputs : Inputs) × (t.counts ≡ counts_of inputs t.total)

-- the rules of the answers, in turn
abbrev pub rules_of : List Answer → List Entries
rules_of [] = []
rules_of (emit rule c ∷ answers) = rule ∷ rules_of answers
rules_of (none_exists kind names ∷ answers) = rules_of answers

-- the request asks for a rule at this site
abbrev pub AsksAt : List ℕ → ℕ → List ℕ → Type 0
AsksAt key site request = IfOk (asked_of request) (λ asked. (asked.flag ≡ key) × (asked.site ≡ site))

-- the request forbids each change from this name to another one that may have points
abbrev pub ForbidsLeaving : List ℕ → List ℕ → Type 0
ForbidsLeaving name request = IfOk (asked_of request) (λ asked. (to : List ℕ) → to ≢ name → 0 < high_of asked.totals to → is_forbidden asked.prices name to ≡ true)

-- whoever the rule gives the name is given it by each of the others
abbrev pub KeptBy : List ℕ → Entries → List Entries → Type 0
KeptBy name rule others = (user : List ℕ) → choice rule user ≡ Some name → AllByRecursion (λ other. choice other user ≡ Some name) others

-- whoever is given the name by one of the rules is given it by all that follow
abbrev pub NeverLost : List ℕ → Entries → List Entries → Type 0
NeverLost name rule [] = Unit {0}
NeverLost name rule (next ∷ rules) = KeptBy name rule (next ∷ rules) × NeverLost name next rules

-- Steps that ask for a rule at one site and forbid to leave a name never take it from anybody, from the site's rule on.
abbrev pub NobodyFallsBack : Type 0
NobodyFallsBack =
    (name key : List ℕ) (site m : ℕ) (flags : Definitions) (place : Place) (requests : List (List ℕ)) (recorded : Recorded) (answers : List Answer)
    → IsOfInputs recorded → 0 < m → place_of flags key site ≡ Ok place → AllByRecursion (AsksAt key site) requests → AllByRecursion (ForbidsLeaving name) requests
    → ArePlans (Ok flags) m requests recorded answers → NeverLost name place.entries (rules_of answers)

-- Their rules are all of one total, that of the site's rule times the factor.
abbrev pub OneTotal : Type 0
OneTotal =
    (key : List ℕ) (site m : ℕ) (flags : Definitions) (place : Place) (requests : List (List ℕ)) (recorded : Recorded) (answers : List Answer)
    → IsOfInputs recorded → 0 < m → place_of flags key site ≡ Ok place → AllByRecursion (AsksAt key site) requests
    → ArePlans (Ok flags) m requests recorded answers → AllByRecursion (λ rule. total_weight rule ≡ total_weight place.entries * m) (rules_of answers)

-- ---- what is planned is valid

-- valid, unless memory ran out
abbrev pub IsValid : Result (Unit {0}) RampFault → Type 0
IsValid (Ok u) = Unit {0}
IsValid (Err Lines) = ⊥
IsValid (Err (Step n e)) = is_want e ≡ true

-- Answers that were planned by a factor are told as valid by the same; where none is given, the first is planned on the rule itself.
abbrev pub RampsAreValid : Type 0
RampsAreValid =
    (refine : Option ℕ) (standing : Standing) (requests : List (List ℕ)) (recorded : Recorded) (answers : List Answer) (told : Result (Unit {0}) RampFault)
    → IsOfInputs recorded → ArePlans standing (unwrap_or refine 1) requests recorded answers → IsTold standing refine requests recorded answers told → IsValid told

-- So they are where no factor is given and the first is a rule, since its total tells the factor.
abbrev pub RefinedRampsAreValid : Type 0
RefinedRampsAreValid =
    (m : ℕ) (standing : Standing) (requests : List (List ℕ)) (recorded : Recorded) (rule : Entries) (c : DualPrices) (answers : List Answer) (told : Result (Unit {0}) RampFault)
    → IsOfInputs recorded → ArePlans standing m requests recorded (emit rule c ∷ answers) → IsTold standing None requests recorded (emit rule c ∷ answers) told → IsValid told

-- ---- a tally stands for the book whose inputs it counts

-- What is planned of the steps on the tally of a page's inputs is planned on the book that has them.
abbrev pub TallyRampsAreOfBooks : Type 0
TallyRampsAreOfBooks =
    (standing : Standing) (m : ℕ) (requests : List (List ℕ)) (book : Contents) (t : PageTally) (answers : List Answer)
    → IsTallyOf (inputs_on book t.page) t → ArePlans standing m requests (in_tally t) answers → ArePlans standing m requests (in_book book) answers

-- A step that is refused on the tally, and not as one for another tally, is refused so on the book.
abbrev pub TallyRefusalsAreOfBooks : Type 0
TallyRefusalsAreOfBooks =
    (standing : Standing) (m : ℕ) (requests : List (List ℕ)) (book : Contents) (t : PageTally) (e : StepFault)
    → IsTallyOf (inputs_on book t.page) t → e.fault ≢ OtherTally → IsRefused standing m requests (in_tally t) e → IsRefused standing m requests (in_book book) e

-- it is told of a step that the tally is another one
abbrev pub TellsOtherTally : Result (Unit {0}) RampFault → Type 0
TellsOtherTally told = (n : ℕ) × (told ≡ Err (Step n (Request OtherTally)))

-- And what is told of answers on the tally is told of them on the book.
abbrev pub TallyVerdictsAreOfBooks : Type 0
TallyVerdictsAreOfBooks =
    (standing : Standing) (refine : Option ℕ) (requests : List (List ℕ)) (book : Contents) (t : PageTally) (answers : List Answer) (told : Result (Unit {0}) RampFault)
    → IsTallyOf (inputs_on book t.page) t → ¬ (TellsOtherTally told) → IsTold standing refine requests (in_tally t) answers told → IsTold standing refine requests (in_book book) answers told
