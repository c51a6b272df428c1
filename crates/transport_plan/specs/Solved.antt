-- What the planner answers: a plan with the certificate that proves its cost, or a cut that shows that there is none.
use Rattle.std.specs.Prelude.{◌≡◌, ℕ, true, List}
use Rattle.std.specs.Cmp.Lexicographic.{slice_cmp}
use Rattle.std.specs.List.Sorted.{IsStrictlySortedBy}
use Rattle.std.specs.Ordering.{nat_cmp}
use Rattle.bucket_core.specs.Rule.{Entries, names_view}
use Rattle.transport_core.specs.Assignment.{HasAssignment, IsProved, flows_of}
use Rattle.transport_core.specs.Certificate.{IsCertified, certificate_view}
use Rattle.transport_core.specs.Deficient.{IsDeficient, IsOver}
use Rattle.transport_core.specs.Fits.{IsLeast}
use Rattle.transport_core.specs.Groups.{AreSizes}
use Rattle.transport_core.specs.Instance.{TransportProblem}
use Rattle.transport_core.specs.declared.assignment.Assignment.{Assignment}
use Rattle.transport_core.specs.declared.certificate.Certificate.{Certificate}
use Rattle.transport_core.specs.declared.certificate.Cut.{Cut}
use Rattle.transport_core.specs.declared.certificate.CutKind.TheVariants.{Under}
use Rattle.transport_core.specs.WrittenCertificate.{has_whole_numbers}
use Rattle.transport_plan.specs.declared.solving.Solved.{Solved}
use Rattle.transport_plan.specs.declared.solving.Solved.TheVariants.{Plan, None}

-- what holds where a plan is answered, and where a cut is
abbrev pub IfPlan : Solved → (Assignment → Certificate → Type 0) → Type 0
IfPlan (Plan assignment certificate) P = P assignment certificate
IfPlan (None cut) P = Unit {0}

abbrev pub IfNone : Solved → (Cut → Type 0) → Type 0
IfNone (Plan assignment certificate) P = Unit {0}
IfNone (None cut) P = P cut

-- For each old rule and inputs with these groups, a new rule that gives the groups' points so passes the check of the
-- certificate, and no rule that fits costs the inputs less.
abbrev pub IsPlan : TransportProblem → Assignment → Certificate → Type 0
IsPlan p assignment certificate = (old new : Entries) (inputs : List (List ℕ)) → AreSizes old inputs p.groups → HasAssignment old new inputs (flows_of p assignment.numbers.items)
    → IsCertified old new p.limits p.pricing inputs (certificate_view certificate) × IsLeast old new p.limits p.pricing inputs

-- For each old rule and inputs with these groups, the set of the cut is deficient by its kind.
abbrev pub IsCut : TransportProblem → Cut → Type 0
IsCut p cut = (old : Entries) (inputs : List (List ℕ)) → AreSizes old inputs p.groups → IsDeficient cut.kind old p.limits p.pricing (names_view cut.names.items)

-- No set of names is deficient over its high limits.
abbrev pub IsNeverOver : TransportProblem → Type 0
IsNeverOver p = (old : Entries) (inputs : List (List ℕ)) (names : List (List ℕ)) → AreSizes old inputs p.groups → IsOver old p.limits p.pricing names → ⊥

-- What the planner answers of an instance. A plan is proved, costs the least, and a file can hold its certificate. A cut shows that
-- there is none; it is under the low limits only where no set is over the high ones, and its names are sorted and distinct.
pub record IsSolution (p : TransportProblem) (s : Solved) : Type 0 where
  pub proved : IfPlan s (λ assignment certificate. IsProved p assignment.numbers.items (certificate_view certificate))
  pub least : IfPlan s (IsPlan p)
  pub whole : IfPlan s (λ _ certificate. has_whole_numbers (certificate_view certificate) ≡ true)
  pub deficient : IfNone s (IsCut p)
  pub under : IfNone s (λ cut. cut.kind ≡ Under → IsNeverOver p)
  pub ordered : IfNone s (λ cut. IsStrictlySortedBy (slice_cmp nat_cmp) (names_view cut.names.items))
