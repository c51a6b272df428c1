-- What a plan answers.
use Rattle.std.specs.Prelude.{ℕ, ◌<◌, ◌^◌, List, ⊤}
use Rattle.std.specs.Cmp.Lexicographic.{slice_cmp}
use Rattle.std.specs.List.{AllByRecursion}
use Rattle.std.specs.List.Sorted.{IsStrictlySortedBy}
use Rattle.std.specs.Map.{keys_of}
use Rattle.std.specs.Ordering.{nat_cmp}
use Rattle.bucket_core.specs.Canonical.{IsCanonical}
use Rattle.bucket_core.specs.Rule.{Entries, IsRuleTotal, total_weight, names_view}
use Rattle.transport_core.specs.Certificate.{DualPrices, certificate_view}
use Rattle.transport_core.specs.Groups.{group_cmp}
use Rattle.transport_core.specs.declared.certificate.CutKind.{CutKind}
use Rattle.plan_text.specs.declared.planned.Planned.{Planned}
use Rattle.plan_text.specs.declared.planned.Planned.TheVariants as planned

-- a rule with the certificate of its cost, or a set of names, deficient by its kind, which shows that no rule fits
pub data Answer : Type 0 where
  emit : Entries → DualPrices → Answer
  none_exists : CutKind → List (List ℕ) → Answer

-- the rule is canonical, the certificate's groups and names are sorted and distinct, and so are the names of a set
abbrev pub IsOrdered : Answer → Type 0
IsOrdered (emit rule c) = IsCanonical rule × IsStrictlySortedBy group_cmp (keys_of c.alpha) × IsStrictlySortedBy (slice_cmp nat_cmp) (keys_of c.beta)
IsOrdered (none_exists kind names) = IsStrictlySortedBy (slice_cmp nat_cmp) names

-- the numbers that the program's types bound: the rule's total, and the number of inputs of each group
abbrev pub FitsFile : Answer → Type 0
FitsFile (emit rule c) = IsRuleTotal (total_weight rule) × AllByRecursion (λ a. a.0.1 < 2 ^ 32) c.alpha
FitsFile (none_exists kind names) = ⊤

-- an answer of the program, without where its names lie in memory
abbrev pub planned_view : Planned → Answer
planned_view (planned.Emit rule certificate) = emit rule (certificate_view certificate)
planned_view (planned.NoneExists cut) = none_exists cut.kind (names_view cut.names.items)
