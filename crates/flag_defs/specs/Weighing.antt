-- In how many bytes the targetings of a document are printed at least, known before any reference in them is replaced.
use Rattle.std.specs.Prelude.{◌≡◌, ◌≤◌, ◌⊎◌, ℕ, codes, Option, Some, None}
use Rattle.flag_text.specs.Readers.{member_of}
use Rattle.flag_text.specs.Shape.{Shape, Members, no_members, member}
use Rattle.logic_ast.specs.Expression.{Expression}
use Rattle.flag_defs.specs.Definition.{Definition, broken, good, Means, or_null, member_count}
use Rattle.flag_defs.specs.Document.{definition_written, max_flags, max_bytes}
use Rattle.flag_references.specs.Inlining.{IsInlined}
use Rattle.flag_references.specs.Least.{least}
use Rattle.flag_references.specs.Measure.{capped, plus}

-- the targeting of a definition, null where it has none
abbrev pub targeting_member : Shape → Shape
targeting_member t = or_null (member_of (codes "targeting") t)

-- what the inlined form of a targeting takes at least, counted up to a number above every limit: nothing where it is no expression
abbrev pub FormTakes : Members → Shape → Option Expression → ℕ → Type 0
FormTakes evaluators t None n = n ≡ 0
FormTakes evaluators t (Some e) n = (u : Shape) → IsInlined evaluators t u → n ≡ capped (least u)

-- the same of a definition that means d: nothing where the flag is broken
abbrev pub Takes : Members → Shape → Definition → ℕ → Type 0
Takes evaluators t broken n = n ≡ 0
Takes evaluators t (good r) n = FormTakes evaluators (targeting_member t) r.targeting n

-- A definition takes so many bytes; what it means is printed in no fewer.
abbrev pub DefinitionTakes : Members → Shape → ℕ → Type 0
DefinitionTakes evaluators t n = (d : Definition) × Means evaluators t d × Takes evaluators t d n × (n ≤ least (definition_written d))

-- the sum over all definitions, counted up to the same number
abbrev pub AllTake : Members → Members → ℕ → Type 0
AllTake evaluators no_members n = n ≡ 0
AllTake evaluators (member k t ms) n = (a : ℕ) × (b : ℕ) × DefinitionTakes evaluators t a × AllTake evaluators ms b × (n ≡ plus a b)

-- no more than 10,000 definitions, which together take no more bytes than a document may have
pub record AreLight (evaluators definitions : Members) : Type 0 where
  pub bytes : ℕ
  pub total : AllTake evaluators definitions bytes
  pub small : bytes ≤ max_bytes
  pub few : member_count definitions ≤ max_flags

abbrev pub IsAmong : Shape → Members → Type 0
IsAmong t no_members = ⊥
IsAmong t (member k u ms) = (t ≡ u) ⊎ IsAmong t ms

-- one of definitions that were weighed together, and found light
pub record IsWeighed (evaluators : Members) (t : Shape) : Type 0 where
  pub definitions : Members
  pub light : AreLight evaluators definitions
  pub among : IsAmong t definitions

-- the targeting of such a definition
pub record HasWeighed (evaluators : Members) (targeting : Shape) : Type 0 where
  pub definition : Shape
  pub weighed : IsWeighed evaluators definition
  pub is : targeting_member definition ≡ targeting
