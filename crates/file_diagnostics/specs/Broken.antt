-- Diagnostics of the flags of a document that are broken.
use Rattle.std.specs.Prelude.{◌≡◌, ◌++◌, ℕ, Bool, true, false, List, [], ◌∷◌, Option, Some, None, Result, Ok, codes}
use Rattle.flag_defs.specs.DefinitionError.{AllTell}
use Rattle.flag_defs.specs.Document.{evaluators_in, flags_in, or_no_members}
use Rattle.flag_defs.specs.declared.definition_error.DefinitionError.{DefinitionError}
use Rattle.flag_defs.specs.declared.definition_error.DefinitionError.TheVariants as definition_error
use Rattle.flag_text.specs.Reading.{doc_of}
use Rattle.flag_text.specs.Shape.{Members, Shape, no_members, member}
use Rattle.flag_text.specs.declared.fault.TextFault.{TextFault}
use Rattle.spelled_numbers.specs.Reading.{doc_with_floats}
use Rattle.file_diagnostics.specs.Named.{step}

-- the member of a flag's definition that a rule is about; nothing where it is about the definition
abbrev pub rule_member : DefinitionError → List ℕ
rule_member definition_error.Definition = []
rule_member definition_error.State = codes ".state"
rule_member definition_error.Variants = codes ".variants"
rule_member definition_error.Kinds = codes ".variants"
rule_member definition_error.VariantNumber = codes ".variants"
rule_member definition_error.VariantLevels = codes ".variants"
rule_member definition_error.DefaultVariant = codes ".defaultVariant"
rule_member definition_error.Targeting = codes ".targeting"
rule_member definition_error.Reference = codes ".targeting"
rule_member definition_error.TargetingSize = codes ".targeting"
rule_member definition_error.TargetingPart = codes ".targeting"
rule_member definition_error.Expression = codes ".targeting"

-- the name of a rule
abbrev pub rule_name : DefinitionError → List ℕ
rule_name definition_error.Definition = codes "Definition"
rule_name definition_error.State = codes "State"
rule_name definition_error.Variants = codes "Variants"
rule_name definition_error.Kinds = codes "Kinds"
rule_name definition_error.VariantNumber = codes "VariantNumber"
rule_name definition_error.VariantLevels = codes "VariantLevels"
rule_name definition_error.DefaultVariant = codes "DefaultVariant"
rule_name definition_error.Targeting = codes "Targeting"
rule_name definition_error.Reference = codes "Reference"
rule_name definition_error.TargetingSize = codes "TargetingSize"
rule_name definition_error.TargetingPart = codes "TargetingPart"
rule_name definition_error.Expression = codes "Expression"

-- the line of a broken flag: its key, the member that is wrong, why, and the rule by its name
unfoldable pub IsBrokenLine : List ℕ → DefinitionError → List ℕ → Type 0
IsBrokenLine key b line = (why : List ℕ) × (line ≡ codes "broken: flags" ++ (step key ++ (rule_member b ++ (why ++ (codes " (" ++ (rule_name b ++ codes ")\n"))))))

-- such a line for each flag of which a definition_error was found, in the order of the keys, and nothing else
abbrev pub BrokenLines : Members → List (Option DefinitionError) → List ℕ → Type 0
BrokenLines no_members found lines = lines ≡ []
BrokenLines (member key t flags) [] lines = ⊥
BrokenLines (member key t flags) (None ∷ found) lines = BrokenLines flags found lines
BrokenLines (member key t flags) (Some b ∷ found) lines = (line more : List ℕ) × IsBrokenLine key b line × (lines ≡ line ++ more) × BrokenLines flags found more

-- lines are about the broken flags of a document, each with the first rule that it breaks
abbrev pub TellsFlags : Shape → List ℕ → Type 0
TellsFlags document lines =
    (found : List (Option DefinitionError)) × AllTell (evaluators_in document) (or_no_members (flags_in document)) found × BrokenLines (or_no_members (flags_in document)) found lines

-- the tree of a document that may have floats, or may not
abbrev pub document_in : Bool → List ℕ → Result Shape TextFault
document_in true bytes = doc_with_floats bytes 4194304
document_in false bytes = doc_of bytes 4194304

-- the same of the bytes of such a document
unfoldable pub TellsBroken : Bool → List ℕ → List ℕ → Type 0
TellsBroken floats bytes lines = (document : Shape) × (document_in floats bytes ≡ Ok document) × TellsFlags document lines
