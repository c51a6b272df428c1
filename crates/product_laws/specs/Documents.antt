-- What a document whose numbers are all whole is, read with floats (`true`) or without.
use Rattle.std.specs.Prelude.{◌≡◌, ℕ, Bool, true, List, Result}
use Rattle.flag_defs.specs.Document.{Definitions}
use Rattle.flag_defs.specs.Floats.{AreMarkedAs, Marks, MeansAs, are_unmarked}
use Rattle.flag_defs.specs.declared.fault.DefFault.{DefFault}
use Rattle.kept_document.specs.Kept.{tree_as}
use Rattle.source_merge.specs.Sources.{SetsAs, SourceList}
use Rattle.source_merge.specs.declared.fault.SourceFault.{SourceFault}
use Rattle.product_laws.specs.FloatWhole.{IsWholeText}

-- Its tree is the same, or its refusal.
abbrev pub TreesStay : Type 0
TreesStay = (floats other : Bool) (bytes : List ℕ) → IsWholeText bytes → tree_as floats bytes ≡ tree_as other bytes

-- It means the same flags, or has the same refusal.
abbrev pub MeaningsStay : Type 0
MeaningsStay = (floats other : Bool) (bytes : List ℕ) (r : Result Definitions DefFault) → IsWholeText bytes → MeansAs floats bytes r → MeansAs other bytes r

-- None of its flags has floats.
abbrev pub NoneIsMarked : Type 0
NoneIsMarked = (floats : Bool) (bytes : List ℕ) (flags : Definitions) (marks : Marks) → IsWholeText bytes → AreMarkedAs floats bytes flags marks → are_unmarked marks ≡ true

-- A source takes it, or refuses it, alike.
abbrev pub SourcesStay : Type 0
SourcesStay =
    (floats other : Bool) (sources : SourceList) (name bytes : List ℕ) (after : Result SourceList SourceFault) → IsWholeText bytes → SetsAs floats sources name bytes after → SetsAs other sources name bytes after
