-- The document with another rule at a site of a flag.
use Rattle.std.specs.Prelude.{ℕ, List, [], ◌∷◌, ◌++◌, if◌then◌else◌, Result, Ok, Err}
use Rattle.std.specs.Map.{lookup}
use Rattle.std.specs.Str.{bytes_eq}
use Rattle.bucket_core.specs.Rule.{Entries}
use Rattle.flag_defs.specs.Changes.{by_key, with_site}
use Rattle.flag_defs.specs.Document.{Definitions, limited}
use Rattle.flag_defs.specs.declared.fault.DefFault.{DefFault}
use Rattle.rollout.specs.Fault.{of_document}
use Rattle.rollout.specs.Lawful.{and_then, by_logic, or_refuse, names_are_variants}
use Rattle.rollout.specs.declared.fault.RolloutFault.{RolloutFault}
use Rattle.rollout.specs.declared.fault.RolloutFault.TheVariants.{UnknownFlag, UnknownVariant}

abbrev pub by_document : {A : Type 0} → Result A DefFault → Result A RolloutFault
by_document (Ok x) = Ok x
by_document (Err e) = Err (of_document e)

-- The flags in which the flag of this key has the rule's entries at the site. Its refusals in their order: no such flag, no such
-- site, a computed bucket, a name that the flag lacks, a document that is too large.
abbrev pub applied : Definitions → List ℕ → ℕ → Entries → Result Definitions RolloutFault
applied flags key site rule =
    and_then (or_refuse UnknownFlag (lookup (bytes_eq key) flags)) (λ flag.
    and_then (by_logic (with_site site rule flag)) (λ changed.
    if names_are_variants flag rule then by_document (limited (by_key (flags ++ (key, changed) ∷ []))) else Err UnknownVariant))
