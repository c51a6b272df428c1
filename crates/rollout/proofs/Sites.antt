-- What is known where the site of a flag has a rule.
use Rattle.std.proofs.Common.{◌≡◌, ℕ, Bool, true, false, cond, List, [], ◌∷◌, ◌++◌, Option, Some, None, Result, Ok, Err, refl}
use Rattle.std.specs.Map.{lookup}
use Rattle.std.specs.Str.{bytes_eq}
use Rattle.bucket_core.specs.Rule.{Entries}
use Rattle.flag_defs.specs.Changes.{by_key, with_site}
use Rattle.flag_defs.specs.Definition.{Definition, broken, good}
use Rattle.flag_defs.specs.Document.{Definitions, limited}
use Rattle.flag_defs.specs.Flag.{is_broken}
use Rattle.rollout.specs.Applied.{applied, by_document}
use Rattle.flag_defs.specs.declared.fault.DefFault.{DefFault}
use Rattle.logic_ast.specs.declared.fault.LogicFault.{LogicFault}
use Rattle.rollout.specs.Lawful.{and_then, by_logic, or_refuse, names_are_variants}
use Rattle.rollout.specs.declared.fault.RolloutFault.{RolloutFault}
use Rattle.rollout.specs.declared.fault.RolloutFault.TheVariants.{UnknownFlag, UnknownVariant}

-- the flag is not broken
pub site_good : (n : ℕ) (r : Entries) (flag changed : Definition) → with_site n r flag ≡ Ok changed → is_broken flag ≡ false
site_good n r broken changed h = cc
site_good n r (good rules) changed h = refl

-- nothing is refused but a document that is too large
pub applied_with : (fs : Definitions) (key : List ℕ) (n : ℕ) (r : Entries) (flag changed : Definition) → lookup (bytes_eq key) fs ≡ Some flag → with_site n r flag ≡ Ok changed → names_are_variants flag r ≡ true
    → applied fs key n r ≡ by_document (limited (by_key (fs ++ (key, changed) ∷ [])))
applied_with fs key n r flag changed found made named = rw (found, made, named) refl

-- ---- what was applied, by its steps

-- the flag and the changed one of which the new flags are made
pub record Steps (fs : Definitions) (key : List ℕ) (n : ℕ) (r : Entries) (after : Definitions) : Type 0 where
  pub flag : Definition
  pub changed : Definition
  pub was : lookup (bytes_eq key) fs ≡ Some flag
  pub made : with_site n r flag ≡ Ok changed
  pub is : limited (by_key (fs ++ (key, changed) ∷ [])) ≡ Ok after

module _ (fs : Definitions) (key : List ℕ) (n : ℕ) (r : Entries) (after : Definitions) where
  in_limits : (x : Result Definitions DefFault) → by_document x ≡ Ok after → x ≡ Ok after
  in_limits (Ok y) h = cc
  in_limits (Err e) h = absurd (cc)

  abbrev by_names : Bool → Definition → Result Definitions RolloutFault
  by_names known changed = cond known (by_document (limited (by_key (fs ++ (key, changed) ∷ [])))) (Err UnknownVariant)

  named : (known : Bool) (changed : Definition) → by_names known changed ≡ Ok after → limited (by_key (fs ++ (key, changed) ∷ [])) ≡ Ok after
  named true changed h = in_limits (limited (by_key (fs ++ (key, changed) ∷ []))) h
  named false changed h = absurd (cc)

  of_site : (flag : Definition) (x : Result Definition LogicFault) → lookup (bytes_eq key) fs ≡ Some flag → with_site n r flag ≡ x → and_then (by_logic x) (by_names (names_are_variants flag r)) ≡ Ok after → Steps fs key n r after
  of_site flag (Ok changed) was made h = record { flag = flag; changed = changed; was = was; made = made; is = named (names_are_variants flag r) changed h }
  of_site flag (Err e) was made h = absurd (cc)

  of_flag : (o : Option Definition) → lookup (bytes_eq key) fs ≡ o → and_then (or_refuse UnknownFlag o) (λ flag. and_then (by_logic (with_site n r flag)) (by_names (names_are_variants flag r))) ≡ Ok after → Steps fs key n r after
  of_flag (Some flag) was h = of_site flag (with_site n r flag) was refl h
  of_flag None was h = absurd (cc)

  pub steps_of : applied fs key n r ≡ Ok after → Steps fs key n r after
  steps_of h = of_flag (lookup (bytes_eq key) fs) refl h
