-- What the types of flags and of their rules keep.
use Rattle.std.proofs.Common.{◌≡◌, List, [], ◌∷◌, Bool, true, ◌&&◌, Option, Some, None, String, refl, sym, subst}
use Rattle.std.specs.Prelude.{IfSome, option_map}
use Rattle.std.specs.List.{AllByRecursion}
use Rattle.std.specs.declared.alloc.Global.{Global}
use Rattle.flag_text.specs.Shape.{Shape, Members, is_whole, members_are_whole, names_rise, object}
use Rattle.flag_text.proofs.Bools.{left, right, Holds}
use Rattle.flag_text.proofs.Halving.{names_rise-whole}
use Rattle.flag_defs.specs.Definition.{Rules, are_variants, are_of_one_kind}
use Rattle.flag_defs.specs.Flag.{definition_of, is_definition, flag_view, entries_view}
use Rattle.flag_defs.specs.Rules.{are_rules}
use Rattle.flag_defs.specs.declared.flag.Flag.{Flag}
use Rattle.flag_defs.specs.declared.rules.Rules as program

pub whole_variants : (ms : Members) → are_variants ms ≡ true → members_are_whole ms ≡ true
whole_variants ms h = left (is_whole (object ms)) _ (right (are_of_one_kind ms) _ (right _ (are_of_one_kind ms && _) h))

pub whole_rules : (r : Rules) → are_rules r ≡ true → members_are_whole r.variants ≡ true
whole_rules r h = whole_variants r.variants (left (are_variants r.variants) _ h)

pub rising_rules : (r : Rules) → are_rules r ≡ true → names_rise r.variants ≡ true
rising_rules r h = names_rise-whole r.variants (whole_rules r h)

-- what is found has what holds of what is looked for
pub found_holds : {A : Type 0} (f : Shape → Bool) (g : A → Shape) (o : Option A) (s : Option Shape) → option_map g o ≡ s → Holds f s → IfSome o (λ a. f (g a) ≡ true)
found_holds f g None s e h = tt
found_holds f g (Some a) s e h = subst (Holds f) (sym e) h

lawful_rules : (o : Option program.Rules) → is_definition (definition_of o) ≡ true
lawful_rules None = refl
lawful_rules (Some r) = r.lawful

pub lawful_flag : (f : Flag) → is_definition (flag_view f) ≡ true
lawful_flag f = lawful_rules f.rules

pub lawful_flags : (es : List (String Global × Flag)) → AllByRecursion (λ f. is_definition f.1 ≡ true) (entries_view es)
lawful_flags [] = tt
lawful_flags (e ∷ es) = (lawful_flag e.1, lawful_flags es)
