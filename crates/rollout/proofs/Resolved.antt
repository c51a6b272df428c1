-- What becomes of resolutions where a flag gets another rule at a site.
use Rattle.std.proofs.Common.{◌≡◌, ℕ, true, List, Option, Some, None, Result, Ok, refl, sym, ap, ◌∙◌, subst}
use Rattle.std.specs.Prelude.{option_and_then, IfSome}
use Rattle.std.specs.Map.{lookup}
use Rattle.std.specs.Str.{bytes_eq}
use Rattle.std.proofs.lemmas.Map.Entries.{All-lookup}
use Rattle.flag_text.proofs.Bools.{left, right}
use Rattle.bucket_core.specs.Rule.{Entries, IsRuleTotal, total_weight}
use Rattle.logic_ast.specs.Expression.{Expression}
use Rattle.logic_ast.specs.Formed.{is_well_formed}
use Rattle.logic_ast.specs.Sites.{Site, site_at, entries_at, entries_of, if_site, if_entries, with_entries, replaced}
use Rattle.logic_ast.specs.declared.fault.LogicFault.{LogicFault}
use Rattle.logic_eval.specs.Laws.{reached_in, with_total}
use Rattle.logic_eval.specs.Scope.{Situation}
use Rattle.logic_eval.proofs.Replacing.{one_site}
use Rattle.flag_defs.specs.Changes.{rules_with_site, with_site}
use Rattle.flag_defs.specs.Definition.{Rules, Definition, broken, good, are_variants}
use Rattle.flag_defs.specs.Document.{Definitions}
use Rattle.flag_defs.specs.Flag.{targeting_in, is_definition}
use Rattle.flag_defs.specs.Flags.{AreFlags}
use Rattle.flag_defs.specs.Rules.{is_default, is_targeting, are_targetings, are_rules}
use Rattle.flag_resolve.specs.Alike.{with_reached}
use Rattle.flag_resolve.specs.Resolution.{Asked, resolution_of}
use Rattle.flag_resolve.proofs.Alike.{alike, others}
use Rattle.rollout.specs.Change.{IsChanged, OthersStay, HasRule, ChooseAlike, ResolveAsBefore}

-- the targeting with another rule at a site whose entries are known
replaced_known : (n : ℕ) (new old : Entries) (e : Expression) → entries_at n e ≡ Ok old → replaced n new e ≡ Ok (with_entries n new e)
replaced_known n new old e h = go (site_at n e) h
  where
    inner : (o : Option Entries) → (let r : Result Entries LogicFault = if_entries o (λ x. x) in r) ≡ Ok old → (let r : Result Expression LogicFault = if_entries o (λ _. with_entries n new e) in r) ≡ Ok (with_entries n new e)
    inner None g = absurd (cc)
    inner (Some x) g = refl

    go : (o : Option Site) → if_site o (λ s. if_entries (entries_of s.buckets) (λ x. x)) ≡ Ok old → if_site o (λ s. if_entries (entries_of s.buckets) (λ _. with_entries n new e)) ≡ Ok (with_entries n new e)
    go None g = absurd (cc)
    go (Some s) g = inner (entries_of s.buckets) g

-- a flag of flags can be read again, and so its targeting is well formed
formed_in : (fs : Definitions) (key : List ℕ) (r : Rules) (e : Expression) → AreFlags fs → lookup (bytes_eq key) fs ≡ Some (good r) → r.targeting ≡ Some e → is_well_formed e ≡ true
formed_in fs key r e lawful was has =
    let each = All-lookup (λ (d : Definition). is_definition d ≡ true) (bytes_eq key) fs lawful.each in
    let rules : are_rules r ≡ true = subst (λ o. IfSome o (λ (d : Definition). is_definition d ≡ true)) was each in
    let targetings : are_targetings r.targeting ≡ true = right (is_default r.variants r.default_variant) _ (right (are_variants r.variants) _ rules) in
    let one : is_targeting e ≡ true = subst (λ o. are_targetings o ≡ true) has targetings in
    left (is_well_formed e) _ one

module _ (before after : Definitions) (key : List ℕ) (site : ℕ) (new : Entries) (lawful : AreFlags before) (total : IsRuleTotal (total_weight new)) where
  -- of a good flag, whose targeting is known
  module _ (r : Rules) (changed : Definition) (e : Expression) (old : Entries) (was : lookup (bytes_eq key) before ≡ Some (good r)) (has : r.targeting ≡ Some e) where
    retargeted_known : entries_at site e ≡ Ok old → with_site site new (good r) ≡ Ok changed → good (record r { targeting = Some (with_entries site new e) }) ≡ changed
    retargeted_known at made =
        let known : rules_with_site site new r (Some e) ≡ Ok (good (record r { targeting = Some (with_entries site new e) })) = rw (replaced_known site new old e at) refl in
        let same : rules_with_site site new r (Some e) ≡ Ok changed = ap (rules_with_site site new r) (sym has) ∙ made in
        cc

    itself : (a : Asked) (s : Situation) → entries_at site e ≡ Ok old → IsRuleTotal (total_weight old) → s.flag ≡ key → ChooseAlike site old new (reached_in e s)
        → with_site site new (good r) ≡ Ok changed → lookup (bytes_eq key) after ≡ Some changed
        → resolution_of (Some after) a s ≡ with_reached (with_total site (total_weight new)) (resolution_of (Some before) a s)
    itself a s at old_total same all made is =
        let first : lookup (bytes_eq s.flag) before ≡ Some (good (record r { targeting = Some e })) =
        ap (λ k. lookup (bytes_eq k) before) same ∙ (was ∙ ap (λ t. Some (good (record r { targeting = t }))) has) in
        let second : lookup (bytes_eq s.flag) after ≡ Some (good (record r { targeting = Some (with_entries site new e) })) =
        ap (λ k. lookup (bytes_eq k) after) same ∙ (is ∙ ap Some (sym (retargeted_known at made))) in
        alike before after r e (with_entries site new e) (with_total site (total_weight new)) a s first second
        (one_site e site old new s (formed_in before key r e lawful was has) at old_total total all)

  -- of any flag
  by_flag : (flag changed : Definition) → lookup (bytes_eq key) before ≡ Some flag → with_site site new flag ≡ Ok changed → lookup (bytes_eq key) after ≡ Some changed
      → (targeting : Expression) (old : Entries) (a : Asked) (s : Situation)
      → HasRule before key targeting site old → s.flag ≡ key → ChooseAlike site old new (reached_in targeting s)
      → resolution_of (Some after) a s ≡ with_reached (with_total site (total_weight new)) (resolution_of (Some before) a s)
  by_flag broken changed was made is e old a s h same all = cc
  by_flag (good r) changed was made is e old a s h same all =
      let has : r.targeting ≡ Some e = ap (option_and_then targeting_in) (sym was) ∙ h.flag in
      itself r changed e old was has a s h.entries h.total same all made is

  pub as_before : IsChanged before key site new after → OthersStay before key after → ResolveAsBefore before key site new after
  as_before changed stay = record {
    others = λ a s apart. others before after a s (stay.flags s.flag apart);
    itself = by_flag changed.old changed.new changed.was changed.made changed.is;
  }
