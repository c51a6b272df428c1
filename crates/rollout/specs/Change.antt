-- What a rule that is put at a site changes: one flag, and of its resolutions no more than what they reached.
use Rattle.std.specs.Prelude.{◌≡◌, ◌≢◌, ℕ, List, Some, Ok, option_and_then}
use Rattle.std.specs.List.{All}
use Rattle.std.specs.Map.{keys_of, lookup}
use Rattle.std.specs.Str.{bytes_eq}
use Rattle.bucket_core.specs.Rule.{Entries, IsRuleTotal, total_weight, choice}
use Rattle.logic_ast.specs.Expression.{Expression}
use Rattle.logic_ast.specs.Sites.{entries_at}
use Rattle.logic_eval.specs.Laws.{reached_in, with_total}
use Rattle.logic_eval.specs.Run.{Reach}
use Rattle.logic_eval.specs.Scope.{Situation}
use Rattle.flag_defs.specs.Changes.{with_site}
use Rattle.flag_defs.specs.Definition.{Definition}
use Rattle.flag_defs.specs.Document.{Definitions}
use Rattle.flag_defs.specs.Flag.{targeting_in}
use Rattle.flag_resolve.specs.Alike.{with_reached}
use Rattle.flag_resolve.specs.Resolution.{Asked, resolution_of}

-- the flag of this key has the rule's entries at the site, and is else as it was
pub record IsChanged (before : Definitions) (key : List ℕ) (site : ℕ) (rule : Entries) (after : Definitions) : Type 0 where
  pub old : Definition
  pub new : Definition
  pub was : lookup (bytes_eq key) before ≡ Some old
  pub made : with_site site rule old ≡ Ok new
  pub is : lookup (bytes_eq key) after ≡ Some new

-- no key comes or goes, and each other key has the flag that it had
pub record OthersStay (before : Definitions) (key : List ℕ) (after : Definitions) : Type 0 where
  pub keys : keys_of after ≡ keys_of before
  pub flags : (other : List ℕ) → other ≢ key → lookup (bytes_eq other) after ≡ lookup (bytes_eq other) before

-- the flag of this key has this targeting, whose site has entries that make a rule
pub record HasRule (flags : Definitions) (key : List ℕ) (targeting : Expression) (site : ℕ) (rule : Entries) : Type 0 where
  pub flag : option_and_then targeting_in (lookup (bytes_eq key) flags) ≡ Some targeting
  pub entries : entries_at site targeting ≡ Ok rule
  pub total : IsRuleTotal (total_weight rule)

-- each input that reached the site is given the same name by both rules
abbrev pub ChooseAlike : ℕ → Entries → Entries → List Reach → Type 0
ChooseAlike site old new reached = All (λ r. r.site ≡ site → choice new r.input ≡ choice old r.input) reached

-- Another flag resolves as before. The flag itself does wherever each input that its evaluation reaches at the site is given the
-- same name by the old rule and the new one: among what was reached, the site's totals are the new rule's.
pub record ResolveAsBefore (before : Definitions) (key : List ℕ) (site : ℕ) (new : Entries) (after : Definitions) : Type 0 where
  pub others : (a : Asked) (s : Situation) → s.flag ≢ key → resolution_of (Some after) a s ≡ resolution_of (Some before) a s
  pub itself : (targeting : Expression) (old : Entries) (a : Asked) (s : Situation)
      → HasRule before key targeting site old → s.flag ≡ key → ChooseAlike site old new (reached_in targeting s)
      → resolution_of (Some after) a s ≡ with_reached (with_total site (total_weight new)) (resolution_of (Some before) a s)

-- what a rule that is put at a site leaves: one flag is changed, and what chooses alike resolves as before
pub record IsLocal (before : Definitions) (key : List ℕ) (site : ℕ) (rule : Entries) (after : Definitions) : Type 0 where
  pub changed : IsChanged before key site rule after
  pub others : OthersStay before key after
  pub resolutions : ResolveAsBefore before key site rule after
