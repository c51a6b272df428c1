-- What a definition says beside its targeting.
use Rattle.std.specs.Prelude.{ℕ, List, codes, Bool, Option, option_map, option_and_then, option_copied}
use Rattle.flag_text.specs.Readers.{find_member}
use Rattle.flag_text.specs.Shape.{Members}
use Rattle.flag_text.specs.View.{members_view}
use Rattle.logic_ast.specs.Expression.{Expression}
use Rattle.flag_defs.specs.Definition.{Rules, state_of, variants_of, default_of}
use Rattle.flag_defs.specs.declared.outline.Outline as program

-- state, variants and default variant
pub record Outline : Type 0 where
  pub enabled : Bool
  pub variants : Members
  pub default_variant : Option (List ℕ)

abbrev pub with_variants : Members → Bool → Members → Option Outline
with_variants ms enabled variants = option_map (λ d. record { enabled = enabled; variants = variants; default_variant = d }) (default_of variants (find_member (codes "defaultVariant") ms))

abbrev pub with_state : Members → Bool → Option Outline
with_state ms enabled = option_and_then (with_variants ms enabled) (variants_of (find_member (codes "variants") ms))

-- there is none where one of them breaks the flag
abbrev pub outline_of : Members → Option Outline
outline_of ms = option_and_then (with_state ms) (state_of (find_member (codes "state") ms))

abbrev pub outline_view : program.Outline → Outline
outline_view o = record { enabled = o.enabled; variants = members_view o.variants.now; default_variant = option_copied o.default_variant }

-- the rules that they make with a targeting
abbrev pub rules_with : Outline → Option Expression → Rules
rules_with o targeting = record { enabled = o.enabled; variants = o.variants; default_variant = o.default_variant; targeting = targeting }
