use denote.Ref.{Bor}
use Rattle.std.proofs.Common.{◌≡◌, Option, None, Some, option_map, refl, sym, ap, ap₂, ◌∙◌}
use Rattle.std.proofs.lemmas.Result.{IfOk-weaker}
use Rattle.flag_text.specs.View.{view}
use Rattle.flag_defs.specs.Document.{Definitions}
use Rattle.flag_defs.specs.Flags.{flags_view}
use Rattle.flag_defs.specs.Floats.{floats_view}
use Rattle.flag_defs.specs.declared.flags.Flags.{Flags}
use Rattle.flag_defs.specs.declared.kind.Kind.{Kind}
use Rattle.flag_resolve.specs.Floats.{Marked, kind_asked}
use Rattle.flag_resolve.specs.Resolution.{resolved_by}
use Rattle.flag_resolve.proofs.floats.resolve_with_floats.Goals as goal

-- the flags beside the marks are the flags
flags_alone : (o : Option (Bor Flags)) → option_map (λ (f : Marked). f.0) (option_map (λ (f : Bor Flags). (flags_view f.now, floats_view f.now)) o) ≡ option_map (λ (f : Bor Flags). flags_view f.now) o
flags_alone None = refl
flags_alone (Some f) = refl

pub returns : goal.returns
returns c =
    let asked = c.kind_asked-asked.ensures ∙ ap (λ (k : Option Kind). kind_asked k c.args.want) c.floats_in.ensures in
    IfOk-weaker c.resolve.result _ _
    (λ r exact. exact ∙ ap₂ (λ (o : Option Definitions) (k : Kind). resolved_by o k (view c.args.default.now) (view c.args.context.now) c.args.key.now c.args.moment) (sym (flags_alone c.args.flags)) asked)
    c.resolve.ensures.exact
