use Rattle.std.proofs.Common.{Option, ◌∙◌, ap}
use Rattle.std.proofs.lemmas.Result.{IfOk-weaker}
use Rattle.flag_defs.specs.Flag.{flag_view, variants_in}
use Rattle.flag_defs.specs.declared.kind.Kind.{Kind}
use Rattle.control_flags.specs.Kinds.{first_kind, kind_or}
use Rattle.control_flags.proofs.kinds.kind_of.Goals as goal

pub returns-in-Some : goal.returns-in-Some
returns-in-Some c = ap (λ (k : Option Kind). kind_or k (first_kind (variants_in (flag_view c.args.flag.now)))) c.in-Some.ensures

pub returns-in-None : goal.returns-in-None
returns-in-None c =
    IfOk-weaker c.first_kind.result _ _ (λ o is. is ∙ ap (λ (k : Option Kind). kind_or k (first_kind (variants_in (flag_view c.args.flag.now)))) c.in-None.ensures) c.first_kind.ensures
