use Rattle.std.proofs.Common.{ap, sym, ◌∙◌, option_and_then, map}
use Rattle.std.specs.Prelude.{slice_get}
use Rattle.flag_text.specs.View.{view}
use Rattle.logic_eval.specs.Scope.{step, index_of}
use Rattle.logic_eval.proofs.Paths.{step_list}
use Rattle.logic_eval.proofs.find.step.Goals as goal

pub returns-in-List : goal.returns-in-List
returns-in-List c =
    c.item_at.ensures ∙ (ap (λ us. option_and_then (slice_get (map view us)) (index_of c.args.name.now)) c.as_slice.ensures.value ∙ sym (ap (λ t. step (view t) c.args.name.now) c.in-List.is ∙ step_list c.in-List.items c.args.name.now))
