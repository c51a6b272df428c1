use Rattle.std.proofs.Common.{◌≡◌, ◌+◌, ◌++◌, [], ◌∷◌, take, ap, sym, subst, ◌∙◌}
use Rattle.std.proofs.lemmas.List.{take_more}
use Rattle.flag_text.specs.Shape.{is_tidy}
use Rattle.flag_text.specs.View.{view, members_view}
use Rattle.flag_text.proofs.Views.{Named}
use Rattle.flag_defs.specs.DefinitionError.{AllTell}
use Rattle.flag_defs.proofs.Meant.{tidy_at}
use Rattle.flag_defs.proofs.Reasons.{all_tell_push}
use Rattle.flag_defs.proofs.definition_error.each_error.Goals as goal

pub first_error-requires : goal.first_error-requires
first_error-requires c =
    let x = c.loop-definition-item.result in
    ap (λ (y : Named). is_tidy (view y.1)) c.loop-definition-item.is ∙ tidy_at c.args.definitions.now c.loop-definition.definition-index x c.loop-definition-test.true c.requires

pub loop-definition-preserved : goal.loop-definition-preserved
loop-definition-preserved c =
    let evaluators = members_view c.args.evaluators.now in
    let ds = c.args.definitions.now in
    let i = c.loop-definition.definition-index in
    let x = c.loop-definition-item.result in
    let more : take (i + 1) ds ≡ take i ds ++ x ∷ [] = take_more ds i x c.loop-definition-test.true ∙ ap (λ (y : Named). take i ds ++ y ∷ []) (sym c.loop-definition-item.is) in
    subst (λ bs. AllTell evaluators (members_view (take (i + 1) ds)) bs) (sym c.in_ok-push.ensures.items)
    (subst (λ xs. AllTell evaluators (members_view xs) (c.loop-definition.errors.items ++ c.first_error.result ∷ [])) (sym more)
    (all_tell_push evaluators (take i ds) x c.loop-definition.errors.items c.first_error.result c.loop-definition.invariant c.first_error.ensures))
