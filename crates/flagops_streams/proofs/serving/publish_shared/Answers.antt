use Rattle.std.proofs.Common.{◌≡◌, ◌⊎◌, ◌+◌, List, Err, ap, is_ok, map, refl, subst, vec_len}
use Rattle.flag_defs.specs.Flags.{flags_view}
use Rattle.flag_defs.specs.declared.flags.Flags.{Flags}
use Rattle.source_merge.specs.View.{sources_view}
use Rattle.flagops_streams.specs.Documents.{Gives, GivesSome, texts_of, told_view}
use Rattle.flagops_streams.specs.declared.refusal.Refusal.TheVariants.{NoThread}
use Rattle.std.proofs.lemmas.Result.{err_from_is_err_and}
use Rattle.flagops_streams.proofs.Gives.{beside_served}
use Rattle.flagops_streams.proofs.Told.{none_gone}
use Rattle.flagops_streams.proofs.serving.publish_shared.Goals as goal

-- telling leaves what is published
pub returns-clause-serves : goal.returns-clause-serves
returns-clause-serves g c =
    let count = vec_len c.args.arrived.streams + c.args.arrived.absent in
    let sources = sources_view c.args.sources in
    let texts = texts_of c.args.texts.now in
    let result = c.serve_beside.result in
    let gives = subst (λ (p : List Flags). (result ≡ Err NoThread) ⊎ GivesSome count (Gives c.args.floats sources texts (map flags_view p)) (told_view result)) c.tell-told.ensures.stays c.serve_beside.ensures.gives in
    beside_served c.args.floats count sources texts (map flags_view c.args.publisher.now) result gives

-- nobody is served without a board
pub returns-in_err-board-clause-told : goal.returns-in_err-board-clause-told
returns-in_err-board-clause-told g c =
    let p = err_from_is_err_and c.from_residual.result c.from_residual.ensures.1 in
    none_gone (is_ok c.from_residual.result) (vec_len c.args.arrived.streams) c.args.arrived.absent _ _ _ (ap is_ok p.1) refl
