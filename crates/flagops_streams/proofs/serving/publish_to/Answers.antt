use Rattle.std.proofs.Common.{◌∙◌, ◌+◌, ℕ, List, Ok, Err, false, inl, refl, ap, map, subst, sym, vec_len}
use Rattle.std.proofs.lemmas.List.{length-map}
use Rattle.flag_defs.specs.Flags.{flags_view}
use Rattle.flag_defs.specs.declared.flags.Flags.{Flags}
use Rattle.source_merge.specs.View.{sources_view}
use Rattle.flagops_streams.specs.Documents.{MayFail, ServesTo, texts_of, told_view}
use Rattle.flagops_streams.specs.declared.refusal.Refusal.TheVariants.{Share}
use Rattle.flagops_streams.proofs.Gives.{more_fail, not_shared}
use Rattle.flagops_streams.proofs.Told.{none_gone}
use Rattle.flagops_streams.proofs.serving.publish_to.Goals as goal

pub returns-in-Err-clause-serves : goal.returns-in-Err-clause-serves
returns-in-Err-clause-serves g c =
    let fault = c.in-Err.fault in
    let came = subst (λ (n : ℕ). MayFail n (Share fault)) c.len.ensures (not_shared c.len.result fault c.share.result c.in-Err.is c.share.ensures.none c.share.ensures.many c.in-Err.ensures.faults) in
    let may = more_fail (vec_len c.args.arrived.streams) c.args.arrived.absent fault c.args.arrived.some came in
    (Err (Share fault), inl (Share fault, refl, may), refl)

pub returns-in-Ok-outcome-clause-serves : goal.returns-in-Ok-outcome-clause-serves
returns-in-Ok-outcome-clause-serves g c =
    let told = c.in-Ok-outcome.told in
    let served =
    subst (λ (published : List Flags). ServesTo c.args.floats (vec_len c.args.arrived.streams + c.args.arrived.absent) (sources_view c.args.sources) (texts_of c.args.texts.now) (map flags_view published) (told_view (Ok told))) c.in-Ok.ensures.published c.in-Ok-outcome.ensures.serves in
    (Ok (map flags_view told), served, ap Ok (c.number.ensures ∙ sym (length-map told flags_view)))

pub returns-in-Err-outcome-clause-serves : goal.returns-in-Err-outcome-clause-serves
returns-in-Err-outcome-clause-serves g c =
    let refusal = c.in-Err-outcome.refusal in
    let served =
    subst (λ (published : List Flags). ServesTo c.args.floats (vec_len c.args.arrived.streams + c.args.arrived.absent) (sources_view c.args.sources) (texts_of c.args.texts.now) (map flags_view published) (told_view (Err refusal))) c.in-Ok.ensures.published c.in-Err-outcome.ensures.serves in
    (Err refusal, served, refl)

-- nobody is served before the flags are shared
pub returns-in-Err-clause-told : goal.returns-in-Err-clause-told
returns-in-Err-clause-told g c = none_gone false (vec_len c.args.arrived.streams) c.args.arrived.absent _ _ _ refl refl
