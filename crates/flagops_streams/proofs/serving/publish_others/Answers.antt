use Rattle.std.proofs.Common.{◌≡◌, ◌≢◌, ◌∙◌, ◌+◌, ℕ, List, [], ◌∷◌, Err, Vec, Global, ap, arith, drop, length, length-append, map, subst, sym}
use Rattle.std.proofs.lemmas.List.{length-map, map-append}
use Rattle.std.proofs.lemmas.Result.{err_from_is_err_and}
use Rattle.source_merge.specs.View.{sources_view}
use Rattle.flag_defs.specs.Document.{Definitions}
use Rattle.flag_defs.specs.Flags.{flags_view}
use Rattle.snap_share.specs.declared.fault.ShareFault.TheVariants as share
use Rattle.flagops_streams.specs.Documents.{Gives, MayRefuse, Merges}
use Rattle.flagops_streams.specs.declared.refusal.Refusal.TheVariants.{Publish}
use Rattle.flagops_streams.proofs.Gives.{not_published, one_more, refused_here}
use Rattle.flagops_streams.proofs.serving.publish_others.Goals as goal

pub returns-in_err-flags-clause-gives : goal.returns-in_err-flags-clause-gives
returns-in_err-flags-clause-gives g c =
    let l = c.loop-text in
    let x = c.text-item.result in
    let refusal = c.in_err-flags.field-0.0 in
    let p = err_from_is_err_and c.from_residual.result c.from_residual.ensures.1 in
    let may = subst (λ (t : List ℕ). MayRefuse c.args.floats (l.number + 1) (sources_view l.sources) t refusal) c.as_slice.ensures.value c.in_err-flags.ensures.refused in
    let count : l.number + 1 ≡ length (map flags_view l.publisher) + 1 = omega (arith, l.invariant.1, length-map l.publisher flags_view) in
    rw (p.1, p.2) (l.invariant.2 (Err refusal) (refused_here (λ t. t.items) c.args.texts.now l.text-index x (omega arith) c.text-item.is c.args.floats (sources_view l.sources) (map flags_view l.publisher) (l.number + 1) refusal count may))

pub returns-in-Err-clause-gives : goal.returns-in-Err-clause-gives
returns-in-Err-clause-gives g c =
    let l = c.loop-text in
    let x = c.text-item.result in
    let fault = c.in-Err.fault in
    let next = sources_view c.merge_next.new.sources in
    let flags = flags_view c.in_ok-flags.flags in
    let merges = subst (λ (t : List ℕ). Merges c.args.floats (l.number + 1) (sources_view l.sources) t next flags) c.as_slice.ensures.value c.in_ok-flags.ensures.merged in
    let count : l.number + 1 ≡ length (map flags_view l.publisher) + 1 = omega (arith, l.invariant.1, length-map l.publisher flags_view) in
    let other : fault ≢ share.LastNumber = λ last. absurd (omega (arith, c.publish.ensures.last.0 (c.in-Err.is ∙ ap Err last), l.invariant.0, l.invariant.1, c.loop-text-test.true)) in
    let may = not_published c.args.floats (l.number + 1) (sources_view l.sources) x.items fault c.in-Err.ensures.faults other (next, flags, merges) in
    l.invariant.2 (Err (Publish fault)) (refused_here (λ t. t.items) c.args.texts.now l.text-index x (omega arith) c.text-item.is c.args.floats (sources_view l.sources) (map flags_view l.publisher) (l.number + 1) (Publish fault) count may)

pub loop-text-preserved : goal.loop-text-preserved
loop-text-preserved g c =
    let l = c.loop-text in
    let x = c.text-item.result in
    let next = sources_view c.merge_next.new.sources in
    let flags = flags_view c.in_ok-flags.flags in
    let docs = c.args.texts.now in
    let merges = subst (λ (t : List ℕ). Merges c.args.floats (l.number + 1) (sources_view l.sources) t next flags) c.as_slice.ensures.value c.in_ok-flags.ensures.merged in
    let added = c.in-Ok.ensures.adds in
    let same : c.in-Ok.number ≡ l.number + 1 = omega (arith, l.invariant.1, added.1, ap length added.0, length-append l.publisher (c.in_ok-flags.flags ∷ [])) in
    let count : l.number + 1 ≡ length (map flags_view l.publisher) + 1 = omega (arith, l.invariant.1, length-map l.publisher flags_view) in
    let published = ap (map flags_view) (c.tell.ensures.stays ∙ added.0) ∙ map-append flags_view l.publisher (c.in_ok-flags.flags ∷ []) in (
      omega (arith, same, l.invariant.0),
      ap length c.tell.ensures.stays ∙ sym added.1,
      λ answer rest.
          l.invariant.2 answer
          (one_more (λ t. t.items) docs l.text-index x (omega arith) c.text-item.is c.args.floats (sources_view l.sources) (map flags_view l.publisher) (l.number + 1) next flags answer count merges
          (subst (λ (all : List Definitions). Gives c.args.floats next (map (λ (t : Vec ℕ Global). t.items) (drop (l.text-index + 1) docs)) all answer) published rest)),
    )
