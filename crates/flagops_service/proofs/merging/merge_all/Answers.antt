use Rattle.std.proofs.Common.{◌-◌, ℕ, List, [], Err, true, Vec, Global, drop, inl, length, refl, subst, sym, take}
use Rattle.std.proofs.lemmas.Result.{err_from_is_err_and}
use Rattle.flag_defs.specs.Flags.{flags_view}
use Rattle.source_merge.specs.View.{sources_view}
use Rattle.flagops_streams.specs.Documents.{Gives, MayRefuse, Merges, texts_of}
use Rattle.flagops_streams.proofs.Gives.{first_of}
use Rattle.flagops_service.specs.Merging.{GivesMore}
use Rattle.flagops_service.proofs.Started.{first_merged}
use Rattle.flagops_service.proofs.merging.merge_all.Goals as goal

pub returns-in_err-flags : goal.returns-in_err-flags
returns-in_err-flags c =
    let refusal = c.in_err-flags.field-0.0 in
    let sources = sources_view c.args.sources.now in
    let first = c.first-item.result in
    let p = err_from_is_err_and c.from_residual.result c.from_residual.ensures.1 in
    let may = subst (λ (t : List ℕ). MayRefuse true 1 sources t refusal) c.as_slice.ensures.value c.in_err-flags.ensures.refused in
    let gives = subst (λ (ts : List (Vec ℕ Global)). Gives true sources (texts_of ts) [] (Err refusal)) (sym (first_of c.args.texts.now first c.requires c.first-item.is)) (inl (refusal, refl, may)) in
    rw (p.1, p.2) gives

pub returns : goal.returns
returns c =
    let sources = sources_view c.args.sources.now in
    let next = sources_view c.merge_next.new.sources in
    let flags = flags_view c.in_ok-flags.flags in
    let first = c.first-item.result in
    let others = take (length c.args.texts.now - 1) (drop 1 c.args.texts.now) in
    let merges = subst (λ (t : List ℕ). Merges true 1 sources t next flags) c.as_slice.ensures.value c.in_ok-flags.ensures.merged in
    subst (λ (ts : List (Vec ℕ Global)). GivesMore sources (sources_view c.merge_others.new.sources) (texts_of ts) [] c.merge_others.result) (sym (first_of c.args.texts.now first c.requires c.first-item.is))
    (first_merged sources next (sources_view c.merge_others.new.sources) flags first.items (texts_of others) c.merge_others.result merges c.merge_others.ensures)
