use Rattle.std.proofs.Common.{◌-◌, ℕ, List, [], ◌∷◌, Err, Vec, Global, ap, drop, inl, inr, is_ok, length, refl, subst, sym, take, vec_len}
use Rattle.std.proofs.lemmas.Result.{err_from_is_err_and}
use Rattle.flag_defs.specs.Flags.{flags_view}
use Rattle.source_merge.specs.View.{sources_view}
use Rattle.flagops_streams.specs.Documents.{Gives, MayRefuse, Merges, ServesTo, texts_of}
use Rattle.flagops_streams.proofs.Gives.{first_of, first_served, refused_alone}
use Rattle.flagops_streams.proofs.Told.{nobody_came, some_came, still_arrivals}
use Rattle.flagops_streams.proofs.serving.publish_in_turn.Goals as goal

pub returns-in_err-arrived-clause-serves : goal.returns-in_err-arrived-clause-serves
returns-in_err-arrived-clause-serves g c =
    let refusal = c.in_err-arrived.field-0.0 in
    let p = err_from_is_err_and c.from_residual-in_err-arrived.result c.from_residual-in_err-arrived.ensures.1 in
    (Err refusal, inl (refusal, refl, c.in_err-arrived.ensures.refused), rw (p.1, p.2) refl)

pub returns-in_err-flags-clause-serves : goal.returns-in_err-flags-clause-serves
returns-in_err-flags-clause-serves g c =
    let refusal = c.in_err-flags.field-0.0 in
    let sources = sources_view c.args.sources in
    let first = c.first-item.result in
    let p = err_from_is_err_and c.from_residual.result c.from_residual.ensures.1 in
    let may = subst (λ (t : List ℕ). MayRefuse c.args.floats 1 sources t refusal) c.as_slice.ensures.value c.in_err-flags.ensures.refused in
    let gives = subst (λ (ts : List (Vec ℕ Global)). Gives c.args.floats sources (texts_of ts) [] (Err refusal)) (sym (first_of c.args.texts.now first c.requires c.first-item.is)) (inl (refusal, refl, may)) in
    (Err refusal, inr (refused_alone c.args.subscribers (Gives c.args.floats sources (texts_of c.args.texts.now) []) refusal gives), rw (p.1, p.2) refl)

pub returns-clause-serves : goal.returns-clause-serves
returns-clause-serves g c =
    let sources = sources_view c.args.sources in
    let next = sources_view c.merge_next.new.sources in
    let flags = flags_view c.in_ok-flags.flags in
    let first = c.first-item.result in
    let rest = c.publish_to.ensures.serves in
    let others = take (length c.args.texts.now - 1) (drop 1 c.args.texts.now) in
    let merges = subst (λ (t : List ℕ). Merges c.args.floats 1 sources t next flags) c.as_slice.ensures.value c.in_ok-flags.ensures.merged in
    let served = subst (λ (n : ℕ). ServesTo c.args.floats n next (texts_of others) (flags ∷ []) rest.0) c.in_ok-arrived.ensures.came rest.1 in (
      rest.0,
      subst (λ (ts : List (Vec ℕ Global)). ServesTo c.args.floats c.args.subscribers sources (texts_of ts) [] rest.0) (sym (first_of c.args.texts.now first c.requires c.first-item.is))
          (first_served c.args.floats c.args.subscribers sources next flags first.items (texts_of others) rest.0 merges served),
      rest.2,
    )

pub returns-clause-told : goal.returns-clause-told
returns-clause-told g c =
    let arrived = c.in_ok-arrived.arrived in
    (vec_len arrived.streams, arrived.absent, c.in_ok-arrived.ensures.came, (g.E.Outlet.bytes c.arrivals.new.err, still_arrivals _ _ c.publish_to.ensures.stays _ _ _ _ _ c.in_ok-arrived.ensures.told, c.publish_to.ensures.told))

-- of those who came where not all did
pub returns-in_err-arrived-clause-told : goal.returns-in_err-arrived-clause-told
returns-in_err-arrived-clause-told g c =
    let p = err_from_is_err_and c.from_residual-in_err-arrived.result c.from_residual-in_err-arrived.ensures.1 in
    let some = c.in_err-arrived.ensures.some in
    some_came c.args.port c.args.subscribers some.0 (is_ok c.from_residual-in_err-arrived.result) _ _ _ (ap is_ok p.1) some.1 some.2

-- nothing is told before
pub returns-in_err-flags-clause-told : goal.returns-in_err-flags-clause-told
returns-in_err-flags-clause-told g c =
    let p = err_from_is_err_and c.from_residual.result c.from_residual.ensures.1 in
    nobody_came c.args.port c.args.subscribers (is_ok c.from_residual.result) _ _ _ (ap is_ok p.1) refl
