use Rattle.std.proofs.Common.{◌≡◌, ◌+◌, ℕ, List, [], ◌∷◌, ◌++◌, Ok, Err, true, Vec, Global, arith, length, length-append, refl, subst, sym}
use Rattle.std.proofs.lemmas.List.{drop_all}
use Rattle.std.proofs.lemmas.Result.{err_from_is_err_and}
use Rattle.flag_defs.specs.Flags.{flags_view}
use Rattle.source_merge.specs.View.{sources_view}
use Rattle.flagops_streams.specs.Documents.{Gives, MayRefuse, Merges, texts_of}
use Rattle.flagops_streams.proofs.Gives.{one_more, refused_here}
use Rattle.flagops_service.proofs.merging.merge_others.Goals as goal

pub loop-text-init : goal.loop-text-init
loop-text-init c = (omega arith, c.requires, ([], omega arith, λ answer gives. gives))

pub returns-in_err-flags : goal.returns-in_err-flags
returns-in_err-flags c =
    let l = c.loop-text in
    let x = c.text-item.result in
    let refusal = c.in_err-flags.field-0.0 in
    let merges = l.invariant.2.0 ++ flags_view l.flags ∷ [] in
    let p = err_from_is_err_and c.from_residual.result c.from_residual.ensures.1 in
    let may = subst (λ (t : List ℕ). MayRefuse true (l.number + 1) (sources_view l.sources) t refusal) c.as_slice.ensures.value c.in_err-flags.ensures.refused in
    let count : l.number + 1 ≡ length merges + 1 = omega (arith, l.invariant.2.1) in
    rw (p.1, p.2) (l.invariant.2.2 (Err refusal) (refused_here (λ t. t.items) c.args.texts.now l.text-index x (omega arith) c.text-item.is true (sources_view l.sources) merges (l.number + 1) refusal count may))

pub loop-text-preserved : goal.loop-text-preserved
loop-text-preserved c =
    let l = c.loop-text in
    let x = c.text-item.result in
    let next = sources_view c.merge_next.new.sources in
    let flags = flags_view c.in_ok-flags.flags in
    let so_far = l.invariant.2.0 ++ flags_view l.flags ∷ [] in
    let merges = subst (λ (t : List ℕ). Merges true (l.number + 1) (sources_view l.sources) t next flags) c.as_slice.ensures.value c.in_ok-flags.ensures.merged in
    let count : l.number + 1 ≡ length so_far + 1 = omega (arith, l.invariant.2.1) in (
      omega (arith, l.invariant.0),
      c.in_ok-flags.ensures.merged.1,
      (
        so_far,
        omega (arith, l.invariant.2.1, length-append so_far (flags ∷ [])),
        λ answer rest.
            l.invariant.2.2 answer
            (one_more (λ t. t.items) c.args.texts.now l.text-index x (omega arith) c.text-item.is true (sources_view l.sources) so_far (l.number + 1) next flags answer count merges rest),
      ),
    )

pub returns : goal.returns
returns c =
    let l = c.loop-text in
    let all = l.invariant.2.0 ++ flags_view l.flags ∷ [] in
    let done = sym (drop_all l.text-index c.args.texts.now c.loop-text-test.false) in (
      l.invariant.2.0,
      l.invariant.2.2 (Ok all) (subst (λ (ts : List (Vec ℕ Global)). Gives true (sources_view l.sources) (texts_of ts) all (Ok all)) done refl),
      l.invariant.1,
    )
