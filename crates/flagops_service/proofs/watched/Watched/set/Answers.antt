use Rattle.std.proofs.Common.{◌+◌, ℕ, List, arith, length, refl, subst}
use Rattle.std.proofs.lemmas.Option.{slice_get_read}
use Rattle.source_merge.specs.View.{sources_view}
use Rattle.flagops_service.specs.Rereading.{SetsFit}
use Rattle.flagops_service.proofs.watched.Watched.set.Goals as goal

-- it is set behind the text that was accepted last of the same document
pub returns-clause-sets : goal.returns-clause-sets
returns-clause-sets c =
    let self = c.args.self.now in
    let last = c.index.result.now in (
      last,
      slice_get_read self.accepted.items (length self.accepted.items) c.args.place last refl (omega (arith, c.requires, self.all_accepted)) c.index.ensures,
      subst (λ (t : List ℕ). SetsFit self.broken (c.args.place + 1) t c.args.text.now (sources_view self.sources) (sources_view c.set_fit.new.sources) c.set_fit.result) c.as_slice-accepted.ensures.value c.set_fit.ensures,
    )
