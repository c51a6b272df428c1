use Rattle.std.proofs.Common.{◌≡◌, ◌∙◌, List, [], ◌∷◌, ◌++◌, ℕ, true, Vec, Global, Err, Ok, ap, inr, subst, sym}
use Rattle.std.proofs.lemmas.List.{length-map}
use Rattle.flag_defs.specs.Flags.{flags_view}
use Rattle.source_merge.specs.View.{sources_view}
use Rattle.flagops_streams.specs.Loading.{documents_view}
use Rattle.flagops_streams.specs.Documents.{Answer, Gives, texts_of}
use Rattle.flagops_service.specs.Ended.{Reports}
use Rattle.flagops_service.specs.Merging.{AreRead}
use Rattle.flagops_service.specs.Words.{answering_view, seats_of}
use Rattle.flagops_service.specs.Starting.{numbered}
use Rattle.flagops_service.proofs.Numbered.{numbered_alone}
use Rattle.flagops_service.proofs.Started.{begun}
use Rattle.flagops_service.proofs.command.answer_numbered.Goals as goal

pub returns-in-Ok : goal.returns-in-Ok
returns-in-Ok g c =
    let merged = c.in-Ok.ensures.gives in
    let d = documents_view c.args.documents in
    let texts = c.args.documents.texts.items in
    let all = merged.0 ++ flags_view c.in-Ok.flags ∷ [] in
    let gives = subst (λ (ts : List (Vec ℕ Global)). Gives true d.sources (texts_of ts) [] (Ok all)) c.as_slice.ensures.value merged.1 in
    begun c.args.answering.now.broken
    (Reports (g.O.Outlet.bytes c.args.out.now) (g.O.Outlet.bytes c.answer_merged.new.out) (g.O.Outlet.is_broken c.answer_merged.new.out) (g.E.Outlet.bytes c.args.err.now) (g.E.Outlet.bytes c.answer_merged.new.err) (g.E.Outlet.is_broken c.answer_merged.new.err) c.answer_merged.result (answering_view c.args.answering.now))
    (seats_of (answering_view c.args.answering.now)) _ d merged.0 (flags_view c.in-Ok.flags)
    (sym (length-map texts (λ t. t.items))) gives c.answer_merged.ensures

pub returns-in-Err : goal.returns-in-Err
returns-in-Err g c =
    let d = documents_view c.args.documents in
    let gives = subst (λ (ts : List (Vec ℕ Global)). Gives true d.sources (texts_of ts) [] (let r : Answer = Err c.in-Err.refusal in r)) c.as_slice.ensures.value c.in-Err.ensures.gives in
    (Err c.in-Err.refusal, inr gives, c.refuse_document.ensures)

-- where there is one document its source is the only one
pub merge_documents-requires-clause-alone : goal.merge_documents-requires-clause-alone
merge_documents-requires-clause-alone g c = λ text alone.
    let d = documents_view c.args.documents in
    let same : texts_of c.as_slice.result.now ≡ d.texts = ap texts_of c.as_slice.ensures.value in
    numbered_alone text d (subst (λ (ts : List (List ℕ)). numbered ts ≡ Ok d) (sym same ∙ alone) c.requires.numbered)

-- what was merged has the sources of these texts
pub answer_merged-requires-clause-read : goal.answer_merged-requires-clause-read
answer_merged-requires-clause-read g c κs within = subst (λ (ts : List (Vec ℕ Global)). AreRead (texts_of ts) (sources_view c.merge_documents.new.sources)) c.as_slice.ensures.value c.in-Ok.ensures.read
