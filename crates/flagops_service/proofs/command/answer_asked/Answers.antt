use Rattle.std.proofs.Common.{◌≡◌, Err, ap, arith, inr, length, refl}
use Rattle.std.proofs.lemmas.List.{length-map}
use Rattle.flagops_streams.specs.Loading.{documents_view}
use Rattle.flagops_streams.specs.Documents.{count_of}
use Rattle.flagops_service.specs.Ended.{Reports}
use Rattle.flagops_service.specs.Starting.{stops_in}
use Rattle.flagops_service.specs.Words.{answering_view}
use Rattle.flagops_service.proofs.Started.{all_started, answered, none_started, served}
use Rattle.flagops_service.proofs.command.answer_asked.Goals as goal

pub returns-in-Ok-clause-answers : goal.returns-in-Ok-clause-answers
returns-in-Ok-clause-answers g c =
    let a = answering_view c.args.answering.now in
    let holding = g.F.FileSet.holding c.args.files.now in
    let started = c.answer_documents.ensures in
    answered holding a started.0
    (λ r. Reports (g.O.Outlet.bytes c.args.out.now) (g.O.Outlet.bytes c.answer_documents.new.out) (g.O.Outlet.is_broken c.answer_documents.new.out)
    (g.E.Outlet.bytes c.args.err.now) (g.E.Outlet.bytes c.answer_documents.new.err) (g.E.Outlet.is_broken c.answer_documents.new.err) c.answer_documents.result (answering_view c.args.answering.now) (stops_in c.args.answering.now.broken r) (count_of r))
    (all_started (λ p. p.now) c.as_slice-paths.result.now c.args.answering.now.documents.items c.as_slice-paths.ensures.value holding a refl (documents_view c.in-Ok.documents) started.0 c.in-Ok.ensures.exact started.1) started.2

pub returns-in-Err-clause-answers : goal.returns-in-Err-clause-answers
returns-in-Err-clause-answers g c =
    let a = answering_view c.args.answering.now in
    let holding = g.F.FileSet.holding c.args.files.now in
    let refusal = c.in-Err.unloaded.refusal in
    answered holding a (Err refusal)
    (λ r. Reports (g.O.Outlet.bytes c.args.out.now) (g.O.Outlet.bytes c.refuse_unloaded.new.out) (g.O.Outlet.is_broken c.refuse_unloaded.new.out)
    (g.E.Outlet.bytes c.args.err.now) (g.E.Outlet.bytes c.refuse_unloaded.new.err) (g.E.Outlet.is_broken c.refuse_unloaded.new.err) c.refuse_unloaded.result (answering_view c.args.answering.now) (stops_in c.args.answering.now.broken r) (count_of r))
    (none_started (λ p. p.now) c.as_slice-paths.result.now c.args.answering.now.documents.items c.as_slice-paths.ensures.value holding a refl refusal c.in-Err.ensures.exact)
    c.refuse_unloaded.ensures

pub returns-in-Ok-clause-serves : goal.returns-in-Ok-clause-serves
returns-in-Ok-clause-serves g c =
    let a = answering_view c.args.answering.now in
    let documents = c.in-Ok.documents in
    let d = documents_view documents in
    let started = c.answer_documents.ensures in
    let count : length d.texts ≡ length c.args.answering.now.documents.items =
    omega (arith, c.in-Ok.ensures.all, length-map documents.texts.items (λ t. t.items), ap length c.as_slice-paths.ensures.value) in
    served c.args.answering.now.broken
    (Reports (g.O.Outlet.bytes c.args.out.now) (g.O.Outlet.bytes c.answer_documents.new.out) (g.O.Outlet.is_broken c.answer_documents.new.out) (g.E.Outlet.bytes c.args.err.now) (g.E.Outlet.bytes c.answer_documents.new.err) (g.E.Outlet.is_broken c.answer_documents.new.err) c.answer_documents.result (answering_view c.args.answering.now))
    a d.texts started.0 _ count started.1 started.2

pub returns-in-Err-clause-serves : goal.returns-in-Err-clause-serves
returns-in-Err-clause-serves g c = inr (c.in-Err.unloaded.refusal, c.refuse_unloaded.ensures)
