use Rattle.std.proofs.Common.{◌≡◌, ◌∙◌, ℕ, List, Err, ap, inr, length, refl, subst, sym}
use Rattle.std.proofs.lemmas.List.{length-map}
use Rattle.flagops_streams.specs.Documents.{IsRefusedAt, count_of, documents_in, texts_of}
use Rattle.flagops_streams.specs.Refusal.{is_want}
use Rattle.flagops_streams.specs.Report.{RefusesBy, Reports, Serves}
use Rattle.flagops_streams.specs.Told.{TellsServing}
use Rattle.flagops_streams.specs.Why.{IsOneOf}
use Rattle.flagops_streams.specs.Loading.{IsRefusedOf, documents_view}
use Rattle.flagops_streams.specs.Words.{serving_view}
use Rattle.flagops_streams.specs.declared.refusal.Refusal.{Refusal}
use Rattle.flagops_streams.proofs.DocumentsLoaded.{all_served, answered, failed_now, named, none_served, told_of, unloaded_told, unreadable_is}
use Rattle.flagops_streams.proofs.Told.{nothing_served, reports_as, served_as, serves_as}
use Rattle.flagops_streams.proofs.serve_command.serve_asked.Goals as goal

-- the number of the documents is that of their paths
pub returns-in-Ok-clause-answers : goal.returns-in-Ok-clause-answers
returns-in-Ok-clause-answers g c =
    let s = serving_view c.args.serving.now in
    let items = c.args.serving.now.documents.items in
    let holding = g.F.FileSet.holding c.args.files.now in
    let served = c.serve_documents.ensures.documents in
    let same = named (λ p. p.now) c.as_slice-paths.result.now items c.as_slice-paths.ensures.value holding s refl in
    let all : documents_in c.in-Ok.documents ≡ length s.documents = c.in-Ok.ensures.all ∙ ap length c.as_slice-paths.ensures.value ∙ sym (length-map items (λ p. p.now)) in
    let Is = IsRefusedAt s.floats (texts_of c.in-Ok.documents.texts.items) in
    let Reported = λ (ps : List (List ℕ)) (n : ℕ). Reports ps (TellsServing ps Is n s.port s.subscribers) (count_of served.0) (g.O.Outlet.bytes c.args.out.now) (g.O.Outlet.bytes c.serve_documents.new.out) (g.O.Outlet.is_broken c.serve_documents.new.out)
    (g.E.Outlet.bytes c.args.err.now) (g.E.Outlet.bytes c.serve_documents.new.err) (g.E.Outlet.is_broken c.serve_documents.new.err) c.serve_documents.result in
    let report = subst (Reported s.documents) all (subst (λ (ps : List (List ℕ)). Reported ps (documents_in c.in-Ok.documents)) same served.2) in
    all_served (λ p. p.now) c.as_slice-paths.result.now items c.as_slice-paths.ensures.value holding s refl (documents_view c.in-Ok.documents) served.0
    (λ at r. Reports s.documents (TellsServing s.documents (IsRefusedOf at s) (length s.documents) s.port s.subscribers) (count_of r) (g.O.Outlet.bytes c.args.out.now) (g.O.Outlet.bytes c.serve_documents.new.out) (g.O.Outlet.is_broken c.serve_documents.new.out)
    (g.E.Outlet.bytes c.args.err.now) (g.E.Outlet.bytes c.serve_documents.new.err) (g.E.Outlet.is_broken c.serve_documents.new.err) c.serve_documents.result)
    c.in-Ok.ensures.exact served.1
    (λ at loaded. reports_as s.documents (TellsServing s.documents Is (length s.documents) s.port s.subscribers) (TellsServing s.documents (IsRefusedOf at s) (length s.documents) s.port s.subscribers)
    (served_as s.documents Is (IsRefusedOf at s) (λ place refused. (documents_view c.in-Ok.documents, loaded, refused)) (length s.documents) s.port s.subscribers) (g.O.Outlet.bytes c.args.out.now) (g.O.Outlet.bytes c.serve_documents.new.out) (g.O.Outlet.is_broken c.serve_documents.new.out)
    (g.E.Outlet.bytes c.args.err.now) (g.E.Outlet.bytes c.serve_documents.new.err) (g.E.Outlet.is_broken c.serve_documents.new.err) c.serve_documents.result (count_of served.0) report)

pub returns-in-Ok-clause-serves : goal.returns-in-Ok-clause-serves
returns-in-Ok-clause-serves g c =
    let s = serving_view c.args.serving.now in
    let items = c.args.serving.now.documents.items in
    let same = named (λ p. p.now) c.as_slice-paths.result.now items c.as_slice-paths.ensures.value (g.F.FileSet.holding c.args.files.now) s refl in
    let all : documents_in c.in-Ok.documents ≡ length items = c.in-Ok.ensures.all ∙ ap length c.as_slice-paths.ensures.value in
    let Is = IsRefusedAt s.floats (texts_of c.in-Ok.documents.texts.items) in
    let Served = λ (ps : List (List ℕ)) (n m : ℕ). Serves ps (TellsServing ps Is n s.port s.subscribers) m (g.O.Outlet.bytes c.args.out.now) (g.O.Outlet.bytes c.serve_documents.new.out) (g.O.Outlet.is_broken c.serve_documents.new.out)
    (g.E.Outlet.bytes c.args.err.now) (g.E.Outlet.bytes c.serve_documents.new.err) (g.E.Outlet.is_broken c.serve_documents.new.err) c.serve_documents.result in
    serves_as s.documents (TellsServing s.documents Is (length s.documents) s.port s.subscribers) (TellsServing s.documents (λ _. Unit {0}) (length s.documents) s.port s.subscribers)
    (served_as s.documents Is (λ _. Unit {0}) (λ place refused. tt) (length s.documents) s.port s.subscribers) (g.O.Outlet.bytes c.args.out.now) (g.O.Outlet.bytes c.serve_documents.new.out) (g.O.Outlet.is_broken c.serve_documents.new.out)
    (g.E.Outlet.bytes c.args.err.now) (g.E.Outlet.bytes c.serve_documents.new.err) (g.E.Outlet.is_broken c.serve_documents.new.err) c.serve_documents.result (length items)
    (subst (λ (m : ℕ). Served s.documents (length s.documents) m) all
    (subst (λ (n : ℕ). Served s.documents n (documents_in c.in-Ok.documents)) (all ∙ sym (length-map items (λ p. p.now)))
    (subst (λ (ps : List (List ℕ)). Served ps (documents_in c.in-Ok.documents) (documents_in c.in-Ok.documents)) same c.serve_documents.ensures.serves)))

pub returns-in-Err-clause-answers : goal.returns-in-Err-clause-answers
returns-in-Err-clause-answers g c =
    let s = serving_view c.args.serving.now in
    let holding = g.F.FileSet.holding c.args.files.now in
    let refusal = c.in-Err.unloaded.refusal in
    let same = named (λ p. p.now) c.as_slice-paths.result.now c.args.serving.now.documents.items c.as_slice-paths.ensures.value holding s refl in
    let one = subst (λ (ps : List (List ℕ)). IsOneOf ps c.in-Err.unloaded.path.now) same c.in-Err.ensures.one in
    answered holding s (Err refusal)
    (λ at r. Reports s.documents (TellsServing s.documents (IsRefusedOf at s) (length s.documents) s.port s.subscribers) (count_of r) (g.O.Outlet.bytes c.args.out.now) (g.O.Outlet.bytes c.refuse.new.out) (g.O.Outlet.is_broken c.refuse.new.out)
    (g.E.Outlet.bytes c.args.err.now) (g.E.Outlet.bytes c.tell_unloaded.new.err) (g.E.Outlet.is_broken c.tell_unloaded.new.err) c.refuse.result)
    (none_served (λ p. p.now) c.as_slice-paths.result.now c.args.serving.now.documents.items c.as_slice-paths.ensures.value holding s refl refusal c.in-Err.ensures.exact)
    (λ at. (c.refuse.ensures, (g.E.Outlet.bytes c.args.err.now, nothing_served s.documents (IsRefusedOf at s) (length s.documents) s.port s.subscribers _ _, unloaded_told s.documents c.in-Err.unloaded.path.now refusal _ _ _ one (sym c.in-Err.ensures.unread) c.tell_unloaded.ensures.told c.tell_unloaded.ensures.names)))

pub returns-in-Err-clause-serves : goal.returns-in-Err-clause-serves
returns-in-Err-clause-serves g c =
    let s = serving_view c.args.serving.now in
    let refusal = c.in-Err.unloaded.refusal in
    let same = named (λ p. p.now) c.as_slice-paths.result.now c.args.serving.now.documents.items c.as_slice-paths.ensures.value (g.F.FileSet.holding c.args.files.now) s refl in
    let one = subst (λ (ps : List (List ℕ)). IsOneOf ps c.in-Err.unloaded.path.now) same c.in-Err.ensures.one in
    inr (refusal, (c.refuse.ensures, (g.E.Outlet.bytes c.args.err.now, nothing_served s.documents (λ _. Unit {0}) (length s.documents) s.port s.subscribers _ _, unloaded_told s.documents c.in-Err.unloaded.path.now refusal _ _ _ one (sym c.in-Err.ensures.unread) c.tell_unloaded.ensures.told c.tell_unloaded.ensures.names)))

pub returns-in-Err-clause-unread : goal.returns-in-Err-clause-unread
returns-in-Err-clause-unread g c = λ fine failed.
    let s = serving_view c.args.serving.now in
    let unloaded = c.in-Err.unloaded in
    let is = unreadable_is unloaded.refusal (failed_now _ _ _ c.in-Err.ensures.failed fine failed) in (
      subst (λ (r : Refusal). RefusesBy r (g.O.Outlet.bytes c.args.out.now) (g.O.Outlet.bytes c.refuse.new.out) (g.O.Outlet.is_broken c.refuse.new.out) c.refuse.result) is c.refuse.ensures,
      told_of (λ p. p.now) c.as_slice-paths.result.now c.args.serving.now.documents.items c.as_slice-paths.ensures.value (g.F.FileSet.holding c.args.files.now) s refl unloaded.path.now _ _ _ (c.in-Err.ensures.names (ap is_want is)) (c.tell_unloaded.ensures.names is),
    )
