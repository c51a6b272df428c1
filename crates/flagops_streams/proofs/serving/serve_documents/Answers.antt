use Rattle.std.proofs.Common.{◌≡◌, ◌∙◌, ◌-◌, ℕ, Bool, Bor, List, [], Option, Result, Vec, Global, ap, arith, false, length, map, subst, sym}
use Rattle.std.proofs.lemmas.List.{length-map}
use Rattle.source_merge.specs.View.{sources_view}
use Rattle.flagops_streams.specs.Documents.{IsRefusedAt, ServesTo, documents_in, texts_of}
use Rattle.flagops_streams.specs.Report.{Reports}
use Rattle.flagops_streams.specs.Told.{MayForewarnEach, TellsServing}
use Rattle.flagops_streams.specs.declared.refusal.Refusal.{Refusal}
use Rattle.flagops_streams.proofs.Gives.{reported}
use Rattle.flagops_streams.proofs.Told.{reported_behind, serving_as, still_each, still_served}
use Rattle.flagops_streams.proofs.serving.serve_documents.Goals as goal

pub returns-clause-documents : goal.returns-clause-documents
returns-clause-documents g c =
    let d = c.args.documents in
    let paths = map (λ (p : Bor (List ℕ)). p.now) c.args.paths.now in
    let Is = IsRefusedAt c.args.floats (texts_of d.texts.items) in
    let Tells = TellsServing paths Is (documents_in d) c.args.port c.args.subscribers in
    let still = λ (b : Bool) (old new : Option (List ℕ)) (before after : Bool) (stays : after ≡ false → before ≡ false). still_served before after stays paths Is (documents_in d) c.args.port c.args.subscribers b old new in
    let published = c.publish_in_turn-answer.ensures in
    let count : length c.as_slice-texts.result.now ≡ documents_in d = ap length c.as_slice-texts.ensures.value ∙ sym d.texts.ok.0 in
    let warned = subst (λ (n : ℕ). MayForewarnEach paths Is (n - 1) (g.E.Outlet.bytes c.args.err.now) (g.E.Outlet.bytes c.forewarn.new.err) (g.E.Outlet.is_broken c.forewarn.new.err)) count
    (subst (λ (ts : List (Vec ℕ Global)). MayForewarnEach paths (IsRefusedAt c.args.floats (texts_of ts)) (length c.as_slice-texts.result.now - 1) (g.E.Outlet.bytes c.args.err.now) (g.E.Outlet.bytes c.forewarn.new.err) (g.E.Outlet.is_broken c.forewarn.new.err)) c.as_slice-texts.ensures.value c.forewarn.ensures.told) in
    let answer = published.serves.0 in
    let served =
    subst (λ (ts : List (Vec ℕ Global)). ServesTo c.args.floats c.args.subscribers (sources_view d.sources) (texts_of ts) [] answer) c.as_slice-texts.ensures.value published.serves.1 in
    let report =
    reported_behind paths Tells still (serving_as paths Is (documents_in d) c.args.port c.args.subscribers) (g.O.Outlet.bytes c.args.out.now) (g.O.Outlet.bytes c.report_answer.new.out) (g.O.Outlet.is_broken c.report_answer.new.out) (g.E.Outlet.bytes c.args.err.now) (g.E.Outlet.bytes c.publish_in_turn-answer.new.err) (g.E.Outlet.bytes c.report_answer.new.err)
    (g.E.Outlet.is_broken c.publish_in_turn-answer.new.err) (g.E.Outlet.is_broken c.report_answer.new.err) c.report_answer.ensures.stays c.report_answer.result c.publish_in_turn-answer.result
    (g.E.Outlet.bytes c.forewarn.new.err, still_each _ _ published.stays paths Is (documents_in d - 1) _ _ warned, published.told) c.report_answer.ensures.reports in
    (answer, served, subst (λ (r : Result ℕ Refusal). Reports paths Tells r (g.O.Outlet.bytes c.args.out.now) (g.O.Outlet.bytes c.report_answer.new.out) (g.O.Outlet.is_broken c.report_answer.new.out) (g.E.Outlet.bytes c.args.err.now) (g.E.Outlet.bytes c.report_answer.new.err) (g.E.Outlet.is_broken c.report_answer.new.err) c.report_answer.result) published.serves.2 report)

pub returns-clause-serves : goal.returns-clause-serves
returns-clause-serves g c =
    let d = c.args.documents in
    let r = returns-clause-documents g c in
    let count : length (texts_of d.texts.items) ≡ length d.texts.items = length-map d.texts.items (λ t. t.items) in
    reported (map (λ p. p.now) c.args.paths.now) (TellsServing (map (λ p. p.now) c.args.paths.now) (IsRefusedAt c.args.floats (texts_of d.texts.items)) (documents_in d) c.args.port c.args.subscribers) c.args.floats c.args.subscribers (sources_view d.sources) (texts_of d.texts.items) r.0 (g.O.Outlet.bytes c.args.out.now) (g.O.Outlet.bytes c.report_answer.new.out) (g.O.Outlet.is_broken c.report_answer.new.out)
    (g.E.Outlet.bytes c.args.err.now) (g.E.Outlet.bytes c.report_answer.new.err) (g.E.Outlet.is_broken c.report_answer.new.err) c.report_answer.result (documents_in d) (omega (arith, count, d.texts.ok.0)) r.1 r.2
