use Rattle.std.proofs.Common.{◌≡◌, ◌+◌, ◌++◌, ◌∙◌, ℕ, List, [], ◌∷◌, Err, Ok, Vec, Global, ap, arith, length, subst, sym}
use Rattle.std.proofs.lemmas.Bool.{true≢false}
use Rattle.std.proofs.lemmas.List.{length-map, nil_from_length}
use Rattle.std.proofs.lemmas.Result.{err_from_is_err_and}
use Rattle.source_merge.specs.View.{sources_view}
use Rattle.flagops_streams.specs.Documents.{documents_in, source_added, texts_of}
use Rattle.flagops_streams.specs.Loading.{Loaded, documents_view}
use Rattle.flagops_streams.specs.Refusal.{is_want}
use Rattle.flagops_service.specs.Starting.{numbered, numbered_from}
use Rattle.flagops_service.proofs.Numbered.{behind, documents_as, next_numbered, next_refused}
use Rattle.flagops_service.proofs.merging.numbered.Goals as goal

-- no document was numbered yet
pub loop-text-init : goal.loop-text-init
loop-text-init c =
    let none = documents_as (documents_view c.new-documents.result) [] [] c.new-documents.ensures.sources c.new-documents.ensures.texts in
    let all = c.into_iter-text-iterator.ensures.into_iter_gives.0 in
    ap (λ (d : Loaded). numbered_from d (texts_of c.into_iter-text-iterator.result.rest.items)) none ∙ ap (λ (ts : List (Vec ℕ Global)). numbered (texts_of ts)) all

-- one has no source
pub returns-in_err-add_source : goal.returns-in_err-add_source
returns-in_err-add_source c =
    let old = c.loop-text.documents in
    let d = documents_view old in
    let text = c.in-Some.text in
    let rest = texts_of c.next.new.self.rest.items in
    let all = numbered (texts_of c.args.texts.items) in
    let refusal = c.in_err-add_source.field-0.0 in
    let p = err_from_is_err_and c.from_residual.result c.from_residual.ensures.1 in
    let so_far : numbered_from d (text.items ∷ rest) ≡ all = subst (λ (ts : List (Vec ℕ Global)). numbered_from d (texts_of ts) ≡ all) c.in-Some.ensures.steps.0 c.loop-text.invariant in
    let count : documents_in old ≡ length d.texts = omega (arith, old.texts.ok.0, length-map old.texts.items (λ t. t.items)) in
    rw (p.1, p.2)
    (λ other. next_refused d text.items rest all so_far refusal (subst (λ (n : ℕ). source_added d.sources (n + 1) ≡ Err refusal) count (c.in_err-add_source.ensures.exact other)))

-- memory ran out
pub returns-in_err-push : goal.returns-in_err-push
returns-in_err-push c =
    let refusal = c.in_err-push.field-0.0 in
    let p = err_from_is_err_and c.from_residual-in_err-push.result c.from_residual-in_err-push.ensures.1 in
    rw (p.1, p.2) (λ other. absurd (true≢false (sym (ap is_want c.in_err-push.ensures.want) ∙ other)))

-- one more is numbered
pub loop-text-preserved : goal.loop-text-preserved
loop-text-preserved c =
    let old = c.loop-text.documents in
    let mid = c.add_source.new.self in
    let new = c.push.new.self in
    let d = documents_view old in
    let text = c.in-Some.text in
    let rest = texts_of c.next.new.self.rest.items in
    let all = numbered (texts_of c.args.texts.items) in
    let so_far : numbered_from d (text.items ∷ rest) ≡ all = subst (λ (ts : List (Vec ℕ Global)). numbered_from d (texts_of ts) ≡ all) c.in-Some.ensures.steps.0 c.loop-text.invariant in
    let count : documents_in old ≡ length d.texts = omega (arith, old.texts.ok.0, length-map old.texts.items (λ t. t.items)) in
    let added : source_added d.sources (length d.texts + 1) ≡ Ok (sources_view mid.sources) =
    subst (λ (n : ℕ). source_added d.sources (n + 1) ≡ Ok (sources_view mid.sources)) count c.in_ok-add_source.ensures.exact in
    let texts : texts_of new.texts.items ≡ d.texts ++ text.items ∷ [] =
    c.in_ok-push.ensures.text ∙ ap (λ (ts : Vec (Vec ℕ Global) Global). texts_of ts.items ++ text.items ∷ []) c.add_source.ensures.texts in
    let same : documents_view new ≡ behind d text.items (sources_view mid.sources) =
    documents_as (documents_view new) (sources_view mid.sources) (d.texts ++ text.items ∷ []) (ap sources_view c.push.ensures.sources) texts in
    ap (λ (e : Loaded). numbered_from e rest) same ∙ next_numbered d text.items rest all so_far (sources_view mid.sources) added

-- none is left
pub returns : goal.returns
returns c =
    let l = c.loop-text in
    let rest = l.text-iterator.rest in
    let none = nil_from_length rest.items (sym rest.ok.0 ∙ c.in-None.ensures.steps.0) in
    sym (subst (λ (ts : List (Vec ℕ Global)). numbered_from (documents_view l.documents) (texts_of ts) ≡ numbered (texts_of c.args.texts.items)) none l.invariant)
