use Rattle.std.proofs.Common.{◌≡◌, ℕ, List, [], ◌∷◌, true, Vec, Global, ap, arith, sym, subst}
use Rattle.std.specs.Prelude.{IfErr, IfOk}
use Rattle.source_merge.specs.View.{sources_view}
use Rattle.flagops_streams.specs.Documents.{MayRefuse, texts_of}
use Rattle.flagops_service.specs.Merging.{AreRead, GivesMore}
use Rattle.flagops_service.proofs.Alone.{IsMergedAlone, one_gives, one_read, only_item, several_read}
use Rattle.flagops_service.proofs.merging.merge_documents.Goals as goal

-- the merge of a document that is alone is its own
pub returns-in-len1-clause-gives : goal.returns-in-len1-clause-gives
returns-in-len1-clause-gives c =
    let texts = c.args.texts.now in
    let text = c.text-item.result in
    let old = sources_view c.args.sources.now in
    let new = sources_view c.merge_next.new.sources in
    let r = c.merge_next.result in
    let alone : texts ≡ text ∷ [] = only_item texts text (omega arith) c.text-item.is in
    let merges = subst (λ (t : List ℕ). IsMergedAlone old new t r) c.as_slice.ensures.value c.merge_next.ensures.merged in
    let may = subst (λ (t : List ℕ). IfErr r (λ refusal. MayRefuse true 1 old t refusal)) c.as_slice.ensures.value c.merge_next.ensures.refused in
    subst (λ (ts : List (Vec ℕ Global)). GivesMore old new (texts_of ts) [] r) (sym alone) (one_gives old new text.items r merges may)

-- its source, the only one, has its flags
pub returns-in-len1-clause-read : goal.returns-in-len1-clause-read
returns-in-len1-clause-read c =
    let texts = c.args.texts.now in
    let text = c.text-item.result in
    let old = sources_view c.args.sources.now in
    let new = sources_view c.merge_next.new.sources in
    let r = c.merge_next.result in
    let alone : texts ≡ text ∷ [] = only_item texts text (omega arith) c.text-item.is in
    let merges = subst (λ (t : List ℕ). IsMergedAlone old new t r) c.as_slice.ensures.value c.merge_next.ensures.merged in
    subst (λ (ts : List (Vec ℕ Global)). IfOk r (λ _. AreRead (texts_of ts) new)) (sym alone) (one_read old new text.items r (c.requires.alone text.items (ap texts_of alone)) merges)

-- there are several
pub returns-in-len2-up-clause-read : goal.returns-in-len2-up-clause-read
returns-in-len2-up-clause-read c = several_read c.args.texts.now (sources_view c.merge_all.new.sources) c.merge_all.result c.in-len2-up.len_at_least
