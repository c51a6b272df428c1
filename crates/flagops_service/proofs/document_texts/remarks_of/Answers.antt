use Rattle.std.proofs.Common.{◌≡◌, ◌+◌, ◌++◌, ◌∙◌, ℕ, List, ◌∷◌, Vec, Global, ap, arith, drop, string_bytes, true, subst, sym}
use Rattle.std.proofs.lemmas.List.{drop_all}
use Rattle.file_diagnostics.specs.Broken.{TellsBroken}
use Rattle.flagops_streams.specs.Documents.{texts_of}
use Rattle.flagops_service.specs.Shown.{AreRemarks}
use Rattle.flagops_service.proofs.Reread.{left_at}
use Rattle.flagops_service.proofs.Shown.{all_told, one_more}
use Rattle.flagops_service.proofs.document_texts.remarks_of.Goals as goal

-- nothing was told yet
pub loop-text-init : goal.loop-text-init
loop-text-init c = λ more rest. subst (λ (s : List ℕ). AreRemarks (texts_of c.args.texts.now) (s ++ more)) (sym c.new-remarks.ensures.bytes) rest

-- the lines of one more document
pub loop-text-preserved : goal.loop-text-preserved
loop-text-preserved c =
    let l = c.loop-text in
    let texts = c.args.texts.now in
    let all = texts_of texts in
    let text = c.text-item.result in
    let behind = texts_of (drop (l.text-index + 1) texts) in
    let remarks = string_bytes l.remarks in
    let lines = string_bytes c.in_ok-lines.lines in
    let left : drop l.text-index texts ≡ text ∷ drop (l.text-index + 1) texts = left_at texts l.text-index text (omega arith) (sym c.text-item.is) in
    let so_far = subst (λ (ts : List (Vec ℕ Global)). (more : List ℕ) → AreRemarks (texts_of ts) more → AreRemarks all (remarks ++ more)) left l.invariant in
    let told : TellsBroken true text.items lines = subst (λ (bytes : List ℕ). TellsBroken true bytes lines) c.as_slice.ensures.value c.in_ok-lines.ensures in
    let now : string_bytes c.push_str.new.self ≡ remarks ++ lines = c.in_ok-push_str.ensures.bytes ∙ ap (λ (s : List ℕ). remarks ++ s) c.as_str.ensures.value in
    subst (λ (s : List ℕ). (more : List ℕ) → AreRemarks behind more → AreRemarks all (s ++ more)) (sym now) (one_more all behind text.items remarks lines so_far told)

-- all were told of
pub returns : goal.returns
returns c =
    let l = c.loop-text in
    let texts = c.args.texts.now in
    let none = drop_all l.text-index texts c.loop-text-test.false in
    all_told (texts_of texts) (texts_of (drop l.text-index texts)) (string_bytes l.remarks) l.invariant (ap texts_of none)
