use Rattle.std.proofs.Common.{◌∙◌, ℕ, List, true, false, Vec, Global, ap, is_some, not, string_bytes, subst, sym}
use Rattle.flagops_streams.specs.Documents.{texts_of}
use Rattle.flagops_service.specs.Shown.{IsKnownOf}
use Rattle.flagops_service.proofs.Alone.{means_merged}
use Rattle.flagops_service.proofs.Shown.{none_prepared, some_prepared}
use Rattle.flagops_service.proofs.document_texts.texts_of.Goals as goal

-- there are no desks
pub returns-then-is_none : goal.returns-then-is_none
returns-then-is_none c =
    none_prepared (is_some c.args.answering.now.admin) (texts_of c.args.watched.now.accepted.items) c.args.flags.now (c.is_none.ensures ∙ ap not c.if-is_none.true)

-- a document that is alone means the flags
pub document_of-requires : goal.document_of-requires
document_of-requires c = λ text alone.
    let watched = c.args.watched.now in
    means_merged watched.sources c.args.flags.now (texts_of watched.accepted.items) c.requires.read c.requires.merged text (ap texts_of (sym c.as_slice-texts.ensures.value) ∙ alone)

-- what is known of the documents that were accepted
pub returns : goal.returns
returns c =
    let accepted = c.args.watched.now.accepted.items in
    let flags = c.args.flags.now in
    let document = c.in_ok-document.document in
    let remarks = c.in_ok-remarks.remarks in
    let known : IsKnownOf (texts_of accepted) flags (string_bytes document) (string_bytes remarks) =
    subst (λ (ts : List (Vec ℕ Global)). IsKnownOf (texts_of ts) flags (string_bytes document) (string_bytes remarks)) c.as_slice-texts.ensures.value (record { document_is = c.in_ok-document.ensures.text; remarks_are = c.in_ok-remarks.ensures }) in
    some_prepared (is_some c.args.answering.now.admin) (texts_of accepted) flags (c.is_none.ensures ∙ ap not c.if-is_none.false) document remarks known c.in_ok-document.ensures.means
