use Rattle.std.proofs.Common.{◌≡◌, [], refl, sym, ap, ◌∙◌, arith}
use Rattle.std.specs.BTreeMap.{insert_entry}
use Rattle.std.specs.BTreeSet.{insert_key}
use Rattle.book_core.specs.Page.{bytes_cmp, page_cmp}
use Rattle.book_core.specs.Book.{inputs_view, contents_view}
use Rattle.book_core.proofs.Noting.{long_reply, new_reply}
use Rattle.book_core.proofs.Paged.{inputs_on-none, reply_to-on, page_added}
use Rattle.book_core.proofs.pages.note_first.Goals as goal

pub returns-then-input-gt-INPUT_BYTES-clause-exact : goal.returns-then-input-gt-INPUT_BYTES-clause-exact
returns-then-input-gt-INPUT_BYTES-clause-exact c = λ _.
    let none = inputs_on-none c.args.pages.now.entries c.args.page.now c.requires in
    reply_to-on (contents_view c.args.pages.now.entries) c.args.page.now c.args.input.now [] none ∙ long_reply [] c.args.input.now c.if-input-gt-INPUT_BYTES.true

pub returns-clause-exact : goal.returns-clause-exact
returns-clause-exact c =
    let none = inputs_on-none c.args.pages.now.entries c.args.page.now c.requires in
    reply_to-on (contents_view c.args.pages.now.entries) c.args.page.now c.args.input.now [] none ∙ new_reply [] c.args.input.now c.if-input-gt-INPUT_BYTES.false refl (omega arith)

pub returns-clause-noted : goal.returns-clause-noted
returns-clause-noted c =
    let es = c.args.pages.now.entries in
    let input = c.args.input.now in
    let inputs = c.in_ok-inputs.inputs in
    let one : inputs_view inputs ≡ insert_key bytes_cmp [] input = c.in_ok-inputs.ensures ∙ ap (insert_key bytes_cmp []) c.in_ok-from_str.ensures.ok in
    ap contents_view (c.in_ok-insert.ensures.entries ∙ ap (λ k. insert_entry page_cmp es k inputs) c.in_ok-copy.ensures)
    ∙ page_added es c.args.page.now inputs input c.requires one

pub returns-then-input-gt-INPUT_BYTES-clause-no_memory : goal.returns-then-input-gt-INPUT_BYTES-clause-no_memory
returns-then-input-gt-INPUT_BYTES-clause-no_memory c = λ _.
    let none = inputs_on-none c.args.pages.now.entries c.args.page.now c.requires in
    sym (reply_to-on (contents_view c.args.pages.now.entries) c.args.page.now c.args.input.now [] none ∙ long_reply [] c.args.input.now c.if-input-gt-INPUT_BYTES.true)

pub returns-in_err-from_str-clause-no_memory : goal.returns-in_err-from_str-clause-no_memory
returns-in_err-from_str-clause-no_memory c = λ other.
    let none = inputs_on-none c.args.pages.now.entries c.args.page.now c.requires in
    absurd (other (reply_to-on (contents_view c.args.pages.now.entries) c.args.page.now c.args.input.now [] none ∙ new_reply [] c.args.input.now c.if-input-gt-INPUT_BYTES.false refl (omega arith)))

pub returns-in_err-inputs-clause-no_memory : goal.returns-in_err-inputs-clause-no_memory
returns-in_err-inputs-clause-no_memory c = λ other.
    let none = inputs_on-none c.args.pages.now.entries c.args.page.now c.requires in
    absurd (other (reply_to-on (contents_view c.args.pages.now.entries) c.args.page.now c.args.input.now [] none ∙ new_reply [] c.args.input.now c.if-input-gt-INPUT_BYTES.false refl (omega arith)))

pub returns-in_err-copy-clause-no_memory : goal.returns-in_err-copy-clause-no_memory
returns-in_err-copy-clause-no_memory c = λ other.
    let none = inputs_on-none c.args.pages.now.entries c.args.page.now c.requires in
    absurd (other (reply_to-on (contents_view c.args.pages.now.entries) c.args.page.now c.args.input.now [] none ∙ new_reply [] c.args.input.now c.if-input-gt-INPUT_BYTES.false refl (omega arith)))

pub returns-in_err-insert-clause-no_memory : goal.returns-in_err-insert-clause-no_memory
returns-in_err-insert-clause-no_memory c = λ other.
    let none = inputs_on-none c.args.pages.now.entries c.args.page.now c.requires in
    absurd (other (reply_to-on (contents_view c.args.pages.now.entries) c.args.page.now c.args.input.now [] none ∙ new_reply [] c.args.input.now c.if-input-gt-INPUT_BYTES.false refl (omega arith)))

pub returns-clause-no_memory : goal.returns-clause-no_memory
returns-clause-no_memory c = λ other.
    let none = inputs_on-none c.args.pages.now.entries c.args.page.now c.requires in
    absurd (other (reply_to-on (contents_view c.args.pages.now.entries) c.args.page.now c.args.input.now [] none ∙ new_reply [] c.args.input.now c.if-input-gt-INPUT_BYTES.false refl (omega arith)))
