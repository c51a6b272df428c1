use Rattle.std.proofs.Common.{◌≡◌, ◌<◌, ◌≤◌, true, false, length, sym, ap, ◌∙◌, arith}
use Rattle.std.specs.BTreeSet.{insert_key}
use Rattle.book_core.specs.Page.{bytes_cmp}
use Rattle.book_core.specs.Book.{most_inputs, is_among, inputs_view}
use Rattle.book_core.proofs.Noting.{again_reply, full_reply, new_reply, again_inserted}
use Rattle.book_core.proofs.pages.note_on.Goals as goal

pub returns-then-contains-clause-exact : goal.returns-then-contains-clause-exact
returns-then-contains-clause-exact c =
    let among : is_among c.args.input.now (inputs_view c.args.inputs.now) ≡ true = sym c.contains.ensures ∙ c.if-contains.true in
    again_reply (inputs_view c.args.inputs.now) c.args.input.now c.if-input-gt-INPUT_BYTES.false among

pub returns-then-contains-clause-noted : goal.returns-then-contains-clause-noted
returns-then-contains-clause-noted c =
    let among : is_among c.args.input.now (inputs_view c.args.inputs.now) ≡ true = sym c.contains.ensures ∙ c.if-contains.true in
    sym (again_inserted (inputs_view c.args.inputs.now) c.args.input.now c.requires among)

pub returns-then-full-clause-exact : goal.returns-then-full-clause-exact
returns-then-full-clause-exact c = λ _.
    let among : is_among c.args.input.now (inputs_view c.args.inputs.now) ≡ false = sym c.contains.ensures ∙ c.if-contains.false in
    let full : most_inputs ≤ length (inputs_view c.args.inputs.now) = omega (arith, c.len-full.ensures) in
    full_reply (inputs_view c.args.inputs.now) c.args.input.now c.if-input-gt-INPUT_BYTES.false among full

pub returns-clause-exact : goal.returns-clause-exact
returns-clause-exact c =
    let among : is_among c.args.input.now (inputs_view c.args.inputs.now) ≡ false = sym c.contains.ensures ∙ c.if-contains.false in
    let room : length (inputs_view c.args.inputs.now) < most_inputs = omega (arith, c.len-full.ensures) in
    new_reply (inputs_view c.args.inputs.now) c.args.input.now c.if-input-gt-INPUT_BYTES.false among room

pub returns-clause-noted : goal.returns-clause-noted
returns-clause-noted c = c.in_ok-insert.ensures.inserted ∙ ap (insert_key bytes_cmp (inputs_view c.args.inputs.now)) c.in_ok-from_str.ensures.ok

pub returns-then-contains-clause-no_memory : goal.returns-then-contains-clause-no_memory
returns-then-contains-clause-no_memory c = λ _.
    let among : is_among c.args.input.now (inputs_view c.args.inputs.now) ≡ true = sym c.contains.ensures ∙ c.if-contains.true in
    sym (again_reply (inputs_view c.args.inputs.now) c.args.input.now c.if-input-gt-INPUT_BYTES.false among)

pub returns-then-full-clause-no_memory : goal.returns-then-full-clause-no_memory
returns-then-full-clause-no_memory c = λ _.
    let among : is_among c.args.input.now (inputs_view c.args.inputs.now) ≡ false = sym c.contains.ensures ∙ c.if-contains.false in
    let full : most_inputs ≤ length (inputs_view c.args.inputs.now) = omega (arith, c.len-full.ensures) in
    sym (full_reply (inputs_view c.args.inputs.now) c.args.input.now c.if-input-gt-INPUT_BYTES.false among full)

pub returns-in_err-from_str-clause-no_memory : goal.returns-in_err-from_str-clause-no_memory
returns-in_err-from_str-clause-no_memory c = λ other.
    let among : is_among c.args.input.now (inputs_view c.args.inputs.now) ≡ false = sym c.contains.ensures ∙ c.if-contains.false in
    let room : length (inputs_view c.args.inputs.now) < most_inputs = omega (arith, c.len-full.ensures) in
    absurd (other (new_reply (inputs_view c.args.inputs.now) c.args.input.now c.if-input-gt-INPUT_BYTES.false among room))

pub returns-in_err-insert-clause-no_memory : goal.returns-in_err-insert-clause-no_memory
returns-in_err-insert-clause-no_memory c = λ other.
    let among : is_among c.args.input.now (inputs_view c.args.inputs.now) ≡ false = sym c.contains.ensures ∙ c.if-contains.false in
    let room : length (inputs_view c.args.inputs.now) < most_inputs = omega (arith, c.len-full.ensures) in
    absurd (other (new_reply (inputs_view c.args.inputs.now) c.args.input.now c.if-input-gt-INPUT_BYTES.false among room))

pub returns-clause-no_memory : goal.returns-clause-no_memory
returns-clause-no_memory c = λ other.
    let among : is_among c.args.input.now (inputs_view c.args.inputs.now) ≡ false = sym c.contains.ensures ∙ c.if-contains.false in
    let room : length (inputs_view c.args.inputs.now) < most_inputs = omega (arith, c.len-full.ensures) in
    absurd (other (new_reply (inputs_view c.args.inputs.now) c.args.input.now c.if-input-gt-INPUT_BYTES.false among room))
