use Rattle.std.proofs.Common.{map, string_bytes, sym, ◌∙◌, rules}
use Rattle.std.proofs.lemmas.Fn.{always_returns_same}
use Rattle.book_core.specs.Page.{bytes_cmp}
use Rattle.book_core.proofs.Listed.{found_among, missed_among, not_among}
use Rattle.book_core.proofs.inputs.is_listed.Goals as goal

pub returns-then-is_above : goal.returns-then-is_above
returns-then-is_above c = sym (not_among (map string_bytes c.args.list.now) c.args.input.now (sym c.is_above.ensures ∙ c.if-is_above.true))

pub returns-in-Ok : goal.returns-in-Ok
returns-in-Ok c =
    let halved = c.in-Ok.ensures.position (λ text. bytes_cmp (string_bytes text) c.args.input.now) (always_returns_same _ _ _ (λ a r h called. search rules)) in
    sym (found_among c.args.list.now c.args.input.now c.in-Ok.field-0 c.in-Ok.ensures.bound halved)

pub returns-in-Err : goal.returns-in-Err
returns-in-Err c =
    let halved = c.in-Err.ensures.position (λ text. bytes_cmp (string_bytes text) c.args.input.now) (always_returns_same _ _ _ (λ a r h called. search rules)) in
    sym (missed_among c.args.list.now c.args.input.now c.in-Err.field-0 c.requires c.in-Err.ensures.bound halved)
