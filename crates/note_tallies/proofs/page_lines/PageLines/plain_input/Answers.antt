use Rattle.std.proofs.Common.{◌≡◌, ◌++◌, ◌∷◌, [], List, ℕ, ap, ◌∙◌, subst}
use Rattle.book_core.specs.Page.{PageName}
use Rattle.note_lines.specs.Note.{IsNote, note_line}
use Rattle.note_tallies.proofs.Heads.{of_page, of_plain, of_prefix, of_suffix, plain_note}
use Rattle.note_tallies.proofs.page_lines.PageLines.plain_input.Goals as goal

pub returns : goal.returns
returns c =
    let head = c.self.inside.head.items in
    let line = c.args.line.now in
    let text = c.in_ok-strip_suffix.field-0.now in
    let input = c.in_ok-input.input.now in
    let begins = c.in_ok-rest.ensures.cases in
    let ends = c.in_ok-strip_suffix.ensures.cases in
    let quoted = c.in_ok-input.ensures.quoted in
    let after : line ≡ head ++ c.in_ok-rest.rest.now = of_prefix c.as_slice.result.now line c.in_ok-rest.rest.now begins.0 begins.1 ∙ ap (λ (h : List ℕ). h ++ c.in_ok-rest.rest.now) c.as_slice.ensures.value in
    let before : c.in_ok-rest.rest.now ≡ text ++ 93 ∷ 10 ∷ [] = of_suffix (93 ∷ 10 ∷ []) c.in_ok-rest.rest.now text ends.0 ends.1 in
    subst (λ (page : PageName). IsNote (of_page page input) × (line ≡ note_line (of_page page input))) c.self.view_is (
      plain_note c.self.inside.page head input c.self.invariant quoted.utf8 c.if-input-gt-INPUT_BYTES.false,
      of_plain c.self.inside.page head line text input c.self.invariant (after ∙ ap (λ (r : List ℕ). head ++ r) before) quoted.between quoted.plain,
    )
