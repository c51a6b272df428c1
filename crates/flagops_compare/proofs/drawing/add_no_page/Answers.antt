use Rattle.std.proofs.Common.{◌≡◌, ◌≢◌, ◌∙◌, true, false, ap, length, [], string_bytes, sym}
use Rattle.std.specs.Prelude.{string_len}
use Rattle.std.proofs.lemmas.Bool.{eqb-true, eq-eqb}
use Rattle.std.proofs.lemmas.List.{nil_from_length}
use Rattle.flagops_compare.proofs.Drawings.{none_there, some_there}
use Rattle.flagops_compare.proofs.drawing.add_no_page.Goals as goal

pub returns-then-is_empty : goal.returns-then-is_empty
returns-then-is_empty c =
    let s = c.args.pictures.now in
    let long : string_len s ≡ length (string_bytes s) = s.bytes.ok.0 in
    let none : string_bytes s ≡ [] = nil_from_length (string_bytes s) (sym long ∙ eqb-true (string_len s) 0 (sym c.is_empty.ensures ∙ c.if-is_empty.true)) in
    none_there c.args.end (string_bytes s) (string_bytes c.draw_no_page.new.pictures) c.draw_no_page.result none c.draw_no_page.ensures.adds c.draw_no_page.ensures.below

pub returns-else-is_empty : goal.returns-else-is_empty
returns-else-is_empty c = λ ps body ends.
    let s = c.args.pictures.now in
    let long : string_len s ≡ length (string_bytes s) = s.bytes.ok.0 in
    let some : string_bytes s ≢ [] = λ none.
    let empty : true ≡ false = sym (c.is_empty.ensures ∙ eq-eqb (string_len s) 0 (long ∙ ap length none)) ∙ c.if-is_empty.false in cc in
    some_there ps (string_bytes s) c.args.end body some ends
