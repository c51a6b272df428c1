use Rattle.std.proofs.Common.{◌≡◌, [], ◌++◌, map, drop, string_bytes, append-nil, sym, ap, ◌∙◌, subst}
use Rattle.std.proofs.lemmas.List.{drop_all}
use Rattle.book_core.specs.Book.{IsExposure}
use Rattle.book_core.proofs.inputs.list_copied.Goals as goal

pub of_rising-requires : goal.of_rising-requires
of_rising-requires c =
    let l = c.loop-input in
    let copies = map string_bytes l.copies.items in
    let end : drop l.input-index c.args.list.now ≡ [] = drop_all l.input-index c.args.list.now c.loop-input-test.false in
    let all : copies ≡ map string_bytes c.args.list.now = sym (append-nil copies) ∙ ap (λ xs. copies ++ map string_bytes xs) (sym end) ∙ l.invariant in
    subst IsExposure (sym all) c.requires
