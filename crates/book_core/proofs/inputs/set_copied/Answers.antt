use Rattle.std.proofs.Common.{◌≡◌, ◌++◌, map, string_bytes, append-nil, sym, ap, ◌∙◌, subst}
use Rattle.book_core.specs.Book.{IsExposure}
use Rattle.book_core.proofs.inputs.set_copied.Goals as goal

pub of_rising-requires : goal.of_rising-requires
of_rising-requires c =
    let copies = map string_bytes c.loop-input.copies.items in
    let all : copies ≡ map string_bytes c.args.set.now.keys = sym (append-nil copies) ∙ ap (λ xs. copies ++ map string_bytes xs) (sym c.in-None.ensures.steps.0) ∙ c.loop-input.invariant in
    subst IsExposure (sym all) c.requires
