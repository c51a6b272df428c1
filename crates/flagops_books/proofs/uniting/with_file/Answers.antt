use Rattle.std.proofs.Common.{◌∙◌, ℕ, true, false, List, ap, sym, string_bytes, subst}
use Rattle.book_core.specs.Reading.{book_of}
use Rattle.flagops_books.specs.Step.{GivesUnited}
use Rattle.flagops_books.specs.Union.{IsLast, IsWithBook, IsWithBytes}
use Rattle.flagops_books.proofs.Unions.{read_file}
use Rattle.note_lines.specs.Blank.{begins_book}
use Rattle.note_lines.specs.Notes.{IsBookOf, Notes}
use Rattle.flagops_books.proofs.uniting.with_file.Goals as goal

pub returns-then-begins_book-clause-exact : goal.returns-then-begins_book-clause-exact
returns-then-begins_book-clause-exact g c =
    read_file c.args.passing c.args.path.now c.args.all (g.F.FileSet.holding c.args.files.now) true c.in_ok-bytes.bytes.items c.with_book.result
    (ap begins_book (sym c.as_slice.ensures.value) ∙ sym c.begins_book.ensures ∙ c.if-begins_book.true) c.in_ok-bytes.ensures.exact
    (subst (λ (b : List ℕ). (now : Notes) → IsBookOf now c.args.all.book → GivesUnited c.with_book.result (IsWithBook IsLast now (string_bytes c.args.all.told) (book_of b)))
    c.as_slice-then-begins_book.ensures.value c.with_book.ensures.exact)

pub returns-clause-exact : goal.returns-clause-exact
returns-clause-exact g c =
    read_file c.args.passing c.args.path.now c.args.all (g.F.FileSet.holding c.args.files.now) false c.in_ok-bytes.bytes.items c.with_lines.result
    (ap begins_book (sym c.as_slice.ensures.value) ∙ sym c.begins_book.ensures ∙ c.if-begins_book.false) c.in_ok-bytes.ensures.exact
    (subst (λ (b : List ℕ). (now : Notes) → IsBookOf now c.args.all.book → GivesUnited c.with_lines.result (IsWithBytes false IsLast c.args.passing now (string_bytes c.args.all.told) c.args.path.now b))
    c.as_slice-else-begins_book.ensures.value c.with_lines.ensures.exact)
