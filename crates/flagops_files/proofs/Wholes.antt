-- What is said of a file at a path is said of all its bytes.
use Rattle.std.proofs.Common.{◌≡◌, ◌↔◌, ℕ, ◌+◌, ◌≤◌, Bool, true, false, List, length, take, Some, Result, Ok, if◌then◌else◌, refl, sym, ap, ◌∙◌, subst, arith}
use Rattle.std.proofs.lemmas.Bool.Decides.{nat_tests}
use Rattle.std.proofs.lemmas.List.{take_all, length-take}
use Rattle.book_core.specs.Reading.{book_of}
use Rattle.flagops_shell.specs.Beginning.{may_begin_record}
use Rattle.flagops_files.specs.Evidence.{IsEvidenceOf, IsReadAs, begins_tally, of_book}
use Rattle.flagops_shell.specs.Files.{Holding, first_piece, front_of_book}
use Rattle.flagops_shell.specs.Outcomes.{◌>>=◌, refused_by}
use Rattle.flagops_files.specs.Question.{IsEvidenceAt, book_at, book_bytes_at, if_readable, max_book}
use Rattle.flagops_files.specs.declared.evidence.Evidence.{Evidence}
use Rattle.flagops_files.specs.declared.refusal.Refusal.{Refusal}
use Rattle.flagops_files.specs.declared.refusal.Refusal.TheVariants.{Load, ReadBook}
use Rattle.flagops_files.specs.Law.{IsNoRecord, IsOfAllBytes}
use Rattle.flagops_files.proofs.Pieces.{no_records}

-- the bytes that are read in place of all are as good: the same book, and what they record
record AsGood (read bytes : List ℕ) : Type 0 where
  book : book_of read ≡ book_of bytes
  evidence : (r : Result Evidence Refusal) → IsReadAs (begins_tally read) read r ↔ IsReadAs (begins_tally bytes) bytes r

as_itself : (read bytes : List ℕ) → read ≡ bytes → AsGood read bytes
as_itself read bytes same = record {
  book = ap book_of same;
  evidence = λ r. (subst (λ b. IsReadAs (begins_tally b) b r) same, subst (λ b. IsReadAs (begins_tally b) b r) (sym same));
}

-- bytes that are no record are read as a book is, and refused as one
as_book : (bytes : List ℕ) (r : Result Evidence Refusal) → begins_tally bytes ≡ false → IsReadAs (begins_tally bytes) bytes r ↔ (r ≡ of_book (book_of bytes))
as_book bytes r none = (subst (λ b. IsReadAs b bytes r) none, subst (λ b. IsReadAs b bytes r) (sym none))

as_piece : (bytes : List ℕ) → IsNoRecord bytes × IsNoRecord (first_piece bytes) → AsGood (first_piece bytes) bytes
as_piece bytes n =
    let same : book_of (first_piece bytes) ≡ book_of bytes = n.1.refused ∙ sym n.0.refused in
    record {
      book = same;
      evidence = λ r. (
        λ h. (as_book bytes r n.0.no_tally).1 ((as_book (first_piece bytes) r n.1.no_tally).0 h ∙ ap of_book same),
        λ h. (as_book (first_piece bytes) r n.1.no_tally).1 ((as_book bytes r n.0.no_tally).0 h ∙ ap of_book (sym same)),
      );
    }

-- what is read of a file
record Loaded (at : Holding) (path bytes : List ℕ) : Type 0 where
  read : List ℕ
  loads : book_bytes_at at path ≡ Ok read
  good : AsGood read bytes

readable : (bytes : List ℕ) → length bytes ≤ max_book → if_readable bytes ≡ Ok bytes
readable bytes fits = grind (arith, nat_tests)

loaded_as : (at : Holding) (path bytes read : List ℕ) → at path ≡ Some bytes → (if may_begin_record (first_piece bytes) then take (max_book + 1) bytes else first_piece bytes) ≡ read → length read ≤ max_book → book_bytes_at at path ≡ Ok read
unfolding book_bytes_at
loaded_as at path bytes read there is fits =
    ap (λ o. refused_by Load (front_of_book max_book o) >>= λ b. if_readable b) there ∙ ap if_readable is ∙ readable read fits

loaded : (at : Holding) (path bytes : List ℕ) → at path ≡ Some bytes → length bytes ≤ max_book → Loaded at path bytes
loaded at path bytes there fits = go (may_begin_record (first_piece bytes)) refl
  where
    go : (b : Bool) → may_begin_record (first_piece bytes) ≡ b → Loaded at path bytes
    go true is =
        let all : take (max_book + 1) bytes ≡ bytes = take_all (max_book + 1) bytes (omega arith) in
        record { read = bytes; loads = loaded_as at path bytes bytes there (ap (λ b. if b then take (max_book + 1) bytes else first_piece bytes) is ∙ all) fits; good = as_itself bytes bytes refl }
    go false is =
        record {
          read = first_piece bytes;
          loads = loaded_as at path bytes (first_piece bytes) there (ap (λ b. if b then take (max_book + 1) bytes else first_piece bytes) is) (omega (arith, length-take 4096 bytes));
          good = as_piece bytes (no_records bytes is);
        }

book_read : (at : Holding) (path read : List ℕ) → book_bytes_at at path ≡ Ok read → book_at at path ≡ refused_by ReadBook (book_of read)
unfolding book_at
book_read at path read is = ap (λ o. o >>= λ whole. refused_by ReadBook (book_of whole)) is

evidence_read : (at : Holding) (path read : List ℕ) (r : Result Evidence Refusal) → book_bytes_at at path ≡ Ok read → IsEvidenceAt at path r ↔ IsReadAs (begins_tally read) read r
unfolding IsEvidenceAt
evidence_read at path read r is = (subst (λ o. IsEvidenceOf o r) is, subst (λ o. IsEvidenceOf o r) (sym is))

pub read_whole : (at : Holding) (path bytes : List ℕ) → at path ≡ Some bytes → length bytes ≤ max_book → IsOfAllBytes at path bytes
read_whole at path bytes there fits =
    let l = loaded at path bytes there fits in
    record {
      book = book_read at path l.read l.loads ∙ ap (refused_by ReadBook) l.good.book;
      evidence = λ r. (λ h. (l.good.evidence r).0 ((evidence_read at path l.read r l.loads).0 h), λ h. (evidence_read at path l.read r l.loads).1 ((l.good.evidence r).1 h));
    }
