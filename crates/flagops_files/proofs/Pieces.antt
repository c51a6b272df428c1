-- What the first piece of a file says of it.
use Rattle.std.proofs.Common.{◌≡◌, ℕ, true, false, List, Ok, Err, sym, ◌∙◌}
use Rattle.std.proofs.lemmas.Bool.{true≢false, false_from_ne_true, true_from_ne_false}
use Rattle.book_core.specs.Book.{Contents}
use Rattle.book_core.specs.Reading.{book_of}
use Rattle.book_core.specs.declared.fault.BookFileFault.TheVariants.{Header}
use Rattle.flagops_shell.specs.Beginning.{may_begin_record}
use Rattle.flagops_files.specs.Evidence.{begins_tally}
use Rattle.flagops_shell.specs.Files.{first_piece}
use Rattle.flagops_files.specs.Law.{IsNoRecord}
use Rattle.flagops_files.proofs.Blanks.{may_begin-take}
use Rattle.flagops_files.proofs.BookBeginnings.{no_book}
use Rattle.flagops_files.proofs.TallyBeginnings.{tally_may_begin}

-- what may begin no record by its first piece may begin none by all of it
by_piece : (bytes : List ℕ) → may_begin_record (first_piece bytes) ≡ false → may_begin_record bytes ≡ false
by_piece bytes none = false_from_ne_true (may_begin_record bytes) (λ may. true≢false (sym (may_begin-take 4096 bytes may) ∙ none))

pub book_piece : (bytes : List ℕ) (book : Contents) → book_of bytes ≡ Ok book → may_begin_record (first_piece bytes) ≡ true
book_piece bytes book e = true_from_ne_false (may_begin_record (first_piece bytes)) (λ none. refused (sym (no_book bytes (by_piece bytes none)) ∙ e))
  where
    refused : Err Header ≡ Ok book → ⊥
    refused is = cc

pub tally_piece : (bytes : List ℕ) → begins_tally bytes ≡ true → may_begin_record (first_piece bytes) ≡ true
tally_piece bytes e = may_begin-take 4096 bytes (tally_may_begin bytes e)

no_record : (bytes : List ℕ) → may_begin_record bytes ≡ false → IsNoRecord bytes
no_record bytes none = record {
  no_tally = false_from_ne_true (begins_tally bytes) (λ is. true≢false (sym (tally_may_begin bytes is) ∙ none));
  refused = no_book bytes none;
}

pub no_records : (bytes : List ℕ) → may_begin_record (first_piece bytes) ≡ false → IsNoRecord bytes × IsNoRecord (first_piece bytes)
no_records bytes none = (no_record bytes (by_piece bytes none), no_record (first_piece bytes) none)
