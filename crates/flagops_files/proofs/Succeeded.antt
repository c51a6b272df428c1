-- What was attempted without a refusal.
use Rattle.std.proofs.Common.{◌≡◌, ℕ, Bool, List, refl}
use Rattle.std.specs.Prelude.{Result, Ok, Err}
use Rattle.book_core.specs.Book.{Contents}
use Rattle.flagops_files.specs.Loading.{max_text}
use Rattle.flagops_files.specs.Question.{BookQuestion, IsBookQuestionAt, IsEvidenceAt, IsQuestionAt, IsQuestionWith, Question, book_at, book_question_attempts, question_attempts, question_of}
use Rattle.flagops_files.specs.Told.{AllSucceed}
use Rattle.flagops_files.specs.declared.evidence.Evidence.{Evidence}
use Rattle.flagops_files.specs.declared.refusal.Refusal.{Refusal}
use Rattle.flagops_files.specs.declared.refusal.Refusal.TheVariants.{Load}
use Rattle.flagops_shell.specs.Files.{Holding, load_of}
use Rattle.flagops_shell.specs.Outcomes.{◌>>=◌, refused_by}

differ : {X E Y : Type 0} {x : X} {e : E} → Ok x ≡ Err e → Y
differ same = cc

module _ (floats : Bool) (at : Holding) (path request last : List ℕ) where
  -- the files of a question
  pub question_succeed : (q : Question) → IsQuestionAt floats at path request last (Ok q) → AllSucceed (question_attempts floats at path request last)
  unfolding IsQuestionAt
  question_succeed q (Err e, document, same) = differ same
  question_succeed q (Ok flags, document, over) = with_request (refused_by Load (load_of at request max_text)) refl over
    where
      with_evidence : (bytes : List ℕ) → refused_by Load (load_of at request max_text) ≡ Ok bytes → (recorded : Result Evidence Refusal) → IsEvidenceAt at last recorded → Ok q ≡ question_of flags bytes recorded
          → AllSucceed (question_attempts floats at path request last)
      with_evidence bytes loaded (Err e) read same = differ same
      with_evidence bytes loaded (Ok evidence) read same = ((flags, document), ((bytes, loaded), ((evidence, read), tt)))

      with_request : (bytes : Result (List ℕ) Refusal) → refused_by Load (load_of at request max_text) ≡ bytes → IsQuestionWith at flags bytes last (Ok q) → AllSucceed (question_attempts floats at path request last)
      with_request (Err e) loaded same = differ same
      with_request (Ok bytes) loaded (recorded, read, same) = with_evidence bytes loaded recorded read same

  -- the same over a book
  pub book_question_succeed : (q : BookQuestion) → IsBookQuestionAt floats at path request last (Ok q) → AllSucceed (book_question_attempts floats at path request last)
  unfolding IsBookQuestionAt
  book_question_succeed q (Err e, document, same) = differ same
  book_question_succeed q (Ok flags, document, same) = with_request (refused_by Load (load_of at request max_text)) refl same
    where
      with_book : (bytes : List ℕ) → refused_by Load (load_of at request max_text) ≡ Ok bytes → (book : Result Contents Refusal) → book_at at last ≡ book
          → Ok q ≡ (book >>= λ contents. Ok (record { flags = flags; request = bytes; book = contents })) → AllSucceed (book_question_attempts floats at path request last)
      with_book bytes loaded (Err e) read same = differ same
      with_book bytes loaded (Ok contents) read same = ((flags, document), ((bytes, loaded), ((contents, read), tt)))

      with_request : (bytes : Result (List ℕ) Refusal) → refused_by Load (load_of at request max_text) ≡ bytes
          → Ok q ≡ (bytes >>= λ b. book_at at last >>= λ contents. Ok (record { flags = flags; request = b; book = contents })) → AllSucceed (book_question_attempts floats at path request last)
      with_request (Err e) loaded same = differ same
      with_request (Ok bytes) loaded same = with_book bytes loaded (book_at at last) refl same
