-- The first of some attempts that is refused is named alike where each is refused alike.
use Rattle.std.proofs.Common.{◌≡◌, inl, inr, ℕ, Bool, List, [], ◌∷◌, ◌++◌, map, Result, Ok, Err, refl, subst}
use Rattle.flagops_files.specs.Question as questions
use Rattle.flagops_files.specs.Documents.{IsDocumentAs}
use Rattle.flagops_files.specs.Loading.{max_text}
use Rattle.flagops_files.specs.Told.{AllSucceed, Attempt, NamesFirst, NamesSubject, Subject, attempt, attempt_of, file, within}
use Rattle.flagops_files.specs.declared.refusal.Refusal.TheVariants.{Load}
use Rattle.flagops_rollouts.specs.Attempts as rollouts
use Rattle.flagops_rollouts.specs.declared.refusal.RolloutRefusal.TheVariants as rolling
use Rattle.flagops_shell.specs.Diagnostic.{Says}
use Rattle.flagops_shell.specs.Files.{Holding, load_of}
use Rattle.flagops_shell.specs.Outcomes.{refused_by}
use Rattle.flagops_shell.specs.declared.refused.Remark.{Remark}
use Rattle.flagops_shell.specs.declared.refused.Remark.TheVariants.{Lines, Short}
use Rattle.product_laws.specs.Documents.{MeaningsStay}
use Rattle.product_laws.specs.Whole.{IsWholeAt}
use Rattle.product_laws.proofs.Read.{document_so}

-- it is about the same, is refused so wherever the other one is, and succeeds where that one does
pub record IsLike {R : Type 0} (a b : Attempt R) : Type 0 where
  pub subject : a.subject ≡ b.subject
  pub refuses : (e : R) → a.Refuses e → b.Refuses e
  pub succeeds : a.Succeeds → b.Succeeds

abbrev pub AreLike : {R : Type 0} → List (Attempt R) → List (Attempt R) → Type 0
AreLike [] [] = Unit {0}
AreLike [] (y ∷ ys) = ⊥
AreLike (x ∷ xs) [] = ⊥
AreLike (x ∷ xs) (y ∷ ys) = IsLike x y × AreLike xs ys

pub says_so : (P Q : List ℕ → Type 0) → ((lines : List ℕ) → P lines → Q lines) → (remark : Remark) → Says P remark → Says Q remark
says_so P Q more Short h = h
says_so P Q more (Lines lines) h = more _ h

pub first_so : {R : Type 0} (xs ys : List (Attempt R)) → AreLike xs ys → (e : R) (remark : Remark) → NamesFirst xs e remark → NamesFirst ys e remark
first_so [] [] like e remark h = h
first_so [] (y ∷ ys) like e remark h = absurd like
first_so (x ∷ xs) [] like e remark h = absurd like
first_so (x ∷ xs) (y ∷ ys) like e remark (inl h) = inl (like.0.refuses e h.0, subst (λ (s : Subject). Says (NamesSubject s) remark) like.0.subject h.1)
first_so (x ∷ xs) (y ∷ ys) like e remark (inr h) = inr (like.0.succeeds h.0, first_so xs ys like.1 e remark h.1)

pub all_so : {R : Type 0} (xs ys : List (Attempt R)) → AreLike xs ys → AllSucceed xs → AllSucceed ys
all_so [] [] like h = h
all_so [] (y ∷ ys) like h = absurd like
all_so (x ∷ xs) [] like h = absurd like
all_so (x ∷ xs) (y ∷ ys) like h = (like.0.succeeds h.0, all_so xs ys like.1 h.1)

-- ---- attempts that are alike

pub itself : {R : Type 0} (a : Attempt R) → IsLike a a
itself a = record { subject = refl; refuses = λ e h. h; succeeds = λ h. h }

pub themselves : {R : Type 0} (xs : List (Attempt R)) → AreLike xs xs
themselves [] = tt
themselves (x ∷ xs) = (itself x, themselves xs)

pub with_more : {R : Type 0} (xs ys more : List (Attempt R)) → AreLike xs ys → AreLike (xs ++ more) (ys ++ more)
with_more [] [] more like = themselves more
with_more [] (y ∷ ys) more like = absurd like
with_more (x ∷ xs) [] more like = absurd like
with_more (x ∷ xs) (y ∷ ys) more like = (like.0, with_more xs ys more like.1)

pub all_within : {E R : Type 0} (f : E → R) (xs ys : List (Attempt E)) → AreLike xs ys → AreLike (map (within f) xs) (map (within f) ys)
all_within f [] [] like = tt
all_within f [] (y ∷ ys) like = absurd like
all_within f (x ∷ xs) [] like = absurd like
all_within f (x ∷ xs) (y ∷ ys) like =
    (record { subject = like.0.subject; refuses = λ r h. (h.0, like.0.refuses h.0 h.1, h.2); succeeds = like.0.succeeds }, all_within f xs ys like.1)

-- a document or whatever else gives the same is attempted alike
pub attempt_so : {X R : Type 0} (subject : Subject) (Gives Others : Result X R → Type 0) → ((r : Result X R) → Gives r → Others r) → IsLike (attempt subject Gives) (attempt subject Others)
attempt_so subject Gives Others more = record { subject = refl; refuses = λ e. more (Err e); succeeds = λ h. (h.0, more (Ok h.0) h.1) }

module _ (meanings : MeaningsStay) (floats other : Bool) (at : Holding) (document : List ℕ) (whole : IsWholeAt at document) where
  pub question_like : (request evidence : List ℕ) → AreLike (questions.question_attempts floats at document request evidence) (questions.question_attempts other at document request evidence)
  question_like request evidence = (
    attempt_so (file document) (IsDocumentAs floats at document) (IsDocumentAs other at document) (λ r. document_so meanings floats other at document r whole),
    themselves (attempt_of (file request) (refused_by Load (load_of at request max_text)) ∷ attempt (file evidence) (questions.IsEvidenceAt at evidence) ∷ []),
  )

  pub rolled_like : (request evidence : List ℕ) → AreLike (rollouts.question_attempts floats at document request evidence) (rollouts.question_attempts other at document request evidence)
  rolled_like request evidence = all_within rolling.Load (questions.question_attempts floats at document request evidence) (questions.question_attempts other at document request evidence) (question_like request evidence)
