-- What is read of the bytes that were loaded is what the file records.
use Rattle.std.proofs.Common.{◌≡◌, ℕ, List, false, Option, Some, None, IfSome, refl, sym, subst}
use Rattle.std.specs.Prelude.{Result, Ok, Err}
use Rattle.flagops_files.specs.Evidence.{IsEvidenceOf, IsReadAs, begins_tally}
use Rattle.flagops_shell.specs.Files.{Holding}
use Rattle.flagops_files.specs.Question.{IsEvidenceAt, book_bytes_at}
use Rattle.flagops_files.specs.Refusal.{GivesOne, is_want}
use Rattle.flagops_files.specs.declared.evidence.Evidence.{Evidence}
use Rattle.flagops_files.specs.declared.refusal.Refusal.{Refusal}
use Rattle.flagops_files.specs.Refusal.{Refused}

module _ (path : List ℕ) where
  pub no_bytes : (old : Option Holding) (e : Refused) → IfSome old (λ at. is_want e.refusal ≡ false → book_bytes_at at path ≡ Err e.refusal) → IfSome old (λ at. GivesOne (λ (x : Evidence). x) (Err e) (IsEvidenceAt at path))
  unfolding IsEvidenceAt
  no_bytes None e loaded = tt
  no_bytes (Some at) e loaded = λ wanted. subst (λ (r : Result (List ℕ) Refusal). IsEvidenceOf r (Err e.refusal)) (sym (loaded wanted)) refl

  pub recorded : (old : Option Holding) (bytes : List ℕ) (r : Result Evidence Refused) → IfSome old (λ at. book_bytes_at at path ≡ Ok bytes) → GivesOne (λ (x : Evidence). x) r (IsReadAs (begins_tally bytes) bytes)
      → IfSome old (λ at. GivesOne (λ (x : Evidence). x) r (IsEvidenceAt at path))
  unfolding IsEvidenceAt
  recorded None bytes r loaded gives = tt
  recorded (Some at) bytes (Ok e) loaded gives = subst (λ (b : Result (List ℕ) Refusal). IsEvidenceOf b (Ok e)) (sym loaded) gives
  recorded (Some at) bytes (Err e) loaded gives = λ wanted. subst (λ (b : Result (List ℕ) Refusal). IsEvidenceOf b (Err e.refusal)) (sym loaded) (gives wanted)
