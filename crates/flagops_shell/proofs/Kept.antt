-- Files that stayed until they were stored.
use Rattle.std.proofs.Common.{◌≡◌, ◌∙◌, List, ℕ, Option, inl, inr, subst, sym}
use Rattle.std.specs.Prelude.{Result}
use Rattle.flagops_shell.specs.Ending.{KeepsUnlessDone}
use Rattle.flagops_shell.specs.Files.{Holding, KeepsOthers}
use Rattle.flagops_shell.specs.declared.outcome.Outcome.{Outcome}

-- files that stayed until the storing
pub kept_after : {E : Type 0} (old mid last new : Option Holding) (r : Result Outcome E) → mid ≡ old → last ≡ mid → KeepsUnlessDone last new r → KeepsUnlessDone old new r
kept_after old mid last new r first second (inl same) = inl (same ∙ second ∙ first)
kept_after old mid last new r first second (inr done) = inr done

pub others_after : (old mid new : Option Holding) (path : List ℕ) → mid ≡ old → KeepsOthers mid new path → KeepsOthers old new path
others_after old mid new path same kept = subst (λ (h : Option Holding). KeepsOthers h new path) same kept
