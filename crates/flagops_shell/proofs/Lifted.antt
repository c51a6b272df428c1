-- A refusal of another family, as one of this family.
use Rattle.std.proofs.Common.{◌≡◌, ◌∙◌, ap, false, Bool, Option, Some, None, IfSome, refl, sym}
use Rattle.std.specs.Prelude.{Result, Ok, Err}
use Rattle.flagops_shell.specs.Outcomes.{Lifts, refused_by}
use Rattle.flagops_shell.specs.declared.refused.Refused.{Refused}

module _ {E R : Type 0} (want : E → Bool) (is_want : R → Bool) (f : E → R) (same : (e : E) → is_want (f e) ≡ want e) where
  -- memory ran out for the one where it ran out for the other
  pub not_want : (e : Refused E) (t : Refused R) → t.refusal ≡ f e.refusal → is_want t.refusal ≡ false → want e.refusal ≡ false
  not_want e t is no_want = sym (same e.refusal) ∙ (ap is_want (sym is) ∙ no_want)

  module _ {A Y : Type 0} (P : A → Result Y E → Type 0) where
    -- what was returned is one of these
    pub given_one : (old : Option A) (y : Y) → IfSome old (λ at. P at (Ok y)) → IfSome old (λ at. Lifts f (P at) (Ok y))
    given_one None y gives = tt
    given_one (Some at) y gives = (Ok y, gives, refl)

    -- and so is its refusal
    pub refused_one : (old : Option A) (e : Refused E) (t : Refused R) → t.refusal ≡ f e.refusal → IfSome old (λ at. want e.refusal ≡ false → P at (Err e.refusal))
        → IfSome old (λ at. is_want t.refusal ≡ false → Lifts f (P at) (Err t.refusal))
    refused_one None e t is gives = tt
    refused_one (Some at) e t is gives = λ no_want. (Err e.refusal, gives (not_want e t is no_want), ap Err is)

  module _ {A Y : Type 0} (wanted : A → Result Y E) where
    -- what was returned is what is given
    pub given_so : (old : Option A) (y : Y) → IfSome old (λ at. wanted at ≡ Ok y) → IfSome old (λ at. refused_by f (wanted at) ≡ Ok y)
    given_so None y gives = tt
    given_so (Some at) y gives = ap (refused_by f) gives

    -- and so is its refusal
    pub refused_so : (old : Option A) (e : Refused E) (t : Refused R) → t.refusal ≡ f e.refusal → IfSome old (λ at. want e.refusal ≡ false → wanted at ≡ Err e.refusal)
        → IfSome old (λ at. is_want t.refusal ≡ false → refused_by f (wanted at) ≡ Err t.refusal)
    refused_so None e t is gives = tt
    refused_so (Some at) e t is gives = λ no_want. ap (refused_by f) (gives (not_want e t is no_want)) ∙ ap Err (sym is)
