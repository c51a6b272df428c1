-- The first of what a command attempts in turn that is refused.
use Rattle.std.proofs.Common.{◌≡◌, false, ℕ, List, ◌∷◌, ◌++◌, IfOk, Option, Some, None, IfSome, inl, inr, sym, subst}
use Rattle.std.specs.Prelude.{Bool, Result, Ok, Err, unwrap_or}
use Rattle.flagops_commands.specs.Subjects.{numbers_of, parts_of}
use Rattle.flagops_rollouts.specs.Finer.{TellsFinerOf}
use Rattle.flagops_shell.specs.Report.{outcome_view}
use Rattle.flagops_commands.specs.Attempts.{Attempts, TellsOfFirst, attempts_of}
use Rattle.flagops_commands.specs.Refusal.{Refused, Subjects, TellsOfOne, is_want}
use Rattle.flagops_commands.specs.declared.refusal.ListedRefusal.{ListedRefusal}
use Rattle.flagops_files.proofs.Told.{first_by_kind, told_left, told_right}
use Rattle.flagops_files.specs.Told.{NamesSubject, Subject, attempt, by_kind}
use Rattle.flagops_shell.specs.Diagnostic.{Says}
use Rattle.flagops_shell.specs.Files.{Holding}
use Rattle.flagops_shell.specs.declared.outcome.Outcome.{Outcome}
use Rattle.flagops_words.specs.Asked.{Asked, plan}

-- ---- whatever the files hold

pub whatever : {P : Type 0} (old : Option Holding) → P → IfSome old (λ at. P)
whatever None p = tt
whatever (Some at) p = p

pub in_any_files : {X : Type 0} (old : Option Holding) (attempts : Attempts) (r : Result X Refused) → TellsOfFirst attempts r → IfSome old (λ at. TellsOfFirst attempts r)
in_any_files None attempts r told = tt
in_any_files (Some at) attempts r told = told

pub told_in_any_files : {E : Type 0} (P : Outcome → List ℕ → Type 0) (old : Option Holding) (r : Result Outcome E) → IfOk r (λ o. IfSome o.remark (Says (P o))) → IfOk r (λ o. IfSome old (λ at. IfSome o.remark (Says (P o))))
told_in_any_files P old (Ok o) told = whatever old told
told_in_any_files P old (Err e) told = tt

-- the points of a plan
pub points_told : {E : Type 0} (old : Option Holding) (a : Asked) (document request book : List ℕ) (refine : Option ℕ) (strict explain floats : Bool) (r : Result Outcome E) → a ≡ plan document request book refine strict explain floats
    → IfOk r (λ o. IfSome o.remark (Says (TellsFinerOf request (unwrap_or refine 1) o.text.items))) → IfOk r (λ o. IfSome old (λ at. IfSome o.remark (Says (numbers_of a at (outcome_view o)))))
points_told old a document request book refine strict explain floats r is told =
    subst (λ (x : Asked). IfOk r (λ o. IfSome old (λ at. IfSome o.remark (Says (numbers_of x at (outcome_view o)))))) (sym is) (told_in_any_files (λ o. TellsFinerOf request (unwrap_or refine 1) o.text.items) old r told)

-- what the words ask for, as they were matched
pub as_asked : {X : Type 0} (old : Option Holding) (a b : Asked) (r : Result X Refused) → a ≡ b → IfSome old (λ at. TellsOfFirst (attempts_of b at) r) → IfSome old (λ at. TellsOfFirst (attempts_of a at) r)
as_asked {X} old a b r is told = subst (λ (x : Asked). IfSome old (λ at. TellsOfFirst (attempts_of x at) r)) (sym is) told

-- and the parts that they are told in
pub parts_told : (old : Option Holding) (a b : Asked) (r : Result Outcome Refused) → a ≡ b → IfSome old (λ at. IfOk r (λ o. parts_of b at (outcome_view o) o.remark)) → IfSome old (λ at. IfOk r (λ o. parts_of a at (outcome_view o) o.remark))
parts_told old a b r is told = subst (λ (x : Asked). IfSome old (λ at. IfOk r (λ o. parts_of x at (outcome_view o) o.remark))) (sym is) told

-- ---- of several kinds

pub among_first : {X : Type 0} (xs ys : Subjects) (r : Result X Refused) → TellsOfOne xs r → TellsOfOne (xs ++ ys) r
among_first xs ys (Ok x) told = tt
among_first xs ys (Err e) told = λ wanted. told_left xs ys e.refusal e.remark (told wanted)

pub among_last : {X : Type 0} (xs ys : Subjects) (r : Result X Refused) → TellsOfOne ys r → TellsOfOne (xs ++ ys) r
among_last xs ys (Ok x) told = tt
among_last xs ys (Err e) told = λ wanted. told_right xs ys e.refusal e.remark (told wanted)

-- ---- three that are attempted in turn, and what is known by its kind behind them

each : {P Q : Holding → Type 0} (old : Option Holding) → IfSome old P → ((at : Holding) → P at → Q at) → IfSome old Q
each None p all = tt
each (Some at) p all = all at p

module _ {A B C X : Type 0} (one two three : Subject) (First : Holding → Result A ListedRefusal → Type 0) (Second : Holding → Result B ListedRefusal → Type 0) (Third : Holding → Result C ListedRefusal → Type 0)
    (made : Subjects) (old : Option Holding) (r : Result X Refused) where
  abbrev InTurn : Holding → Attempts
  InTurn at = attempt one (First at) ∷ attempt two (Second at) ∷ attempt three (Third at) ∷ by_kind made

  abbrev Tells : Result X Refused → Type 0
  Tells s = IfSome old (λ at. TellsOfFirst (InTurn at) s)

  pub first_refused : (e : Refused) → r ≡ Err e → IfSome old (λ at. is_want e.refusal ≡ false → First at (Err e.refusal)) → (is_want e.refusal ≡ false → Says (NamesSubject one) e.remark) → Tells r
  first_refused e is refused says = subst Tells (sym is) (each old refused (λ at no wanted. inl (no wanted, says wanted)))

  module _ (a : A) (first : IfSome old (λ at. First at (Ok a))) where
    pub second_refused : (e : Refused) → r ≡ Err e → IfSome old (λ at. is_want e.refusal ≡ false → Second at (Err e.refusal)) → (is_want e.refusal ≡ false → Says (NamesSubject two) e.remark) → Tells r
    second_refused e is refused says = subst Tells (sym is) (go old first refused)
      where
        go : (h : Option Holding) → IfSome h (λ at. First at (Ok a)) → IfSome h (λ at. is_want e.refusal ≡ false → Second at (Err e.refusal)) → IfSome h (λ at. TellsOfFirst (InTurn at) (let s : Result X Refused = Err e in s))
        go None first refused = tt
        go (Some at) first refused = λ wanted. inr ((a, first), inl (refused wanted, says wanted))

    module _ (b : B) (second : IfSome old (λ at. Second at (Ok b))) where
      pub third_refused : (e : Refused) → r ≡ Err e → IfSome old (λ at. is_want e.refusal ≡ false → Third at (Err e.refusal)) → (is_want e.refusal ≡ false → Says (NamesSubject three) e.remark) → Tells r
      third_refused e is refused says = subst Tells (sym is) (go old first second refused)
        where
          go : (h : Option Holding) → IfSome h (λ at. First at (Ok a)) → IfSome h (λ at. Second at (Ok b)) → IfSome h (λ at. is_want e.refusal ≡ false → Third at (Err e.refusal))
              → IfSome h (λ at. TellsOfFirst (InTurn at) (let s : Result X Refused = Err e in s))
          go None first second refused = tt
          go (Some at) first second refused = λ wanted. inr ((a, first), inr ((b, second), inl (refused wanted, says wanted)))

      pub behind_three : (c : C) → IfSome old (λ at. Third at (Ok c)) → TellsOfOne made r → Tells r
      behind_three c third told = go old r first second third told
        where
          go : (h : Option Holding) (s : Result X Refused) → IfSome h (λ at. First at (Ok a)) → IfSome h (λ at. Second at (Ok b)) → IfSome h (λ at. Third at (Ok c)) → TellsOfOne made s → IfSome h (λ at. TellsOfFirst (InTurn at) s)
          go None s first second third told = tt
          go (Some at) (Ok x) first second third told = tt
          go (Some at) (Err e) first second third told = λ wanted. inr ((a, first), inr ((b, second), inr ((c, third), first_by_kind made e.refusal e.remark (told wanted))))
