-- What an evaluation adds to what is reached.
use Rattle.std.proofs.Common.{◌≡◌, ℕ, ◌==◌, Bool, true, false, cond, refl, List, [], ◌∷◌, ◌++◌, length, map, sym, ap, ap₂, ◌∙◌, arith}
use Rattle.std.proofs.lemmas.Bool.{eqb-true}
use Rattle.std.proofs.lemmas.Fn.{filter_same}
use Rattle.std.specs.List.Retain.{IsFiltered}
use Rattle.std.proofs.lemmas.List.{append-nil, map-append}
use Rattle.std.specs.Prelude.{string_bytes, filter}
use Rattle.logic_eval.specs.Run.{Reach}
use Rattle.logic_eval.specs.Views.{reach_view}
use Rattle.logic_eval.specs.declared.meter.Reached.{Reached}
use Rattle.ofrep_answers.specs.Answer.{reached_view}
use Rattle.ofrep_answers.specs.Evaluation.{is_noted, reached_at, under_key}
use Rattle.ofrep_answers.specs.declared.answer.FlagReached.{FlagReached}

-- nothing, where no site was reached
pub kept : (old : List (List ℕ × List Reach)) (key : List ℕ) (all : List Reach) (sites : List Reached) → map reach_view sites ≡ filter is_noted all → (length sites == 0) ≡ true → old ≡ old ++ reached_at key all
kept old key all [] m h = sym (ap (λ rs. old ++ under_key key rs) (sym m) ∙ append-nil old)
kept old key all (site ∷ sites) m h = let z = eqb-true (length (site ∷ sites)) 0 h in absurd (omega (arith, z))

-- the sites under the flag's key
pub added : (old : List FlagReached) (e : FlagReached) (key : List ℕ) (all : List Reach) (sites : List Reached) → map reach_view sites ≡ filter is_noted all → (length sites == 0) ≡ false → string_bytes e.flag ≡ key
    → e.reached.items ≡ sites → map reached_view (old ++ e ∷ []) ≡ map reached_view old ++ reached_at key all
added old e key all [] m h f g = cc
added old e key all (site ∷ sites) m h f g =
    map-append reached_view old (e ∷ []) ∙ (ap₂ (λ k ys. map reached_view old ++ (k, map reach_view ys) ∷ []) f g ∙ ap (λ rs. map reached_view old ++ under_key key rs) m)

-- of the sites that are left, what they show
left_view : (xs : List Reached) → map reach_view (filter (λ x. is_noted (reach_view x)) xs) ≡ filter is_noted (map reach_view xs)
left_view [] = refl
left_view (x ∷ xs) = go (is_noted (reach_view x)) (left_view xs)
  where
    go : (b : Bool) → map reach_view (filter (λ y. is_noted (reach_view y)) xs) ≡ filter is_noted (map reach_view xs)
        → map reach_view (cond b (x ∷ filter (λ y. is_noted (reach_view y)) xs) (filter (λ y. is_noted (reach_view y)) xs)) ≡ cond b (reach_view x ∷ filter is_noted (map reach_view xs)) (filter is_noted (map reach_view xs))
    go true h = ap (λ rs. reach_view x ∷ rs) h
    go false h = h

-- what is left of them by a test of one after the other
pub left : {F : Type 0} (R : F → Reached → Bool → F → Type 0) (f : F) (h : (x : Reached) (b : Bool) (f' : F) → R f x b f' → (b ≡ is_noted (reach_view x)) × (f' ≡ f)) → (xs ys : List Reached) → IsFiltered R f xs ys
    → map reach_view ys ≡ filter is_noted (map reach_view xs)
left R f h xs ys r = ap (map reach_view) (filter_same R (λ x. is_noted (reach_view x)) f h xs ys r) ∙ left_view xs
