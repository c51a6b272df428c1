-- What the printed form of a document leaves out.
use Rattle.std.proofs.Common.{◌≡◌, ◌+◌, add-one, ◌||◌, ◌++◌, ◌∙◌, ℕ, ◌<◌, Bool, false, List, [], ◌∷◌, Option, Some, None, IfSome, ap, append-nil, drop, drop-cons, get_or, length, slice_get, suc, take}
use Rattle.std.specs.List.{flat_map, list_any}
use Rattle.std.proofs.lemmas.Grind.{flat_map-append}
use Rattle.std.proofs.lemmas.List.{take_more}
use Rattle.std.proofs.lemmas.Option.{get_or_from_slice_get, slice_get_within}
use Rattle.flag_defs.specs.Document.{Definitions}
use Rattle.file_diagnostics.specs.Named.{Names}
use Rattle.flagops_rollouts.specs.Omitted.{TellsOmitted, broken_lines}
use Rattle.flagops_rollouts.proofs.Doubting.{named_still}
use Rattle.flagops_shell.specs.Diagnostic.{Says}
use Rattle.flagops_shell.specs.declared.refused.Remark.{Remark}
use Rattle.flagops_shell.specs.declared.refused.Remark.TheVariants.{Short, Lines}

-- ---- what is told

tells : (path : List ℕ) (flags : Definitions) (lines : List ℕ) → TellsOmitted path flags lines → Names path lines
unfolding TellsOmitted
tells path flags lines (front, named, is) = named_still path front (broken_lines flags) lines named is

-- it begins with the path of the document
pub of_document : (path : List ℕ) (flags : Definitions) (remark : Remark) → Says (TellsOmitted path flags) remark → Says (Names path) remark
of_document path flags Short told = tt
of_document path flags (Lines lines) told = tells path flags _ told

pub told_names : (path : List ℕ) (flags : Definitions) (o : Option Remark) → IfSome o (Says (TellsOmitted path flags)) → IfSome o (Says (Names path))
told_names path flags None told = tt
told_names path flags (Some remark) told = of_document path flags remark told

-- ---- flags that are looked at one by one

-- the one at a place is the first of those that are left from there on
left_at : {X : Type 0} (xs : List X) (i : ℕ) (x : X) → i < length xs → get_or xs i x ≡ x → drop i xs ≡ x ∷ drop (i + 1) xs
left_at xs i x h is = rw (add-one, drop-cons xs i x h) (ap (λ y. y ∷ drop (suc i) xs) is)

-- one that does not pass makes no difference to those that are left
pub one_passed : {X : Type 0} (test : X → Bool) (xs : List X) (i : ℕ) (x : X) → slice_get xs i ≡ Some x → test x ≡ false → list_any test (drop i xs) ≡ list_any test (drop (i + 1) xs)
one_passed test xs i x at fails =
    ap (list_any test) (left_at xs i x (slice_get_within xs i x at) (get_or_from_slice_get xs i x x at)) ∙ ap (λ b. b || list_any test (drop (i + 1) xs)) fails

-- what the next one gives stands behind what those before it gave
module _ {X A : Type 0} (f : X → List A) (xs : List X) (i : ℕ) (x : X) where
  from_parts : take (i + 1) xs ≡ take i xs ++ x ∷ [] → flat_map f (take (i + 1) xs) ≡ flat_map f (take i xs) ++ f x
  from_parts parts = ap (flat_map f) parts ∙ flat_map-append f (take i xs) (x ∷ []) ∙ ap (λ (t : List A). flat_map f (take i xs) ++ t) (append-nil (f x))

  pub one_more : slice_get xs i ≡ Some x → flat_map f (take (i + 1) xs) ≡ flat_map f (take i xs) ++ f x
  one_more is = from_parts (take_more xs i x (slice_get_within xs i x is) ∙ ap (λ (y : X). take i xs ++ y ∷ []) (get_or_from_slice_get xs i x x is))
