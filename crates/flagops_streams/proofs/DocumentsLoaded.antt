-- Documents that are loaded, one after the other, and served.
use Rattle.std.proofs.Common.{◌≡◌, ◌+◌, ◌<◌, ◌∙◌, ◌||◌, ℕ, Bool, true, false, List, [], ◌∷◌, Option, Some, None, Result, Ok, Err, IfSome, option_map, refl, add-one, ap, drop, get_or, length, map, subst, sym}
use Rattle.std.proofs.Math.Seq.{drop-cons}
use Rattle.std.proofs.lemmas.Option.{slice_get-get_or, slice_get-map}
use Rattle.flagops_shell.specs.Files.{Holding}
use Rattle.flagops_shell.specs.Outcomes.{◌>>=◌}
use Rattle.flagops_streams.specs.Documents.{Answer, ServesTo}
use Rattle.flagops_streams.specs.Refusal.{is_unreadable, is_want}
use Rattle.flagops_streams.specs.declared.refusal.Refusal.{Refusal}
use Rattle.flagops_streams.specs.declared.refusal.Refusal.TheVariants.{Add, Unreadable, Unloaded, Set, Merged, Share, Publish, Unbound, NoConnection, NoThread, Unreachable, Unserved, WantOfMemory}
use Rattle.flagops_streams.specs.Loading.{AnswersTo, IsFirstRefused, Loaded, ServesLoaded, TellsUnloaded, loaded_at, loaded_from, loaded_next, refused_from, refused_here}
use Rattle.flagops_streams.specs.Told.{TellsOfFile, TellsReason, TellsReasonAt}
use Rattle.flagops_streams.specs.Why.{IsOneOf, refused_document}
use Rattle.flagops_streams.proofs.Reasons.{file_told, reason_at}
use Rattle.flagops_streams.specs.Words.{Serving}

-- what follows for files whose bytes are known
pub where_known : {A : Type 0} (h : Option A) (P Q : A → Type 0) → ((a : A) → P a → Q a) → IfSome h P → IfSome h Q
where_known None P Q f p = tt
where_known (Some a) P Q f p = f a p

-- the same of two facts, where the files stay
pub both_known : {A : Type 0} (h k : Option A) (P S : A → Type 0) → k ≡ h → IfSome h P → {Q : A → Type 0} → IfSome k Q → ((a : A) → P a → Q a → S a) → IfSome h S
both_known {A} h k P S same p {Q} q f = go h p (subst (λ (o : Option A). IfSome o Q) same q)
  where
    go : (o : Option A) → IfSome o P → IfSome o Q → IfSome o S
    go None p q = tt
    go (Some a) p q = f a p q

-- the first of those that are left, and those behind it
pub first_left : {X : Type 0} (now : X → List ℕ) (xs : List X) (i : ℕ) (z : X) → i < length xs → map now (drop i xs) ≡ now (get_or xs i z) ∷ map now (drop (i + 1) xs)
first_left now xs i z inside =
    let left : drop i xs ≡ get_or xs i z ∷ drop (i + 1) xs = rw add-one (drop-cons xs i z inside) in
    ap (map now) left

-- one of them
pub one_of : {X : Type 0} (now : X → List ℕ) (xs : List X) (i : ℕ) (z : X) → i < length xs → IsOneOf (map now xs) (now (get_or xs i z))
one_of now xs i z inside = (i, slice_get-map now xs i ∙ ap (option_map now) (slice_get-get_or xs i z inside))

-- where the first of the paths left is refused, so are all
pub refused_next : (at : Holding) (d : Loaded) (path : List ℕ) (paths rest : List (List ℕ)) (all : Result Loaded Refusal) (refusal : Refusal)
    → loaded_from at d paths ≡ all → loaded_next at d path ≡ Err refusal → paths ≡ path ∷ rest → all ≡ Err refusal
refused_next at d path paths rest all refusal so_far next first =
    sym so_far ∙ ap (loaded_from at d) first ∙ ap (λ (r : Result Loaded Refusal). r >>= λ more. loaded_from at more rest) next

-- and it is the first that is refused
pub refused_first : (at : Holding) (d : Loaded) (path : List ℕ) (paths rest : List (List ℕ)) (all : Option (List ℕ)) (refusal : Refusal)
    → refused_from at d paths ≡ all → loaded_next at d path ≡ Err refusal → paths ≡ path ∷ rest → all ≡ Some path
refused_first at d path paths rest all refusal so_far next first =
    sym so_far ∙ ap (refused_from at d) first ∙ ap (refused_here path (λ more. refused_from at more rest)) next

-- ---- a read that failed

pub unreadable_is : (r : Refusal) → is_unreadable r ≡ true → r ≡ Unreadable
unreadable_is (Add e) is = cc
unreadable_is Unreadable is = refl
unreadable_is Unloaded is = cc
unreadable_is (Set e place) is = cc
unreadable_is (Merged e) is = cc
unreadable_is (Share e) is = cc
unreadable_is (Publish e) is = cc
unreadable_is Unbound is = cc
unreadable_is NoConnection is = cc
unreadable_is NoThread is = cc
unreadable_is Unreachable is = cc
unreadable_is (Unserved missed) is = cc
unreadable_is WantOfMemory is = cc

-- why documents at these paths were not loaded was told
pub unloaded_told : (paths : List (List ℕ)) (path : List ℕ) (refusal : Refusal) (old new : Option (List ℕ)) (is_mute : Bool)
    → IsOneOf paths path → None ≡ refused_document refusal → (is_unreadable refusal ≡ false → TellsReason refusal old new is_mute) → (refusal ≡ Unreadable → TellsOfFile path old new is_mute) → TellsReasonAt paths refusal old new is_mute
unloaded_told paths path refusal old new is_mute one none told names = by (is_unreadable refusal) refl
  where
    by : (b : Bool) → is_unreadable refusal ≡ b → TellsReasonAt paths refusal old new is_mute
    by true is = subst (λ (r : Refusal). TellsReasonAt paths r old new is_mute) (sym (unreadable_is refusal is)) (file_told paths path old new is_mute one (names (unreadable_is refusal is)))
    by false is = reason_at paths refusal old new is_mute none (told is)

-- it failed now, where it had not before
pub failed_now : (old new now : Bool) → new ≡ (old || now) → old ≡ false → new ≡ true → now ≡ true
failed_now old new now is fine failed = sym (sym failed ∙ is ∙ ap (λ (b : Bool). b || now) fine)

-- what serving the documents that were loaded gives is what the words and the files give
pub loaded_served : (at : Holding) (s : Serving) (d : Loaded) (answer : Answer) → loaded_at at s.documents ≡ Ok d → ServesTo s.floats s.subscribers d.sources d.texts [] answer → AnswersTo at s answer
loaded_served at s d (Ok published) loaded served = subst (λ (r : Result Loaded Refusal). ServesLoaded s.floats s.subscribers r (Ok published)) (sym loaded) served
loaded_served at s d (Err refusal) loaded served = λ _. subst (λ (r : Result Loaded Refusal). ServesLoaded s.floats s.subscribers r (Err refusal)) (sym loaded) served

-- and so is why they were not loaded
pub not_loaded : (at : Holding) (s : Serving) (refusal : Refusal) → (is_want refusal ≡ false → loaded_at at s.documents ≡ Err refusal) → AnswersTo at s (Err refusal)
not_loaded at s refusal loaded = λ other. subst (λ (r : Result Loaded Refusal). ServesLoaded s.floats s.subscribers r (Err refusal)) (sym (loaded other)) refl

-- an answer to what is asked, and its report
pub answered : (holding : Option Holding) (s : Serving) (answer : Answer) (Reported : Holding → Answer → Type 0)
    → IfSome holding (λ at. AnswersTo at s answer) → ((at : Holding) → Reported at answer)
    → IfSome holding (λ at. (r : Answer) × AnswersTo at s r × Reported at r)
answered holding s answer Reported answers report =
    where_known holding (λ at. AnswersTo at s answer) (λ at. (r : Answer) × AnswersTo at s r × Reported at r) (λ at h. (answer, h, report at)) answers

-- the same over the words' own paths, of which the slice was taken
module _ {X : Type 0} (now : X → List ℕ) (slice items : List X) (same : slice ≡ items) (holding : Option Holding) (s : Serving) (paths : s.documents ≡ map now items) where
  pub named : map now slice ≡ s.documents
  named = ap (map now) same ∙ sym paths

  pub all_served : (d : Loaded) (answer : Answer) (Reported : Holding → Answer → Type 0)
      → IfSome holding (λ at. loaded_at at (map now slice) ≡ Ok d) → ServesTo s.floats s.subscribers d.sources d.texts [] answer → ((at : Holding) → loaded_at at s.documents ≡ Ok d → Reported at answer)
      → IfSome holding (λ at. (r : Answer) × AnswersTo at s r × Reported at r)
  all_served d answer Reported loaded served report =
      where_known holding (λ at. loaded_at at (map now slice) ≡ Ok d) (λ at. (r : Answer) × AnswersTo at s r × Reported at r)
      (λ at e. let all = ap (loaded_at at) (sym named) ∙ e in (answer, loaded_served at s d answer all served, report at all)) loaded

  pub none_served : (refusal : Refusal) → IfSome holding (λ at. is_want refusal ≡ false → loaded_at at (map now slice) ≡ Err refusal) → IfSome holding (λ at. AnswersTo at s (Err refusal))
  none_served refusal loaded =
      where_known holding (λ at. is_want refusal ≡ false → loaded_at at (map now slice) ≡ Err refusal) (λ at. AnswersTo at s (Err refusal))
      (λ at e. not_loaded at s refusal (λ other. ap (loaded_at at) (sym named) ∙ e other)) loaded

  -- the path of the first that was refused is one of these
  pub told_of : (path : List ℕ) (old new : Option (List ℕ)) (is_mute : Bool) → IsFirstRefused holding (map now slice) path → TellsOfFile path old new is_mute → TellsUnloaded holding s.documents old new is_mute
  told_of path old new is_mute first told = (path, subst (λ (ps : List (List ℕ)). IsFirstRefused holding ps path) named first, told)
