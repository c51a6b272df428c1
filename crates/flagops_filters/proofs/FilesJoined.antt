-- What is joined of files is the tally of the union of what they are tallies of.
use Rattle.std.proofs.Common.{◌≡◌, ◌∙◌, ℕ, List, [], ◌∷◌, ◌++◌, Result, Ok, Err, append-nil, append_assoc, ap, refl, sym, subst, inl, inr}
use Rattle.book_core.specs.Book.{Inputs}
use Rattle.flagops_shell.specs.Files.{Holding}
use Rattle.note_tallies.specs.JoinLaw as tally
use Rattle.note_tallies.specs.Tally.{PageTally}
use Rattle.note_tallies.specs.Joined.{all_of}
use Rattle.flagops_filters.specs.Join.{JoinsFiles}
use Rattle.flagops_filters.specs.Law.{HoldTallies, JoinsFileSets}
use Rattle.flagops_filters.specs.declared.refusal.FilterRefusal.{FilterRefusal}

no_answer : {X E Y : Type 0} {x : X} {e : E} → Ok x ≡ Err e → Y
no_answer is = cc

one_answer : (x y : PageTally) (r : Result PageTally FilterRefusal) → r ≡ Ok x → r ≡ Ok y → x ≡ y
one_answer x y r is also = cc

module _ (joins : tally.JoinsSets) (at : Holding) where
  -- of one and of the files that are left
  joins_more : (paths : List (List ℕ)) (sets : List Inputs) (members : Inputs) (one all : PageTally) → tally.IsRangeOf members one → HoldTallies at paths sets → JoinsFiles at one paths (Ok all) → tally.IsRangeOf (members ++ all_of sets) all
  joins_more [] sets members one all is none joined =
      let same : members ≡ members ++ all_of sets = sym (ap (λ (ss : List Inputs). members ++ all_of ss) none ∙ append-nil members) in
      subst (λ (xs : Inputs). tally.IsRangeOf xs all) same (subst (λ (t : PageTally). tally.IsRangeOf members t) (sym (one_answer all one (Ok all) refl joined)) is)
  joins_more (path ∷ paths) sets members one all is holds (inl step) =
      let both = joins one step.0 step.1 members holds.0 is (holds.3 step.0 step.2) step.3 in
      let rest = joins_more paths holds.1 (members ++ holds.0) step.1 all both holds.4 step.4 in
      subst (λ (xs : Inputs). tally.IsRangeOf xs all) (append_assoc members holds.0 (all_of holds.1) ∙ ap (λ (ss : List Inputs). members ++ all_of ss) (sym holds.2)) rest
  joins_more (path ∷ paths) sets members one all is holds (inr (inl refused)) = no_answer refused.4
  joins_more (path ∷ paths) sets members one all is holds (inr (inr unread)) = no_answer unread.2

pub files_joined : tally.JoinsSets → JoinsFileSets
files_joined joins at [] sets all holds joined = absurd joined
files_joined joins at (path ∷ paths) sets all holds (inl first) =
    subst (λ (ss : List Inputs). tally.IsRangeOf (all_of ss) all) (sym holds.2) (joins_more joins at paths holds.1 holds.0 first.0 all (holds.3 first.0 first.1) holds.4 first.2)
files_joined joins at (path ∷ paths) sets all holds (inr unread) = no_answer unread.2
