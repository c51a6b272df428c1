-- Several tallies as one.
use Rattle.std.specs.Prelude.{◌≡◌, ◌⊎◌, List, [], ◌∷◌, ◌++◌, flat_map, Result, Ok, Err}
use Rattle.book_core.specs.Book.{Inputs}
use Rattle.note_tallies.specs.Join.{Joins}
use Rattle.note_tallies.specs.JoinLaw.{IsRangeOf, IsRangeOfHashes}
use Rattle.note_tallies.specs.Tally.{PageTally}
use Rattle.note_tallies.specs.declared.joining.JoinFault.{JoinFault}

-- each is joined with what was joined of those before it, and the first that is refused is the answer
abbrev pub JoinsAll : PageTally → List PageTally → Result PageTally JoinFault → Type 0
JoinsAll one [] r = r ≡ Ok one
JoinsAll one (next ∷ others) r = ((both : PageTally) × Joins one next (Ok both) × JoinsAll both others r) ⊎ ((fault : JoinFault) × Joins one next (Err fault) × (r ≡ Err fault))

-- they are the tallies of these sets, by what tells that one is that of a set
abbrev pub AreTalliesBy : {X : Type 0} → (List X → PageTally → Type 0) → List (List X) → List PageTally → Type 0
AreTalliesBy of [] tallies = tallies ≡ []
AreTalliesBy of (members ∷ sets) tallies = (one : PageTally) × (others : List PageTally) × (tallies ≡ one ∷ others) × of members one × AreTalliesBy of sets others

abbrev pub AreTalliesOf : List Inputs → List PageTally → Type 0
AreTalliesOf sets tallies = AreTalliesBy IsRangeOf sets tallies

abbrev pub all_of : {X : Type 0} → List (List X) → List X
all_of [] = []
all_of (members ∷ sets) = members ++ all_of sets

abbrev pub JoinsAllBy : {X : Type 0} → (List X → PageTally → Type 0) → Type 0
JoinsAllBy {X} of = (members : List X) (sets : List (List X)) (one : PageTally) (others : List PageTally) (all : PageTally)
    → of members one → AreTalliesBy of sets others → JoinsAll one others (Ok all) → of (members ++ all_of sets) all

-- what is joined of the tallies of sets of inputs is the tally of their union, in which each is there once
abbrev pub JoinsAllSets : Type 0
JoinsAllSets = JoinsAllBy IsRangeOf

-- the same of hashes
abbrev pub JoinsAllHashes : Type 0
JoinsAllHashes = JoinsAllBy IsRangeOfHashes
