-- The tally of the union of many sets.
use Rattle.std.proofs.Common.{◌≡◌, ◌⊎◌, List, [], ◌∷◌, ◌++◌, Result, Ok, Err, append_assoc, append-nil, refl, sym, ap, subst, ⊎_elim}
use Rattle.note_tallies.specs.Join.{Joins}
use Rattle.note_tallies.specs.JoinLaw.{IsRangeOf, IsRangeOfHashes, JoinsHashes, JoinsSets}
use Rattle.note_tallies.specs.Tally.{PageTally}
use Rattle.note_tallies.specs.declared.joining.JoinFault.{JoinFault}
use Rattle.note_tallies.specs.Joined.{AreTalliesBy, JoinsAll, JoinsAllBy, JoinsAllHashes, JoinsAllSets, all_of}

ok-same : (a b : PageTally) → (let r : Result PageTally JoinFault = Ok a in r) ≡ Ok b → a ≡ b
ok-same a b e = cc

cons-one : (a b : PageTally) (us bs : List PageTally) → a ∷ us ≡ b ∷ bs → (a ≡ b) × (us ≡ bs)
cons-one a b us bs e = (cc, cc)

module _ {X : Type 0} (of : List X → PageTally → Type 0) where
  joins_by : ((one other both : PageTally) (some more : List X) → of some one → of more other → Joins one other (Ok both) → of (some ++ more) both) → JoinsAllBy of
  joins_by law members [] one [] all is are joins = subst (λ (xs : List X). of xs all) (sym (append-nil members)) (subst (of members) (sym (ok-same all one joins)) is)
  joins_by law members [] one (next ∷ others) all is are joins = cc
  joins_by law members (set ∷ sets) one [] all is are joins = let e = are.2 in cc
  joins_by law members (set ∷ sets) one (next ∷ others) all is are joins =
      let same = cons-one next are.0 others are.1 are.2 in
      let its : of set next = subst (of set) (sym same.0) are.3 in
      let rest : AreTalliesBy of sets others = subst (AreTalliesBy of sets) (sym same.1) are.4 in
      ⊎_elim
      (λ (j : (both : PageTally) × Joins one next (Ok both) × JoinsAll both others (Ok all)).
      subst (λ (xs : List X). of xs all) (append_assoc members set (all_of sets))
      (joins_by law (members ++ set) sets j.0 others all (law one next j.0 members set is its j.1) rest j.2))
      (λ (j : (fault : JoinFault) × Joins one next (Err fault) × (let r : Result PageTally JoinFault = Ok all in r ≡ Err fault)). let e = j.2 in cc)
      joins

pub joins_all : JoinsSets → JoinsAllSets
joins_all law = joins_by IsRangeOf law

pub joins_all_hashes : JoinsHashes → JoinsAllHashes
joins_all_hashes law = joins_by IsRangeOfHashes law
