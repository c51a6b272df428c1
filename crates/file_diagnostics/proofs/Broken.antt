-- The lines of broken flags, one behind the other.
use Rattle.std.proofs.Common.{◌≡◌, ℕ, ◌+◌, List, [], ◌∷◌, ◌++◌, drop, Option, Some, None, String, Global, string_bytes, length, ◌≤◌, append-nil, ◌∙◌, add-one, ap, drop-cons, arith, get_or, ◌<◌, suc, refl, subst, append_assoc}
use Rattle.std.proofs.lemmas.List.{drop_all}
use Rattle.flag_text.specs.View.{members_view}
use Rattle.flag_text.specs.declared.tree.Tree.{Tree}
use Rattle.flag_defs.specs.declared.definition_error.DefinitionError.{DefinitionError}
use Rattle.flag_text.specs.Shape.{Members, no_members, member}
use Rattle.flag_defs.specs.DefinitionError.{AllTell}
use Rattle.file_diagnostics.specs.Broken.{BrokenLines, IsBrokenLine}

-- the element at a place, before those after it
pub element_here : {X : Type 0} (xs : List X) (i : ℕ) (default x : X) → i < length xs → get_or xs i default ≡ x → drop i xs ≡ x ∷ drop (i + 1) xs
element_here xs i default x below is = rw add-one (drop-cons xs i default below ∙ ap (λ y. y ∷ drop (suc i) xs) is)

-- the flag at a place, before those after it
pub flag_here : {X : Type 0} (xs : List X) (i : ℕ) → i < length xs → (x : X) × (drop i xs ≡ x ∷ drop (i + 1) xs)
flag_here [] i below = absurd (nothing i below)
  where
    nothing : (i : ℕ) → i < 0 → ⊥
    nothing i below = omega (arith, below)
flag_here (x ∷ xs) i below = (get_or (x ∷ xs) i x, rw add-one (drop-cons (x ∷ xs) i x below))

module _ (flags : List (String Global × Tree)) (found : List (Option DefinitionError)) where
  -- whatever lines are told of the flags from a place on, behind this text they are told of all
  abbrev pub Whole : ℕ → List ℕ → Type 0
  Whole i text = (rest : List ℕ) → BrokenLines (members_view (drop i flags)) (drop i found) rest → BrokenLines (members_view flags) found (text ++ rest)

  -- behind the last nothing is told
  pub ended : (i : ℕ) (text : List ℕ) → length flags ≤ i → length found ≤ i → Whole i text → BrokenLines (members_view flags) found text
  ended i text all told whole =
      let none : BrokenLines (members_view (drop i flags)) (drop i found) [] = rw (drop_all i flags all) refl in
      subst (BrokenLines (members_view flags) found) (append-nil text) (whole [] none)

  module _ (i : ℕ) (flag : String Global × Tree) (text : List ℕ) where
    pub good : drop i flags ≡ flag ∷ drop (i + 1) flags → drop i found ≡ None ∷ drop (i + 1) found → Whole i text → Whole (i + 1) text
    good here told whole rest lines = whole rest (rw (here, told) lines)

    pub bad : (b : DefinitionError) (line : List ℕ) → drop i flags ≡ flag ∷ drop (i + 1) flags → drop i found ≡ Some b ∷ drop (i + 1) found → IsBrokenLine (string_bytes flag.0) b line
        → Whole i text → Whole (i + 1) (text ++ line)
    bad b line here told is whole rest lines = rw (append_assoc text line rest) (whole (line ++ rest) (rw (here, told) (line, rest, is, refl, lines)))

abbrev rest_of : Members → Members
rest_of no_members = no_members
rest_of (member k t flags) = flags

-- as many definition_errors as flags
tell_all : (evaluators flags : Members) (found : List (Option DefinitionError)) → AllTell evaluators flags found → (ms : List (String Global × Tree)) → members_view ms ≡ flags → length found ≡ length ms
tell_all evaluators no_members [] told [] is = refl
tell_all evaluators no_members [] told (m ∷ ms) is = cc
tell_all evaluators no_members (b ∷ found) told ms is = absurd told
tell_all evaluators (member k t flags) [] told ms is = absurd told
tell_all evaluators (member k t flags) (b ∷ found) told [] is = cc
tell_all evaluators (member k t flags) (b ∷ found) told (m ∷ ms) is = ap suc (tell_all evaluators flags found told.1 ms (ap rest_of is))

pub as_many : (evaluators : Members) (ms : List (String Global × Tree)) (flags : Members) (found : List (Option DefinitionError)) → members_view ms ≡ flags → AllTell evaluators flags found → length found ≡ length ms
as_many evaluators ms flags found is told = tell_all evaluators flags found told ms is
