-- What is known of the evaluators of a document: the measures of their inlined forms.
use Rattle.std.specs.Prelude.{◌≡◌, ℕ, List, [], ◌∷◌, map, count_by, slice_index_or, Option, Some, None, IfSome, is_none, is_some, true, ◌<◌, length, option_map, String}
use Rattle.std.specs.declared.alloc.Global.{Global}
use Rattle.flag_text.specs.Readers.{find_member}
use Rattle.flag_text.specs.Shape.{Shape, Members, no_members, member, members_are_tidy, names_rise}
use Rattle.flag_text.specs.View.{view, members_view}
use Rattle.flag_text.specs.declared.tree.Tree.{Tree}
use Rattle.flag_references.specs.Inlining.{replaced, reference_in, IsInlined}
use Rattle.flag_references.specs.Measure.{measure, measured, known}
use Rattle.flag_references.specs.declared.measure.Measure.{Measure}

-- each form in the list is that of the member at its place
abbrev pub AreForms : Members → Members → List (Option Shape) → Type 0
AreForms evaluators no_members es = Unit {0}
AreForms evaluators (member k t ms) [] = Unit {0}
AreForms evaluators (member k t ms) (e ∷ es) = IfSome e (λ u. IsInlined evaluators t u) × AreForms evaluators ms es

-- a name that has no form names a tree in which such a name stands
abbrev pub IsClosed : Members → (List ℕ → Option Shape) → Type 0
IsClosed evaluators s = (name : List ℕ) (t : Shape) → find_member name evaluators ≡ Some t → s name ≡ None → replaced s t ≡ None

-- forms of some of the evaluators, with their measures
pub record Knows (evaluators : Members) (measures : List (Option Measure)) : Type 0 where
  pub forms : List (Option Shape)
  pub each : measures ≡ map (option_map measure) forms
  pub are_forms : AreForms evaluators evaluators forms

-- forms of all the evaluators that have one
pub record KnowsAll (evaluators : Members) (measures : List (Option Measure)) : Type 0 where
  pub forms : List (Option Shape)
  pub each : measures ≡ map (option_map measure) forms
  pub are_forms : AreForms evaluators evaluators forms
  pub closed : IsClosed evaluators (known evaluators forms)

-- h is no reference, and has the form of t
pub record IsEndOf (evaluators : Members) (t h : Shape) : Type 0 where
  pub ends : reference_in h ≡ None
  pub same : (u : Shape) → IsInlined evaluators t u → IsInlined evaluators h u

-- the evaluator at h is no reference, and has the form of the one at i
pub record IsHead (ms : List (String Global × Tree)) (i : ℕ) (h : ℕ) : Type 0 where
  pub within : h < length ms
  pub ends : (d : String Global × Tree) → reference_in (view (slice_index_or ms h d).1) ≡ None
  pub same : (d e : String Global × Tree) (u : Shape) → IsInlined (members_view ms) (view (slice_index_or ms i d).1) u → IsInlined (members_view ms) (view (slice_index_or ms h e).1) u

-- the end of the references from each evaluator that is known
pub record AreHeads (ms : List (String Global × Tree)) (measures : List (Option Measure)) (heads : List ℕ) : Type 0 where
  pub each : length heads ≡ length ms
  pub heads_of : (i : ℕ) → i < length ms → is_some (slice_index_or measures i None) ≡ true → IsHead ms i (slice_index_or heads i 0)

-- the evaluators of a document, and the measures of those that have been measured
pub record Learned : Type 0 where
  pub members : List (String Global × Tree)
  pub measures : List (Option Measure)

-- what a table says of the evaluators of a document
pub record IsTable (ms : List (String Global × Tree)) (measures : List (Option Measure)) (heads : List ℕ) : Type 0 where
  pub rising : names_rise (members_view ms) ≡ true
  pub each : length measures ≡ length ms
  pub knows : Knows (members_view ms) measures
  pub ends : AreHeads ms measures heads

-- all of tidy evaluators that have a form are measured
pub record IsWhole (t : Learned) : Type 0 where
  pub tidy : members_are_tidy (members_view t.members) ≡ true
  pub knows_all : KnowsAll (members_view t.members) t.measures

-- how many are not known
abbrev pub unknown_count : List (Option Measure) → ℕ
unknown_count measures = count_by is_none measures

-- the evaluator at this place is known, or refers to one that is not
abbrev pub IsStuck : List (String Global × Tree) → List (Option Measure) → ℕ → Type 0
IsStuck ms measures i =
    (d : String Global × Tree) → slice_index_or measures i None ≡ None → measured (known (members_view ms) measures) (view (slice_index_or ms i d).1) ≡ None
