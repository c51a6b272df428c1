-- A tree of which only the members of some names are kept.
use Rattle.std.specs.Prelude.{◌≡◌, ◌≢◌, ℕ, Bool, true, List, Result, Ok, Err}
use Rattle.std.specs.List.{list_any}
use Rattle.std.specs.Str.{bytes_eq}
use Rattle.flag_text.specs.Readers.{find_member, member_of}
use Rattle.flag_text.specs.Shape.{Shape, null, boolean, whole, other, text, list, object, Members}
use Rattle.flag_text.specs.View.{view}
use Rattle.flag_text.specs.declared.fault.TextFault.{TextFault}
use Rattle.flag_text.specs.declared.fault.TextFault.TheVariants.{WantOfMemory}
use Rattle.flag_text.specs.declared.tree.Tree.{Tree}

abbrev pub is_among : List (List ℕ) → List ℕ → Bool
is_among names name = list_any (bytes_eq name) names

-- each of these names has the same member in both, or in none
abbrev pub AgreeOn : List (List ℕ) → Members → Members → Type 0
AgreeOn names ms ns = (name : List ℕ) → is_among names name ≡ true → find_member name ms ≡ find_member name ns

-- The second is the first as to the members of these names. What is no object is the same.
abbrev pub Keeps : List (List ℕ) → Shape → Shape → Type 0
Keeps names null u = u ≡ null
Keeps names (boolean b) u = u ≡ boolean b
Keeps names (whole n) u = u ≡ whole n
Keeps names other u = u ≡ other
Keeps names (text s) u = u ≡ text s
Keeps names (list ts) u = u ≡ list ts
Keeps names (object ms) u = (kept : Members) × (u ≡ object kept) × AgreeOn names kept ms

-- so the tree is as to what is wanted, which is a tree
abbrev pub IsKeptOf : List (List ℕ) → Result Shape TextFault → Tree → Type 0
IsKeptOf names wanted t = (all : Shape) × (wanted ≡ Ok all) × Keeps names all (view t)

-- What was returned is what is wanted, as to the members of these names, unless memory ran out.
abbrev pub GivesNamed : List (List ℕ) → Result Tree TextFault → Result Shape TextFault → Type 0
GivesNamed names (Ok t) wanted = IsKeptOf names wanted t
GivesNamed names (Err e) wanted = e ≢ WantOfMemory → wanted ≡ Err e

-- a member of one of the names is that of the whole tree
abbrev pub SameMembers : Type 0
SameMembers = (names : List (List ℕ)) (t u : Shape) (name : List ℕ) → Keeps names t u → is_among names name ≡ true → member_of name u ≡ member_of name t
