-- The first variant, by the names of all.
use Rattle.std.proofs.Common.{◌≡◌, ◌∙◌, ℕ, Bool, true, false, List, [], ◌∷◌, Option, Some, None, Global, String, ap, map, refl, slice_get, string_bytes}
use Rattle.std.specs.Prelude.{if◌then◌else◌, option_and_then}
use Rattle.std.specs.Str.{bytes_eq}
use Rattle.std.proofs.lemmas.Cmp.{nat_list_eq_equiv}
use Rattle.flag_defs.specs.Definition.{Definition, broken, good}
use Rattle.flag_defs.specs.Flag.{is_broken, member_names, variants_in}
use Rattle.flag_defs.specs.Kind.{kind_of}
use Rattle.flag_defs.specs.declared.kind.Kind.{Kind}
use Rattle.flag_text.specs.Readers.{find_member}
use Rattle.flag_text.specs.Shape.{Members, no_members, member}
use Rattle.control_flags.specs.Kinds.{first_kind}

bytes_eq-same : (a : List ℕ) → bytes_eq a a ≡ true
bytes_eq-same a = nat_list_eq_equiv.refl a

-- the first name is that of the first member
of_names : (ms : Members) (name : List ℕ) (names : List (List ℕ)) → name ∷ names ≡ member_names ms → option_and_then kind_of (find_member name ms) ≡ first_kind ms
of_names no_members name names is = let none : name ∷ names ≡ [] = is in cc
of_names (member k t ms) name names is =
    let parts : name ∷ names ≡ k ∷ member_names ms = is in
    let same : name ≡ k = cc in
    ap (λ (b : Bool). option_and_then kind_of (if b then Some t else find_member name ms)) (ap (bytes_eq k) same ∙ bytes_eq-same k)

-- the kind of the value of a name
abbrev pub kind_at : Members → String Global → Option Kind
kind_at ms name = option_and_then kind_of (find_member (string_bytes name) ms)

pub of_first : (ms : Members) (names : List (String Global)) (o : Option (String Global)) → o ≡ slice_get names 0 → map string_bytes names ≡ member_names ms → option_and_then (kind_at ms) o ≡ first_kind ms
of_first no_members [] o at is = ap (option_and_then (kind_at no_members)) at
of_first no_members (n ∷ ns) o at is = let none : string_bytes n ∷ map string_bytes ns ≡ [] = is in cc
of_first (member k t ms) [] o at is = let none : [] ≡ k ∷ member_names ms = is in cc
of_first (member k t ms) (n ∷ ns) o at is = ap (option_and_then (kind_at (member k t ms))) at ∙ of_names (member k t ms) (string_bytes n) (map string_bytes ns) is

-- a broken flag has none
pub of_broken : (d : Definition) → is_broken d ≡ true → None ≡ first_kind (variants_in d)
of_broken broken is = refl
of_broken (good r) is = let no : false ≡ true = is in cc
