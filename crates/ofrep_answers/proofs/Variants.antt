-- The variants of a flag are of one kind.
use Rattle.std.proofs.Common.{◌≡◌, ℕ, Bool, true, false, ◌&&◌, ◌||◌, if◌then◌else◌, nat_le, List, [], ◌∷◌, map, Option, None, Some, refl, sym, ap, subst, ◌∙◌}
use Rattle.std.proofs.lemmas.Slice.Eq.{bytes_eq-Decides}
use Rattle.std.specs.List.{slice_get}
use Rattle.std.specs.Prelude.{String, string_bytes}
use Rattle.std.specs.Str.{bytes_eq}
use Rattle.std.specs.declared.alloc.Global.{Global}
use Rattle.flag_text.proofs.Bools.{Holds, left, right}
use Rattle.flag_text.specs.Readers.{find_member}
use Rattle.flag_text.specs.Shape.{Shape, boolean, whole, text, object, Members, no_members, member, is_whole, levels}
use Rattle.flag_defs.proofs.Lawful.{lawful_flag}
use Rattle.flag_defs.specs.Definition.{Definition, broken, good, Rules, all_values, are_of_one_kind, are_variants, member_count}
use Rattle.flag_defs.specs.Flag.{flag_view, is_broken, is_definition, member_names, variant_of, variants_in}
use Rattle.flag_defs.specs.Rules.{are_rules}
use Rattle.flag_defs.specs.declared.flag.Flag.{Flag}
use Rattle.flag_defs.specs.Kind.{is_of_kind}
use Rattle.flag_defs.specs.declared.kind.Kind.{Kind}
use Rattle.flag_defs.specs.declared.kind.Kind.TheVariants as kind
use Rattle.ofrep_answers.specs.Kind.{kind_in, kind_of, variants_kind}

-- it is a kind of the values of a tree
is_own : Kind → Bool
is_own kind.Float = false
is_own k = true

-- a value of such a kind has that kind
kind_is : (k : Kind) (t : Shape) → is_own k ≡ true → is_of_kind k t ≡ true → kind_of t ≡ k
unfolding is_own
kind_is kind.Bool (boolean b) own h = refl
kind_is kind.Bool t own h = cc
kind_is kind.Text (text s) own h = refl
kind_is kind.Text t own h = cc
kind_is kind.Whole (whole n) own h = refl
kind_is kind.Whole t own h = cc
kind_is kind.Object (object ms) own h = refl
kind_is kind.Object t own h = cc
kind_is kind.Float t own h = cc

chosen : (f : Shape → Bool) (b : Bool) (t : Shape) (o : Option Shape) → f t ≡ true → Holds f o → Holds f (if b then Some t else o)
chosen f true t o h rest = h
chosen f false t o h rest = rest

-- what holds of each value holds of the one that is found
found : (f : Shape → Bool) (name : List ℕ) (ms : Members) → all_values f ms ≡ true → Holds f (find_member name ms)
found f name no_members h = tt
found f name (member k t ms) h =
    chosen f (bytes_eq k name) t (find_member name ms) (left (f t) (all_values f ms) h) (found f name ms (right (f t) (all_values f ms) h))

nothing_found : (v : Shape) → None ≡ Some v → ⊥
nothing_found v e = cc

-- the value is of the kind of the variants
abbrev pub IsOne : Members → Shape → Type 0
IsOne ms v = (kind_of v ≡ variants_kind ms) × (is_of_kind (variants_kind ms) v ≡ true)

of_kind : (k : Kind) (name : List ℕ) (ms : Members) (v : Shape) → is_own k ≡ true → all_values (λ t. is_of_kind k t) ms ≡ true → find_member name ms ≡ Some v → IsOne ms v
of_kind k name no_members v own h e = absurd (nothing_found v e)
of_kind k name (member l t ms) v own h e =
    let one : is_of_kind k v ≡ true = subst (Holds (λ u. is_of_kind k u)) e (found (λ u. is_of_kind k u) name (member l t ms) h) in
    let first : kind_of t ≡ k = kind_is k t own (left (is_of_kind k t) (all_values (λ u. is_of_kind k u) ms) h) in (
      kind_is k v own one ∙ sym first,
      ap (λ i. is_of_kind i v) first ∙ one,
    )

or_else : {C : Type 0} (a b : Bool) → (a || b) ≡ true → (a ≡ true → C) → (b ≡ true → C) → C
or_else true b h f g = f refl
or_else false b h f g = g h

abbrev all_of : Kind → Members → Bool
all_of k ms = all_values (λ t. is_of_kind k t) ms

one_kind : (name : List ℕ) (ms : Members) (v : Shape) → are_of_one_kind ms ≡ true → find_member name ms ≡ Some v → IsOne ms v
unfolding is_own
one_kind name ms v h e =
    or_else (all_of kind.Bool ms) (all_of kind.Text ms || (all_of kind.Whole ms || all_of kind.Object ms)) h (λ b. of_kind kind.Bool name ms v refl b e)
    (λ h1. or_else (all_of kind.Text ms) (all_of kind.Whole ms || all_of kind.Object ms) h1 (λ b. of_kind kind.Text name ms v refl b e)
    (λ h2. or_else (all_of kind.Whole ms) (all_of kind.Object ms) h2 (λ b. of_kind kind.Whole name ms v refl b e) (λ b. of_kind kind.Object name ms v refl b e)))

rules_kind : (r : Rules) → are_rules r ≡ true → are_of_one_kind r.variants ≡ true
rules_kind r h =
    let ms = r.variants in
    let variants : are_variants ms ≡ true = left (are_variants ms) _ h in
    let inner : (are_of_one_kind ms && (is_whole (object ms) && nat_le (levels (object ms)) 100)) ≡ true = right (nat_le 1 (member_count ms) && nat_le (member_count ms) 64) _ variants in
    left (are_of_one_kind ms) _ inner

-- a variant of a flag is of the flag's kind
pub found_kind : (d : Definition) (name : List ℕ) (v : Shape) → is_definition d ≡ true → variant_of name d ≡ Some v → IsOne (variants_in d) v
found_kind broken name v h e = absurd (nothing_found v e)
found_kind (good r) name v h e = one_kind name r.variants v (rules_kind r h) e

pub flag_found_kind : (f : Flag) (name : List ℕ) (v : Shape) → variant_of name (flag_view f) ≡ Some v → kind_of v ≡ variants_kind (variants_in (flag_view f))
flag_found_kind f name v e = (found_kind (flag_view f) name v (lawful_flag f) e).0

pub kind_of_broken : (d : Definition) → is_broken d ≡ true → kind.Bool ≡ variants_kind (variants_in d)
kind_of_broken broken h = refl
kind_of_broken (good r) h = cc

own_name : (k : List ℕ) (t : Shape) (ms : Members) → find_member k (member k t ms) ≡ Some t
own_name k t ms = ap (λ b. if b then Some t else find_member k ms) ((bytes_eq-Decides k k).1 refl)

-- the variant of the first name is the first
pub first_is : (ms : Members) (names : List (String Global)) (s : String Global) → map string_bytes names ≡ member_names ms → slice_get names 0 ≡ Some s
    → kind_in (find_member (string_bytes s) ms) ≡ variants_kind ms
first_is no_members names s e g = refl
first_is (member k t ms) [] s e g = cc
first_is (member k t ms) (n ∷ names) s e g =
    let same : string_bytes s ≡ k = cc in
    ap (λ x. kind_in (find_member x (member k t ms))) same ∙ ap kind_in (own_name k t ms)

pub first_none : (ms : Members) (names : List (String Global)) → map string_bytes names ≡ member_names ms → slice_get names 0 ≡ None → kind.Bool ≡ variants_kind ms
first_none no_members names e g = refl
first_none (member k t ms) [] e g = cc
first_none (member k t ms) (n ∷ names) e g = cc
