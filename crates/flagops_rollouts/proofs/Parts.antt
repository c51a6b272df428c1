-- What is told in parts, one remark behind another.
use Rattle.std.proofs.Common.{◌≡◌, ◌++◌, ◌||◌, ◌∙◌, ap, append-nil, ℕ, Bool, true, false, List, [], ◌∷◌, Option, Some, None, IfSome, refl, sym, subst}
use Rattle.std.specs.Prelude.{IfOk, Result, Ok, Err, is_some, string_bytes}
use Rattle.std.proofs.lemmas.List.{append_assoc}
use Rattle.file_diagnostics.specs.Named.{Names}
use Rattle.flagops_rollouts.specs.Beside.{AreBefore, AreBehind, AreBoth, AreParts, Part, Tells, noted_with, part_if}
use Rattle.flagops_rollouts.proofs.Doubting.{named_still}
use Rattle.flagops_rollouts.specs.Doubts.{IsLonger}
use Rattle.flagops_rollouts.specs.Finer.{IsMore}
use Rattle.flagops_shell.specs.Diagnostic.{Says}
use Rattle.flagops_shell.specs.declared.refused.Remark.{Remark}
use Rattle.flagops_shell.specs.declared.refused.Remark.TheVariants.{Short, Lines}

-- ---- parts behind parts

parts_both : (xs ys : List Part) (lines more whole : List ℕ) → AreParts xs lines → AreParts ys more → whole ≡ lines ++ more → AreParts (xs ++ ys) whole
parts_both [] ys lines more whole none are is = subst (AreParts ys) (sym (is ∙ ap (λ (l : List ℕ). l ++ more) none)) are
parts_both (Is ∷ xs) ys lines more whole (part, rest, one, left, split) are is =
    (part, rest ++ more, one, parts_both xs ys rest more (rest ++ more) left are refl, is ∙ ap (λ (l : List ℕ). l ++ more) split ∙ append_assoc part rest more)

-- where nothing is told there are none
behind_none : (xs ys : List Part) (told : Option Remark) → Tells xs None → Tells ys told → Tells (xs ++ ys) told
behind_none [] ys told none tells = tells
behind_none (Is ∷ xs) ys told none tells = absurd none

before_none : (xs ys : List Part) (told : Option Remark) → Tells xs told → Tells ys None → Tells (xs ++ ys) told
before_none xs [] told tells none = subst (λ (ps : List Part). Tells ps told) (sym (append-nil xs)) tells
before_none xs (Is ∷ ys) told tells none = absurd none

-- a remark has parts
said : (xs : List Part) (remark : Remark) → Tells xs (Some remark) → Says (AreParts xs) remark
said [] remark told = cc
said (Is ∷ xs) remark told = told

pub said_some : (xs : List Part) (told : Option Remark) → Tells xs told → IfSome told (Says (AreParts xs))
said_some xs None told = tt
said_some xs (Some remark) told = said xs remark told

short_both : (xs ys : List Part) (remark : Remark) → Tells xs (Some remark) → Tells (xs ++ ys) (Some Short)
short_both [] ys remark told = cc
short_both (Is ∷ xs) ys remark told = tt

lines_both : (xs ys : List Part) (whole remark : Remark) → Tells xs (Some remark) → Says (AreParts (xs ++ ys)) whole → Tells (xs ++ ys) (Some whole)
lines_both [] ys whole remark told says = cc
lines_both (Is ∷ xs) ys whole remark told says = says

-- what is told of both
pub tells_both : (xs ys : List Part) (first more whole : Option Remark) → Tells xs first → Tells ys more → AreBoth first more whole → Tells (xs ++ ys) whole
tells_both xs ys None more whole one two both = subst (Tells (xs ++ ys)) (sym both) (behind_none xs ys more one two)
tells_both xs ys (Some first) None whole one two both = subst (Tells (xs ++ ys)) (sym both) (before_none xs ys (Some first) one two)
tells_both xs ys (Some first) (Some more) None one two both = absurd both
tells_both xs ys (Some first) (Some more) (Some Short) one two both = short_both xs ys first one
tells_both xs ys (Some (Lines lines)) (Some (Lines more)) (Some (Lines whole)) one two both =
    lines_both xs ys (Lines whole) (Lines lines) one (parts_both xs ys (string_bytes lines) (string_bytes more) (string_bytes whole) (said xs (Lines lines) one) (said ys (Lines more) two) both)
tells_both xs ys (Some Short) (Some more) (Some (Lines whole)) one two both = absurd both
tells_both xs ys (Some (Lines lines)) (Some Short) (Some (Lines whole)) one two both = absurd both

pub tells_behind : (xs ys : List Part) (noted told : Option Remark) → Tells xs noted → AreBehind ys noted told → Tells (xs ++ ys) told
tells_behind xs ys noted told tells (more, says, both) = tells_both xs ys noted more told tells says both

pub tells_before : (xs ys : List Part) (noted told : Option Remark) → Tells ys noted → AreBefore xs noted told → Tells (xs ++ ys) told
tells_before xs ys noted told tells (first, says, both) = tells_both xs ys first noted told says tells both

-- ---- one part

one_said : (Is : Part) (remark : Remark) → Says Is remark → Says (AreParts (Is ∷ [])) remark
one_said Is Short says = tt
one_said Is (Lines lines) says = (string_bytes lines, [], says, refl, sym (append-nil (string_bytes lines)))

-- what is told of one thing, where it is there
pub tells_one : (there : Bool) (Is : Part) (told : Option Remark) → is_some told ≡ there → IfSome told (Says Is) → Tells (part_if there Is) told
tells_one true Is None is says = cc
tells_one false Is None is says = refl
tells_one true Is (Some remark) is says = one_said Is remark says
tells_one false Is (Some remark) is says = cc

-- what is told is not changed
both_none : (noted : Option Remark) → AreBoth noted None noted
both_none None = refl
both_none (Some remark) = refl

pub behind_one : (there : Bool) (Is : Part) (noted told : Option Remark) (more : Remark) → true ≡ there → Says Is more → AreBoth noted (Some more) told → AreBehind (part_if there Is) noted told
behind_one there Is noted told more is says both = (Some more, tells_one there Is (Some more) is says, both)

pub behind_no : (there : Bool) (Is : Part) (noted : Option Remark) → false ≡ there → AreBehind (part_if there Is) noted noted
behind_no there Is noted is = (None, tells_one there Is None is tt, both_none noted)

pub before_one : (there : Bool) (Is : Part) (noted told : Option Remark) (first : Remark) → true ≡ there → Says Is first → AreBoth (Some first) noted told → AreBefore (part_if there Is) noted told
before_one there Is noted told first is says both = (Some first, tells_one there Is (Some first) is says, both)

pub before_no : (there : Bool) (Is : Part) (noted : Option Remark) → false ≡ there → AreBefore (part_if there Is) noted noted
before_no there Is noted is = (None, tells_one there Is None is tt, refl)

pub behind_nothing : (noted : Option Remark) → AreBehind [] noted noted
behind_nothing noted = (None, refl, both_none noted)

-- ---- what was told before

longer_still : (remark : Remark) → IsLonger remark remark
longer_still Short = tt
longer_still (Lines lines) = ([], sym (append-nil (string_bytes lines)))

pub more_both : (first more whole : Option Remark) → AreBoth first more whole → IsMore first whole
more_both None more whole both = tt
more_both (Some first) None whole both = subst (IsMore (Some first)) (sym both) (longer_still first)
more_both (Some first) (Some more) None both = absurd both
more_both (Some first) (Some more) (Some Short) both = tt
more_both (Some (Lines lines)) (Some (Lines more)) (Some (Lines whole)) both = (string_bytes more, both)
more_both (Some Short) (Some more) (Some (Lines whole)) both = absurd both
more_both (Some (Lines lines)) (Some Short) (Some (Lines whole)) both = absurd both

pub more_behind : (xs : List Part) (noted told : Option Remark) → AreBehind xs noted told → IsMore noted told
more_behind xs noted told (more, says, both) = more_both noted more told both

-- what lines say that more lines say too
module _ (P : List ℕ → Type 0) (grows : (lines more whole : List ℕ) → P lines → whole ≡ lines ++ more → P whole) where
  pub still_said : (first more whole : Option Remark) → IfSome first (Says P) → IfSome more (Says P) → AreBoth first more whole → IfSome whole (Says P)
  still_said None more whole one two both = subst (λ (r : Option Remark). IfSome r (Says P)) (sym both) two
  still_said (Some first) None whole one two both = subst (λ (r : Option Remark). IfSome r (Says P)) (sym both) one
  still_said (Some first) (Some more) None one two both = absurd both
  still_said (Some first) (Some more) (Some Short) one two both = tt
  still_said (Some (Lines lines)) (Some (Lines more)) (Some (Lines whole)) one two both = grows (string_bytes lines) (string_bytes more) (string_bytes whole) one both
  still_said (Some Short) (Some more) (Some (Lines whole)) one two both = absurd both
  still_said (Some (Lines lines)) (Some Short) (Some (Lines whole)) one two both = absurd both

-- what is returned is what was noted
pub tells_same : (xs : List Part) (noted told : Option Remark) → told ≡ noted → Tells xs noted → Tells xs told
tells_same xs noted told is tells = subst (Tells xs) (sym is) tells

pub tells_result : {X E : Type 0} (remark_of : X → Option Remark) (xs : List Part) (noted : Option Remark) (r : Result X E) → Tells xs noted → IfOk r (λ x. remark_of x ≡ noted) → IfOk r (λ x. Tells xs (remark_of x))
tells_result remark_of xs noted (Ok x) tells is = subst (Tells xs) (sym is) tells
tells_result remark_of xs noted (Err e) tells is = tt

pub says_result : {X E : Type 0} (remark_of : X → Option Remark) (P : List ℕ → Type 0) (noted : Option Remark) (r : Result X E) → IfSome noted (Says P) → IfOk r (λ x. remark_of x ≡ noted) → IfOk r (λ x. IfSome (remark_of x) (Says P))
says_result remark_of P noted (Ok x) says is = subst (λ (m : Option Remark). IfSome m (Says P)) (sym is) says
says_result remark_of P noted (Err e) says is = tt

-- ---- what is told of one name

pub still_named : (name : List ℕ) (remark whole : Remark) → Says (Names name) remark → IsLonger remark whole → Says (Names name) whole
still_named name remark Short says more = tt
still_named name Short (Lines whole) says more = absurd more
still_named name (Lines lines) (Lines whole) says (more, is) = named_still name (string_bytes lines) more (string_bytes whole) says is

pub joined_named : (name : List ℕ) (first whole : Remark) (more : Option Remark) → Says (Names name) first → AreBoth (Some first) more (Some whole) → Says (Names name) whole
joined_named name first whole more says both = still_named name first whole says (more_both (Some first) more (Some whole) both)

pub both_named : (name : List ℕ) (first more whole : Option Remark) → IfSome first (Says (Names name)) → IfSome more (Says (Names name)) → AreBoth first more whole → IfSome whole (Says (Names name))
both_named name first more whole one two both = still_said (Names name) (named_still name) first more whole one two both

-- ---- whether a person is told

pub noted_so : {E : Type 0} (more : Bool) (settled : Result Bool E) (told shown : Bool) → settled ≡ Ok told → shown ≡ (told || more) → noted_with more settled ≡ Ok shown
noted_so more settled told shown is same = ap (noted_with more) is ∙ ap Ok (sym same)
