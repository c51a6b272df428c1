use Rattle.std.proofs.Common.{◌≡◌, ◌&&◌, List, ℕ, Bool, Option, Some, true, false, is_some, refl, sym, ap, subst, inl, inr, ◌∙◌}
use Rattle.std.specs.Prelude.{◌↔◌}
use Rattle.flag_text.specs.Shape.{text}
use Rattle.flag_defs.specs.Kind.{is_of_kind}
use Rattle.flag_defs.specs.declared.kind.Kind.{Kind}
use Rattle.flag_defs.specs.declared.kind.Kind.TheVariants as kind
use Rattle.flag_resolve.specs.Floats.{floats_in, kind_asked}
use Rattle.flag_resolve.specs.Resolution.{resolved_by}
use Rattle.flag_resolve.proofs.Items.{around_value}
use Rattle.flag_resolve.proofs.Unmarked.{no_floats, float_asked, object_asked}
use Rattle.flag_resolve.proofs.laws.floats_are_of_their_kind.Goals as goal

pub returns-clause-same : goal.returns-clause-same
returns-clause-same c = λ flags marks want default context key moment h. ap (λ (o : Option Kind). resolved_by (Some flags) (kind_asked o want) default context key moment) (no_floats key flags marks h)

-- the kind is that of the flag
abbrev Given : Kind → Kind → List ℕ → Type 0
Given k want s = (is_of_kind (kind_asked (Some k) want) (text s) ≡ true) ↔ (k ≡ want)

float_given : (want : Kind) (s : List ℕ) → Given kind.Float want s
float_given want s = (float_asked want s, λ e. ap (λ (k : Kind). is_of_kind (kind_asked (Some kind.Float) k) (text s)) (sym e) ∙ refl)

object_given : (want : Kind) (s : List ℕ) → Given kind.Object want s
object_given want s = (object_asked want s, λ e. ap (λ (k : Kind). is_of_kind (kind_asked (Some kind.Object) k) (text s)) (sym e) ∙ refl)

pub returns-clause-given : goal.returns-clause-given
returns-clause-given c = λ k want s is.
    elim is [
      | inl e ↦ subst (λ j. Given j want s) (sym e) (float_given want s)
      | inr e ↦ subst (λ j. Given j want s) (sym e) (object_given want s)
    ]

pub returns-clause-whole : goal.returns-clause-whole
returns-clause-whole c = λ t. refl

no_both : (a b : Bool) → b ≡ false → (a && b) ≡ false
no_both true b e = e
no_both false b e = refl

pub returns-clause-plain : goal.returns-clause-plain
returns-clause-plain c = λ flags marks key r h. no_both (is_some r.variant) (is_some (floats_in (Some (flags, marks)) key)) (ap (λ (o : Option Kind). is_some o) (no_floats key flags marks h))

pub returns-clause-printed : goal.returns-clause-printed
returns-clause-printed c = around_value
