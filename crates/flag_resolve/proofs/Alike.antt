-- A flag with another targeting that is evaluated to the same value resolves as before.
use Rattle.std.proofs.Common.{◌≡◌, ℕ, List, [], map, Bool, true, false, if◌then◌else◌, is_none, Option, Some, None, option_and_then, Result, Ok, Err, refl, sym, ap, ◌∙◌}
use Rattle.flag_text.specs.Readers.{as_object}
use Rattle.flag_text.specs.Shape.{Shape, null, boolean, whole, other, text, list, object}
use Rattle.flag_defs.specs.Definition.{Rules, Definition, good}
use Rattle.logic_ast.specs.Expression.{Expression}
use Rattle.logic_eval.specs.Evaluation.{evaluation_of}
use Rattle.logic_eval.specs.Laws.{each_reached}
use Rattle.logic_eval.specs.Run.{Reach}
use Rattle.logic_eval.specs.Scope.{Situation}
use Rattle.logic_values.specs.declared.fault.EvalFault.{EvalFault}
use Rattle.flag_resolve.specs.Alike.{with_reached, ResolvesAlike, OthersStay}
use Rattle.flag_defs.specs.Kind.{is_of_kind}
use Rattle.flag_resolve.specs.Resolution.{Asked, failed, variant_named, default_of, name_in, given, given_default, chosen, targeted, evaluated, defined, found, resolution_of}
use Rattle.flag_resolve.specs.Resolved.{Resolved}
use Rattle.flag_resolve.specs.declared.code.Code.TheVariants.{InvalidContext}
use Rattle.flag_resolve.specs.declared.reason.Reason.{Reason}

either-alike : (f : Reach → Reach) (b : Bool) (r s t u : Resolved) → t ≡ with_reached f r → u ≡ with_reached f s → (if b then t else u) ≡ with_reached f (if b then r else s)
either-alike f true r s t u first second = first
either-alike f false r s t u first second = second

given-alike : (f : Reach → Reach) (a : Asked) (v : List ℕ × Shape) (reason : Reason) (rs : List Reach) → given a v reason (map f rs) ≡ with_reached f (given a v reason rs)
given-alike f a v reason rs = either-alike f (is_of_kind a.want v.1) _ _ _ _ refl refl

given_default-alike : (f : Reach → Reach) (a : Asked) (v : Option (List ℕ × Shape)) (reason : Reason) (rs : List Reach) → given_default a v reason (map f rs) ≡ with_reached f (given_default a v reason rs)
given_default-alike f a (Some v) reason rs = given-alike f a v reason rs
given_default-alike f a None reason rs = refl

chosen-alike : (f : Reach → Reach) (a : Asked) (v : Option (List ℕ × Shape)) (rs : List Reach) → chosen a v (map f rs) ≡ with_reached f (chosen a v rs)
chosen-alike f a None rs = refl
chosen-alike f a (Some v) rs = given-alike f a v _ rs

abbrev targets : Rules → Expression → Definition
targets r e = good (record r { targeting = Some e })

targeted-alike : (f : Reach → Reach) (a : Asked) (r : Rules) (e g : Expression) (t : Shape) (rs : List Reach) → targeted a (targets r g) t (map f rs) ≡ with_reached f (targeted a (targets r e) t rs)
targeted-alike f a r e g null rs = given_default-alike f a (default_of (targets r e)) _ rs
targeted-alike f a r e g (boolean b) rs = chosen-alike f a (option_and_then (variant_named (targets r e)) (name_in (boolean b))) rs
targeted-alike f a r e g (whole n) rs = refl
targeted-alike f a r e g other rs = refl
targeted-alike f a r e g (text s) rs = chosen-alike f a (variant_named (targets r e) s) rs
targeted-alike f a r e g (list ts) rs = refl
targeted-alike f a r e g (object ms) rs = refl

evaluated-alike : (f : Reach → Reach) (a : Asked) (r : Rules) (e g : Expression) (o : Result (Shape × List Reach) EvalFault) → evaluated a (targets r g) (each_reached f o) ≡ with_reached f (evaluated a (targets r e) o)
evaluated-alike f a r e g (Ok outcome) = targeted-alike f a r e g outcome.0 outcome.1
evaluated-alike f a r e g (Err fault) = refl

defined-alike : (f : Reach → Reach) (a : Asked) (r : Rules) (e g : Expression) (s : Situation) → evaluation_of g s ≡ each_reached f (evaluation_of e s)
    → defined a (targets r g) s ≡ with_reached f (defined a (targets r e) s)
defined-alike f a r e g s same =
    either-alike f r.enabled _ _ _ _ (ap (evaluated a (targets r g)) same ∙ evaluated-alike f a r e g (evaluation_of e s)) refl

pub alike : ResolvesAlike
unfolding resolution_of
alike before after r e g f a s old new same =
    either-alike f (is_none (as_object s.context)) _ _ _ _ refl
    (ap (λ o. found a o s) new ∙ defined-alike f a r e g s same ∙ sym (ap (λ o. with_reached f (found a o s)) old))

pub others : OthersStay
unfolding resolution_of
others before after a s same = ap (λ o. if is_none (as_object s.context) then failed a InvalidContext [] else found a o s) same
