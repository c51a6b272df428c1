-- What is read of a targeting that does not break its flag.
use Rattle.std.proofs.Common.{◌≡◌, ◌≤◌, Bool, true, false, not, ◌&&◌, nat_lt, cond, Option, Some, None, option_map, Result, Ok, Err, IfOk, is_ok, refl, sym, ap, ◌∙◌, arith}
use Rattle.std.specs.Result.{result_ok}
use Rattle.std.proofs.lemmas.Grind.{common_steps}
use Rattle.std.specs.declared.alloc.AllocError.{AllocError}
use Rattle.flag_text.proofs.Bools.{left, or_right}
use Rattle.flag_text.specs.Shape.{Shape, null, boolean, whole, other, text, list, object, Members, no_members, member, is_whole, levels}
use Rattle.logic_ast.specs.Expr.{view}
use Rattle.logic_ast.specs.Expression.{Expression}
use Rattle.logic_ast.specs.Reading.{reading}
use Rattle.logic_ast.specs.Size.{Size, is_over, expression_size}
use Rattle.logic_ast.specs.declared.expr.Expr.{Expr}
use Rattle.logic_ast.specs.declared.fault.LogicFault.{LogicFault}
use Rattle.flag_defs.specs.Definition.{targeting_of, read_targeting, HasTargeting}
use Rattle.flag_references.specs.Inlining.{has_reference, IsInlined}
use Rattle.flag_defs.specs.Targeting.{IsGoodTargeting, is_nothing}
use Rattle.flag_references.specs.Forms.{HasForm}
use Rattle.flag_defs.proofs.Deep.{levels-read}
use Rattle.flag_references.proofs.Inlined.{one_form}
use Rattle.flag_defs.proofs.Weighed.{is_read, read_some}

-- an expression that can be read
pub record IsReadable (t : Shape) : Type 0 where
  pub whole_numbers : is_whole t ≡ true
  pub expression : Expression
  pub read : reading t ≡ Ok expression
  pub targeting : targeting_of t ≡ Some (Some expression)

read_at : (b : Bool) (r : Result Expression LogicFault) (e : Option Expression) → cond b (option_map Some (result_ok r)) None ≡ Some e → (b && is_ok r) ≡ true
read_at true (Ok x) e h = refl
read_at true (Err f) e h = cc
read_at false r e h = cc

something : (t : Shape) (e : Option Expression) → targeting_of t ≡ read_targeting t → targeting_of t ≡ Some e → IsReadable t
something t e kind h =
    let r = read_some (is_whole t && not (has_reference t)) (reading t) (read_at (is_whole t && not (has_reference t)) (reading t) e (sym kind ∙ h)) in record {
      whole_numbers = left (is_whole t) (not (has_reference t)) r.0;
      expression = r.1;
      read = r.2;
      targeting = kind ∙ r.3;
    }

pub readable : (t : Shape) (e : Option Expression) → is_nothing t ≡ false → targeting_of t ≡ Some e → IsReadable t
readable null e n h = cc
readable (boolean b) e n h = cc
readable (whole z) e n h = cc
readable other e n h = cc
readable (text x) e n h = cc
readable (list ts) e n h = cc
readable (object no_members) e n h = cc
readable (object (member k t ms)) e n h = something (object (member k t ms)) e refl h

pub nothing : (t : Shape) → is_nothing t ≡ true → targeting_of t ≡ Some None
nothing null n = refl
nothing (boolean b) n = cc
nothing (whole z) n = cc
nothing other n = cc
nothing (text x) n = cc
nothing (list ts) n = cc
nothing (object no_members) n = refl
nothing (object (member k t ms)) n = cc

same_expression : (a b : Expression) (r : Result Expression LogicFault) → r ≡ Ok a → r ≡ Ok b → a ≡ b
same_expression a b r p q = cc

-- what is read of it is its expression
pub expression_read : (t : Shape) (x : Expr) → IsReadable t → reading t ≡ Ok (view x) → targeting_of t ≡ Some (Some (view x))
expression_read t x r h = r.targeting ∙ ap (λ e. Some (Some e)) (same_expression r.expression (view x) (reading t) r.read h)

-- ---- levels

pub shallow : (s : Size) → is_over s ≡ false → s.levels ≤ 100
shallow s h = let few = or_right (nat_lt 10000 s.nodes) (nat_lt 100 s.levels) h in grind (arith, common_steps, few)

nothing-levels : (t : Shape) → is_nothing t ≡ true → levels t ≤ 101
nothing-levels null n = omega arith
nothing-levels (boolean b) n = cc
nothing-levels (whole z) n = cc
nothing-levels other n = cc
nothing-levels (text x) n = cc
nothing-levels (list ts) n = cc
nothing-levels (object no_members) n = omega arith
nothing-levels (object (member k t ms)) n = cc

levels_at : (t : Shape) (e : Option Expression) (b : Bool) → is_nothing t ≡ b → targeting_of t ≡ Some e → levels t ≤ 101
levels_at t e true n h = nothing-levels t n
levels_at t e false n h = let r = readable t e n h in omega (arith, levels-read t, shallow (expression_size t) (is_read t r.expression r.read).fits)

-- the form of a targeting that does not break its flag is not deep
pub good-form : (evaluators : Members) (t : Shape) → IsGoodTargeting evaluators t → HasForm evaluators 101 t
good-form evaluators t g = (g.1.0, g.1.1, levels_at g.1.0 g.0 (is_nothing g.1.0) refl g.1.2)

-- a form of such a targeting is good
pub form-good : (evaluators : Members) (t u : Shape) → IsGoodTargeting evaluators t → IsInlined evaluators t u → (e : Option Expression) × (targeting_of u ≡ Some e)
form-good evaluators t u g p = (g.0, ap targeting_of (one_form evaluators t u g.1.0 p g.1.1) ∙ g.1.2)

-- what is read of its form is its targeting
pub targeting_read : (evaluators : Members) (t u : Shape) → IsInlined evaluators t u → (r : Result (Option Expr) AllocError) → IfOk r (λ e. targeting_of u ≡ Some (option_map view e))
    → IfOk r (λ e. HasTargeting evaluators t (option_map view e))
targeting_read evaluators t u p (Ok e) h = (u, p, h)
targeting_read evaluators t u p (Err f) h = tt
