-- A tree that is not refused is small, and nothing is wrong in it.
use Rattle.std.proofs.Common.{◌≡◌, Bool, true, false, if◌then◌else◌, Option, Some, None, Ok, Err}
use Rattle.flag_text.specs.Shape.{Shape}
use Rattle.logic_ast.specs.FirstFault.{expression_fault}
use Rattle.logic_ast.specs.Expression.{Expression}
use Rattle.logic_ast.specs.Reading.{expression_from, reading, refusal, unless}
use Rattle.logic_ast.specs.Size.{is_too_big}
use Rattle.logic_ast.specs.declared.fault.LogicFault.{LogicFault}
use Rattle.logic_ast.specs.declared.fault.LogicFault.TheVariants.{TooBig}

not_taken : (b : Bool) (o : Option LogicFault) → (if b then Some TooBig else o) ≡ None → b ≡ false
not_taken true o h = cc
not_taken false o h = cc

left_over : (b : Bool) (o : Option LogicFault) → (if b then Some TooBig else o) ≡ None → o ≡ None
left_over true o h = cc
left_over false o h = h

pub is_small : (t : Shape) → refusal t ≡ None → is_too_big t ≡ false
is_small t h = not_taken (is_too_big t) (expression_fault t) h

pub has_no_fault : (t : Shape) → refusal t ≡ None → expression_fault t ≡ None
has_no_fault t h = left_over (is_too_big t) (expression_fault t) h

read_as : (b : Bool) (o : Option LogicFault) (e : Expression) → b ≡ false → o ≡ None → (if b then Err TooBig else unless o e) ≡ Ok e
read_as true o e b n = cc
read_as false (Some f) e b n = cc
read_as false None e b n = cc

pub is_read : (t : Shape) → refusal t ≡ None → reading t ≡ Ok (expression_from 0 t)
is_read t h = read_as (is_too_big t) (expression_fault t) (expression_from 0 t) (is_small t h) (has_no_fault t h)

not_refused : (b : Bool) (o : Option LogicFault) (e f : Expression) → (if b then Err TooBig else unless o e) ≡ Ok f → (if b then Some TooBig else o) ≡ None
not_refused true o e f h = cc
not_refused false (Some g) e f h = cc
not_refused false None e f h = cc

-- a tree that is read is not refused
pub accepted : (t : Shape) (e : Expression) → reading t ≡ Ok e → refusal t ≡ None
accepted t e h = not_refused (is_too_big t) (expression_fault t) (expression_from 0 t) e h
