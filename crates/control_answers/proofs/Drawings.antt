-- A call that went well tells what it tells.
use Rattle.std.proofs.Common.{Ok, Err, Result}
use Rattle.std.specs.Prelude.{IfOk, OnOk}

pub if_both : {X E : Type 0} {A : Type 0} {B C : X → Type 0} (r : Result X E) → OnOk r A → IfOk r B → ((x : X) → A → B x → C x) → IfOk r C
if_both (Ok x) a b f = f x a b
if_both (Err e) a b f = tt
