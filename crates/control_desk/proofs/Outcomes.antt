-- What a call gives, where memory did not run out.
use Rattle.std.proofs.Common.{◌≢◌, Result, Ok, Err}
use Rattle.std.specs.Prelude.{OnOk}
use Rattle.control_answers.specs.Turns.{Gives, Outcomes}
use Rattle.control_answers.specs.declared.refusal.ControlRefusal.{ControlRefusal}
use Rattle.control_answers.specs.declared.refusal.ControlRefusal.TheVariants.{WantOfMemory}

module _ {A B E : Type 0} (seen : A → B) (Is : Outcomes B) (Tells : Result B ControlRefusal → Type 0) where
  -- what was given is told
  pub given : (r : Result (Unit {0}) E) (a : A) → Gives seen Is (Ok a) → OnOk r (Tells (Ok (seen a))) → OnOk r ((o : Result B ControlRefusal) × Is o × Tells o)
  given (Ok u) a gives told = (Ok (seen a), gives, told)
  given (Err e) a gives told = tt

  -- its refusal is told
  pub refused : (r : Result (Unit {0}) E) (e : ControlRefusal) → Gives seen Is (Err e) → OnOk r (Tells (Err e)) → OnOk r (e ≢ WantOfMemory)
      → OnOk r ((o : Result B ControlRefusal) × Is o × Tells o)
  refused (Ok u) e gives told known = (Err e, gives known, told)
  refused (Err e') e gives told known = tt
