-- What a resolution has (OpenFeature: resolution details).
use Rattle.std.specs.Prelude.{ℕ, List, Option}
use Rattle.flag_text.specs.Shape.{Shape}
use Rattle.logic_eval.specs.Run.{Reach}
use Rattle.flag_resolve.specs.declared.code.Code.{Code}
use Rattle.flag_resolve.specs.declared.reason.Reason.{Reason}

-- a value, the name of the variant whose value it is, the reason, what went wrong, and the sites that were reached
pub record Resolved : Type 0 where
  pub value : Shape
  pub variant : Option (List ℕ)
  pub reason : Reason
  pub code : Option Code
  pub reached : List Reach
