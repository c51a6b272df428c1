-- The same of the rule that is put into a document: `apply --keep`.
use Rattle.std.specs.Prelude.{ℕ, Bool, List, Option}
use Rattle.flagops_rollouts.specs.Keep.{IsKeepReport}
use Rattle.flagops_shell.specs.Files.{Holding}
use Rattle.product_laws.specs.Rollouts.{Came}
use Rattle.product_laws.specs.Whole.{IsWholeAt}

-- of `apply --keep`, with the document that it writes
abbrev pub KeptStay : Type 0
KeptStay =
    (floats other : Bool) (at : Holding) (after : Option Holding) (document plan request book : List ℕ) (write : Bool) (refine : Option ℕ) (strict : Bool) (r : Came) → IsWholeAt at document
    → IsKeepReport floats at after document plan request book write refine strict r → IsKeepReport other at after document plan request book write refine strict r
