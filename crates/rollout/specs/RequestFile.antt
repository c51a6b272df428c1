-- What the file of a rollout request holds beside its bytes: what reading of them gives.
use Rattle.std.specs.Prelude.{◌≡◌, ℕ, List, Result}
use Rattle.flag_text.specs.Outcome.{seen_as}
use Rattle.flag_text.specs.Reading.{tree_of}
use Rattle.flag_text.specs.View.{view}
use Rattle.flag_text.specs.declared.fault.TextFault.{TextFault}
use Rattle.flag_text.specs.declared.tree.Tree.{Tree}
use Rattle.price_core.specs.Request.{Asked, asked_of, max_request}
use Rattle.price_core.specs.declared.fault.PriceFault.{PriceFault}

-- the tree that the bytes stand for, and what is asked by them, each with its refusal
pub record IsReadOf (bytes : List ℕ) (t : Result Tree TextFault) (a : Result Asked PriceFault) : Type 0 where
  pub tree : seen_as view t ≡ tree_of bytes max_request
  pub asked : a ≡ asked_of bytes
