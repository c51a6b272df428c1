-- What the line of a refusal says beyond the name of its fault.
use Rattle.std.specs.Prelude.{ℕ, List, [], ◌++◌, codes, decimal, string_bytes}
use Rattle.flag_text.specs.Printing.{text_of}
use Rattle.flag_text.specs.Shape.{text}
use Rattle.rollout.specs.declared.verify_fault.VerifyFault.{VerifyFault}
use Rattle.rollout.specs.declared.verify_fault.VerifyFault.TheVariants.{Request, Check}
use Rattle.transport_core.specs.declared.fault.CheckFault.{CheckFault}
use Rattle.transport_core.specs.declared.fault.CheckFault.TheVariants as check
use Rattle.flagops_files.specs.Payload.{number_item, rollout_items}
use Rattle.flagops_rollouts.specs.declared.keep_refusal.KeepRefusal.{KeepRefusal}
use Rattle.flagops_rollouts.specs.declared.keep_refusal.KeepRefusal.TheVariants as keeping

-- a pair of names as JSON texts with a number between them, each behind a blank
abbrev pub pair_items : List ℕ → ℕ → List ℕ → List ℕ
pair_items name n other = codes " " ++ (text_of (text name) ++ (codes " " ++ (decimal n ++ (codes " " ++ text_of (text other)))))

-- the point, or the pair of a group and a name
abbrev pub check_items : CheckFault → List ℕ
check_items (check.Forbidden point) = number_item point
check_items (check.Slack name count variant) = pair_items (string_bytes name) count (string_bytes variant)
check_items e = []

abbrev pub verify_items : VerifyFault → List ℕ
verify_items (Request e) = rollout_items e
verify_items (Check e) = check_items e

-- an answer that is not right, as `verify` says it
abbrev pub keep_items : KeepRefusal → List ℕ
keep_items (keeping.Verify e) = verify_items e
keep_items (keeping.Document e) = []
