-- The answer of a plan file.
use Rattle.std.specs.Prelude.{ℕ, List, Result}
use Rattle.plan_text.specs.Answer.{Answer}
use Rattle.plan_text.specs.PlanFile.{answer_of}
use Rattle.flagops_shell.specs.Files.{Holding, load_of}
use Rattle.flagops_files.specs.Loading.{max_rule}
use Rattle.flagops_files.specs.declared.refusal.Refusal.{Refusal}
use Rattle.flagops_files.specs.declared.refusal.Refusal.TheVariants.{Load, ReadPlanned}
use Rattle.flagops_shell.specs.Outcomes.{◌>>=◌, refused_by}

-- the answer that the plan file at a path holds
unfoldable pub plan_at : Holding → List ℕ → Result Answer Refusal
plan_at at path = do
  bytes ← refused_by Load (load_of at path max_rule)
  refused_by ReadPlanned (answer_of bytes)
