-- Files loaded and read in turn, each before the next.
use Rattle.std.specs.Prelude.{ℕ, List, Option, Result}
use Rattle.flag_text.specs.Shape.{Shape}
use Rattle.flag_text.specs.Reading.{tree_of}
use Rattle.bucket_core.specs.Rule.{Entries}
use Rattle.rule_text.specs.Choosing.{choice_of}
use Rattle.rule_text.specs.Reading.{rule_of_text}
use Rattle.rule_text.specs.declared.fault.RuleTextFault.{RuleTextFault}
use Rattle.rule_text.specs.declared.fault.RuleTextFault.TheVariants.{Text, Rule}
use Rattle.flagops_shell.specs.Files.{Holding, load_of}
use Rattle.flagops_shell.specs.Outcomes.{◌>>=◌, refused_by}
use Rattle.flagops_files.specs.declared.refusal.Refusal.{Refusal}
use Rattle.limits.specs.Limits.{file_bytes, text_bytes}
use Rattle.flagops_files.specs.declared.refusal.Refusal.TheVariants.{Load, ReadTree, ReadRule}

-- the largest rule or plan file, in bytes
abbrev pub max_rule : ℕ
max_rule = file_bytes

-- the largest request, key file, document or context, in bytes
abbrev pub max_text : ℕ
max_text = text_bytes

-- the tree of the file at a path
unfoldable pub tree_at : Holding → List ℕ → ℕ → Result Shape Refusal
tree_at at path limit = do
  bytes ← refused_by Load (load_of at path limit)
  refused_by ReadTree (tree_of bytes limit)

-- a fault of a rule's text, as the refusal of the call that it comes from
abbrev pub refusal_of : RuleTextFault → Refusal
refusal_of (Text e) = ReadTree e
refusal_of (Rule e) = ReadRule e

-- the rule of the rule file at a path
unfoldable pub rule_at : Holding → List ℕ → Result Entries Refusal
rule_at at path = do
  bytes ← refused_by Load (load_of at path max_rule)
  refused_by refusal_of (rule_of_text bytes max_rule)

-- what the rule of the rule file at a path gives a key: its point, and the name there
unfoldable pub choice_at : Holding → List ℕ → List ℕ → Result (ℕ × Option (List ℕ)) Refusal
choice_at at path key = do
  bytes ← refused_by Load (load_of at path max_rule)
  refused_by refusal_of (choice_of key (rule_of_text bytes max_rule))
