-- What a function of the evaluator promises: to follow the meaning of what it evaluates, for its subject. It serves
-- the evaluator's own contracts alone: that of `eval` is about `evaluation_of`.
use Rattle.std.specs.Prelude.{ℕ, Bool, List, Option, Result, Box, if◌then◌else◌}
use Rattle.std.specs.declared.alloc.Global.{Global}
use Rattle.logic_ast.specs.Expression.{Expression, Expressions}
use Rattle.logic_ast.specs.View.{node_view, nodes_view, boxed_view, buckets_view}
use Rattle.logic_ast.specs.declared.operator.Operator.{Operator}
use Rattle.logic_ast.specs.declared.node.Bucket.{Bucket}
use Rattle.logic_ast.specs.declared.node.Node.{Node}
use Rattle.logic_eval.specs.Budget.{Follows}
use Rattle.logic_eval.specs.Evaluation.{meaning, meanings, operands, operand_meaning, by_meaning, bucket_meanings}
use Rattle.logic_eval.specs.Operators.{Meaning, with_tests, with_early_tests, tested_operated}
use Rattle.logic_eval.specs.Run.{Run}
use Rattle.logic_eval.specs.Views.{progress, default_view}
use Rattle.logic_values.specs.declared.fault.EvalFault.{EvalFault}
use Rattle.logic_eval.specs.declared.meter.Meter.{Meter}
use Rattle.logic_eval.specs.declared.scope.Subject.{Subject}

-- what was given, as `seen` sees it, and what was paid for it are those of the run
abbrev pub Evaluates : {X A : Type 0} → (X → A) → Meter → Meter → Result X EvalFault → Run A → Type 0
Evaluates seen old new given run = Follows seen (progress old) (progress new) given run

abbrev pub meaning_of : Subject → Node → Meaning
meaning_of subject node = meaning (default_view subject) (node_view node)

abbrev pub meanings_of : Subject → List Node → List Meaning
meanings_of subject nodes = meanings (default_view subject) (nodes_view nodes)

-- an expression where it is compared or tested, or where it is not
abbrev pub tested_meaning : Bool → Option (List ℕ) → Expression → Meaning
tested_meaning tested default e = if tested then operand_meaning default e else meaning default e

abbrev pub tested_meanings : Bool → Option (List ℕ) → Expressions → List Meaning
tested_meanings tested default es = if tested then operands default es else meanings default es

-- an operation that is compared or tested, once it is charged for
abbrev pub tested_operation : Operator → Option (List ℕ) → Expressions → Meaning
tested_operation o default es = tested_operated o (meanings default es) (operands default es)

-- the arguments of `if`
abbrev pub conditional_meanings : Option (List ℕ) → Expressions → List Meaning
conditional_meanings default es = with_tests (meanings default es) (operands default es)

-- those of `or`, or of `and`, where its value is not compared or tested
abbrev pub untested_truth_meanings : Bool → Option (List ℕ) → Expressions → List Meaning
untested_truth_meanings wanted default es = if wanted then meanings default es else with_early_tests (meanings default es) (operands default es)

-- or where it is
abbrev pub truth_meanings : Bool → Bool → Option (List ℕ) → Expressions → List Meaning
truth_meanings wanted tested default es = if tested then operands default es else untested_truth_meanings wanted default es

abbrev pub operand_of : Subject → Node → Meaning
operand_of subject node = operand_meaning (default_view subject) (node_view node)

abbrev pub tested_meaning_of : Bool → Subject → Node → Meaning
tested_meaning_of tested subject node = tested_meaning tested (default_view subject) (node_view node)

abbrev pub operands_of : Subject → List Node → List Meaning
operands_of subject nodes = operands (default_view subject) (nodes_view nodes)

abbrev pub tested_meanings_of : Bool → Subject → List Node → List Meaning
tested_meanings_of tested subject nodes = tested_meanings tested (default_view subject) (nodes_view nodes)

abbrev pub conditional_meanings_of : Subject → List Node → List Meaning
conditional_meanings_of subject nodes = conditional_meanings (default_view subject) (nodes_view nodes)

abbrev pub truth_meanings_of : Bool → Bool → Subject → List Node → List Meaning
truth_meanings_of wanted tested subject nodes = truth_meanings wanted tested (default_view subject) (nodes_view nodes)

abbrev pub by_meaning_of : Subject → Option (Box Node Global) → Option Meaning
by_meaning_of subject by = by_meaning (default_view subject) (boxed_view by)

abbrev pub bucket_meanings_of : Subject → List (Bucket Node) → List (Meaning × Meaning)
bucket_meanings_of subject buckets = bucket_meanings (default_view subject) (buckets_view buckets)
