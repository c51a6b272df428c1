-- What an expression evaluates to: a value, and the sites that were reached, in their order.
use Rattle.std.specs.Prelude.{ℕ, pos, List, [], ◌∷◌, Option, Some, None, Result}
use Rattle.flag_text.specs.Shape.{Shape, whole, text}
use Rattle.logic_ast.specs.Expression.{Expression, literal, operation, fractional, Expressions, no_expressions, expression, By, no_by, by, Buckets, no_buckets, bucket, Bucket, literal_bucket, computed_bucket}
use Rattle.logic_ast.specs.Expression as ast
use Rattle.logic_values.specs.declared.fault.EvalFault.{EvalFault}
use Rattle.logic_eval.specs.Fractional.{decided, given_input, made_input}
use Rattle.logic_eval.specs.Operators.{Meaning, values, as_list, asked, operated, tested_operated}
use Rattle.logic_eval.specs.Run.{Reach, cost, Run, gives, after, ◌>>=◌, result_of}
use Rattle.logic_eval.specs.Scope.{Situation, root_scope, default_input, size}

-- a literal name or weight is taken as it stands, for no units
abbrev pub part_of : Expression → Meaning → Meaning
part_of (literal t) m = λ scope. gives t
part_of e m = m

-- a name and its weight
abbrev pub pair : Meaning × Meaning → Shape → Run (Shape × Shape)
pair p scope = (p.0) scope >>= λ name. (p.1) scope >>= λ weight. gives (name, weight)

-- all names and weights, from the left
abbrev pub pairs : List (Meaning × Meaning) → Shape → Run (List (Shape × Shape))
pairs [] scope = gives []
pairs (p ∷ ps) scope = pair p scope >>= λ one. pairs ps scope >>= λ rest. gives (one ∷ rest)

-- the input of a site, by its bucketing expression or else the default input
abbrev pub input : Option (List ℕ) → Option Meaning → Shape → Run (Option (Result (List ℕ) EvalFault))
input default None scope = gives (made_input default)
input default (Some m) scope = m scope >>= λ v. gives (given_input v)

-- the input, then the buckets, then what the site gives
abbrev pub site : Option (List ℕ) → ℕ → Option Meaning → List (Meaning × Meaning) → Meaning
site default n m ps scope = input default m scope >>= λ i. pairs ps scope >>= decided n i

-- Each expression is charged for before anything in it is done: a literal by its size, another by one unit.
abbrev mutual
  pub meaning : Option (List ℕ) → Expression → Meaning
  meaning default (literal t) = λ scope. after (cost (size t)) (gives t)
  meaning default (ast.list es) = λ scope. after (cost 1) (values (meanings default es) scope >>= as_list)
  meaning default (operation o es) = λ scope. after (cost 1) (operated o (asked o (meanings default es) (operands default es)) scope)
  meaning default (fractional n b bs) = λ scope. after (cost 1) (site default n (by_meaning default b) (bucket_meanings default bs) scope)

  pub meanings : Option (List ℕ) → Expressions → List Meaning
  meanings default no_expressions = []
  meanings default (expression e es) = meaning default e ∷ meanings default es

  -- the same where they are compared or tested
  pub operands : Option (List ℕ) → Expressions → List Meaning
  operands default no_expressions = []
  operands default (expression e es) = operand_meaning default e ∷ operands default es

  -- an expression where it is compared or tested
  pub operand_meaning : Option (List ℕ) → Expression → Meaning
  operand_meaning default (literal t) = λ scope. after (cost (size t)) (gives t)
  operand_meaning default (ast.list es) = λ scope. after (cost 1) (values (meanings default es) scope >>= as_list)
  operand_meaning default (operation o es) = λ scope. after (cost 1) (tested_operated o (meanings default es) (operands default es) scope)
  operand_meaning default (fractional n b bs) = λ scope. after (cost 1) (site default n (by_meaning default b) (bucket_meanings default bs) scope)

  pub by_meaning : Option (List ℕ) → By → Option Meaning
  by_meaning default no_by = None
  by_meaning default (by e) = Some (meaning default e)

  pub bucket_meanings : Option (List ℕ) → Buckets → List (Meaning × Meaning)
  bucket_meanings default no_buckets = []
  bucket_meanings default (bucket b bs) = bucket_meaning default b ∷ bucket_meanings default bs

  pub bucket_meaning : Option (List ℕ) → Bucket → Meaning × Meaning
  bucket_meaning default (literal_bucket name weight) = ((λ scope. gives (text name)), (λ scope. gives (whole (pos weight))))
  bucket_meaning default (computed_bucket name weight) = (part_of name (meaning default name), part_of weight (meaning default weight))

-- the evaluation of an expression in a situation
unfoldable pub evaluation_of : Expression → Situation → Result (Shape × List Reach) EvalFault
evaluation_of e s = result_of (meaning (default_input s) e (root_scope s))
