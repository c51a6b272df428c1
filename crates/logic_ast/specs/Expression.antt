-- What an expression is.
use Rattle.std.specs.Prelude.{ℕ, List}
use Rattle.flag_text.specs.Shape.{Shape}
use Rattle.logic_ast.specs.declared.operator.Operator.{Operator}

-- A literal is not evaluated. A site is numbered in preorder from 0. A bucket that is not literal has two expressions,
-- one for its name and one for its weight.
mutual
  pub data Expression : Type 0 where
    literal : Shape → Expression
    list : Expressions → Expression
    operation : Operator → Expressions → Expression
    fractional : ℕ → By → Buckets → Expression

  pub data Expressions : Type 0 where
    no_expressions : Expressions
    expression : Expression → Expressions → Expressions

  -- the bucketing expression, where there is one
  pub data By : Type 0 where
    no_by : By
    by : Expression → By

  pub data Buckets : Type 0 where
    no_buckets : Buckets
    bucket : Bucket → Buckets → Buckets

  pub data Bucket : Type 0 where
    literal_bucket : List ℕ → ℕ → Bucket
    computed_bucket : Expression → Expression → Bucket
