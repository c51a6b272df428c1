-- The operators by their JsonLogic names (jsonlogic.com; `starts_with`, `ends_with` and `sem_ver` by flagd's page on
-- custom operations), and how many arguments each takes.
use Rattle.std.specs.Prelude.{ℕ, List, [], ◌∷◌, Bool, true, ◌&&◌, ◌==◌, nat_le, codes, slice_index, Option}
use Rattle.std.specs.List.{find}
use Rattle.std.specs.Str.{bytes_eq}
use Rattle.logic_ast.specs.declared.operator.Operator.{Operator}
use Rattle.logic_ast.specs.declared.operator.Operator.TheVariants.{Var, Missing, MissingSome, If, And, Or, Not, Truth, Equal, StrictEqual, NotEqual, StrictNotEqual, Less, LessOrEqual, Greater, GreaterOrEqual, Add, Subtract, Multiply, Remainder, Max, Min, Map, Filter, Reduce, AllOf, NoneOf, SomeOf, Merge, In, Cat, Substr, StartsWith, EndsWith, SemVer}

abbrev pub operator_name : Operator → List ℕ
operator_name Var = codes "var"
operator_name Missing = codes "missing"
operator_name MissingSome = codes "missing_some"
operator_name If = codes "if"
operator_name And = codes "and"
operator_name Or = codes "or"
operator_name Not = codes "!"
operator_name Truth = codes "!!"
operator_name Equal = codes "=="
operator_name StrictEqual = codes "==="
operator_name NotEqual = codes "!="
operator_name StrictNotEqual = codes "!=="
operator_name Less = codes "<"
operator_name LessOrEqual = codes "<="
operator_name Greater = codes ">"
operator_name GreaterOrEqual = codes ">="
operator_name Add = codes "+"
operator_name Subtract = codes "-"
operator_name Multiply = codes "*"
operator_name Remainder = codes "%"
operator_name Max = codes "max"
operator_name Min = codes "min"
operator_name Map = codes "map"
operator_name Filter = codes "filter"
operator_name Reduce = codes "reduce"
operator_name AllOf = codes "all"
operator_name NoneOf = codes "none"
operator_name SomeOf = codes "some"
operator_name Merge = codes "merge"
operator_name In = codes "in"
operator_name Cat = codes "cat"
operator_name Substr = codes "substr"
operator_name StartsWith = codes "starts_with"
operator_name EndsWith = codes "ends_with"
operator_name SemVer = codes "sem_ver"

-- from a to b
abbrev pub between : ℕ → ℕ → ℕ → Bool
between a b n = nat_le a n && nat_le n b

-- the operator may have so many arguments
abbrev pub takes : Operator → ℕ → Bool
takes Var n = between 0 2 n
takes Missing n = true
takes MissingSome n = n == 2
takes If n = true
takes And n = true
takes Or n = true
takes Not n = n == 1
takes Truth n = n == 1
takes Equal n = n == 2
takes StrictEqual n = n == 2
takes NotEqual n = n == 2
takes StrictNotEqual n = n == 2
takes Less n = between 2 3 n
takes LessOrEqual n = between 2 3 n
takes Greater n = n == 2
takes GreaterOrEqual n = n == 2
takes Add n = true
takes Subtract n = between 1 2 n
takes Multiply n = nat_le 1 n
takes Remainder n = n == 2
takes Max n = nat_le 1 n
takes Min n = nat_le 1 n
takes Map n = n == 2
takes Filter n = n == 2
takes Reduce n = between 2 3 n
takes AllOf n = n == 2
takes NoneOf n = n == 2
takes SomeOf n = n == 2
takes Merge n = true
takes In n = n == 2
takes Cat n = true
takes Substr n = between 2 3 n
takes StartsWith n = n == 2
takes EndsWith n = n == 2
takes SemVer n = n == 3

abbrev pub operators : List Operator
operators =
    Var ∷ Missing ∷ MissingSome ∷ If ∷ And ∷ Or ∷ Not ∷ Truth ∷ Equal ∷ StrictEqual ∷ NotEqual ∷
    StrictNotEqual ∷ Less ∷ LessOrEqual ∷ Greater ∷ GreaterOrEqual ∷ Add ∷ Subtract ∷ Multiply ∷
    Remainder ∷ Max ∷ Min ∷ Map ∷ Filter ∷ Reduce ∷ AllOf ∷ NoneOf ∷ SomeOf ∷ Merge ∷ In ∷ Cat ∷
    Substr ∷ StartsWith ∷ EndsWith ∷ SemVer ∷ []

-- the operator's name begins with this byte
abbrev pub begins_with : ℕ → Operator → Bool
begins_with byte o = slice_index (operator_name o) 0 == byte

-- the operator of this name
unfoldable pub operator_of : List ℕ → Option Operator
operator_of name = find (λ o. bytes_eq (operator_name o) name) operators

-- `fractional` is the one operation that is not in the list (flagd's page on the fractional operation)
unfoldable pub is_fractional : List ℕ → Bool
is_fractional name = bytes_eq (codes "fractional") name
