-- An operator is found by its name, and is not the site.
use Rattle.std.proofs.Common.{◌≡◌, true, false, Some, codes, refl}
use Rattle.logic_ast.specs.Operator.{operator_name, operator_of, is_fractional}
use Rattle.logic_ast.specs.declared.operator.Operator.{Operator}
use Rattle.logic_ast.specs.declared.operator.Operator.TheVariants.{Var, Missing, MissingSome, If, And, Or, Not, Truth, Equal, StrictEqual, NotEqual, StrictNotEqual, Less, LessOrEqual, Greater, GreaterOrEqual, Add, Subtract, Multiply, Remainder, Max, Min, Map, Filter, Reduce, AllOf, NoneOf, SomeOf, Merge, In, Cat, Substr, StartsWith, EndsWith, SemVer}

pub operator_of-operator_name : (o : Operator) → operator_of (operator_name o) ≡ Some o
unfolding operator_of
operator_of-operator_name Var = refl
operator_of-operator_name Missing = refl
operator_of-operator_name MissingSome = refl
operator_of-operator_name If = refl
operator_of-operator_name And = refl
operator_of-operator_name Or = refl
operator_of-operator_name Not = refl
operator_of-operator_name Truth = refl
operator_of-operator_name Equal = refl
operator_of-operator_name StrictEqual = refl
operator_of-operator_name NotEqual = refl
operator_of-operator_name StrictNotEqual = refl
operator_of-operator_name Less = refl
operator_of-operator_name LessOrEqual = refl
operator_of-operator_name Greater = refl
operator_of-operator_name GreaterOrEqual = refl
operator_of-operator_name Add = refl
operator_of-operator_name Subtract = refl
operator_of-operator_name Multiply = refl
operator_of-operator_name Remainder = refl
operator_of-operator_name Max = refl
operator_of-operator_name Min = refl
operator_of-operator_name Map = refl
operator_of-operator_name Filter = refl
operator_of-operator_name Reduce = refl
operator_of-operator_name AllOf = refl
operator_of-operator_name NoneOf = refl
operator_of-operator_name SomeOf = refl
operator_of-operator_name Merge = refl
operator_of-operator_name In = refl
operator_of-operator_name Cat = refl
operator_of-operator_name Substr = refl
operator_of-operator_name StartsWith = refl
operator_of-operator_name EndsWith = refl
operator_of-operator_name SemVer = refl

pub is_fractional-operator_name : (o : Operator) → is_fractional (operator_name o) ≡ false
unfolding is_fractional
is_fractional-operator_name Var = refl
is_fractional-operator_name Missing = refl
is_fractional-operator_name MissingSome = refl
is_fractional-operator_name If = refl
is_fractional-operator_name And = refl
is_fractional-operator_name Or = refl
is_fractional-operator_name Not = refl
is_fractional-operator_name Truth = refl
is_fractional-operator_name Equal = refl
is_fractional-operator_name StrictEqual = refl
is_fractional-operator_name NotEqual = refl
is_fractional-operator_name StrictNotEqual = refl
is_fractional-operator_name Less = refl
is_fractional-operator_name LessOrEqual = refl
is_fractional-operator_name Greater = refl
is_fractional-operator_name GreaterOrEqual = refl
is_fractional-operator_name Add = refl
is_fractional-operator_name Subtract = refl
is_fractional-operator_name Multiply = refl
is_fractional-operator_name Remainder = refl
is_fractional-operator_name Max = refl
is_fractional-operator_name Min = refl
is_fractional-operator_name Map = refl
is_fractional-operator_name Filter = refl
is_fractional-operator_name Reduce = refl
is_fractional-operator_name AllOf = refl
is_fractional-operator_name NoneOf = refl
is_fractional-operator_name SomeOf = refl
is_fractional-operator_name Merge = refl
is_fractional-operator_name In = refl
is_fractional-operator_name Cat = refl
is_fractional-operator_name Substr = refl
is_fractional-operator_name StartsWith = refl
is_fractional-operator_name EndsWith = refl
is_fractional-operator_name SemVer = refl

pub is_fractional-fractional : is_fractional (codes "fractional") ≡ true
unfolding is_fractional
is_fractional-fractional = refl
