-- What the types of the walk are seen as.
use Rattle.std.specs.Prelude.{ℕ, pos, Result, Some, None, [], List, ◌++◌, map, string_bytes, Option, option_map}
use Rattle.std.specs.Arc.{arc_value}
use Rattle.std.specs.Borrow.{Bor}
use Rattle.std.specs.List.{slice_split}
use Rattle.flag_text.specs.Shape.{Shape, whole, text, object}
use Rattle.flag_text.specs.View.{view, members_view}
use Rattle.logic_eval.specs.Budget.{Progress}
use Rattle.logic_eval.specs.Fractional.{given_input, made_input}
use Rattle.logic_values.specs.Objects.{reduce_scope}
use Rattle.logic_values.specs.Views.{root_view, value_view}
use Rattle.logic_values.specs.declared.fault.EvalFault.{EvalFault}
use Rattle.logic_eval.specs.declared.find.Found.{Found}
use Rattle.logic_eval.specs.declared.find.Found.TheVariants as found
use Rattle.logic_eval.specs.declared.find.Place.{Place}
use Rattle.logic_eval.specs.declared.find.Place.TheVariants as place
use Rattle.logic_eval.specs.declared.fractional.Input.{Input}
use Rattle.logic_eval.specs.declared.fractional.Input.TheVariants.{Given, Default}
use Rattle.logic_eval.specs.declared.fractional.WeightedVariant.{WeightedVariant}
use Rattle.logic_eval.specs.declared.fractional.WeightedVariant.TheVariants.{Literal, Computed}
use Rattle.logic_eval.specs.Run.{Reach}
use Rattle.logic_eval.specs.Scope.{Situation, is_dot}
use Rattle.logic_eval.specs.declared.context.Context.{Context}
use Rattle.logic_eval.specs.declared.meter.Meter.{Meter}
use Rattle.logic_eval.specs.declared.meter.Reached.{Reached}
use Rattle.logic_eval.specs.declared.scope.Scope.{Scope}
use Rattle.logic_eval.specs.declared.scope.Scope.TheVariants as scope
use Rattle.logic_eval.specs.declared.scope.Subject.{Subject}
use Rattle.logic_eval.specs.declared.variable.Source.{Source}
use Rattle.logic_eval.specs.declared.variable.Source.TheVariants as source

abbrev pub reach_view : Reached → Reach
reach_view r = record { site = r.site; input = string_bytes (arc_value r.input); total = r.total }

abbrev pub progress : Meter → Progress
progress m = (m.left, map reach_view m.reached.items)

abbrev pub scope_view : Scope → Shape
scope_view (scope.Root r) = root_view r
scope_view (scope.Item v) = value_view v.now
scope_view (scope.Fold so_far current) = reduce_scope (value_view so_far.now) (value_view current.now)

-- the default hash input
abbrev pub default_view : Subject → Option (List ℕ)
default_view s = option_map (λ key. s.flag.now ++ key.now) s.key

-- the input of a site
abbrev pub input_view : Option (List ℕ) → Input → Option (Result (List ℕ) EvalFault)
input_view default (Given v) = given_input (value_view v)
input_view default Default = made_input default

abbrev pub weighted_variant_view : WeightedVariant → Shape × Shape
weighted_variant_view (Literal name weight) = (text name.now, whole (pos weight))
weighted_variant_view (Computed name weight) = (value_view name, value_view weight)

-- what stands at a place
abbrev pub place_view : Place → Shape
place_view (place.Lent t) = view t.now
place_view (place.Given p) = view p.tree.now
place_view (place.Held v) = value_view v.now

-- what was found in a scope
abbrev pub found_view : Shape → Found → Shape
found_view scope found.Whole = scope
found_view scope (found.Part p) = place_view p

-- what `var` gives in a scope
abbrev pub source_view : Shape → Source → Shape
source_view scope source.Whole = scope
source_view scope (source.Part p) = place_view p
source_view scope (source.Default v) = value_view v

-- what a context stands for
abbrev pub situation : Context → Situation
situation c = record { context = object (members_view c.members.now); flag = c.flag.now; moment = c.moment }

-- the names of what is left of a path
abbrev pub names_after : Option (Bor (List ℕ)) → List (List ℕ)
names_after None = []
names_after (Some rest) = slice_split is_dot rest.now
