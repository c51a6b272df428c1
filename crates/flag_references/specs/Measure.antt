-- What is known of a tree by each way in which it can be read: its nodes and levels up to a number above every limit,
-- whether nothing is wrong with it, and how many bytes it is printed in at least.
use Rattle.std.specs.Prelude.{ℕ, suc, ◌+◌, ◌^◌, ◌==◌, min, max, pos, Bool, true, false, not, ◌&&◌, List, [], ◌∷◌, length, nat_lt, if◌then◌else◌, Option, Some, None, option_map, option_and_then}
use Rattle.std.specs.Str.{bytes_eq}
use Rattle.limits.specs.Limits.{text_bytes}
use Rattle.flag_text.specs.Shape.{Shape, null, boolean, whole, other, text, list, object, Items, no_items, item, Members, no_members, member, is_in_range}
use Rattle.logic_ast.specs.Operator.{operator_of, takes, is_fractional}
use Rattle.logic_ast.specs.FirstFault.{item_count}
use Rattle.logic_ast.specs.declared.operator.Operator.{Operator}
use Rattle.flag_references.specs.Inlining.{is_reference_name, reference_of}
use Rattle.flag_references.specs.declared.measure.Reading.{Reading}
use Rattle.flag_references.specs.declared.measure.Measure.{Measure}
use Rattle.flag_references.specs.declared.measure.Parts.{Parts}

-- above the limits of nodes, of levels and of printed bytes
abbrev pub most : ℕ
most = text_bytes + 1

abbrev pub capped : ℕ → ℕ
capped n = min n most

abbrev pub plus : ℕ → ℕ → ℕ
plus a b = capped (a + b)

-- ---- readings

abbrev pub nothing : Reading
nothing = record { nodes = 0; levels = 0; is_sound = true }

abbrev pub scalar : Reading
scalar = record { nodes = 1; levels = 0; is_sound = true }

abbrev pub beside : Reading → Reading → Reading
beside a b = record { nodes = plus a.nodes b.nodes; levels = max a.levels b.levels; is_sound = a.is_sound && b.is_sound }

abbrev pub around : Reading → Reading
around r = record { nodes = plus r.nodes 1; levels = plus r.levels 1; is_sound = r.is_sound }

-- the reading, sound only where this holds too
abbrev pub when : Bool → Reading → Reading
when b r = record r { is_sound = b && r.is_sound }

-- ---- a list

abbrev pub no_parts : Parts
no_parts = record { full = nothing; expressions = nothing; site = nothing; buckets = nothing; first_is_text = false; first_is_weight = false; second_is_weight = false; bytes = 0 }

-- the first item of a site's arguments is the bucketing expression unless it is a list
abbrev pub first_of_site : Measure → Reading
first_of_site m = if m.is_list then m.bucket else m.expression

abbrev pub item_in_front : Measure → Parts → Parts
item_in_front m p = record {
  full = beside m.full p.full;
  expressions = beside m.expression p.expressions;
  site = beside (first_of_site m) p.buckets;
  buckets = beside m.bucket p.buckets;
  first_is_text = m.is_text;
  first_is_weight = m.is_weight;
  second_is_weight = p.first_is_weight;
  bytes = plus m.bytes p.bytes;
}

-- A list in the place of a bucket: a name, or a name and a weight. A literal one counts nothing, and an absent weight is written as 1.
abbrev pub bucket_of_one : Parts → Reading
bucket_of_one p = if p.first_is_text then nothing else around (beside p.expressions scalar)

abbrev pub bucket_of_two : Parts → Reading
bucket_of_two p = if p.first_is_text && p.second_is_weight then nothing else around p.expressions

abbrev pub in_place_of_bucket : ℕ → Parts → Reading
in_place_of_bucket n p = if n == 1 then bucket_of_one p else (if n == 2 then bucket_of_two p else when false (around p.expressions))

abbrev pub list_measure : ℕ → Parts → Measure
list_measure n p = record {
  full = around p.full;
  expression = around p.expressions;
  arguments = p.expressions;
  argument_count = n;
  site = p.site;
  bucket = in_place_of_bucket n p;
  is_list = true;
  is_text = false;
  is_weight = false;
  bytes = plus p.bytes 2;
}

-- ---- a scalar

abbrev pub scalar_of : Bool → Bool → Bool → ℕ → Measure
scalar_of is_whole is_text is_weight bytes = record {
  full = when is_whole scalar;
  expression = scalar;
  arguments = scalar;
  argument_count = 1;
  site = scalar;
  bucket = when false scalar;
  is_list = false;
  is_text = is_text;
  is_weight = is_weight;
  bytes = plus bytes 1;
}

-- ---- an object that is no reference

abbrev pub object_measure : Reading → Reading → ℕ → Measure
object_measure full expression bytes = record {
  full = full;
  expression = expression;
  arguments = expression;
  argument_count = 1;
  site = expression;
  bucket = when false expression;
  is_list = false;
  is_text = false;
  is_weight = false;
  bytes = plus bytes 2;
}

-- the members of an object, together
abbrev pub no_members_full : Reading × ℕ
no_members_full = (nothing, 0)

abbrev pub member_in_front : List ℕ → Measure → Reading × ℕ → Reading × ℕ
member_in_front k m rest = (beside m.full rest.0, plus (plus (length k) m.bytes) rest.1)

-- a literal object: nothing in it is read
abbrev pub literal_measure : Reading × ℕ → Measure
literal_measure all = object_measure (around all.0) (around (record all.0 { is_sound = true })) all.1

abbrev pub takes_count : Option Operator → ℕ → Bool
takes_count None n = false
takes_count (Some o) n = takes o n

abbrev pub operation_reading : List ℕ → Measure → Reading
operation_reading k m = if is_fractional k then m.site else when (takes_count (operator_of k) m.argument_count) m.arguments

-- an object of one member: an operation. Where the member is `$ref` with what has become a text, a reference is left.
abbrev pub operation_measure : List ℕ → Measure → Measure
operation_measure k m = object_measure (around (when (not (is_reference_name k && m.is_text)) m.full)) (around (around (operation_reading k m))) (plus (length k) m.bytes)

-- ---- a tree

-- of a tree as it stands, references and all
abbrev mutual
  pub measure : Shape → Measure
  measure null = scalar_of true false false 0
  measure (boolean b) = scalar_of true false false 0
  measure (whole (pos n)) = scalar_of (is_in_range (pos n)) false (nat_lt n (2 ^ 31)) 0
  measure (whole z) = scalar_of (is_in_range z) false false 0
  measure other = scalar_of false false false 0
  measure (text s) = scalar_of true true false (suc (length s))
  measure (list ts) = list_measure (item_count ts) (parts ts)
  measure (object ms) = object_of ms

  pub parts : Items → Parts
  parts no_items = no_parts
  parts (item t ts) = item_in_front (measure t) (parts ts)

  pub object_of : Members → Measure
  object_of no_members = literal_measure no_members_full
  object_of (member k t no_members) = operation_measure k (measure t)
  object_of (member k t (member l u ms)) = literal_measure (member_in_front k (measure t) (member_in_front l (measure u) (members_full ms)))

  pub members_full : Members → Reading × ℕ
  members_full no_members = no_members_full
  members_full (member k t ms) = member_in_front k (measure t) (members_full ms)

abbrev pub referred : (List ℕ → Option Measure) → Option (List ℕ) → Option Measure → Option Measure
referred refer None m = m
referred refer (Some name) m = refer name

abbrev pub both : {A B C : Type 0} → (A → B → C) → Option A → Option B → Option C
both f a b = option_and_then (λ x. option_map (f x) b) a

-- the same, but in the place of a reference stands what `refer` gives for its name
abbrev mutual
  pub measured : (List ℕ → Option Measure) → Shape → Option Measure
  measured refer null = Some (scalar_of true false false 0)
  measured refer (boolean b) = Some (scalar_of true false false 0)
  measured refer (whole (pos n)) = Some (scalar_of (is_in_range (pos n)) false (nat_lt n (2 ^ 31)) 0)
  measured refer (whole z) = Some (scalar_of (is_in_range z) false false 0)
  measured refer other = Some (scalar_of false false false 0)
  measured refer (text s) = Some (scalar_of true true false (suc (length s)))
  measured refer (list ts) = option_map (list_measure (item_count ts)) (parts_measured refer ts)
  measured refer (object ms) = referred refer (reference_of ms) (object_measured refer ms)

  pub parts_measured : (List ℕ → Option Measure) → Items → Option Parts
  parts_measured refer no_items = Some no_parts
  parts_measured refer (item t ts) = both item_in_front (measured refer t) (parts_measured refer ts)

  pub object_measured : (List ℕ → Option Measure) → Members → Option Measure
  object_measured refer no_members = Some (literal_measure no_members_full)
  object_measured refer (member k t no_members) = option_map (operation_measure k) (measured refer t)
  object_measured refer (member k t (member l u ms)) =
      option_map literal_measure (both (member_in_front k) (measured refer t) (both (member_in_front l) (measured refer u) (members_measured refer ms)))

  pub members_measured : (List ℕ → Option Measure) → Members → Option (Reading × ℕ)
  members_measured refer no_members = Some no_members_full
  members_measured refer (member k t ms) = both (member_in_front k) (measured refer t) (members_measured refer ms)

-- what a table has for a name: at its place among the evaluators
abbrev pub known : {A : Type 0} → Members → List (Option A) → List ℕ → Option A
known no_members es name = None
known (member k t ms) [] name = None
known (member k t ms) (e ∷ es) name = if bytes_eq k name then e else known ms es name
