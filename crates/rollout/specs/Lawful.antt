-- Which requests are lawful, and what they ask: the rule that is planned on, limits, prices, and the inputs that count.
use Rattle.std.specs.Prelude.{◌≡◌, ◌≢◌, ℕ, ◌<◌, ◌≤◌, ◌*◌, ◌/◌, ◌%◌, ◌==◌, ◌||◌, nat_lt, Bool, List, length, sum_by, is_some, Option, Some, None, if◌then◌else◌, Result, Ok, Err}
use Rattle.std.specs.List.{list_all}
use Rattle.std.specs.Map.{keys_of, lookup}
use Rattle.std.specs.Str.{bytes_eq}
use Rattle.limits.specs.Limits.{planned_total}
use Rattle.bucket_core.specs.Rule.{Entries, total_weight, refinement, entries_view}
use Rattle.logic_ast.specs.Expression.{Expression}
use Rattle.logic_ast.specs.Sites.{parts_at}
use Rattle.logic_ast.specs.declared.fault.LogicFault.{LogicFault}
use Rattle.flag_defs.specs.Definition.{Definition}
use Rattle.flag_defs.specs.Document.{Definitions}
use Rattle.flag_defs.specs.Flag.{flag_view, variant_of, variant_names, targeting_in}
use Rattle.book_core.specs.Book.{Contents, Inputs, inputs_on, most_inputs}
use Rattle.book_core.specs.Counts.{counts_of}
use Rattle.book_core.specs.Page.{PageName}
use Rattle.book_core.specs.Site.{page_at}
use Rattle.price_core.specs.Limits.{Limits, AreLimits}
use Rattle.price_core.specs.Pricing.{Pricing}
use Rattle.price_core.specs.Request.{Asked, asked_of, totals_of}
use Rattle.price_core.specs.declared.fault.PriceFault.{PriceFault}
use Rattle.rollout.specs.declared.place.Place as program
use Rattle.rollout.specs.declared.problem.Problem as program_problem
use Rattle.rollout.specs.Fault.{of_logic, of_price}
use Rattle.rollout.specs.declared.fault.RolloutFault.{RolloutFault}
use Rattle.rollout.specs.declared.fault.RolloutFault.TheVariants.{UnknownFlag, NoSite, UnknownVariant, TotalsSum, TotalTooLarge, NoWeight}
use Rattle.rollout.specs.declared.refining.Refining.{Refining}
use Rattle.rollout.specs.declared.refining.Refining.TheVariants.{Times, ToTotal}

-- what a lawful request asks
pub record Problem : Type 0 where
  pub old : Entries
  pub limits : Limits
  pub pricing : Pricing
  pub inputs : Inputs

-- the site of a request: its flag, its entries, and the page of its inputs
pub record Place : Type 0 where
  pub flag : Definition
  pub entries : Entries
  pub page : PageName

-- what comes next, where nothing is refused
abbrev pub and_then : {A B : Type 0} → Result A RolloutFault → (A → Result B RolloutFault) → Result B RolloutFault
and_then (Ok x) f = f x
and_then (Err e) f = Err e

abbrev pub by_price : {A : Type 0} → Result A PriceFault → Result A RolloutFault
by_price (Ok x) = Ok x
by_price (Err e) = Err (of_price e)

abbrev pub by_logic : {A : Type 0} → Result A LogicFault → Result A RolloutFault
by_logic (Ok x) = Ok x
by_logic (Err e) = Err (of_logic e)

abbrev pub or_refuse : {A : Type 0} → RolloutFault → Option A → Result A RolloutFault
or_refuse e None = Err e
or_refuse e (Some x) = Ok x

-- ---- the site

abbrev pub place_in : List ℕ → ℕ → Definition → Expression → Result Place RolloutFault
place_in key site flag targeting =
    and_then (by_logic (parts_at site targeting)) (λ parts.
    and_then (by_logic (page_at key site targeting)) (λ page. Ok (record { flag = flag; entries = parts.1; page = page })))

-- the site of a flag that has it, with literal buckets alone
abbrev pub place_of : Definitions → List ℕ → ℕ → Result Place RolloutFault
place_of flags key site =
    and_then (or_refuse UnknownFlag (lookup (bytes_eq key) flags)) (λ flag.
    and_then (or_refuse NoSite (targeting_in flag)) (λ targeting. place_in key site flag targeting))

-- ---- limits

-- each name of the rule, also one without weight, is a variant of the flag
abbrev pub names_are_variants : Definition → Entries → Bool
names_are_variants flag entries = list_all (λ name. is_some (variant_of name flag)) (keys_of entries)

-- the limits on the flag's variants, where the rule and the request name no others
abbrev pub limits_for : Place → Asked → Result Limits RolloutFault
limits_for place asked = if names_are_variants place.flag place.entries then by_price (totals_of (variant_names place.flag) asked) else Err UnknownVariant

-- the low limits sum above the total, or the high ones below it
abbrev pub is_unmet : Limits → ℕ → Bool
is_unmet limits total = nat_lt total (sum_by (λ l. l.1.0) limits) || nat_lt (sum_by (λ l. l.1.1) limits) total

-- ---- the rule that is planned on

-- the largest total that is planned on
abbrev pub max_planned : ℕ
max_planned = planned_total

-- what the weights of the site are multiplied by: the number itself, or the one that makes a given total of the site's, and 1 where there is none
abbrev pub factor : Refining → ℕ → ℕ
factor (Times m) total = m
factor (ToTotal n) total = if n % total == 0 then n / total else 1

-- the limits can be met by the refined total, which is not too large to plan on
abbrev pub sized : Limits → ℕ → Result (Unit {0}) RolloutFault
sized limits total = if is_unmet limits total then Err TotalsSum else (if nat_lt max_planned total then Err TotalTooLarge else Ok tt)

abbrev pub weighed : Entries → Result (Unit {0}) RolloutFault
weighed entries = if total_weight entries == 0 then Err NoWeight else Ok tt

-- ---- the whole

-- what is asked of these inputs, at a site with weight
abbrev pub problem_on : Refining → Inputs → Asked → Place → Result Problem RolloutFault
problem_on refining inputs asked place =
    and_then (limits_for place asked) (λ limits.
    and_then (sized limits (total_weight place.entries * factor refining (total_weight place.entries))) (λ _.
    Ok (record { old = refinement (factor refining (total_weight place.entries)) place.entries; limits = limits; pricing = asked.prices; inputs = inputs })))

abbrev pub problem_at : Refining → Contents → Asked → Place → Result Problem RolloutFault
problem_at refining book asked place = and_then (weighed place.entries) (λ _. problem_on refining (inputs_on book place.page) asked place)

-- what is asked by a request that was read, or its first refusal: the flag, the site, its buckets, its weight, the names, the sums, the total
abbrev pub problem_asked : Refining → Definitions → Asked → Contents → Result Problem RolloutFault
problem_asked refining flags asked book = and_then (place_of flags asked.flag asked.site) (λ place. problem_at refining book asked place)

-- What the bytes of a request ask, or its first refusal: the request itself, and then as of one that was read.
abbrev pub problem_of : Refining → Definitions → List ℕ → Contents → Result Problem RolloutFault
problem_of refining flags bytes book = and_then (by_price (asked_of bytes)) (λ asked. problem_asked refining flags asked book)

-- What the laws of weak duality and of deficient sets ask of a problem: a total above 0, and limits in order.
pub record IsLawful (p : Problem) : Type 0 where
  pub some : 0 < total_weight p.old
  pub limits : AreLimits p.limits

-- the numbers are above 0
abbrev pub IsRefining : Refining → Type 0
IsRefining (Times m) = 0 < m
IsRefining (ToTotal n) = 0 < n

-- ---- of the program

abbrev pub place_view : program.Place → Place
place_view p = record { flag = flag_view p.flag.now; entries = entries_view p.entries.items; page = p.page }

-- what is asked, with these inputs
abbrev pub problem_view : program_problem.Problem → Inputs → Problem
problem_view p inputs = record { old = p.old; limits = p.totals; pricing = p.request.now.prices; inputs = inputs }

-- so many of these inputs fall on each point of the rule that is planned on
abbrev pub IsCounted : program_problem.Problem → Inputs → Type 0
IsCounted p inputs = p.counts.items ≡ counts_of inputs (total_weight p.old)

-- what is asked is this, with inputs of which so many fall on each point, and no more than a page takes
pub record IsPosed (p : program_problem.Problem) (asked : Result Problem RolloutFault) : Type 0 where
  pub inputs : Inputs
  pub is : asked ≡ Ok (problem_view p inputs)
  pub counted : IsCounted p inputs
  pub few : length inputs ≤ most_inputs

-- What is posed of a request: what it asks, with how many of its inputs fall on each point, or its refusal, unless that is want of memory.
abbrev pub PosesUnless : RolloutFault → Result program_problem.Problem RolloutFault → Result Problem RolloutFault → Type 0
PosesUnless want (Ok p) asked = IsPosed p asked
PosesUnless want (Err e) asked = e ≢ want → asked ≡ Err e
