-- What the planner makes of a rollout request.
use Rattle.std.specs.Prelude.{◌≡◌, ℕ, ◌<◌, ◌≤◌, false, List, length, slice_index, IfOk, IsErrOf, Result}
use Rattle.std.specs.Str.{is_utf8}
use Rattle.book_core.specs.Book.{Inputs}
use Rattle.bucket_core.specs.Rule.{Entries, total_weight}
use Rattle.price_core.specs.Limits.{Limits}
use Rattle.price_core.specs.Request.{max_request}
use Rattle.price_core.specs.declared.fault.PriceFault.TheVariants.{BadRequest}
use Rattle.transport_core.specs.Groups.{AreSizes, AreSizesBy}
use Rattle.transport_core.specs.Instance.{AreListed, MissTotal, TransportProblem, max_names, max_planned_total}
use Rattle.plan_text.specs.Answer.{IsOrdered, planned_view}
use Rattle.plan_text.specs.PlanFile.{IsWhole}
use Rattle.plan_text.specs.declared.planned.Planned.{Planned}
use Rattle.rollout.specs.Lawful.{IsCounted}
use Rattle.rollout.specs.declared.fault.RolloutFault.{RolloutFault}
use Rattle.rollout.specs.declared.fault.RolloutFault.TheVariants.{Request}
use Rattle.rollout.specs.declared.problem.Problem as program_problem

-- What is answered is sorted, and a file can hold it; a request that is too large or no text is refused at once.
pub record PrintsOrRefuses (request : List ℕ) (result : Result Planned RolloutFault) : Type 0 where
  pub ordered : IfOk result (λ a. IsOrdered (planned_view a))
  pub whole : IfOk result (λ a. IsWhole (planned_view a))
  pub large : max_request < length request → IsErrOf result (Request BadRequest)
  pub no_text : length request ≤ max_request → is_utf8 request ≡ false → IsErrOf result (Request BadRequest)

-- what is asked is small enough to be planned on, each name of the rule has limits, and its total is within their sums
pub record IsPlannable (old : Entries) (limits : Limits) : Type 0 where
  pub small : total_weight old ≤ max_planned_total
  pub few : length limits ≤ max_names
  pub listed : AreListed old limits
  pub met : ¬ (MissTotal old limits)

-- the instance that is made of what is asked
pub record IsInstanceOf (p : program_problem.Problem) (t : TransportProblem) : Type 0 where
  pub loads : AreSizesBy p.old (slice_index p.counts.items) t.groups
  pub groups : (inputs : Inputs) → IsCounted p inputs → AreSizes p.old inputs t.groups
  pub limits : t.limits ≡ p.totals
  pub pricing : t.pricing ≡ p.request.now.prices
