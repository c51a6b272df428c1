-- What the picture of an answer tells.
use Rattle.std.specs.Prelude.{◌≡◌, ℕ, List, [], ◌∷◌}
use Rattle.std.specs.Map.{keys_of}
use Rattle.bucket_core.specs.Rule.{Entries, total_weight}
use Rattle.picture.specs.Changes.{change_height, change_told}
use Rattle.picture.specs.Deficits.{none_height, none_told}
use Rattle.picture.specs.Spelling.{Adds, IsPicture}
use Rattle.picture.specs.Told.{Item, down}
use Rattle.picture.specs.declared.words.Title.TheVariants as title
use Rattle.plan_text.specs.Answer.{Answer, emit, none_exists}
use Rattle.rollout.specs.CheckedTally.{TallyProblem}
use Rattle.rule_switches.specs.Runs.{Run, AreRuns}
use Rattle.rule_switches.specs.Table.{IsSwitchTable}
use Rattle.rule_switches.specs.declared.table.PairSwitches.{PairSwitches}
use Rattle.transport_core.specs.Certificate.{DualPrices}

-- what is told of a rule that a problem is answered with: its runs and its switches are those of the inputs on each point
pub record IsChangeTold (p : TallyProblem) (rule : Entries) (duals : DualPrices) (high : ℕ) (items : List Item) : Type 0 where
  pub runs : List Run
  pub table : ℕ × List PairSwitches
  pub in_runs : AreRuns p.old rule p.counts 0 runs (total_weight p.old)
  pub switched : IsSwitchTable p.old rule (keys_of p.limits) p.counts table
  pub told : items ≡ change_told p.old rule p.limits p.pricing runs table duals
  pub as_high : high ≡ change_height p.limits p.pricing table

-- what is told of an answer, and how high its picture is
abbrev pub IsAnswerTold : TallyProblem → Answer → ℕ × List Item → Type 0
IsAnswerTold p (emit rule duals) drawn = IsChangeTold p rule duals drawn.0 drawn.1
IsAnswerTold p (none_exists kind names) drawn = (drawn.0 ≡ none_height p.limits names) × (drawn.1 ≡ none_told p.old p.limits kind names)

-- its picture, alone on a page
abbrev pub IsPictured : TallyProblem → Answer → List ℕ → Type 0
IsPictured p answer bytes = (drawn : ℕ × List Item) × IsAnswerTold p answer drawn × IsPicture title.Rollout (drawn ∷ []) bytes

-- ---- for private clauses: it was added at the top of a page, and ends so far below it

abbrev pub AddsAnswer : TallyProblem → Answer → ℕ → List ℕ → List ℕ → Type 0
AddsAnswer p answer end before after = (drawn : ℕ × List Item) × IsAnswerTold p answer drawn × Adds 0 drawn.1 before after × (end ≡ down 0 drawn.0)

abbrev pub AddsChange : TallyProblem → Entries → DualPrices → ℕ → List ℕ → List ℕ → Type 0
AddsChange p rule duals end before after = (drawn : ℕ × List Item) × IsChangeTold p rule duals drawn.0 drawn.1 × Adds 0 drawn.1 before after × (end ≡ down 0 drawn.0)
