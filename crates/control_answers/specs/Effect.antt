-- What a rule does to the inputs of which so many fall on each point.
use Rattle.std.specs.Prelude.{◌≡◌, ◌≢◌, ℕ, Bool, true, false, [], Option, Some, None}
use Rattle.book_core.specs.Book.{Inputs}
use Rattle.bucket_core.specs.Rule.{Entries, total_weight}
use Rattle.plan_text.specs.Answer.{Answer, emit, none_exists}
use Rattle.rollout.specs.CheckedTally.{AreTallied, TallyProblem}
use Rattle.rule_switches.specs.Edit.{IsObvious}
use Rattle.rule_switches.specs.Switches.{AreSwitches, Rows, rows_view}
use Rattle.control_answers.specs.declared.effect.Effect as program

-- the changes of name, each once with the number of its inputs, and how many the edit that comes to mind first would switch
pub record Effect : Type 0 where
  pub switches : Rows
  pub by_hand : Option ℕ

-- of a rule in place of another
pub record IsEffectOf (p : TallyProblem) (rule : Entries) (e : Effect) : Type 0 where
  pub switches : (inputs : Inputs) → AreTallied p inputs → AreSwitches p.old rule inputs e.switches
  pub edit : ℕ
  pub told : e.by_hand ≡ Some edit
  pub obvious : IsObvious p.old rule p.counts edit

abbrev pub nothing : Effect
nothing = record { switches = []; by_hand = None }

-- of a rule that keeps the total, as each planned one does; of another nothing is told
abbrev pub IsEffectIfKept : TallyProblem → Entries → Effect → Type 0
IsEffectIfKept p rule e = (total_weight rule ≡ total_weight p.old → IsEffectOf p rule e) × (total_weight rule ≢ total_weight p.old → e ≡ nothing)

-- of an answer; a set of names switches nobody
abbrev pub IsEffect : TallyProblem → Answer → Effect → Type 0
IsEffect p (emit rule c) e = IsEffectIfKept p rule e
IsEffect p (none_exists kind names) e = e ≡ nothing

-- no rule fits
abbrev pub has_no_rule : Answer → Bool
has_no_rule (emit rule c) = false
has_no_rule (none_exists kind names) = true

-- of the program
abbrev pub effect_view : program.Effect → Effect
effect_view e = record { switches = rows_view e.switches.items; by_hand = e.by_hand }
