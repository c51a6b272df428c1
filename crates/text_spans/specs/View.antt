-- What the program's paths and answers are.
use Rattle.std.specs.Prelude.{ℕ, ◌-◌, List, map, take, drop, Option, option_map, MatchOption}
use Rattle.text_spans.specs.Path.{Place, Stands, Step, name, index}
use Rattle.text_spans.specs.declared.finding.Span.{Span}
use Rattle.text_spans.specs.declared.places.Ends.{Ends}
use Rattle.text_spans.specs.declared.steps.Step.{Step as StepOf}
use Rattle.text_spans.specs.declared.steps.Step.TheVariants.{Name, Index}

abbrev pub step_of : StepOf → Step
step_of (Name s) = name s.now
step_of (Index i) = index i

abbrev pub path_of : List StepOf → List Step
path_of = map step_of

abbrev pub ends_view : Option Ends → Option Place
ends_view = option_map (λ e. (e.from.now, e.behind.now))

-- the bytes of a span
abbrev pub old_of : List ℕ → Span → List ℕ
old_of text s = take (s.end - s.start) (drop s.start text)

-- the value at the path has this span, or there is none
abbrev pub IsFound : List ℕ → List Step → Option Span → Type 0
IsFound text path o = MatchOption o ((front old back : List ℕ) → ¬ Stands text path front old back) (λ s. Stands text path (take s.start text) (old_of text s) (drop s.end text))
