-- Runs of points of one old and one new name.
use Rattle.std.specs.Prelude.{◌≡◌, ℕ, ◌+◌, ◌<◌, ◌≤◌, ◌^◌, List, [], ◌∷◌, map, sum, sum_by, Some}
use Rattle.std.specs.List.{slice_range}
use Rattle.bucket_core.specs.Rule.{Entries, at}
use Rattle.limits.specs.Limits.{tally_inputs}
use Rattle.price_core.specs.Cost.{name_at}
use Rattle.rule_switches.specs.declared.change.Run as program

-- so many points from one name to another, and the users on them
pub record Run : Type 0 where
  pub from : List ℕ
  pub to : List ℕ
  pub points : ℕ
  pub users : ℕ

-- The run begins at the point: each of its points has its names, and its users are those of its points. A point that the new rule does not have
-- has no name there; rules of one total have the same points.
pub record IsRunAt (before after : Entries) (counts : List ℕ) (p : ℕ) (r : Run) : Type 0 where
  pub some : 0 < r.points
  pub old : (q : ℕ) → p ≤ q → q < p + r.points → at before q ≡ Some r.from
  pub new : (q : ℕ) → p ≤ q → q < p + r.points → name_at after q ≡ r.to
  pub users : r.users ≡ sum (slice_range counts p (p + r.points))

-- the runs stand one behind the other, from one point to another
abbrev pub AreRuns : Entries → Entries → List ℕ → ℕ → List Run → ℕ → Type 0
AreRuns old new counts p [] end = p ≡ end
AreRuns old new counts p (r ∷ rs) end = IsRunAt old new counts p r × AreRuns old new counts (p + r.points) rs end

-- no more points than a rule has, and no more users than a tally
pub record AreFew (rs : List Run) : Type 0 where
  pub points : sum_by (λ r. r.points) rs < 2 ^ 31
  pub users : sum_by (λ r. r.users) rs ≤ tally_inputs

-- the runs of the program, without where their names lie in memory
abbrev pub run_view : program.Run → Run
run_view r = record { from = r.from.now; to = r.to.now; points = r.points; users = r.users }

abbrev pub runs_view : List program.Run → List Run
runs_view rs = map run_view rs
