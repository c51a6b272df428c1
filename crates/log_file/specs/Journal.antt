-- What becomes of a log's bytes as it opens and as it is looked for.
use Rattle.std.specs.Prelude.{◌≡◌, ℕ, Bool, true, List, [], take, ⊤, Option, Some, None, IfSome, MatchOption}
use Rattle.log_file.specs.Line.{EndsLine, IsWholePart}
use Rattle.log_file.specs.declared.journal.Look.{Look}
use Rattle.log_file.specs.declared.journal.Look.TheVariants.{Stands, Reopened, Lost}
use Rattle.log_file.specs.declared.loss.Loss.{Loss}

-- of known bytes the whole lines are left, and nothing else is
abbrev pub LeavesLines : Option (List ℕ) → Option (List ℕ) → Type 0
LeavesLines old new = MatchOption old (new ≡ None) (λ bs. (n : ℕ) × IsWholePart bs n × (new ≡ Some (take n bs)))

-- the file stands as it was; or another one does, of whole lines; or none does
abbrev pub Looked : Look → Option (List ℕ) → Option (List ℕ) → Bool → Type 0
Looked Stands old new stands = (stands ≡ true) × (new ≡ old)
Looked (Reopened loss) old new stands = (stands ≡ true) × IfSome new EndsLine
Looked (Lost loss fault) old new stands = ⊤

-- how the file is lost from then on
abbrev pub lost_after : Look → Option Loss
lost_after Stands = None
lost_after (Reopened loss) = None
lost_after (Lost loss fault) = Some loss

-- what is left of the bytes that stand in it, which were read of it or handed to it: none of a file that is lost
abbrev pub left_after : Look → List ℕ → List ℕ
left_after Stands bytes = bytes
left_after (Reopened loss) bytes = []
left_after (Lost loss fault) bytes = []

-- the path of a file that was lost so was opened anew, or could not be
abbrev pub IsOpenedAnew : Loss → Look → Type 0
IsOpenedAnew loss Stands = ⊥
IsOpenedAnew loss (Reopened why) = why ≡ loss
IsOpenedAnew loss (Lost why fault) = why ≡ loss
