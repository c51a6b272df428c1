-- What the rule that a text stands for gives a hash input.
use Rattle.std.specs.Prelude.{◌≡◌, ℕ, false, List, string_bytes, Option, Some, Result, Ok, Err}
use Rattle.bucket_core.specs.Point.{point_of}
use Rattle.bucket_core.specs.Rule.{Entries, total_weight, choice}
use Rattle.rule_text.specs.Reading.{is_want}
use Rattle.rule_text.specs.declared.choosing.Choice.{Choice}
use Rattle.rule_text.specs.declared.fault.RuleTextFault.{RuleTextFault}

-- the input's point, and the name there
abbrev pub choice_by : List ℕ → Entries → ℕ × Option (List ℕ)
choice_by key r = (point_of (total_weight r) key, choice r key)

-- the same by the rule that was read, or the fault of reading it
abbrev pub choice_of : List ℕ → Result Entries RuleTextFault → Result (ℕ × Option (List ℕ)) RuleTextFault
choice_of key (Ok r) = Ok (choice_by key r)
choice_of key (Err e) = Err e

abbrev pub choice_view : Choice → ℕ × Option (List ℕ)
choice_view c = (c.point, Some (string_bytes c.variant))

-- What was returned is what the definition gives, unless memory ran out.
abbrev pub GivesChoice : Result Choice RuleTextFault → Result (ℕ × Option (List ℕ)) RuleTextFault → Type 0
GivesChoice (Ok c) wanted = wanted ≡ Ok (choice_view c)
GivesChoice (Err e) wanted = is_want e ≡ false → wanted ≡ Err e
