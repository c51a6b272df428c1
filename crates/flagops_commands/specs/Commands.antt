-- The table of the commands.
use Rattle.std.specs.Prelude.{◌≡◌, Bool, Option}
use Rattle.flagops_rollouts.specs.Apply.{IsApplyReport}
use Rattle.flagops_commands.specs.Bucket.{bucket_report}
use Rattle.flagops_commands.specs.Completions.{completions_report}
use Rattle.flagops_commands.specs.Drive.{IsDriveReport, LeavesBook}
use Rattle.flagops_shell.specs.Files.{Holding}
use Rattle.flagops_rollouts.specs.Keep.{IsKeepReport, LeavesDocument}
use Rattle.flagops_rollouts.specs.Plan.{IsPlanReport}
use Rattle.flagops_commands.specs.Price.{price_report}
use Rattle.flagops_commands.specs.Calls.{bucket_calls, completions_calls, price_calls, resolve_calls, drive_calls}
use Rattle.flagops_rollouts.specs.Calls.{verify_calls, apply_calls, keep_calls, plan_calls}
use Rattle.flagops_commands.specs.Attempts.{remark_of}
use Rattle.flagops_shell.specs.Described.{described}
use Rattle.flagops_commands.specs.Refusal.{Outcomes, call_name, call_of, rolls}
use Rattle.flagops_commands.specs.declared.refusal.ListedRefusal.{ListedRefusal}
use Rattle.flagops_commands.specs.declared.refusal.ListedRefusal.TheVariants.{Rollout}
use Rattle.flagops_shell.specs.Outcomes.{Lifts}
use Rattle.flagops_shell.specs.Running.{Description}
use Rattle.flagops_words.specs.Words.{asked_by, faults_of}
use Rattle.flagops_commands.specs.Resolve.{IsResolveReport}
use Rattle.flagops_rollouts.specs.Verify.{IsVerifyReport}
use Rattle.flagops_commands.specs.declared.refusal.ListedCall.{ListedCall}
use Rattle.flagops_words.specs.Asked.{Asked, bucket, price, resolve, verify, apply, keep, plan, drive, completions}

-- what each command comes to over the files, and over those that it leaves
abbrev pub IsOutcome : Holding → Option Holding → Asked → Outcomes
IsOutcome at after (bucket rule key json) r = bucket_report at rule key json ≡ r
IsOutcome at after (price old new request keys json) r = price_report at old new request keys json ≡ r
IsOutcome at after (resolve document key kind default context moment floats) r = IsResolveReport at document key kind default context moment floats r
IsOutcome at after (verify document request book file refine strict json floats) r = Lifts Rollout (IsVerifyReport floats at document request book file refine strict json) r
IsOutcome at after (apply document file key site strict floats) r = Lifts Rollout (IsApplyReport floats at document file key site strict) r
IsOutcome at after (keep document file request book write refine strict floats) r = Lifts Rollout (IsKeepReport floats at after document file request book write refine strict) r
IsOutcome at after (plan document request book refine strict explain floats) r = Lifts Rollout (IsPlanReport floats at document request book refine strict explain) r
IsOutcome at after (completions shell) r = completions_report shell ≡ r
IsOutcome at after (drive document file workers book add replace strict json floats) r = IsDriveReport floats at after document file workers book add replace strict json r

-- a command leaves the files as they are; `drive` and `apply --keep --write` change the one file that they write, and only where there is something to write
abbrev pub Leaves : Asked → Option Holding → Option Holding → Type 0
Leaves (keep document file request book write refine strict floats) old new = LeavesDocument old new document write
Leaves (drive document file workers book add replace strict json floats) old new = LeavesBook floats old new document file workers book add strict
Leaves asked old new = new ≡ old

-- the calls that each command makes
abbrev pub calls_of : Asked → ListedCall → Bool
calls_of (bucket rule key json) c = bucket_calls c
calls_of (price old new request keys json) c = price_calls c
calls_of (resolve document key kind default context moment floats) c = resolve_calls c
calls_of (verify document request book file refine strict json floats) c = rolls verify_calls c
calls_of (apply document file key site strict floats) c = rolls apply_calls c
calls_of (keep document file request book write refine strict floats) c = rolls keep_calls c
calls_of (plan document request book refine strict explain floats) c = rolls plan_calls c
calls_of (completions shell) c = completions_calls c
calls_of (drive document file workers book add replace strict json floats) c = drive_calls c

-- what is known of these commands
abbrev pub description : Description Asked ListedRefusal
description = described call_name call_of asked_by faults_of (λ a at after. IsOutcome at after a) remark_of calls_of Leaves
