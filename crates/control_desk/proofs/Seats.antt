-- What is told on logs tells nothing of how often a seat was read, and of what hindered it before no more than that the system had not failed more often.
use Rattle.std.proofs.Common.{◌≤◌, ◌<◌, ℕ, List, Option, Some, None, Result, Ok, Err, arith, inl, inr}
use Rattle.control_flags.specs.declared.place.ControlPlace.{ControlPlace}
use Rattle.control_flags.specs.declared.place.ControlPlace.TheVariants as place
use Rattle.flagops_shell.specs.Files.{Holding}
use Rattle.http_server.specs.declared.response.Response.{Response}
use Rattle.snap_share.specs.Known.{Seat}
use Rattle.sync_frames.specs.Snapshots.{Numbered}
use Rattle.control_desk.specs.Asked.{CallAsked}
use Rattle.control_answers.specs.Apply.{Applied}
use Rattle.control_answers.specs.Snapshot.{Snapshot}
use Rattle.control_answers.specs.declared.refusal.ControlRefusal.{ControlRefusal}
use Rattle.control_desk.specs.Apply.{AppliesIf, AppliesOr, TellsApply}
use Rattle.control_desk.specs.Desk.{Hindered, Page, RespondsApplied, RespondsOn}
use Rattle.control_desk.specs.Files.{Naming}
use Rattle.control_desk.specs.Held.{with_document}
use Rattle.control_desk.specs.Rules.{Rules}

-- where the system had failed no more often before, and no less often after
module _ (folder path asker : List ℕ) (s : Snapshot) (before after : Option Holding) (f f' g g' : ℕ) (response : Response) (first : g ≤ f) (last : f' ≤ g') where
  more : f < f' → g < g'
  more h = omega (arith, first, last, h)

  applied : (a : Applied) → AppliesOr folder path asker s a before after f f' response → AppliesOr folder path asker s a before after g g' response
  applied a (inl is) = inl record { same = is.same; line = is.line; row = is.row; writes = is.writes; response_is = is.response_is }
  applied a (inr (inl other)) = inr (inl other)
  applied a (inr (inr (inl (inl failed, told, same)))) = inr (inr (inl (inl (more failed), told, same)))
  applied a (inr (inr (inl (inr nothing, told, same)))) = inr (inr (inl (inr nothing, told, same)))
  applied a (inr (inr (inr (failed, told, others)))) = inr (inr (inr (more failed, told, others)))

  applied_if : (r : Result Applied ControlRefusal) → AppliesIf folder path asker s before after f f' response r → AppliesIf folder path asker s before after g g' response r
  applied_if (Ok a) h = applied a h
  applied_if (Err e) h = h

  pub applied_aside : (token : List ℕ) (files : List (List ℕ)) → TellsApply folder path asker token s files before after f f' response → TellsApply folder path asker token s files before after g g' response
  applied_aside token files (r, is, h) = (r, is, applied_if r h)

-- so it is the same beside other reads
module _ (naming naming' : Option Naming) (before after : Option Holding) (had has had' has' : Hindered) (rules : Rules) (page : Page) (seat seat' other other' : Seat) (asked : CallAsked) (response : Response)
    (first : had'.faults ≤ had.faults) (last : has.faults ≤ has'.faults) where
  responds_aside : (applied_to : Option (List ℕ)) (folder : List ℕ) (s : Snapshot) (files : List (List ℕ))
      → RespondsApplied naming before after had has rules page seat seat' asked response applied_to folder s files
      → RespondsApplied naming' before after had' has' rules page other other' asked response applied_to folder s files
  responds_aside (Some path) folder s files h = applied_aside folder path asked.asker s before after had.faults has.faults had'.faults has'.faults response first last asked.body files h
  responds_aside None folder s files h = h

  pub aside : (called : ControlPlace) (folder : List ℕ) (s : Numbered) (document : List ℕ) (files passed : List (List ℕ))
      → RespondsOn naming before after had has rules page seat seat' asked response called folder s document files passed
      → RespondsOn naming' before after had' has' rules page other other' asked response called folder s document files passed
  aside place.Console folder s document files passed h = h
  aside place.Flags folder s document files passed h = h
  aside place.Snapshot folder s document files passed h = h
  aside place.Record folder s document files passed h = h
  aside place.Plan folder s document files passed h = h
  aside place.Check folder s document files passed h = h
  aside place.Apply folder s document files passed h = responds_aside rules.applied_to folder (with_document s document) files h
  aside place.History folder s document files passed h = h
  aside place.Elsewhere folder s document files passed h = h
