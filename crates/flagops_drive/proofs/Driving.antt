-- What was driven and what was refused, as what the command comes to.
use Rattle.std.proofs.Common.{◌≡◌, ◌≢◌, ◌∙◌, ℕ, Bool, List, Option, Some, None, true, map, refl, sym, ap, subst}
use Rattle.std.specs.Prelude.{IfErr, IfOk, Result, Ok, Err}
use Rattle.flag_resolve.specs.Floats.{Marked}
use Rattle.flag_resolve.specs.Resolved.{Resolved}
use Rattle.book_core.specs.Book.{Contents}
use Rattle.book_core.specs.Union.{Unites}
use Rattle.book_core.specs.declared.fault.BookFault.{BookFault}
use Rattle.book_core.specs.declared.fault.BookFault.TheVariants as book
use Rattle.book_share.specs.Asked.{long_of, mentions, resolved}
use Rattle.book_share.specs.Driven.{AreNoted}
use Rattle.book_share.specs.DriveFault.{is_of_workers, workers_fault}
use Rattle.book_share.specs.declared.ask.Ask as program
use Rattle.book_share.specs.declared.drive_fault.DriveFault.{DriveFault}
use Rattle.book_share.specs.declared.drive_fault.DriveFault.TheVariants.{WantOfMemory, NoWorkers, TooManyWorkers, Stalled}
use Rattle.flagops_drive.specs.Asks.{Ask, ask_view, if_asks}
use Rattle.flagops_drive.specs.Driven.{Drives, DriveOutput, IsDriveOf, IsOutput, IsReached, IsRefused, IsUnadded, Reached, drive_output_view}
use Rattle.flagops_drive.specs.Fault.{of_union, want}
use Rattle.flagops_drive.specs.Floats.{answered, answered_spelled, asked_as, spelled_of}
use Rattle.flagops_drive.specs.Tally.{IsTallied, IsTallyOf, TalliesAsks}
use Rattle.flagops_drive.specs.declared.command.DriveOutput as program_output
use Rattle.flagops_drive.specs.declared.fault.DriveRefusal.{DriveRefusal}
use Rattle.flagops_drive.specs.declared.fault.DriveRefusal.TheVariants.{Drive, BadAsks, PageFull}
use Rattle.flagops_drive.proofs.Answering.{all-answered, all-spelled}

there : (o : Option (List Ask)) (asks : List Ask) → if_asks o ≡ Ok asks → o ≡ Some asks
there None asks h = cc
there (Some xs) asks h = let same : xs ≡ asks = cc in ap Some same

no_fault : (o : Option DriveFault) → ((e : DriveFault) → o ≡ Some e → ⊥) → o ≡ None
no_fault None h = refl
no_fault (Some e) h = absurd (h e refl)

-- what the workers came to, of asks that were read
pub reached_of : (flags : Marked) (asks : List Ask) (given items : List program.Ask) (r : Reached) (rs : List Resolved) → map ask_view items ≡ map (asked_as flags) asks → given ≡ items → r.answers ≡ rs → r.spelled ≡ spelled_of flags given rs
    → rs ≡ map (resolved flags.0) given → AreNoted (mentions flags.0 given) r.book r.calls r.news r.full → r.long ≡ long_of flags.0 given → IsReached flags asks r
reached_of flags asks given items r rs read same answers spelled are noted counted =
    let wanted : map ask_view given ≡ map (asked_as flags) asks = ap (map ask_view) same ∙ read in
    record {
      answers = answers ∙ (are ∙ all-answered flags given asks wanted);
      spelled = spelled ∙ (ap (spelled_of flags given) are ∙ all-spelled flags given asks wanted);
      given = given;
      same = wanted;
      noted = noted;
      long = counted;
    }

-- the whole output, of asks that were driven
drove_of : (flags : Marked) (o : Option (List Ask)) (asks : List Ask) (workers : ℕ) (before : Option Contents) (json : Bool) (r : Reached) (d : DriveOutput) → if_asks o ≡ Ok asks
    → ((e : DriveFault) → workers_fault workers ≡ Some e → ⊥) → IsReached flags asks r → IsOutput before json r d → IsDriveOf flags o workers before json (Ok d)
drove_of flags o asks workers before json r d read workers_fit reached output =
    subst (λ (p : Option (List Ask)). IsDriveOf flags p workers before json (Ok d)) (sym (there o asks read))
    (no_fault (workers_fault workers) workers_fit, record { reached = r; is_reached = reached; output = output })

-- what was driven and not added to the book from before
unadded_of : (flags : Marked) (o : Option (List Ask)) (asks : List Ask) (workers : ℕ) (before : Option Contents) (json : Bool) (r : Reached) (e : DriveRefusal) → if_asks o ≡ Ok asks
    → ((e : DriveFault) → workers_fault workers ≡ Some e → ⊥) → IsReached flags asks r → IsUnadded before r.book e → e ≢ want → IsDriveOf flags o workers before json (Err e)
unadded_of flags o asks workers before json r e read workers_fit reached unadded wanted =
    subst (λ (p : Option (List Ask)). IsDriveOf flags p workers before json (Err e)) (sym (there o asks read)) (go e unadded wanted)
  where
    go : (e : DriveRefusal) → IsUnadded before r.book e → e ≢ want → IsRefused flags asks workers before e
    go (Drive f) is wants = absurd (wants (ap Drive is))
    go PageFull full wants = (no_fault (workers_fault workers) workers_fit, record { reached = r; is_reached = reached; full = full })
    go BadAsks is wants = absurd is

-- what was driven, as what the command comes to
pub output_is : (flags : Marked) (o : Option (List Ask)) (asks : List Ask) (workers : ℕ) (before : Option Contents) (json : Bool) (r : Reached) (result : Result program_output.DriveOutput DriveRefusal) → if_asks o ≡ Ok asks
    → ((e : DriveFault) → workers_fault workers ≡ Some e → ⊥) → IsReached flags asks r → IfOk result (λ d. IsOutput before json r (drive_output_view d)) → IfErr result (IsUnadded before r.book)
    → Drives flags o workers before json result
output_is flags o asks workers before json r (Ok d) read workers_fit reached output unadded = drove_of flags o asks workers before json r (drive_output_view d) read workers_fit reached output
output_is flags o asks workers before json r (Err e) read workers_fit reached output unadded = λ wanted. unadded_of flags o asks workers before json r e read workers_fit reached unadded wanted

-- the tally of what was driven, as that of the asks
pub tally_is : (flags : Marked) (o : Option (List Ask)) (asks : List Ask) (before : Option Contents) (json : Bool) (r : Reached) (result : Result program_output.DriveOutput DriveRefusal) → if_asks o ≡ Ok asks → IsReached flags asks r
    → IfOk result (λ d. IsTallyOf r.answers r.spelled before json d.text.items d.tally) → IfOk result (IsTallied flags o before json)
tally_is flags o asks before json r (Err e) read reached tally = tt
tally_is flags o asks before json r (Ok d) read reached tally =
    subst (λ (p : Option (List Ask)). TalliesAsks flags p before json d.text.items d.tally) (sym (there o asks read))
    (subst (λ (bs : List Bool). IsTallyOf (map (answered flags) asks) bs before json d.text.items d.tally) reached.spelled
    (subst (λ (rs : List Resolved). IsTallyOf rs r.spelled before json d.text.items d.tally) reached.answers tally))

-- the refusals of asks that were read
refused_so : (flags : Marked) (asks : List Ask) (workers : ℕ) (before : Option Contents) (e : DriveFault) → (is_of_workers e ≡ true → workers_fault workers ≡ Some e) → e ≢ Stalled → Drive e ≢ want
    → IsRefused flags asks workers before (Drive e)
refused_so flags asks workers before WantOfMemory number stalls wanted = absurd (wanted refl)
refused_so flags asks workers before NoWorkers number stalls wanted = number refl
refused_so flags asks workers before TooManyWorkers number stalls wanted = number refl
refused_so flags asks workers before Stalled number stalls wanted = absurd (stalls refl)

pub refused_of : (flags : Marked) (o : Option (List Ask)) (asks : List Ask) (workers : ℕ) (before : Option Contents) (json : Bool) (e : DriveFault) → if_asks o ≡ Ok asks
    → (is_of_workers e ≡ true → workers_fault workers ≡ Some e) → e ≢ Stalled → Drive e ≢ want → IsDriveOf flags o workers before json (Err (Drive e))
refused_of flags o asks workers before json e read number stalls wanted =
    subst (λ (p : Option (List Ask)). IsDriveOf flags p workers before json (Err (Drive e))) (sym (there o asks read)) (refused_so flags asks workers before e number stalls wanted)

-- a union that is refused, as why what was reached is not written
pub unadded_by : (before reached : Contents) (f : BookFault) (e : DriveRefusal) → Unites before reached (Err f) → e ≡ of_union f → IsUnadded (Some before) reached e
unadded_by before reached f e unites is = subst (IsUnadded (Some before) reached) (sym is) (go f unites)
  where
    go : (f : BookFault) → Unites before reached (Err f) → IsUnadded (Some before) reached (of_union f)
    go book.WantOfMemory unites = refl
    go book.PageFull unites = unites
    go book.InputTooLong unites = absurd unites
    go book.LastCall unites = absurd unites
    go book.Stranger unites = absurd unites

pub not_both : {X E : Type 0} {x : X} {e : E} → Ok x ≡ Err e → ⊥
not_both h = cc
