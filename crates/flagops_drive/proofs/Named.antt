-- What is refused without taking memory is refused by name.
use Rattle.std.proofs.Common.{◌≡◌, ℕ, List, Option, Some, None, Bool, true, false, refl}
use Rattle.std.specs.Prelude.{◌==◌, nat_eq, if◌then◌else◌, option_map}
use Rattle.book_share.specs.declared.drive_fault.DriveFault.TheVariants.{NoWorkers, TooManyWorkers}
use Rattle.flagops_drive.specs.Asks.{Ask}
use Rattle.flagops_drive.specs.Driven.{refusal_of, workers_refusal}
use Rattle.flagops_drive.specs.Fault.{number_of}
use Rattle.flagops_drive.specs.declared.fault.DriveRefusal.{DriveRefusal}
use Rattle.flagops_drive.specs.declared.fault.DriveRefusal.TheVariants.{Drive, BadAsks}

-- a number of workers is refused with a number above 0
of_cases : (none many : Bool) (e : DriveRefusal) → option_map Drive (if none then Some NoWorkers else (if many then Some TooManyWorkers else None)) ≡ Some e → nat_eq (number_of e) 0 ≡ false
of_cases true many e h = let same : Drive NoWorkers ≡ e = cc in rw (← same) refl
of_cases false true e h = let same : Drive TooManyWorkers ≡ e = cc in rw (← same) refl
of_cases false false e h = cc

pub named : (o : Option (List Ask)) (workers : ℕ) (e : DriveRefusal) → refusal_of o workers ≡ Some e → nat_eq (number_of e) 0 ≡ false
named None workers e h = let same : BadAsks ≡ e = cc in rw (← same) refl
named (Some asks) workers e h = of_cases (workers == 0) _ e h

-- a wrong number of workers is refused, whatever is asked
pub is_refused : (o : Option (List Ask)) (workers : ℕ) (e : DriveRefusal) → workers_refusal workers ≡ Some e → (d : DriveRefusal) × (refusal_of o workers ≡ Some d)
is_refused None workers e h = (BadAsks, refl)
is_refused (Some asks) workers e h = (e, h)
