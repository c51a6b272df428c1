-- The refusals of a drive that take no memory.
use Rattle.std.proofs.Common.{◌≡◌, ◌∙◌, ℕ, Bool, List, Option, Some, None, true, false, is_some, refl, sym, ap, subst}
use Rattle.std.specs.Prelude.{IfOk, Result, Err, option_map}
use Rattle.flag_resolve.specs.Floats.{Marked}
use Rattle.book_core.specs.Book.{Contents}
use Rattle.book_share.specs.DriveFault.{workers_fault}
use Rattle.book_share.specs.declared.drive_fault.DriveFault.{DriveFault}
use Rattle.flagops_drive.specs.Asks.{Ask}
use Rattle.flagops_drive.specs.Driven.{Drives, IsDriveOf, refusal_of}
use Rattle.flagops_drive.specs.Tally.{IsTallied}
use Rattle.flagops_drive.specs.declared.command.DriveOutput as program_output
use Rattle.flagops_drive.specs.declared.fault.DriveRefusal.{DriveRefusal}
use Rattle.flagops_drive.specs.declared.fault.DriveRefusal.TheVariants.{Drive, BadAsks}

-- ---- no asks

pub bad_asks : (flags : Marked) (o : Option (List Ask)) (workers : ℕ) (before : Option Contents) (json : Bool) → false ≡ is_some o → IsDriveOf flags o workers before json (Err BadAsks)
bad_asks flags None workers before json h = refl
bad_asks flags (Some asks) workers before json h = cc

pub bad_asks_first : (o : Option (List Ask)) (workers : ℕ) (e : DriveRefusal) → false ≡ is_some o → refusal_of o workers ≡ Some e → BadAsks ≡ e
bad_asks_first None workers e h is = cc
bad_asks_first (Some asks) workers e h is = cc

-- ---- a wrong number of workers

pub bad_workers : (flags : Marked) (o : Option (List Ask)) (workers : ℕ) (before : Option Contents) (json : Bool) (fault : DriveFault) → true ≡ is_some o → Some fault ≡ workers_fault workers → IsDriveOf flags o workers before json (Err (Drive fault))
bad_workers flags None workers before json fault h is = cc
bad_workers flags (Some asks) workers before json fault h is = sym is

pub bad_workers_first : (o : Option (List Ask)) (workers : ℕ) (fault : DriveFault) (e : DriveRefusal) → true ≡ is_some o → Some fault ≡ workers_fault workers → refusal_of o workers ≡ Some e → Drive fault ≡ e
bad_workers_first None workers fault e h is first = cc
bad_workers_first (Some asks) workers fault e h is first = let same : Some (Drive fault) ≡ Some e = ap (option_map Drive) is ∙ first in cc

-- ---- neither

pub none_first : {X : Type 0} (o : Option (List Ask)) (workers : ℕ) (e : DriveRefusal) → true ≡ is_some o → None ≡ workers_fault workers → refusal_of o workers ≡ Some e → X
none_first None workers e h is first = cc
none_first (Some asks) workers e h is first = let same : None ≡ Some e = ap (option_map Drive) is ∙ first in cc

pub same_asks : (flags : Marked) (items o : Option (List Ask)) (workers : ℕ) (before : Option Contents) (json : Bool) (r : Result program_output.DriveOutput DriveRefusal) → items ≡ o → Drives flags items workers before json r → Drives flags o workers before json r
same_asks flags items o workers before json r is h = subst (λ (asks : Option (List Ask)). Drives flags asks workers before json r) is h

pub same_tally : (flags : Marked) (items o : Option (List Ask)) (before : Option Contents) (json : Bool) (r : Result program_output.DriveOutput DriveRefusal) → items ≡ o → IfOk r (IsTallied flags items before json) → IfOk r (IsTallied flags o before json)
same_tally flags items o before json r is h = subst (λ (asks : Option (List Ask)). IfOk r (IsTallied flags asks before json)) is h
