-- The number and the name that a refusal of the command is printed with.
use Rattle.std.specs.Prelude.{ℕ, List, codes}
use Rattle.book_core.specs.declared.fault.BookFault.{BookFault}
use Rattle.book_core.specs.declared.fault.BookFault.TheVariants as book
use Rattle.book_share.specs.DriveFault as drives
use Rattle.book_share.specs.declared.drive_fault.DriveFault.TheVariants.{WantOfMemory}
use Rattle.flagops_drive.specs.declared.fault.DriveRefusal.{DriveRefusal}
use Rattle.flagops_drive.specs.declared.fault.DriveRefusal.TheVariants.{Drive, BadAsks, PageFull}

abbrev pub number_of : DriveRefusal → ℕ
number_of (Drive e) = drives.number_of e
number_of BadAsks = 5
number_of PageFull = 6

abbrev pub name_of : DriveRefusal → List ℕ
name_of (Drive e) = drives.name_of e
name_of BadAsks = codes "BadAsks"
name_of PageFull = codes "PageFull"

-- memory ran out
abbrev pub want : DriveRefusal
want = Drive WantOfMemory

-- a union is refused for want of memory, or for a full page
abbrev pub of_union : BookFault → DriveRefusal
of_union book.WantOfMemory = want
of_union e = PageFull
