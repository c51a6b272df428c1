-- The number and the name that a refusal of a hub or of a new world is printed with.
use Rattle.std.specs.Prelude.{ℕ, List, codes}
use Rattle.snap_core.specs.declared.fault.HubFault.{HubFault}
use Rattle.snap_core.specs.declared.fault.HubFault.TheVariants.{WantOfMemory, LastNumber, TooManySubs, NoSub}
use Rattle.snap_core.specs.declared.fault.WorldFault.{WorldFault}
use Rattle.snap_core.specs.declared.fault.WorldFault.TheVariants as world

abbrev pub number_of : HubFault → ℕ
number_of WantOfMemory = 0
number_of LastNumber = 1
number_of TooManySubs = 2
number_of NoSub = 3

abbrev pub name_of : HubFault → List ℕ
name_of WantOfMemory = codes "WantOfMemory"
name_of LastNumber = codes "LastNumber"
name_of TooManySubs = codes "TooManySubs"
name_of NoSub = codes "NoSub"

abbrev pub world_number_of : WorldFault → ℕ
world_number_of world.WantOfMemory = 0
world_number_of world.Known = 1
world_number_of world.TooMany = 2
world_number_of world.NoSeats = 3
world_number_of world.TooManySeats = 4

abbrev pub world_name_of : WorldFault → List ℕ
world_name_of world.WantOfMemory = codes "WantOfMemory"
world_name_of world.Known = codes "Known"
world_name_of world.TooMany = codes "TooMany"
world_name_of world.NoSeats = codes "NoSeats"
world_name_of world.TooManySeats = codes "TooManySeats"
