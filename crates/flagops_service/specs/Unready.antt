-- Why nobody can be answered, and of whom a key is wanted, in private contracts alone.
use Rattle.std.specs.Prelude.{◌≡◌, ℕ, List, Option, Some, None, IfSome, Result, Ok, Err}
use Rattle.clap.specs.Walk.{Text}
use Rattle.flagops_shell.specs.Files.{Holding, load_of}
use Rattle.ofrep_guards.specs.Key.{keys_of, keys_view, max_key_bytes}
use Rattle.flagops_shell.specs.declared.files.LoadFault.{LoadFault}
use Rattle.ofrep_guards.specs.declared.key.KeyFault.{KeyFault}
use Rattle.ofrep_guards.specs.declared.keys.Keys.{Keys}
use Rattle.flagops_service.specs.Ended.{MayStop}
use Rattle.flagops_service.specs.Words.{Answering}
use Rattle.flagops_service.specs.declared.stop.Stop.TheVariants.{NoKeys}
use Rattle.flagops_service.specs.declared.stop.NoKeys.{NoKeys as WhyNoKeys}
use Rattle.flagops_service.specs.declared.stop.NoKeys.TheVariants.{Unreadable, Unusable}
use Rattle.flagops_service.specs.declared.preparing.Unready.{Unready}
use Rattle.flagops_service.specs.declared.preparing.Unready.TheVariants.{Stopped, Unbound, WantOfMemory}

-- the logs are the reason only where a folder is named for them
abbrev pub MayBeUnready : Answering → Unready → Type 0
MayBeUnready a (Stopped stop) = MayStop a stop
MayBeUnready a (Unbound unbound) = Unit {0}
MayBeUnready a WantOfMemory = Unit {0}

-- keys, or why bytes are none
abbrev pub usable : Result (List Text) KeyFault → Result (List Text) WhyNoKeys
usable (Ok keys) = Ok keys
usable (Err fault) = Err (Unusable fault)

abbrev pub keys_loaded : Result (List ℕ) LoadFault → Result (List Text) WhyNoKeys
keys_loaded (Ok bytes) = usable (keys_of bytes)
keys_loaded (Err fault) = Err Unreadable

-- the keys of the file at a path, or why it has none to ask for
abbrev pub keys_at : Holding → Text → Result (List Text) WhyNoKeys
keys_at at path = keys_loaded (load_of at path max_key_bytes)

-- they are the keys of the file at the path, where its bytes are known
abbrev pub HoldsKeys : Option Holding → Text → Keys → Type 0
HoldsKeys holding path keys = IfSome holding (λ at. keys_at at path ≡ Ok (keys_view keys))

-- it has none for this reason, unless memory ran out
abbrev pub LacksKeys : Option Holding → Text → Unready → Type 0
LacksKeys holding path (Stopped stop) = IfSome holding (λ at. (why : WhyNoKeys) × (stop ≡ NoKeys why) × (keys_at at path ≡ Err why))
LacksKeys holding path (Unbound unbound) = ⊥
LacksKeys holding path WantOfMemory = Unit {0}

-- the bytes are no keys for this reason, unless memory ran out
abbrev pub AreNoKeys : List ℕ → Unready → Type 0
AreNoKeys bytes (Stopped stop) = (fault : KeyFault) × (stop ≡ NoKeys (Unusable fault)) × (keys_of bytes ≡ Err fault)
AreNoKeys bytes (Unbound unbound) = ⊥
AreNoKeys bytes WantOfMemory = Unit {0}

-- they are the keys of the file that is named; where none is named there are none
abbrev pub HasKeys : Option Holding → Option Text → Option Keys → Type 0
HasKeys holding None None = Unit {0}
HasKeys holding (Some path) (Some keys) = HoldsKeys holding path keys
HasKeys holding None (Some keys) = ⊥
HasKeys holding (Some path) None = ⊥
