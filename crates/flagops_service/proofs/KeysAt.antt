-- The keys of the file at a path, by what a read of it gives.
use Rattle.std.proofs.Common.{◌≡◌, ◌∙◌, ℕ, List, Option, Some, None, Ok, Err, IfSome, ap, refl}
use Rattle.clap.specs.Walk.{Text}
use Rattle.flagops_shell.specs.Files.{Holding, load_of}
use Rattle.flagops_shell.specs.declared.files.LoadFault.{LoadFault}
use Rattle.ofrep_guards.specs.Key.{keys_of, max_key_bytes}
use Rattle.flagops_service.specs.Unready.{AreNoKeys, LacksKeys, keys_at, keys_loaded, usable}
use Rattle.flagops_service.specs.declared.preparing.Unready.{Unready}
use Rattle.flagops_service.specs.declared.preparing.Unready.TheVariants.{Stopped, Unbound, WantOfMemory}
use Rattle.flagops_service.specs.declared.stop.Stop.TheVariants.{NoKeys}
use Rattle.flagops_service.specs.declared.stop.NoKeys.TheVariants.{Unreadable, Unusable}

-- its bytes are keys
pub held : (holding : Option Holding) (path : Text) (bytes : List ℕ) (keys : List Text) → IfSome holding (λ at. load_of at path max_key_bytes ≡ Ok bytes) → keys_of bytes ≡ Ok keys
    → IfSome holding (λ at. keys_at at path ≡ Ok keys)
held None path bytes keys loaded is = loaded
held (Some at) path bytes keys loaded is = ap keys_loaded loaded ∙ ap usable is

-- its bytes are none
pub lacking : (holding : Option Holding) (path : Text) (bytes : List ℕ) (why : Unready) → IfSome holding (λ at. load_of at path max_key_bytes ≡ Ok bytes) → AreNoKeys bytes why → LacksKeys holding path why
lacking None path bytes (Stopped stop) loaded none = loaded
lacking (Some at) path bytes (Stopped stop) loaded none = (Unusable none.0, none.1, ap keys_loaded loaded ∙ ap usable none.2)
lacking holding path bytes (Unbound unbound) loaded none = none
lacking holding path bytes WantOfMemory loaded none = none

-- it can't be read
pub unread : (holding : Option Holding) (path : Text) (fault : LoadFault) → IfSome holding (λ at. load_of at path max_key_bytes ≡ Err fault) → LacksKeys holding path (Stopped (NoKeys Unreadable))
unread None path fault loaded = loaded
unread (Some at) path fault loaded = (Unreadable, refl, ap keys_loaded loaded)
