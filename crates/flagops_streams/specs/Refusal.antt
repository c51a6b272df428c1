-- The line that a refusal of a command of streams is written as.
use Rattle.std.specs.Prelude.{◌≡◌, ℕ, Bool, true, false, List, [], ◌++◌, codes, decimal, Result, Ok, Err}
use Rattle.flag_defs.specs.Fault as documents
use Rattle.snap_share.specs.Fault as shares
use Rattle.snap_share.specs.declared.fault.ShareFault.TheVariants as share
use Rattle.source_merge.specs.Fault as sources
use Rattle.source_merge.specs.declared.fault.SourceFault.TheVariants as source
use Rattle.source_merge.specs.declared.fault.SourceFault.TheVariants.{Refused}
use Rattle.flagops_streams.specs.declared.refusal.Refusal.{Refusal}
use Rattle.flagops_streams.specs.declared.refusal.Refusal.TheVariants.{Add, Unreadable, Unloaded, Set, Merged, Share, Publish, Unbound, NoConnection, NoThread, Unreachable, Unserved, WantOfMemory}

abbrev pub call_of : Refusal → List ℕ
call_of (Add e) = codes "add"
call_of Unreadable = codes "load"
call_of Unloaded = codes "load"
call_of (Set e place) = codes "set"
call_of (Merged e) = codes "merged"
call_of (Share e) = codes "share"
call_of (Publish e) = codes "publish"
call_of Unbound = codes "bind"
call_of NoConnection = codes "accept"
call_of NoThread = codes "spawn"
call_of Unreachable = codes "connect"
call_of (Unserved missed) = codes "serve"
call_of WantOfMemory = codes "serve"

abbrev pub number_of : Refusal → ℕ
number_of (Add e) = sources.number_of e
number_of Unreadable = 1
number_of Unloaded = 0
number_of (Set e place) = sources.number_of e
number_of (Merged e) = sources.number_of e
number_of (Share e) = shares.number_of e
number_of (Publish e) = shares.number_of e
number_of Unbound = 1
number_of NoConnection = 1
number_of NoThread = 1
number_of Unreachable = 1
number_of (Unserved missed) = 1
number_of WantOfMemory = 0

abbrev pub name_of : Refusal → List ℕ
name_of (Add e) = sources.name_of e
name_of Unreadable = codes "Unreadable"
name_of Unloaded = codes "WantOfMemory"
name_of (Set e place) = sources.name_of e
name_of (Merged e) = sources.name_of e
name_of (Share e) = shares.name_of e
name_of (Publish e) = shares.name_of e
name_of Unbound = codes "Unbound"
name_of NoConnection = codes "NoConnection"
name_of NoThread = codes "NoThread"
name_of Unreachable = codes "Unreachable"
name_of (Unserved missed) = codes "Unserved"
name_of WantOfMemory = codes "WantOfMemory"

-- each behind a blank: the number and the name of a document's fault, or how many subscribers were not served
abbrev pub payload_of : Refusal → List ℕ
payload_of (Set (Refused e) place) = codes " " ++ (decimal (documents.number_of e) ++ (codes " " ++ documents.name_of e))
payload_of (Unserved missed) = codes " " ++ decimal missed
payload_of r = []

-- `refused`, the call, the number, the name and the payload, separated by blanks
unfoldable pub line_of : Refusal → List ℕ
line_of r = codes "refused " ++ (call_of r ++ (codes " " ++ (decimal (number_of r) ++ (codes " " ++ (name_of r ++ (payload_of r ++ codes "\n"))))))

-- a file could not be read
abbrev pub is_unreadable : Refusal → Bool
is_unreadable Unreadable = true
is_unreadable r = false

-- memory ran out, for the command or in a call that it makes
abbrev pub is_want : Refusal → Bool
is_want WantOfMemory = true
is_want Unloaded = true
is_want (Add source.WantOfMemory) = true
is_want (Set source.WantOfMemory place) = true
is_want (Merged source.WantOfMemory) = true
is_want (Share share.WantOfMemory) = true
is_want (Publish share.WantOfMemory) = true
is_want r = false

-- What was returned, seen by `seen`, is what the definition gives, unless memory ran out.
abbrev pub GivesUnlessWant : {X Y : Type 0} → (X → Y) → Result X Refusal → Result Y Refusal → Type 0
GivesUnlessWant seen (Ok x) wanted = wanted ≡ Ok (seen x)
GivesUnlessWant seen (Err r) wanted = is_want r ≡ false → wanted ≡ Err r

-- the line of a call that ran out of memory
unfoldable pub want_line : List ℕ → List ℕ
want_line call = codes "refused " ++ (call ++ codes " 0 WantOfMemory\n")
