-- Documents that are published one after the other, each merged over those before it.
use Rattle.std.specs.Prelude.{◌≡◌, ◌≢◌, ◌⊎◌, ◌<◌, ℕ, ◌+◌, ◌-◌, List, [], ◌∷◌, ◌++◌, Bool, false, ◌&&◌, length, map, decimal, if◌then◌else◌, nat_eq, nat_le, nat_lt, slice_get, vec_len, Vec, Option, Some, None, Result, Ok, Err}
use Rattle.std.specs.declared.alloc.Global.{Global}
use Rattle.flag_defs.specs.Flags.{flags_view}
use Rattle.flag_defs.specs.declared.flags.Flags.{Flags}
use Rattle.flag_defs.specs.Document.{Definitions}
use Rattle.flag_defs.specs.Floats.{MeansAs}
use Rattle.flag_defs.specs.declared.fault.DefFault.{DefFault}
use Rattle.snap_share.specs.declared.fault.ShareFault.TheVariants as share
use Rattle.source_merge.specs.Merge.{merged_of}
use Rattle.source_merge.specs.Sources.{SetsAs, SourceList, added, most_sources}
use Rattle.source_merge.specs.View.{sources_view}
use Rattle.source_merge.specs.declared.fault.SourceFault.{SourceFault}
use Rattle.source_merge.specs.declared.fault.SourceFault.TheVariants as source
use Rattle.sync_server.specs.End.{is_closed_end}
use Rattle.flagops_streams.specs.declared.documents.Documents.{Documents}
use Rattle.flagops_streams.specs.declared.disconnected.Disconnected.{Disconnected}
use Rattle.flagops_streams.specs.declared.refusal.Refusal.{Refusal}
use Rattle.flagops_streams.specs.declared.refusal.Refusal.TheVariants.{Add, Set, Merged, Share, Publish, Unbound, NoConnection, NoThread, Unserved, WantOfMemory}

-- how many there are
abbrev pub documents_in : Documents → ℕ
documents_in d = vec_len d.texts

-- the bytes of each
abbrev pub texts_of : List (Vec ℕ Global) → List (List ℕ)
texts_of texts = map (λ t. t.items) texts

-- a fault of the sources, as a document that has no source
abbrev pub by_add : Result SourceList SourceFault → Result SourceList Refusal
by_add (Ok sources) = Ok sources
by_add (Err fault) = Err (Add fault)

-- one more source, whose name is this number, where it is none above sixteen
abbrev pub source_added : SourceList → ℕ → Result SourceList Refusal
source_added sources number = if nat_lt most_sources number then Err (Add source.TooMany) else by_add (added sources (decimal number))

-- The document of a number, which may have floats or may not, is accepted by its source, and these flags are the merge of it and those before it.
abbrev pub Merges : Bool → ℕ → SourceList → List ℕ → SourceList → Definitions → Type 0
Merges floats number sources text next flags = SetsAs floats sources (decimal number) text (Ok next) × (merged_of next ≡ Ok flags)

-- the same of some flags
abbrev pub IsAccepted : Bool → ℕ → SourceList → List ℕ → Type 0
IsAccepted floats number sources text = (next : SourceList) × (flags : Definitions) × Merges floats number sources text next flags

-- Why the document of a number is not published: it is not accepted, its merge is too large; or there is no memory for it,
-- or its merge can't be put behind those before it. Numbers are not used up by the documents that there are sources for.
abbrev pub MayRefuse : Bool → ℕ → SourceList → List ℕ → Refusal → Type 0
MayRefuse floats number sources text (Set fault place) = (place ≡ number) × (fault ≢ source.WantOfMemory → SetsAs floats sources (decimal number) text (Err fault))
MayRefuse floats number sources text (Merged fault) =
    fault ≢ source.WantOfMemory → (next : SourceList) × SetsAs floats sources (decimal number) text (Ok next) × (merged_of next ≡ Err fault)
MayRefuse floats number sources text (Publish share.WantOfMemory) = IsAccepted floats number sources text
MayRefuse floats number sources text (Publish share.Closed) = IsAccepted floats number sources text
MayRefuse floats number sources text WantOfMemory = Unit {0}
MayRefuse floats number sources text refusal = ⊥

-- What is left of the sources then: where the merge was refused, the document is set; else they are as they were.
abbrev pub LeavesSources : Bool → ℕ → SourceList → List ℕ → SourceList → Refusal → Type 0
LeavesSources floats number before text after (Merged fault) = SetsAs floats before (decimal number) text (Ok after)
LeavesSources floats number before text after refusal = after ≡ before

-- the bytes at a place, from 1, are no document, which may have floats or may not
abbrev pub IsRefusedAt : Bool → List (List ℕ) → ℕ → Type 0
IsRefusedAt floats texts place = (text : List ℕ) × (fault : DefFault) × (slice_get texts (place - 1) ≡ Some text) × MeansAs floats text (Err fault)

-- the merges that were published, in order, or why not all documents were
abbrev pub Answer : Type 0
Answer = Result (List Definitions) Refusal

-- What publishing documents behind these flags gives: each document is accepted by the source of its number and its merge
-- published behind all others, and all that were published are the answer; or one refuses, and none behind it counts.
abbrev pub Gives : Bool → SourceList → List (List ℕ) → List Definitions → Answer → Type 0
Gives floats sources [] published answer = answer ≡ Ok published
Gives floats sources (text ∷ texts) published answer =
    ((refusal : Refusal) × (answer ≡ Err refusal) × MayRefuse floats (length published + 1) sources text refusal)
    ⊎ ((next : SourceList) × (flags : Definitions) × Merges floats (length published + 1) sources text next flags × Gives floats next texts (published ++ flags ∷ []) answer)

-- why so many subscribers are not served: the network, the threads, the seats or memory
abbrev pub MayFail : ℕ → Refusal → Type 0
MayFail subscribers Unbound = Unit {0}
MayFail subscribers NoConnection = Unit {0}
MayFail subscribers NoThread = Unit {0}
MayFail subscribers WantOfMemory = Unit {0}
MayFail subscribers (Share share.NoSeats) = subscribers ≡ 0
MayFail subscribers (Share share.TooManySeats) = 64 < subscribers
MayFail subscribers (Share share.NoReader) = Unit {0}
MayFail subscribers (Share share.WantOfMemory) = Unit {0}
MayFail subscribers refusal = ⊥

-- what was published; where some subscribers were not sent the last of it, how many
abbrev pub less_missed : ℕ → Answer → Answer
less_missed missed (Ok published) = if nat_eq missed 0 then Ok published else Err (Unserved missed)
less_missed missed (Err refusal) = Err refusal

-- how many were published
abbrev pub published_in : Answer → ℕ
published_in (Ok published) = length published
published_in (Err refusal) = 0

-- A subscriber was sent so many publications: its stream ended as its numbers were closed, and the last frame had that number.
abbrev pub is_served : ℕ → Option Disconnected → Bool
is_served count None = false
is_served count (Some d) = is_closed_end d.end && nat_le count d.number

-- how many of those whose streams ended so were not
abbrev pub missed_of : ℕ → List (Option Disconnected) → ℕ
missed_of count [] = 0
missed_of count (end ∷ ends) = missed_of count ends + (if is_served count end then 0 else 1)

-- Of so many subscribers, some have not come, and the streams of the others ended so. An answer of these counts, but where some
-- were not sent all that it has, or have not come.
abbrev pub GivesSome : ℕ → (Answer → Type 0) → Answer → Type 0
GivesSome subscribers IsAnswer answer =
    (ends : List (Option Disconnected)) × (absent : ℕ) × (whole : Answer) × (length ends + absent ≡ subscribers) × IsAnswer whole
    × (answer ≡ less_missed (missed_of (published_in whole) ends + absent) whole)

-- what serving documents behind these flags gives: one of these refusals, or what publishing them gives
abbrev pub ServesTo : Bool → ℕ → SourceList → List (List ℕ) → List Definitions → Answer → Type 0
ServesTo floats subscribers sources texts published answer =
    ((refusal : Refusal) × (answer ≡ Err refusal) × MayFail subscribers refusal) ⊎ GivesSome subscribers (Gives floats sources texts published) answer

-- the same of documents that were loaded, with their sources, from the first on
abbrev pub ServesAll : Bool → ℕ → Documents → Answer → Type 0
ServesAll floats subscribers d answer = ServesTo floats subscribers (sources_view d.sources) (texts_of d.texts.items) [] answer

-- what was published, as a publisher told it, or why not all was
abbrev pub told_view : Result (List Flags) Refusal → Answer
told_view (Ok told) = Ok (map flags_view told)
told_view (Err refusal) = Err refusal

-- how many were published
abbrev pub count_of : Answer → Result ℕ Refusal
count_of (Ok published) = Ok (length published)
count_of (Err refusal) = Err refusal

-- the number of what was published in an answer of these
abbrev pub Counts : (Answer → Type 0) → Result ℕ Refusal → Type 0
Counts IsAnswer counted = (answer : Answer) × IsAnswer answer × (counted ≡ count_of answer)
