-- What reading documents again does, in private contracts alone.
use Rattle.std.specs.Prelude.{◌≡◌, ◌⊎◌, ℕ, ◌+◌, Bool, List, [], ◌∷◌, true, decimal, is_some, slice_get, slice_set, Option, Some, None, IfSome, Result, Ok, Err, Vec}
use Rattle.std.specs.declared.alloc.Global.{Global}
use Rattle.control_desk.specs.Sources.{Source}
use Rattle.flag_defs.specs.Document.{Definitions}
use Rattle.flag_defs.specs.Floats.{MeansWithFloats}
use Rattle.flag_defs.specs.declared.fault.DefFault.{DefFault}
use Rattle.flag_defs.specs.declared.flags.Flags.{Flags}
use Rattle.flag_doubts.specs.Regression.{names_in, regression_of}
use Rattle.flagops_shell.specs.Files.{Holding, load_of}
use Rattle.flagops_streams.specs.Documents.{texts_of}
use Rattle.limits.specs.Limits.{text_bytes}
use Rattle.source_merge.specs.Sources.{SetsWithFloats, SourceList}
use Rattle.source_merge.specs.View.{sources_view}
use Rattle.source_merge.specs.declared.fault.SourceFault.{SourceFault}
use Rattle.flagops_service.specs.Merging.{Publishes}
use Rattle.flagops_service.specs.declared.asked.OnBroken.{OnBroken}
use Rattle.flagops_service.specs.declared.asked.OnBroken.TheVariants.{Keep, Refuse, Serve}
use Rattle.flagops_service.specs.declared.watched.Watched.{Watched}
use Rattle.flagops_service.specs.declared.taking.Taken.{Taken}
use Rattle.flagops_service.specs.declared.taking.Taken.TheVariants.{Accepted, Refused, Unchanged, Unread}
use Rattle.flagops_service.specs.declared.taking.Unfit.{Unfit}
use Rattle.flagops_service.specs.declared.taking.Unfit.TheVariants as unfit

-- ---- one document

-- a later text breaks a flag that is good now, or loses one whose key it has
abbrev pub Harms : List ℕ → List ℕ → Type 0
Harms accepted text =
    (now : Definitions) × (later : Definitions) × MeansWithFloats accepted (Ok now) × MeansWithFloats text (Ok later) × (is_some (regression_of now later (names_in text)) ≡ true)

-- it does neither; or one of the two is no document
abbrev pub Spares : List ℕ → List ℕ → Type 0
Spares accepted text =
    ((fault : DefFault) × MeansWithFloats accepted (Err fault)) ⊎ ((fault : DefFault) × MeansWithFloats text (Err fault))
    ⊎ ((now : Definitions) × (later : Definitions) × MeansWithFloats accepted (Ok now) × MeansWithFloats text (Ok later) × (regression_of now later (names_in text) ≡ None))

-- what may be set behind the text that was accepted last
abbrev pub MayFollow : OnBroken → List ℕ → List ℕ → Type 0
MayFollow Keep accepted text = Spares accepted text
MayFollow Refuse accepted text = Spares accepted text
MayFollow Serve accepted text = Unit {0}

-- what may be refused there for the harm that it does
abbrev pub MayBeRefused : OnBroken → List ℕ → List ℕ → Type 0
MayBeRefused Keep accepted text = Harms accepted text
MayBeRefused Refuse accepted text = Harms accepted text
MayBeRefused Serve accepted text = ⊥

-- why the text of a document of this number is not set
abbrev pub IsUnfit : OnBroken → ℕ → SourceList → List ℕ → List ℕ → Unfit → Type 0
IsUnfit mode number sources accepted text unfit.WantOfMemory = Unit {0}
IsUnfit mode number sources accepted text (unfit.Refused fault) = SetsWithFloats sources (decimal number) text (Err fault)
IsUnfit mode number sources accepted text (unfit.Harms regression) = MayBeRefused mode accepted text

-- the text was set, and harms nothing that must not be harmed; or all stays
abbrev pub SetsFit : OnBroken → ℕ → List ℕ → List ℕ → SourceList → SourceList → Result (Unit {0}) Unfit → Type 0
SetsFit mode number accepted text old new (Ok done) = SetsWithFloats old (decimal number) text (Ok new) × MayFollow mode accepted text
SetsFit mode number accepted text old new (Err why) = (new ≡ old) × IsUnfit mode number old accepted text why

-- ---- all documents

-- their sources, the text of each that was accepted last, and the one that was refused since, where one was
pub record Kept : Type 0 where
  pub sources : SourceList
  pub accepted : List (Vec ℕ Global)
  pub refused : List (Option (Vec ℕ Global))

abbrev pub kept_of : Watched → Kept
kept_of w = record { sources = sources_view w.sources; accepted = w.accepted.items; refused = w.refused.items }

-- the text is the one that was accepted last, and is refused no longer; or it is the one that was refused since
abbrev pub IsKnown : ℕ → Vec ℕ Global → Kept → Kept → Type 0
IsKnown place text old new =
    ((last : Vec ℕ Global) × (slice_get old.accepted place ≡ Some last) × (last.items ≡ text.items) × (new.refused ≡ slice_set old.refused place None))
    ⊎ ((last : Vec ℕ Global) × (slice_get old.refused place ≡ Some (Some last)) × (last.items ≡ text.items) × (new.refused ≡ old.refused))

-- what becomes of the text of the document at a place, whose source has the number behind it
abbrev pub Takes : OnBroken → ℕ → Vec ℕ Global → Kept → Kept → Taken → Type 0
Takes mode place text old new Accepted =
    (last : Vec ℕ Global) × (slice_get old.accepted place ≡ Some last) × SetsWithFloats old.sources (decimal (place + 1)) text.items (Ok new.sources) × MayFollow mode last.items text.items
    × (new.accepted ≡ slice_set old.accepted place text) × (new.refused ≡ slice_set old.refused place None)
Takes mode place text old new Refused =
    (last : Vec ℕ Global) × (slice_get old.accepted place ≡ Some last)
    × (((fault : SourceFault) × SetsWithFloats old.sources (decimal (place + 1)) text.items (Err fault)) ⊎ MayBeRefused mode last.items text.items)
    × (new.sources ≡ old.sources) × (new.accepted ≡ old.accepted) × (new.refused ≡ slice_set old.refused place (Some text))
Takes mode place text old new Unchanged = IsKnown place text old new × (new.sources ≡ old.sources) × (new.accepted ≡ old.accepted)
Takes mode place text old new Unread = new ≡ old

-- the text is what the file at the path holds, where that is known
abbrev pub IsOf : Option Holding → List ℕ → Vec ℕ Global → Type 0
IsOf holding path text = IfSome holding (λ at. load_of at path text_bytes ≡ Ok text.items)

-- the document at a place is read from its path and taken, or it can't be read
abbrev pub ReadsOne : Option Holding → OnBroken → List ℕ → ℕ → Kept → Kept → Taken → Type 0
ReadsOne holding mode path place old new taken =
    ((text : Vec ℕ Global) × IsOf holding path text × Takes mode place text old new taken) ⊎ ((taken ≡ Unread) × (new ≡ old))

-- the same of the documents from a place on, of which these are the paths
abbrev pub ReadsFrom : Option Holding → OnBroken → List (List ℕ) → ℕ → Kept → Kept → Type 0
ReadsFrom holding mode [] place old new = new ≡ old
ReadsFrom holding mode (path ∷ paths) place old new =
    (mid : Kept) × (taken : Taken) × ReadsOne holding mode path place old mid taken × ReadsFrom holding mode paths (place + 1) mid new

-- ---- turn by turn

-- what is kept of documents, what was published, and what desks were shown last
pub record State : Type 0 where
  pub kept : Kept
  pub published : List Flags
  pub shown : Option Source

abbrev pub state_of : Watched → List Flags → Option Source → State
state_of w published shown = record { kept = kept_of w; published = published; shown = shown }

-- All documents are read again, or not, and their merge is published behind all others, with the metadata of what was accepted last of each, or nothing is.
-- Desks, where there are some, are shown what is published.
abbrev pub Turns : Option Holding → OnBroken → List (List ℕ) → Bool → State → State → Type 0
Turns holding mode paths desks old new =
    (ReadsFrom holding mode paths 0 old.kept new.kept ⊎ (new.kept ≡ old.kept))
    × Publishes new.kept.sources (texts_of new.kept.accepted) desks old.published new.published old.shown new.shown

-- one turn after the other leads through these states
abbrev pub Watches : Option Holding → OnBroken → List (List ℕ) → Bool → List State → State → State → Type 0
Watches holding mode paths desks [] old new = new ≡ old
Watches holding mode paths desks (mid ∷ mids) old new = Turns holding mode paths desks old mid × Watches holding mode paths desks mids mid new
