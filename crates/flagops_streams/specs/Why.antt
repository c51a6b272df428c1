-- What a person is told of a refusal.
use Rattle.std.specs.Prelude.{◌≡◌, ◌≢◌, ◌⊎◌, ◌-◌, ℕ, List, ◌++◌, Option, None, Some, MatchOption, codes, decimal, slice_get}
use Rattle.file_diagnostics.specs.Named.{Names}
use Rattle.flag_defs.specs.Fault as documents
use Rattle.flag_defs.specs.declared.fault.DefFault.{DefFault}
use Rattle.flag_defs.specs.declared.fault.DefFault.TheVariants as document
use Rattle.source_merge.specs.Fault as sources
use Rattle.source_merge.specs.declared.fault.SourceFault.{SourceFault}
use Rattle.source_merge.specs.declared.fault.SourceFault.TheVariants.{Refused}
use Rattle.flagops_streams.specs.declared.refusal.Refusal.{Refusal}
use Rattle.flagops_streams.specs.declared.refusal.Refusal.TheVariants.{Add, Unreadable, Unloaded, Set, Merged, Share, Publish, Unbound, NoConnection, NoThread, Unreachable, Unserved, WantOfMemory}

-- the sentence in place of lines for which there is no memory
abbrev pub memory_line : List ℕ
memory_line = codes "error: out of memory\n"

-- what a document that is refused leaves
abbrev pub left_line : List ℕ
left_line = codes "  the subscribers have what was published before it\n"

-- the sentence of a refusal that needs no more
abbrev pub sentence_of : Refusal → List ℕ
sentence_of (Add e) = codes "'serve' publishes at most 16 documents"
sentence_of Unreadable = codes "a document cannot be read"
sentence_of Unloaded = codes "out of memory"
sentence_of (Set e place) = codes "a document is refused"
sentence_of (Merged e) = codes "the documents together have more than 10,000 flags or are printed in more than 4,194,304 bytes"
sentence_of (Share e) = codes "the flags cannot be shared with the threads"
sentence_of (Publish e) = codes "the flags cannot be shared with the threads"
sentence_of Unbound = codes "the port is in use, or may not be listened on; choose another, from 1024 on"
sentence_of NoConnection = codes "the connection of a subscriber failed as it came, or none has come in time"
sentence_of NoThread = codes "the system makes no more threads; serve fewer subscribers"
sentence_of Unreachable = codes "nobody listens on the port"
sentence_of (Unserved missed) = codes "not every subscriber was sent the last snapshot"
sentence_of WantOfMemory = codes "out of memory"

-- why a source refuses a document, by the name of the fault
abbrev pub source_word : SourceFault → List ℕ
source_word (Refused e) = documents.name_of e
source_word e = sources.name_of e

-- the line of a document that is refused, by its place and why
unfoldable pub document_line : ℕ → List ℕ → List ℕ
document_line place why = codes "error: the document at place " ++ (decimal place ++ (codes " of those to be published is refused: " ++ (why ++ codes "\n")))

-- the lines of a refusal: which document is refused and why, how many subscribers were not served, or its sentence
abbrev pub why_lines : Refusal → List ℕ
why_lines (Set e place) = document_line place (source_word e) ++ left_line
why_lines (Unserved missed) = codes "error: subscribers that were not sent the last snapshot: " ++ (decimal missed ++ codes "\n")
why_lines refusal = codes "error: " ++ (sentence_of refusal ++ codes "\n")

-- the path of the document at a place, from 1
abbrev pub IsPathAt : List (List ℕ) → ℕ → List ℕ → Type 0
IsPathAt paths place path = slice_get paths (place - 1) ≡ Some path

-- a path is one of these
abbrev pub IsOneOf : List (List ℕ) → List ℕ → Type 0
IsOneOf paths path = (i : ℕ) × (slice_get paths i ≡ Some path)

-- lines about a document by its path, and what it leaves
abbrev pub IsAboutDocument : List ℕ → DefFault → List ℕ → Type 0
IsAboutDocument path e lines = (about : List ℕ) × (e ≢ document.WantOfMemory → Names path about) × (lines ≡ about ++ left_line)

-- lines about the file of a document that can't be read
abbrev pub IsAboutFile : List (List ℕ) → Refusal → List ℕ → Type 0
IsAboutFile paths Unreadable lines = (path : List ℕ) × IsOneOf paths path × Names path lines
IsAboutFile paths refusal lines = ⊥

-- the place, from 1, of a document that is refused, and why
abbrev pub refused_document : Refusal → Option (ℕ × DefFault)
refused_document (Set (Refused e) place) = Some (place, e)
refused_document refusal = None

-- lines that say why, of documents at these paths: about the document that is refused, by its path; else those of the refusal, or
-- about a file that can't be read
abbrev pub IsWhy : List (List ℕ) → Refusal → List ℕ → Type 0
IsWhy paths refusal lines =
    MatchOption (refused_document refusal) ((lines ≡ why_lines refusal) ⊎ IsAboutFile paths refusal lines)
    (λ d. MatchOption (slice_get paths (d.0 - 1)) (lines ≡ why_lines refusal) (λ path. IsAboutDocument path d.1 lines))
