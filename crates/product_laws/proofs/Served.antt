-- What `serve` publishes of documents whose numbers are all whole.
use Rattle.std.proofs.Common.{◌≡◌, inl, inr, ℕ, ◌+◌, ◌++◌, Bool, List, [], ◌∷◌, length, Result, Ok, Err, refl, subst}
use Rattle.std.specs.Prelude.{decimal}
use Rattle.flag_defs.specs.Document.{Definitions}
use Rattle.product_laws.specs.Documents.{SourcesStay}
use Rattle.flagops_shell.specs.Files.{Holding, load_of}
use Rattle.flagops_shell.specs.Outcomes.{◌>>=◌}
use Rattle.flagops_shell.specs.declared.files.LoadFault.{LoadFault}
use Rattle.flagops_shell.specs.declared.files.LoadFault.TheVariants as load
use Rattle.flagops_streams.specs.Documents.{Answer, Gives, IsAccepted, MayRefuse, Merges, source_added}
use Rattle.flagops_streams.specs.Loading.{Loaded, ServesLoaded, loaded_at, loaded_from, loaded_next, text_of}
use Rattle.flagops_streams.specs.declared.refusal.Refusal.{Refusal}
use Rattle.flagops_streams.specs.declared.refusal.Refusal.TheVariants.{Add, Unreadable, Unloaded, Set, Merged, Share, Publish, Unbound, NoConnection, NoThread, Unreachable, Unserved, WantOfMemory}
use Rattle.limits.specs.Limits.{text_bytes}
use Rattle.snap_share.specs.declared.fault.ShareFault.TheVariants as share
use Rattle.source_merge.specs.Sources.{SetsAs, SourceList}
use Rattle.source_merge.specs.declared.fault.SourceFault.{SourceFault}
use Rattle.product_laws.specs.Filters.{ServedStay}
use Rattle.product_laws.specs.Whole.{AreWholeAt, IsWholeAt}
use Rattle.product_laws.specs.FloatWhole.{IsWholeText}

-- ---- the texts that are loaded

abbrev pub AreWhole : List (List ℕ) → Type 0
AreWhole [] = Unit {0}
AreWhole (text ∷ texts) = IsWholeText text × AreWhole texts

one_more : (texts : List (List ℕ)) (text : List ℕ) → AreWhole texts → IsWholeText text → AreWhole (texts ++ text ∷ [])
one_more [] text whole h = (h, tt)
one_more (t ∷ texts) text whole h = (whole.0, one_more texts text whole.1 h)

next_loaded : (at : Holding) (path : List ℕ) (d next : Loaded) (s : Result SourceList Refusal) (l : Result (List ℕ) LoadFault) → load_of at path text_bytes ≡ l → IsWholeAt at path → AreWhole d.texts
    → (s >>= λ sources. text_of l >>= λ text. Ok (record { sources = sources; texts = d.texts ++ text ∷ [] })) ≡ Ok next → AreWhole next.texts
next_loaded at path d next (Err e) l is whole before h = cc
next_loaded at path d next (Ok sources) (Err load.Unreadable) is whole before h = cc
next_loaded at path d next (Ok sources) (Err load.WantOfMemory) is whole before h = cc
next_loaded at path d next (Ok sources) (Ok text) is whole before h =
    let same : (let n : Loaded = record { sources = sources; texts = d.texts ++ text ∷ [] } in n) ≡ next = cc in
    subst (λ (n : Loaded). AreWhole n.texts) same (one_more d.texts text before (whole text is))

pub all_loaded : (at : Holding) (paths : List (List ℕ)) (d e : Loaded) → AreWholeAt at paths → AreWhole d.texts → loaded_from at d paths ≡ Ok e → AreWhole e.texts
all_loaded at [] d e whole before h = let same : d ≡ e = cc in subst (λ (n : Loaded). AreWhole n.texts) same before
all_loaded at (path ∷ paths) d e whole before h =
    let more : (next : Loaded) → AreWhole next.texts → loaded_from at next paths ≡ Ok e → AreWhole e.texts = λ next. all_loaded at paths next e whole.1 in by more (loaded_next at d path) refl h
  where
    by : ((next : Loaded) → AreWhole next.texts → loaded_from at next paths ≡ Ok e → AreWhole e.texts) → (n : Result Loaded Refusal) → loaded_next at d path ≡ n → (n >>= λ next. loaded_from at next paths) ≡ Ok e → AreWhole e.texts
    by more (Err f) is h = cc
    by more (Ok next) is h = more next (next_loaded at path d next (source_added d.sources (length d.texts + 1)) (load_of at path text_bytes) refl whole.0 before is) h

-- ---- what is made of them

module _ (sets : SourcesStay) (floats other : Bool) where
  sets_so : (sources : SourceList) (name text : List ℕ) (after : Result SourceList SourceFault) → IsWholeText text → SetsAs floats sources name text after → SetsAs other sources name text after
  sets_so sources name text after whole h = sets floats other sources name text after whole h

  merges_so : (number : ℕ) (sources next : SourceList) (text : List ℕ) (flags : Definitions) → IsWholeText text → Merges floats number sources text next flags → Merges other number sources text next flags
  merges_so number sources next text flags whole h = (sets_so sources (decimal number) text (Ok next) whole h.0, h.1)

  accepted_so : (number : ℕ) (sources : SourceList) (text : List ℕ) → IsWholeText text → IsAccepted floats number sources text → IsAccepted other number sources text
  accepted_so number sources text whole h = (h.0, h.1, merges_so number sources h.0 text h.1 whole h.2)

  refuses_so : (number : ℕ) (sources : SourceList) (text : List ℕ) (refusal : Refusal) → IsWholeText text → MayRefuse floats number sources text refusal → MayRefuse other number sources text refusal
  refuses_so number sources text (Set fault place) whole h = (h.0, λ wanted. sets_so sources (decimal number) text (Err fault) whole (h.1 wanted))
  refuses_so number sources text (Merged fault) whole h = λ wanted. let m = h wanted in (m.0, sets_so sources (decimal number) text (Ok m.0) whole m.1, m.2)
  refuses_so number sources text (Publish share.WantOfMemory) whole h = accepted_so number sources text whole h
  refuses_so number sources text (Publish share.Closed) whole h = accepted_so number sources text whole h
  refuses_so number sources text (Publish share.NoSeats) whole h = h
  refuses_so number sources text (Publish share.TooManySeats) whole h = h
  refuses_so number sources text (Publish share.NoReader) whole h = h
  refuses_so number sources text (Publish share.LastNumber) whole h = h
  refuses_so number sources text (Add fault) whole h = h
  refuses_so number sources text Unreadable whole h = h
  refuses_so number sources text Unloaded whole h = h
  refuses_so number sources text (Share fault) whole h = h
  refuses_so number sources text Unbound whole h = h
  refuses_so number sources text NoConnection whole h = h
  refuses_so number sources text NoThread whole h = h
  refuses_so number sources text Unreachable whole h = h
  refuses_so number sources text (Unserved n) whole h = h
  refuses_so number sources text WantOfMemory whole h = h

  gives_so : (texts : List (List ℕ)) (sources : SourceList) (published : List Definitions) (answer : Answer) → AreWhole texts → Gives floats sources texts published answer → Gives other sources texts published answer
  gives_so [] sources published answer whole h = h
  gives_so (text ∷ texts) sources published answer whole (inl h) = inl (h.0, h.1, refuses_so (length published + 1) sources text h.0 whole.0 h.2)
  gives_so (text ∷ texts) sources published answer whole (inr h) =
      inr (h.0, h.1, merges_so (length published + 1) sources h.0 text h.1 whole.0 h.2, gives_so texts h.0 (published ++ h.1 ∷ []) answer whole.1 h.3)

  loaded_so : (subscribers : ℕ) (at : Holding) (paths : List (List ℕ)) (answer : Answer) → AreWholeAt at paths → ServesLoaded floats subscribers (loaded_at at paths) answer → ServesLoaded other subscribers (loaded_at at paths) answer
  loaded_so subscribers at paths answer whole h = by (loaded_at at paths) refl h
    where
      by : (d : Result Loaded Refusal) → loaded_at at paths ≡ d → ServesLoaded floats subscribers d answer → ServesLoaded other subscribers d answer
      by (Err refusal) is h = h
      by (Ok d) is (inl h) = inl h
      by (Ok d) is (inr h) = inr (h.0, h.1, h.2, h.3, gives_so d.texts d.sources [] h.2 (all_loaded at paths (record { sources = []; texts = [] }) d whole tt is) h.4, h.5)

pub served_stay : SourcesStay → ServedStay
served_stay sets other at s (Ok published) whole h = loaded_so sets s.floats other s.subscribers at s.documents (Ok published) whole h
served_stay sets other at s (Err r) whole h = λ wanted. loaded_so sets s.floats other s.subscribers at s.documents (Err r) whole (h wanted)
