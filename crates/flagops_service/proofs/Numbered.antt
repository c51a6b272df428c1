-- Documents that have sources under their numbers.
use Rattle.std.proofs.Common.{◌≡◌, ◌∙◌, ◌+◌, ℕ, List, [], ◌∷◌, ◌++◌, None, Result, Ok, Err, ap, ap₂, append-nil, append_assoc, decimal, length, refl, subst, sym}
use Rattle.source_merge.specs.Sources.{SourceList}
use Rattle.flagops_shell.specs.Files.{Holding, load_of}
use Rattle.flagops_shell.specs.Outcomes.{◌>>=◌}
use Rattle.flagops_streams.specs.Documents.{source_added}
use Rattle.flagops_streams.specs.Loading.{Loaded, loaded_at, loaded_from, text_of}
use Rattle.flagops_streams.specs.declared.refusal.Refusal.{Refusal}
use Rattle.flagops_service.specs.Starting.{numbered, numbered_from}
use Rattle.limits.specs.Limits.{text_bytes}

-- documents behind others, with these sources and one more text
abbrev pub behind : Loaded → List ℕ → SourceList → Loaded
behind d text sources = record { sources = sources; texts = d.texts ++ text ∷ [] }

-- documents with these sources and texts
pub documents_as : (d : Loaded) (sources : SourceList) (texts : List (List ℕ)) → d.sources ≡ sources → d.texts ≡ texts → d ≡ record { sources = sources; texts = texts }
documents_as d sources texts s t = ap₂ (λ (ss : SourceList) (ts : List (List ℕ)). (let l : Loaded = record { sources = ss; texts = ts } in l)) s t

-- ---- what is numbered has the texts

module _ (e : Loaded) where
  texts_from : (d : Loaded) (texts : List (List ℕ)) → numbered_from d texts ≡ Ok e → e.texts ≡ d.texts ++ texts
  texts_from d [] is = let same : d ≡ e = cc in ap (λ (l : Loaded). l.texts) (sym same) ∙ sym (append-nil d.texts)
  texts_from d (text ∷ texts) is = by (source_added d.sources (length d.texts + 1)) is (λ sources h. texts_from (behind d text sources) texts h)
    where
      by : (added : Result SourceList Refusal) → (added >>= λ sources. numbered_from (behind d text sources) texts) ≡ Ok e
          → ((sources : SourceList) → numbered_from (behind d text sources) texts ≡ Ok e → e.texts ≡ (d.texts ++ text ∷ []) ++ texts) → e.texts ≡ d.texts ++ text ∷ texts
      by (Ok sources) h rest = rest sources h ∙ append_assoc d.texts (text ∷ []) texts
      by (Err refusal) h rest = absurd (cc h)

pub numbered_texts : (texts : List (List ℕ)) (d : Loaded) → numbered texts ≡ Ok d → d.texts ≡ texts
numbered_texts texts d is = texts_from d (record { sources = []; texts = [] }) texts is

-- ---- what is loaded is numbered

module _ (at : Holding) (e : Loaded) where
  -- the texts behind those of others, and that they give it
  abbrev Behind : Loaded → Type 0
  Behind d = (texts : List (List ℕ)) × (e.texts ≡ d.texts ++ texts) × (numbered_from d texts ≡ Ok e)

  loaded_behind : (d : Loaded) (paths : List (List ℕ)) → loaded_from at d paths ≡ Ok e → Behind d
  loaded_behind d [] is = let same : d ≡ e = cc in ([], ap (λ (l : Loaded). l.texts) (sym same) ∙ sym (append-nil d.texts), is)
  loaded_behind d (path ∷ paths) is = by (source_added d.sources (length d.texts + 1)) (text_of (load_of at path text_bytes)) refl is (λ sources text h. loaded_behind (behind d text sources) paths h)
    where
      by : (added : Result SourceList Refusal) (read : Result (List ℕ) Refusal) → source_added d.sources (length d.texts + 1) ≡ added
          → ((added >>= λ sources. read >>= λ text. Ok (behind d text sources)) >>= λ next. loaded_from at next paths) ≡ Ok e
          → ((sources : SourceList) (text : List ℕ) → loaded_from at (behind d text sources) paths ≡ Ok e → Behind (behind d text sources)) → Behind d
      by (Ok sources) (Ok text) same h more =
          let rest = more sources text h in
          let next : numbered_from d (text ∷ rest.0) ≡ numbered_from (behind d text sources) rest.0 = ap (λ (r : Result SourceList Refusal). r >>= λ more. numbered_from (behind d text more) rest.0) same in
          (text ∷ rest.0, rest.1 ∙ append_assoc d.texts (text ∷ []) rest.0, next ∙ rest.2)
      by (Ok sources) (Err refusal) same h more = absurd (cc h)
      by (Err refusal) read same h more = absurd (cc h)

pub numbered_all : (at : Holding) (paths : List (List ℕ)) (d : Loaded) → loaded_at at paths ≡ Ok d → numbered d.texts ≡ Ok d
numbered_all at paths d loaded =
    let b = loaded_behind at d (record { sources = []; texts = [] }) paths loaded in
    subst (λ (texts : List (List ℕ)). numbered texts ≡ Ok d) (sym b.1) b.2

-- ---- document by document

module _ (d : Loaded) (text : List ℕ) (texts : List (List ℕ)) (all : Result Loaded Refusal) (so_far : numbered_from d (text ∷ texts) ≡ all) where
  -- one more has its source
  pub next_numbered : (sources : SourceList) → source_added d.sources (length d.texts + 1) ≡ Ok sources → numbered_from (behind d text sources) texts ≡ all
  next_numbered sources is = sym (ap (λ (r : Result SourceList Refusal). r >>= λ more. numbered_from (behind d text more) texts) is) ∙ so_far

  -- or it is refused
  pub next_refused : (refusal : Refusal) → source_added d.sources (length d.texts + 1) ≡ Err refusal → all ≡ Err refusal
  next_refused refusal is = sym so_far ∙ ap (λ (r : Result SourceList Refusal). r >>= λ more. numbered_from (behind d text more) texts) is

-- ---- one that is alone

pub numbered_alone : (text : List ℕ) (d : Loaded) → numbered (text ∷ []) ≡ Ok d → d.sources ≡ (decimal 1, None) ∷ []
numbered_alone text d is =
    let same : record { sources = (decimal 1, None) ∷ []; texts = text ∷ [] } ≡ d = cc in
    sym (ap (λ (l : Loaded). l.sources) same)
