-- Documents that are loaded, merged and answered from.
use Rattle.clap.specs.Walk.{Text}
use Rattle.flagops_shell.specs.Console.{Shown}
use Rattle.flagops_shell.specs.Usage.{ShowsWordsWant}
use Rattle.flagops_service.specs.Ended.{AnswersOfrep, Begins, Fails, Reports, Serves, ServesOfrep, ServesOn, stop_line}
use Rattle.std.proofs.Common.{◌≡◌, ◌⊎◌, ◌∙◌, ℕ, Bool, true, false, List, [], ◌∷◌, ◌++◌, Option, Some, Result, Ok, Err, IfSome, inl, inr, refl, ap, arith, length, map, subst, sym}
use Rattle.flag_defs.specs.Document.{Definitions}
use Rattle.flag_defs.specs.declared.flags.Flags.{Flags}
use Rattle.source_merge.specs.Sources.{SourceList}
use Rattle.flagops_shell.specs.Files.{Holding}
use Rattle.flagops_streams.specs.Loading.{Loaded, loaded_at}
use Rattle.flagops_streams.proofs.DocumentsLoaded.{where_known}
use Rattle.flagops_streams.specs.Documents.{Answer, Gives, Merges, count_of}
use Rattle.flagops_streams.specs.Refusal.{is_want}
use Rattle.flagops_streams.specs.declared.refusal.Refusal.{Refusal}
use Rattle.flagops_streams.proofs.Gives.{counted}
use Rattle.flagops_service.specs.Merging.{GivesMore}
use Rattle.flagops_service.specs.Starting.{MayNotStart, StartsAs, StartsLoaded, StartsOn, StartsTo, last_of, numbered, stops_in, stops_on}
use Rattle.flagops_service.specs.Words.{Answering, ofrep_by, seats_of}
use Rattle.flagops_service.specs.declared.asked.OnBroken.{OnBroken}
use Rattle.flagops_service.specs.declared.asked.OnBroken.TheVariants.{Keep, Refuse, Serve}
use Rattle.flagops_service.specs.declared.stop.Stop.TheVariants.{BrokenFlags}
use Rattle.flagops_service.proofs.Numbered.{numbered_all, numbered_texts}

-- the first document is merged, and those behind it give the rest
pub first_merged : (sources next last : SourceList) (flags : Definitions) (text : List ℕ) (texts : List (List ℕ)) (r : Result Flags Refusal)
    → Merges true 1 sources text next flags → GivesMore next last texts (flags ∷ []) r → GivesMore sources last (text ∷ texts) [] r
first_merged sources next last flags text texts (Ok f) merges gives = (gives.0, inr (next, flags, merges, gives.1), gives.2)
first_merged sources next last flags text texts (Err refusal) merges gives = inr (next, flags, merges, gives)

-- the last merge
last_is : (front : List Definitions) (flags : Definitions) → last_of (front ++ flags ∷ []) ≡ flags
last_is [] flags = refl
last_is (f ∷ []) flags = refl
last_is (f ∷ next ∷ more) flags = last_is (next ∷ more) flags

-- only where no broken flag is to be does one stop it
stopped : (mode : OnBroken) (flags : Definitions) → stops_on mode flags ≡ true → mode ≡ Refuse
stopped Refuse flags is = refl
stopped Keep flags is = absurd (cc is)
stopped Serve flags is = absurd (cc is)

-- what the report of an answer is of: as many documents as were loaded, or a refusal
module _ (mode : OnBroken) (Reported : Bool → Result ℕ Refusal → Type 0) where
  -- a number of documents, whose flags stop it or not
  abbrev pub Counted : ℕ → Type 0
  Counted n = (stops : Bool) × (stops ≡ true → mode ≡ Refuse) × Reported stops (Ok n)

  -- of a refusal nothing is asked of flags
  abbrev pub IsRefused : Type 0
  IsRefused = (refusal : Refusal) × Reported false (Err refusal)

  counted_as : (seats : ℕ) (texts : List (List ℕ)) (all : List Definitions) (r : Result Loaded Refusal) → numbered texts ≡ r → StartsLoaded seats r (Ok all) → Reported (stops_on mode (last_of all)) (Ok (length all)) → Counted (length texts) ⊎ IsRefused
  counted_as seats texts all (Err e) is starts p = absurd (cc starts)
  counted_as seats texts all (Ok d) is (inl fails) p = absurd (cc (fails.1))
  counted_as seats texts all (Ok d) is (inr gives) p =
      let count : length all ≡ length texts = omega (arith, counted true d.sources d.texts [] all gives, ap length (numbered_texts texts d is)) in
      inl (stops_on mode (last_of all), stopped mode (last_of all), subst (λ (k : ℕ). Reported (stops_on mode (last_of all)) (Ok k)) count p)

  serves_as : (seats : ℕ) (texts : List (List ℕ)) (answer : Answer) → StartsAs seats (numbered texts) answer → Reported (stops_in mode answer) (count_of answer) → Counted (length texts) ⊎ IsRefused
  serves_as seats texts (Ok all) starts p = counted_as seats texts all (numbered texts) refl starts p
  serves_as seats texts (Err refusal) starts p = inr (refusal, p)

  -- the same, of as many documents as are asked for
  pub served : (a : Answering) (texts : List (List ℕ)) (answer : Answer) (n : ℕ) → length texts ≡ n → StartsAs (seats_of a) (numbered texts) answer → Reported (stops_in mode answer) (count_of answer) → Counted n ⊎ IsRefused
  served a texts answer n count starts report = subst (λ (k : ℕ). Counted k ⊎ IsRefused) count (serves_as (seats_of a) texts answer starts report)

  -- documents that were merged are answered from, or not
  pub begun : (seats n : ℕ) (d : Loaded) (front : List Definitions) (flags : Definitions) → n ≡ length d.texts → Gives true d.sources d.texts [] (Ok (front ++ flags ∷ []))
      → Reported (stops_on mode flags) (Ok n) ⊎ ((refusal : Refusal) × MayNotStart seats refusal × Reported false (Err refusal))
      → (answer : Answer) × StartsOn seats d answer × Reported (stops_in mode answer) (count_of answer)
  begun seats n d front flags same gives (inl p) =
      let all = front ++ flags ∷ [] in
      let count : n ≡ length all = omega (arith, same, counted true d.sources d.texts [] all gives) in
      let here = subst (λ (k : ℕ). Reported (stops_on mode flags) (Ok k)) count p in
      (Ok all, inr gives, subst (λ (fs : Definitions). Reported (stops_on mode fs) (Ok (length all))) (sym (last_is front flags)) here)
  begun seats n d front flags same gives (inr fails) = (Err fails.0, inl (fails.0, refl, fails.1), fails.2)

-- it begins so, or not, as the flags stop it or do not
module _ (out out' : Option (List ℕ)) (broken : Bool) (told told' : Option (List ℕ)) (mute : Bool) (status : ℕ) (a : Answering) (stops : Bool) (n : ℕ) where
  pub not_begun : stops ≡ true → Fails out out' broken told told' mute status (stop_line BrokenFlags) → Begins out out' broken told told' mute status a stops n
  not_begun is fails = inl (subst (λ (b : Bool). ServesOn out out' broken told told' mute status a b n) (sym is) fails)

  pub not_stopped : stops ≡ false → Begins out out' broken told told' mute status a false n → Begins out out' broken told told' mute status a stops n
  not_stopped is begins = subst (λ (b : Bool). Begins out out' broken told told' mute status a b n) (sym is) begins

-- what documents come to is what their texts come to
pub started_as : (seats : ℕ) (loaded : Result Loaded Refusal) (d : Loaded) (answer : Answer) → loaded ≡ Ok d → StartsOn seats d answer → StartsAs seats loaded answer
started_as seats loaded d (Ok merges) is starts = subst (λ (r : Result Loaded Refusal). StartsLoaded seats r (Ok merges)) (sym is) starts
started_as seats loaded d (Err refusal) is starts = λ _. subst (λ (r : Result Loaded Refusal). StartsLoaded seats r (Err refusal)) (sym is) starts

-- and so is why there are none
pub not_started : (seats : ℕ) (loaded : Result Loaded Refusal) (refusal : Refusal) → (is_want refusal ≡ false → loaded ≡ Err refusal) → StartsAs seats loaded (Err refusal)
not_started seats loaded refusal is = λ other. subst (λ (r : Result Loaded Refusal). StartsLoaded seats r (Err refusal)) (sym (is other)) refl

-- an answer to what is asked, and its report
pub answered : (holding : Option Holding) (a : Answering) (answer : Answer) (Reported : Answer → Type 0)
    → IfSome holding (λ at. StartsTo at a answer) → Reported answer → IfSome holding (λ at. (r : Answer) × StartsTo at a r × Reported r)
answered holding a answer Reported answers report =
    where_known holding (λ at. StartsTo at a answer) (λ at. (r : Answer) × StartsTo at a r × Reported r) (λ at h. (answer, h, report)) answers

-- the same over the words' own paths, of which the slice was taken
module _ {X : Type 0} (now : X → List ℕ) (slice items : List X) (same : slice ≡ items) (holding : Option Holding) (a : Answering) (paths : a.documents ≡ map now items) where
  named : map now slice ≡ a.documents
  named = ap (map now) same ∙ sym paths

  pub all_started : (d : Loaded) (answer : Answer) → IfSome holding (λ at. loaded_at at (map now slice) ≡ Ok d) → StartsAs (seats_of a) (numbered d.texts) answer → IfSome holding (λ at. StartsTo at a answer)
  all_started d answer loaded starts =
      where_known holding (λ at. loaded_at at (map now slice) ≡ Ok d) (λ at. StartsTo at a answer)
      (λ at e. subst (λ (r : Result Loaded Refusal). StartsAs (seats_of a) r answer) (numbered_all at (map now slice) d e ∙ sym (ap (loaded_at at) (sym named) ∙ e)) starts) loaded

  pub none_started : (refusal : Refusal) → IfSome holding (λ at. is_want refusal ≡ false → loaded_at at (map now slice) ≡ Err refusal) → IfSome holding (λ at. StartsTo at a (Err refusal))
  none_started refusal loaded =
      where_known holding (λ at. is_want refusal ≡ false → loaded_at at (map now slice) ≡ Err refusal) (λ at. StartsTo at a (Err refusal))
      (λ at e. not_started (seats_of a) (loaded_at at a.documents) refusal (λ other. ap (loaded_at at) (sym named) ∙ e other)) loaded

-- ---- what the words ask for

-- over a console of which the two outlets were taken
pub answers_asked : (old inside new : Shown) (status : ℕ) (words : List Text) (a : Answering) (files : Option Holding) → inside ≡ old → ofrep_by words ≡ Some a
    → IfSome files (λ at. (answer : Answer) × StartsTo at a answer × Reports inside.printed new.printed new.is_broken inside.reported new.reported new.is_mute status a (stops_in a.broken answer) (count_of answer))
    → AnswersOfrep old new status files words
answers_asked old inside new status words a files same is answers =
    subst (λ (o : Shown). AnswersOfrep o new status files words) same
    (subst (λ (o : Option Answering). IfSome o (λ t. IfSome files (λ at. ((answer : Answer) × StartsTo at t answer × Reports inside.printed new.printed new.is_broken inside.reported new.reported new.is_mute status t (stops_in t.broken answer) (count_of answer)) ⊎ ShowsWordsWant inside new status))) (sym is)
    (where_known files (λ at. (answer : Answer) × StartsTo at a answer × Reports inside.printed new.printed new.is_broken inside.reported new.reported new.is_mute status a (stops_in a.broken answer) (count_of answer))
    (λ at. ((answer : Answer) × StartsTo at a answer × Reports inside.printed new.printed new.is_broken inside.reported new.reported new.is_mute status a (stops_in a.broken answer) (count_of answer)) ⊎ ShowsWordsWant inside new status)
    (λ at h. inl h) answers))

pub serves_asked : (old inside new : Shown) (status : ℕ) (words : List Text) (a : Answering) (n : ℕ) → inside ≡ old → ofrep_by words ≡ Some a → n ≡ length a.documents
    → Serves inside.printed new.printed new.is_broken inside.reported new.reported new.is_mute status a n → ServesOfrep old new status words
serves_asked old inside new status words a n same is count serves =
    subst (λ (o : Shown). ServesOfrep o new status words) same
    (subst (λ (o : Option Answering). IfSome o (λ t. Serves inside.printed new.printed new.is_broken inside.reported new.reported new.is_mute status t (length t.documents) ⊎ ShowsWordsWant inside new status)) (sym is)
    (inl (subst (λ (k : ℕ). Serves inside.printed new.printed new.is_broken inside.reported new.reported new.is_mute status a k) count serves)))
