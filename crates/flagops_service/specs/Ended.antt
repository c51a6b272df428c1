-- What `ofrep` comes to, by what the two outlets show before and after, what the files show, and the status.
use Rattle.std.specs.Prelude.{◌≡◌, ◌≢◌, ◌⊎◌, ℕ, Bool, true, List, [], ◌∷◌, ◌++◌, codes, decimal, is_some, length, Option, Some, None, IfSome, Result, Ok, Err}
use Rattle.std.specs.Bool.{MatchBool}
use Rattle.clap.specs.Walk.{Text}
use Rattle.flagops_shell.specs.Console.{Shown}
use Rattle.flagops_shell.specs.Files.{Holding}
use Rattle.flagops_shell.specs.Usage.{ShowsOneUsage, ShowsWordsWant}
use Rattle.flagops_service.specs.Starting.{MayNotStart, StartsTo, stops_in}
use Rattle.flagops_service.specs.Words.{Answering, ofrep_by, ofrep_faults, seats_of}
use Rattle.flagops_service.specs.declared.asked.OnBroken.TheVariants.{Refuse}
use Rattle.flagops_service.specs.declared.stop.Stop.{Stop}
use Rattle.flagops_service.specs.declared.stop.Stop.TheVariants.{NoLog, Unseeded, BrokenFlags, BadOrigin, NoKeys}
use Rattle.flagops_service.specs.declared.stop.NoKeys.{NoKeys as WhyNoKeys}
use Rattle.flagops_service.specs.declared.stop.NoKeys.TheVariants.{Unreadable, Unusable}
use Rattle.ofrep_guards.specs.Origin.{origin_fault}
use Rattle.ofrep_guards.specs.declared.key.KeyFault.TheVariants as key
use Rattle.ofrep_guards.specs.declared.origins.OriginFault.{OriginFault}
use Rattle.ofrep_guards.specs.declared.origins.OriginFault.TheVariants as origin
use Rattle.flagops_streams.specs.Documents.{Answer, count_of}
use Rattle.flagops_streams.specs.Report.{RefusesBy, Writes}
use Rattle.flagops_streams.specs.Told.{TellsText}
use Rattle.flagops_streams.specs.declared.refusal.Refusal.{Refusal}
use Rattle.log_file.specs.declared.fault.LogFault.{LogFault}
use Rattle.log_file.specs.declared.fault.LogFault.TheVariants as log

-- so many documents are answered from
unfoldable pub serving_line : ℕ → List ℕ
serving_line n = codes "serving " ++ (decimal n ++ codes "\n")

-- the logs can't be opened
abbrev pub log_line : LogFault → List ℕ
log_line log.WantOfMemory = codes "refused log 0 WantOfMemory\n"
log_line log.Unopened = codes "refused log 1 Unopened\n"
log_line log.InUse = codes "refused log 2 InUse\n"

-- the file of keys has none to ask for
abbrev pub keys_line : WhyNoKeys → List ℕ
keys_line Unreadable = codes "refused keys 1 Unreadable\n"
keys_line (Unusable key.WantOfMemory) = codes "refused keys 0 WantOfMemory\n"
keys_line (Unusable key.NoKey) = codes "refused keys 2 NoKey\n"
keys_line (Unusable key.TooLarge) = codes "refused keys 3 TooLarge\n"
keys_line (Unusable (key.BadKey line)) = codes "refused keys 4 BadKey\n"

-- the first of the origins that no browser names so, and why
abbrev pub or_later : Option OriginFault → Option OriginFault → Option OriginFault
or_later (Some fault) later = Some fault
or_later None later = later

abbrev pub cors_fault : List Text → Option OriginFault
cors_fault [] = None
cors_fault (o ∷ os) = or_later (origin_fault o) (cors_fault os)

abbrev pub cors_line : OriginFault → List ℕ
cors_line origin.NoOrigin = codes "refused cors 1 NoOrigin\n"
cors_line origin.UpperCase = codes "refused cors 2 UpperCase\n"
cors_line origin.Path = codes "refused cors 3 Path\n"
cors_line origin.OwnPort = codes "refused cors 4 OwnPort\n"
cors_line origin.BadByte = codes "refused cors 5 BadByte\n"

-- the service does not start: its logs, its random bytes, a flag that is broken, an origin, or its keys
abbrev pub stop_line : Stop → List ℕ
stop_line (NoLog fault) = log_line fault
stop_line Unseeded = codes "refused random 1 Unseeded\n"
stop_line BrokenFlags = codes "refused flags 1 Broken\n"
stop_line (BadOrigin fault) = cors_line fault
stop_line (NoKeys why) = keys_line why

-- of a folder that is named, the logs can't be opened so; that memory ran out is another refusal
abbrev pub IsLogRefusal : Option Text → LogFault → Type 0
IsLogRefusal folder fault = (is_some folder ≡ true) × (fault ≢ log.WantOfMemory)

-- of a file that is named, the keys can't be used so; that memory ran out is another refusal
abbrev pub IsKeysRefusal : Option Text → WhyNoKeys → Type 0
IsKeysRefusal file Unreadable = is_some file ≡ true
IsKeysRefusal file (Unusable fault) = (is_some file ≡ true) × (fault ≢ key.WantOfMemory)

-- why what is asked for may not start, though its flags do not stop it
abbrev pub MayStop : Answering → Stop → Type 0
MayStop a (NoLog fault) = IsLogRefusal a.log fault
MayStop a Unseeded = Unit {0}
MayStop a BrokenFlags = ⊥
MayStop a (BadOrigin fault) = cors_fault a.cors ≡ Some fault
MayStop a (NoKeys why) = IsKeysRefusal a.keys why

-- the output and what is told beside it, each by the bytes that are known of it and by whether it is broken
module _ (out out' : Option (List ℕ)) (broken : Bool) (told told' : Option (List ℕ)) (mute : Bool) (status : ℕ) where
  -- a line with status 1, and why is told
  abbrev pub Fails : List ℕ → Type 0
  Fails line = Writes out out' broken status line 1 × TellsText told told' mute

  -- a refusal, which is told
  abbrev pub Refuses : Refusal → Type 0
  Refuses refusal = RefusesBy refusal out out' broken status × TellsText told told' mute

  -- so many documents are answered from until the service fails, or is asked to stop, where it may be; each of the origins is one that browsers name so
  abbrev pub ServesUntil : Answering → ℕ → Type 0
  ServesUntil a n =
      (cors_fault a.cors ≡ None) × (Writes out out' broken status (serving_line n) 1 ⊎ ((a.allow_stop ≡ true) × Writes out out' broken status (serving_line n) 0))

  -- Documents are answered from; or the service does not start, and just so where its flags stop it.
  abbrev pub ServesOn : Answering → Bool → ℕ → Type 0
  ServesOn a stops n = MatchBool stops (Fails (stop_line BrokenFlags)) (ServesUntil a n ⊎ ((stop : Stop) × MayStop a stop × Fails (stop_line stop)))

  -- the same, or a refusal
  abbrev pub Reports : Answering → Bool → Result ℕ Refusal → Type 0
  Reports a stops (Ok n) = ServesOn a stops n
  Reports a stops (Err refusal) = Refuses refusal

-- so many documents are answered from; or they are not, by the network, so many seats or memory
abbrev pub Begins : Option (List ℕ) → Option (List ℕ) → Bool → Option (List ℕ) → Option (List ℕ) → Bool → ℕ → Answering → Bool → ℕ → Type 0
Begins out out' broken told told' mute status a stops n =
    ServesOn out out' broken told told' mute status a stops n
    ⊎ ((refusal : Refusal) × MayNotStart (seats_of a) refusal × Refuses out out' broken told told' mute status refusal)

-- so many documents are answered from, or there is a refusal
abbrev pub Serves : Option (List ℕ) → Option (List ℕ) → Bool → Option (List ℕ) → Option (List ℕ) → Bool → ℕ → Answering → ℕ → Type 0
Serves out out' broken told told' mute status a n =
    ((stops : Bool) × (stops ≡ true → a.broken ≡ Refuse) × ServesOn out out' broken told told' mute status a stops n) ⊎ ((refusal : Refusal) × Refuses out out' broken told told' mute status refusal)

module _ (old new : Shown) (status : ℕ) where
  -- over files whose bytes are known, the line of what the documents at the paths make
  abbrev pub AnswersOfrep : Option Holding → List Text → Type 0
  AnswersOfrep files words = IfSome (ofrep_by words) (λ a. IfSome files (λ at.
      ((answer : Answer) × StartsTo at a answer × Reports old.printed new.printed new.is_broken old.reported new.reported new.is_mute status a (stops_in a.broken answer) (count_of answer))
      ⊎ ShowsWordsWant old new status))

  -- the number of the documents, or a refusal
  abbrev pub ServesOfrep : List Text → Type 0
  ServesOfrep words = IfSome (ofrep_by words) (λ a.
      Serves old.printed new.printed new.is_broken old.reported new.reported new.is_mute status a (length a.documents) ⊎ ShowsWordsWant old new status)

  -- words with a mistake are told by one of their mistakes
  abbrev pub TellsOfrep : List Text → Type 0
  TellsOfrep words = ofrep_by words ≡ None → ShowsOneUsage old new status (ofrep_faults words)
