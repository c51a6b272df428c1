-- What a desk answers, and what its answers rest on.
use Rattle.std.proofs.Common.{◌≡◌, ◌⊎◌, ◌<◌, ℕ, Bool, List, [], codes, Option, Some, None, is_some, option_map, unwrap_or}
use Rattle.control_answers.specs.Snapshot.{Snapshot}
use Rattle.control_answers.specs.declared.refusal.ControlRefusal.TheVariants.{NoRecord}
use Rattle.control_flags.specs.Calls.{record_of}
use Rattle.control_flags.specs.declared.place.ControlPlace.{ControlPlace}
use Rattle.control_flags.specs.declared.place.ControlPlace.TheVariants as place
use Rattle.flagops_shell.specs.Files.{Holding}
use Rattle.http.specs.declared.request.Request.{Request}
use Rattle.http_server.specs.Response.{IsResponse}
use Rattle.http_server.specs.declared.response.Response.{Response}
use Rattle.ofrep_guards.specs.Asked.{asked_of, is_admitted}
use Rattle.ofrep_guards.specs.Key.{keys_view}
use Rattle.ofrep_guards.specs.declared.held.HeldKeys.{HeldKeys}
use Rattle.snap_share.specs.Known.{Seat}
use Rattle.sync_frames.specs.Snapshots.{Numbered}
use Rattle.control_desk.specs.Apply.{TellsApply}
use Rattle.control_desk.specs.Asked.{CallAsked, call_asked}
use Rattle.control_desk.specs.Files.{Naming, path_in}
use Rattle.control_desk.specs.Held.{IsOfSnapshot, ReadsLast, with_document}
use Rattle.control_desk.specs.Logs.{AreLogs}
use Rattle.control_desk.specs.Obstacles.{AreGone, IsKept, IsUnknown, Met, met_by}
use Rattle.control_desk.specs.Reply.{Replies}
use Rattle.control_desk.specs.Route.{route_of}
use Rattle.control_desk.specs.Rules.{Rules}
use Rattle.control_desk.specs.Sent.{IsPage}
use Rattle.control_desk.specs.Bodies.{IsRefusal, TellsCheck, TellsDocument, TellsFlags, TellsFlagsOn, TellsHistory, TellsPlan, TellsRecord}
use Rattle.control_desk.specs.declared.page.ConsolePage as program
use Rattle.control_desk.specs.declared.reply.Reply.TheVariants.{Busy, Leaves, Unreadable, Unserved}
use Rattle.control_desk.specs.declared.obstacles.Obstacles.{Obstacles}
use Rattle.control_desk.specs.declared.route.Route.{Route}
use Rattle.control_desk.specs.declared.route.Route.TheVariants.{Forwarded, Replied, Called}

-- the page of the console, and its policy
pub record Page : Type 0 where
  pub text : List ℕ
  pub policy : List ℕ

abbrev pub page_view : program.ConsolePage → Page
page_view p = record { text = p.text.now; policy = p.policy.bytes }

-- the keys of which a call has to show one, where it has to
abbrev pub keys_in : Option HeldKeys → Option (List (List ℕ))
keys_in keys = option_map (λ (held : HeldKeys). keys_view held.keys) keys

-- the name by which the refusal of a call is told: that of the command which does the same
abbrev pub name_of : ControlPlace → List ℕ
name_of place.Plan = codes "plan"
name_of place.Check = codes "verify"
name_of place.Apply = codes "apply"
name_of place.History = codes "history"
name_of place.Record = codes "tally"
name_of place.Console = codes "control"
name_of place.Flags = codes "control"
name_of place.Snapshot = codes "control"
name_of place.Elsewhere = codes "control"

-- the call may be on what is recorded
abbrev pub IsOnRecord : ControlPlace → Type 0
IsOnRecord place.Flags = Unit {0}
IsOnRecord place.Record = Unit {0}
IsOnRecord place.Plan = Unit {0}
IsOnRecord place.Check = Unit {0}
IsOnRecord place.Apply = Unit {0}
IsOnRecord called = ⊥

-- what a file held is this, and nothing where there is none
abbrev pub HoldsHistory : Option Holding → List ℕ → List ℕ → Type 0
HoldsHistory None path history = Unit {0}
HoldsHistory (Some at) path history = history ≡ unwrap_or (at path) []

-- what has kept a desk from answering so far: how often the system failed its files, and what else it met
pub record Hindered : Type 0 where
  pub faults : ℕ
  pub met : Met

abbrev pub hindered : ℕ → Obstacles → Hindered
hindered faults met = record { faults = faults; met = met_by met }

-- What the files hold before and after a call, what has kept the desk from answering before and after, what it goes by, its page, its seat before
-- and after, what is asked, and the response.
module _ (naming : Option Naming) (before after : Option Holding) (had has : Hindered) (rules : Rules) (page : Page) (seat seat' : Seat) (asked : CallAsked) (response : Response) where
  -- of the newest snapshot that the seat then knew, with a document that means its flags
  abbrev pub OfSnapshot : (Numbered → List ℕ → Type 0) → Type 0
  OfSnapshot Next = (s : Numbered) × ReadsLast seat s seat' × ((document : List ℕ) × IsOfSnapshot s document × Next s document)

  -- of such a snapshot, of all logs of the folder, and of the names of those that are compressed
  abbrev pub OfLogs : List ℕ → (Numbered → List ℕ → List (List ℕ) → List (List ℕ) → Type 0) → Type 0
  OfLogs folder Next = (files : List (List ℕ)) × (passed : List (List ℕ)) × AreLogs naming before folder files passed × OfSnapshot (λ s document. Next s document files passed)

  -- where plans may be applied to a document
  abbrev pub RespondsApplied : Option (List ℕ) → List ℕ → Snapshot → List (List ℕ) → Type 0
  RespondsApplied (Some path) folder s files = TellsApply folder path asked.asker asked.body s files before after had.faults has.faults response
  RespondsApplied None folder s files = Replies Unserved response × (after ≡ before)

  abbrev pub RespondsOn : ControlPlace → List ℕ → Numbered → List ℕ → List (List ℕ) → List (List ℕ) → Type 0
  RespondsOn place.Flags folder s document files passed = TellsFlagsOn rules s files response × (after ≡ before)
  RespondsOn place.Record folder s document files passed = TellsRecord (record_of asked.query) (with_document s document) files response × (after ≡ before)
  RespondsOn place.Plan folder s document files passed = TellsPlan asked.body passed (with_document s document) files response × (after ≡ before)
  RespondsOn place.Check folder s document files passed = TellsCheck asked.body passed (with_document s document) files response × (after ≡ before)
  RespondsOn place.Apply folder s document files passed = RespondsApplied rules.applied_to folder (with_document s document) files
  RespondsOn place.Console folder s document files passed = ⊥
  RespondsOn place.Snapshot folder s document files passed = ⊥
  RespondsOn place.History folder s document files passed = ⊥
  RespondsOn place.Elsewhere folder s document files passed = ⊥

  -- where logs are kept
  abbrev pub RespondsRecorded : ControlPlace → Option (List ℕ) → Type 0
  RespondsRecorded called None = IsRefusal (name_of called) NoRecord response × (after ≡ before)
  RespondsRecorded called (Some folder) = OfLogs folder (RespondsOn called folder)

  -- the flags, and what is recorded of their sites where logs are kept
  abbrev pub RespondsFlags : Option (List ℕ) → Type 0
  RespondsFlags None = ((s : Numbered) × ReadsLast seat s seat' × TellsFlags rules s [] response) × (after ≡ before)
  RespondsFlags (Some folder) = OfLogs folder (RespondsOn place.Flags folder)

  abbrev pub RespondsHistory : Option (List ℕ) → Type 0
  RespondsHistory None = IsRefusal (codes "history") NoRecord response
  RespondsHistory (Some folder) = (history : List ℕ) × HoldsHistory before (path_in folder (codes "applied.log")) history × TellsHistory history response

  -- what is told at a place
  abbrev pub Responds : ControlPlace → Type 0
  Responds place.Console = IsPage page.text page.policy response × (after ≡ before)
  Responds place.Flags = RespondsFlags rules.folder
  Responds place.Snapshot = OfSnapshot (λ s document. TellsDocument asked.held (with_document s document) response) × (after ≡ before)
  Responds place.History = RespondsHistory rules.folder × (after ≡ before)
  Responds place.Record = RespondsRecorded place.Record rules.folder
  Responds place.Plan = RespondsRecorded place.Plan rules.folder
  Responds place.Check = RespondsRecorded place.Check rules.folder
  Responds place.Apply = RespondsRecorded place.Apply rules.folder
  Responds place.Elsewhere = ⊥

  -- it did not come to be the desk's turn, or nothing is known of the snapshot's documents yet; or files can't be read
  abbrev pub IsPutOff : Type 0
  IsPutOff = ((IsKept had.met has.met × Replies Busy response) ⊎ (((had.faults < has.faults) ⊎ AreGone had.met has.met) × Replies Unreadable response)) × (after ≡ before)

  abbrev pub Answered : ControlPlace → Type 0
  Answered called = IsPutOff ⊎ Responds called

  -- So a call is answered; or memory ran out, and the response is empty: it tells nothing, and nothing is written.
  abbrev pub Answers : ControlPlace → Type 0
  Answers called = Answered called ⊎ (IsResponse 500 [] [] response × (after ≡ before))

-- the flags of the newest snapshot that the seat then knows, with nothing of what is recorded; or another one is published meanwhile
abbrev pub TellsAlone : Met → Met → Rules → Seat → Seat → Response → Type 0
TellsAlone met met' rules seat seat' response = (IsUnknown met met' × Replies Busy response) ⊎ ((s : Numbered) × ReadsLast seat s seat' × TellsFlags rules s [] response)

-- ---- the desk as a service before another

-- who asks whether the service is ready is told that it is stopping
abbrev pub IsLeaving : Request (List ℕ) → Response → Type 0
IsLeaving request response = ((call_asked request).path ≡ codes "/readyz") × Replies Leaves response

-- what is asked is for the desk
abbrev pub IsOwn : Route → Type 0
IsOwn Forwarded = ⊥
IsOwn (Replied reply) = Unit {0}
IsOwn (Called called) = Unit {0}

module _ {S : Type 0} (answers : S → Request (List ℕ) → Response → S → Type 0) where
  -- the service behind answers
  abbrev pub Passes : S → Request (List ℕ) → Response → S → Type 0
  Passes old request response new = answers old request response new ⊎ (IsLeaving request response × (new ≡ old))

  -- What becomes of a request by where it leads. What the desk answers itself leaves the service behind it as it was.
  abbrev pub DesksBy : Route → Option Naming → Option Holding → Option Holding → Hindered → Hindered → Rules → Page → Seat → Seat → S → Request (List ℕ) → Response → S → Type 0
  DesksBy Forwarded naming before after had has rules page seat seat' old request response new = (seat' ≡ seat) × (after ≡ before) × Passes old request response new
  DesksBy (Replied reply) naming before after had has rules page seat seat' old request response new = (seat' ≡ seat) × (after ≡ before) × (new ≡ old) × Replies reply response
  DesksBy (Called called) naming before after had has rules page seat seat' old request response new =
      (new ≡ old) × Answers naming before after had has rules page seat seat' (call_asked request) response called

  abbrev pub Desks : Option (List (List ℕ)) → Option Naming → Option Holding → Option Holding → Hindered → Hindered → Rules → Page → Seat → Seat → S → Request (List ℕ) → Response → S → Type 0
  Desks keys naming before after had has rules page seat seat' old request response new =
      DesksBy (route_of (is_some rules.applied_to) (is_admitted keys (asked_of request)) (call_asked request).method (call_asked request).path) naming before after had has rules page seat seat' old request response new

-- ---- what its answers rest on

-- It is an answer of the desk's own, which rests on nothing that may change; or what the service behind answered rests on what stands there.
abbrev pub Stands : {S : Type 0} → (S → Request (List ℕ) → Response → Type 0) → S → Request (List ℕ) → Response → Type 0
Stands stands s request response =
    ((may_apply : Bool) × (admitted : Bool) × IsOwn (route_of may_apply admitted (call_asked request).method (call_asked request).path))
    ⊎ (IsLeaving request response ⊎ stands s request response)
