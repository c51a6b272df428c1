-- What a desk answers from a snapshot and the bytes of log files.
use Rattle.std.specs.Prelude.{◌≡◌, ◌⊎◌, ◌-◌, ℕ, Bool, true, false, List, [], ◌∷◌, ◌++◌, codes, length, take, is_some, map, Option, Some, None, Result, Ok, Err}
use Rattle.std.specs.Str.{IsUtf8}
use Rattle.control_answers.specs.Check.{IsCheckAnswer}
use Rattle.control_answers.specs.Held.{is_held}
use Rattle.control_answers.specs.History.{IsHistory}
use Rattle.control_answers.specs.Plan.{IsPlanAnswer}
use Rattle.control_answers.specs.SiteCounts.{AreSiteCounts}
use Rattle.control_answers.specs.Snapshot.{Snapshot}
use Rattle.control_answers.specs.Record.{IsRecordAnswer}
use Rattle.control_answers.specs.Refusal.{refusal_text, status_of}
use Rattle.control_answers.specs.Token.{HasNoMember, IsMember}
use Rattle.control_answers.specs.declared.refusal.ControlRefusal.{ControlRefusal}
use Rattle.control_answers.specs.declared.refusal.ControlRefusal.TheVariants.{BadToken}
use Rattle.control_flags.specs.Calls.{RecordAsked}
use Rattle.control_flags.specs.Flags.{flags_text}
use Rattle.flag_defs.specs.Flags.{flags_view}
use Rattle.flag_defs.specs.Floats.{floats_view}
use Rattle.sync_frames.specs.Snapshots.{Numbered}
use Rattle.control_flags.specs.Joined.{comma_if, quoted}
use Rattle.control_flags.specs.Sites.{Recorded}
use Rattle.control_flags.specs.declared.answer.FlagsAsked.{FlagsAsked}
use Rattle.ofrep_requests.specs.Tag.{entity_tag, opaque_tag}
use Rattle.http_server.specs.Response.{IsResponse}
use Rattle.http_server.specs.declared.response.Response.{Response}
use Rattle.control_desk.specs.Reply.{Replies}
use Rattle.control_desk.specs.Rules.{Rules}
use Rattle.control_desk.specs.Sent.{field, number_field, type_field}
use Rattle.control_desk.specs.declared.giving.Media.{Media}
use Rattle.control_desk.specs.declared.giving.Media.TheVariants.{Json, Lines}
use Rattle.control_desk.specs.declared.reply.Reply.TheVariants.{NoQuery}

-- the refusal of a call that was asked by this name, with some words for a person
abbrev pub IsRefusal : List ℕ → ControlRefusal → Response → Type 0
IsRefusal asked e response = (details : List ℕ) × IsResponse (status_of e) (type_field Json) (refusal_text asked e details) response

-- a body, or the refusal of the call
abbrev pub Tells : List ℕ → Media → Result (List ℕ) ControlRefusal → Response → Type 0
Tells asked media (Ok body) response = IsResponse 200 (type_field media) body response
Tells asked media (Err e) response = IsRefusal asked e response

-- ---- files that were not read

-- names as JSON texts, with commas between
abbrev pub names_text : Bool → List (List ℕ) → List ℕ
names_text later [] = []
names_text later (name ∷ names) = comma_if later ++ (quoted name ++ names_text true names)

-- an object, which ends with a brace and a line feed, with the names of the files that were passed over, where there are some
unfoldable pub with_passed_over : List (List ℕ) → List ℕ → List ℕ
with_passed_over [] body = body
with_passed_over (name ∷ names) body = take (length body - 2) body ++ (codes ",\"passed_over\":[" ++ (names_text false (name ∷ names) ++ codes "]}\n"))

abbrev pub TellsObject : List ℕ → List (List ℕ) → Result (List ℕ) ControlRefusal → Response → Type 0
TellsObject asked passed (Ok body) response = IsResponse 200 (type_field Json) (with_passed_over passed body) response
TellsObject asked passed (Err e) response = IsRefusal asked e response

-- ---- calls on the snapshot

-- its flags, with the paths of the documents, whether a plan may be applied, and how many inputs are recorded on pages
pub record IsAskedOf (rules : Rules) (s : Numbered) (recorded : Recorded) (asked : FlagsAsked) : Type 0 where
  pub number : asked.number ≡ s.number
  pub flags : flags_view asked.flags.now ≡ s.flags
  pub floats : floats_view asked.flags.now ≡ s.floats
  pub may_apply : asked.may_apply ≡ is_some rules.applied_to
  pub sources : map (λ t. t.now) asked.sources.now ≡ rules.documents
  pub recorded_is : asked.recorded.now.entries ≡ recorded

abbrev pub TellsFlags : Rules → Numbered → Recorded → Response → Type 0
TellsFlags rules s recorded response = (asked : FlagsAsked) × IsAskedOf rules s recorded asked × IsResponse 200 (type_field Json) (flags_text asked) response

-- its document, or that whoever asks has it (RFC 9110, 15.4.5)
abbrev pub tag_of : List ℕ → List ℕ
tag_of document = entity_tag (opaque_tag document)

abbrev pub TellsDocumentIf : Bool → Snapshot → Response → Type 0
TellsDocumentIf true s = IsResponse 304 (field (codes "etag") (tag_of s.document)) []
TellsDocumentIf false s = IsResponse 200 ((field (codes "etag") (tag_of s.document) ++ number_field s.number) ++ type_field Json) s.document

abbrev pub TellsDocument : Option (List ℕ) → Snapshot → Response → Type 0
TellsDocument held s = TellsDocumentIf (is_held s.document held) s

-- ---- calls on the snapshot and on log files

-- its flags, with how many notes the files hold of the page of each site
abbrev pub TellsFlagsOn : Rules → Numbered → List (List ℕ) → Response → Type 0
TellsFlagsOn rules s files response = (counts : Recorded) × AreSiteCounts s.flags files counts × TellsFlags rules s counts response

-- the tally of a site, where the query names one
abbrev pub TellsRecord : Option RecordAsked → Snapshot → List (List ℕ) → Response → Type 0
TellsRecord None s files response = Replies NoQuery response
TellsRecord (Some a) s files response = (r : Result (List ℕ) ControlRefusal) × IsRecordAnswer s.flags a.flag a.site files r × Tells (codes "tally") Lines r response

abbrev pub TellsPlan : List ℕ → List (List ℕ) → Snapshot → List (List ℕ) → Response → Type 0
TellsPlan request passed s files response = (r : Result (List ℕ) ControlRefusal) × IsPlanAnswer s request files r × TellsObject (codes "plan") passed r response

-- the body is no text, or lacks a request or a plan
abbrev pub IsNoPair : List ℕ → Type 0
IsNoPair body = (¬ (IsUtf8 body)) ⊎ (HasNoMember body (codes "plan") ⊎ HasNoMember body (codes "request"))

-- the request and the plan of a body, as they stand there
pub record IsPair (body plan request : List ℕ) : Type 0 where
  pub plan_is : IsMember body (codes "plan") plan
  pub request_is : IsMember body (codes "request") request

abbrev pub TellsCheck : List ℕ → List (List ℕ) → Snapshot → List (List ℕ) → Response → Type 0
TellsCheck body passed s files response =
    (IsNoPair body × IsRefusal (codes "verify") BadToken response)
    ⊎ ((plan : List ℕ) × (request : List ℕ) × IsPair body plan request × ((r : Result (List ℕ) ControlRefusal) × IsCheckAnswer s.flags request plan files r × TellsObject (codes "verify") passed r response))

-- ---- what was applied

abbrev pub TellsHistory : List ℕ → Response → Type 0
TellsHistory history response = (text : List ℕ) × IsHistory history text × IsResponse 200 (type_field Json) text response
