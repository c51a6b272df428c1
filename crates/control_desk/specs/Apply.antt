-- What comes of a token: its plan is checked, noted in the history, and then in the document's file.
use Rattle.std.specs.Prelude.{◌≡◌, ◌⊎◌, ◌<◌, ℕ, Bool, true, false, List, [], ◌++◌, codes, decimal, length, Option, Some, None, option_and_then, unwrap_or, Result, Ok, Err}
use Rattle.bucket_core.specs.Rule.{Entries}
use Rattle.control_answers.specs.Apply.{Applied, IsApplyAnswer}
use Rattle.control_answers.specs.History.{row_text}
use Rattle.control_answers.specs.Snapshot.{Snapshot}
use Rattle.control_answers.specs.declared.refusal.ControlRefusal.{ControlRefusal}
use Rattle.control_answers.specs.declared.refusal.ControlRefusal.TheVariants.{OtherDocument}
use Rattle.control_flags.specs.Sites.{rule_at}
use Rattle.flag_defs.specs.Document.{Definitions}
use Rattle.flag_defs.specs.Flag.{targeting_in}
use Rattle.std.specs.Map.{lookup}
use Rattle.flagops_shell.specs.Files.{Holding, KeepsOthers, Stores}
use Rattle.http_server.specs.Response.{IsResponse}
use Rattle.http_server.specs.declared.response.Response.{Response}
use Rattle.plan_text.specs.Answer.{Answer, emit, none_exists}
use Rattle.price_core.specs.Request.{Asked, asked_of}
use Rattle.price_core.specs.declared.fault.PriceFault.{PriceFault}
use Rattle.std.specs.Str.{bytes_eq}
use Rattle.control_desk.specs.Asked.{IsTextOf}
use Rattle.control_desk.specs.Files.{Appends, path_in}
use Rattle.control_desk.specs.Reply.{Replies}
use Rattle.control_desk.specs.Sent.{type_field}
use Rattle.control_desk.specs.Bodies.{IsRefusal}
use Rattle.control_desk.specs.declared.giving.Media.TheVariants.{Json}
use Rattle.control_desk.specs.declared.reply.Reply.TheVariants.{Unreadable, Unwritten}

-- ---- the row of the history

-- the rule that stands at a site of a flag, empty where there is none
abbrev pub old_rule : Definitions → List ℕ → ℕ → Entries
old_rule flags key site = unwrap_or (option_and_then (λ e. rule_at e site) (option_and_then targeting_in (lookup (bytes_eq key) flags))) []

abbrev pub rule_of : Answer → Entries
rule_of (emit rule c) = rule
rule_of (none_exists kind names) = []

abbrev pub cost_of : Answer → ℕ
cost_of (emit rule c) = c.cost
cost_of (none_exists kind names) = 0

-- the line tells what is applied to these flags, at some time, by whom this tells
pub record IsRowOf (flags : Definitions) (asker : List ℕ) (a : Applied) (line : List ℕ) : Type 0 where
  pub asked : Asked
  pub request_is : asked_of a.request ≡ Ok asked
  pub time : List ℕ
  pub who : List ℕ
  pub who_is : IsTextOf asker who
  pub line_is : line ≡ row_text (record {
    time = time;
    who = who;
    flag = asked.flag;
    site = asked.site;
    old = old_rule flags asked.flag asked.site;
    new = rule_of a.answer;
    cost = cost_of a.answer;
    inputs = a.inputs;
  })

-- ---- files

-- the file at the path holds this text, or another or none, where that is known
abbrev pub HoldsText : Bool → Option Holding → List ℕ → List ℕ → Type 0
HoldsText same None path text = Unit {0}
HoldsText true (Some at) path text = at path ≡ Some text
HoldsText false (Some at) path text = ¬ (at path ≡ Some text)

-- the line stands at the end of the history, and then the document at its path; nothing else is written
pub record Writes (before after : Option Holding) (history line path document : List ℕ) : Type 0 where
  pub between : Option Holding
  pub noted : Appends before between history line
  pub beside : KeepsOthers before between history
  pub stored : Stores between after path document
  pub others : KeepsOthers between after path

-- ---- the answer

unfoldable pub written_text : ℕ → List ℕ
written_text n = codes "{\"written\":" ++ (decimal n ++ codes "}\n")

-- by how often the system had failed before and after
module _ (folder path asker : List ℕ) (s : Snapshot) (a : Applied) (before after : Option Holding) (faults faults' : ℕ) (response : Response) where
  abbrev pub history : List ℕ
  history = path_in folder (codes "applied.log")

  -- the file held the text of the snapshot; what is applied is noted, and then it is the text of the document
  pub record Applies : Type 0 where
    pub same : HoldsText true before path s.document
    pub line : List ℕ
    pub row : IsRowOf s.flags asker a line
    pub writes : Writes before after history line path a.document
    pub response_is : IsResponse 200 (type_field Json) (written_text (length a.document)) response

  -- the file holds another text by now; nothing is written
  abbrev pub IsOther : Type 0
  IsOther = HoldsText false before path s.document × IsRefusal (codes "apply") OtherDocument response × (after ≡ before)

  -- the system failed as the file was read; or what is applied asks for nothing, which it does not
  abbrev pub IsUnread : Type 0
  IsUnread = ((faults < faults') ⊎ ((e : PriceFault) × (asked_of a.request ≡ Err e))) × Replies Unreadable response × (after ≡ before)

  -- the system failed as it was noted, or written
  abbrev pub IsUnwritten : Type 0
  IsUnwritten = (faults < faults') × Replies Unwritten response × KeepsOthers before after history

  -- so it is applied; or the document is not replaced, and that is told
  abbrev pub AppliesOr : Type 0
  AppliesOr = Applies ⊎ (IsOther ⊎ (IsUnread ⊎ IsUnwritten))

-- What comes of a token is applied, or the call is refused and nothing is written.
abbrev pub AppliesIf : List ℕ → List ℕ → List ℕ → Snapshot → Option Holding → Option Holding → ℕ → ℕ → Response → Result Applied ControlRefusal → Type 0
AppliesIf folder path asker s before after faults faults' response (Ok a) = AppliesOr folder path asker s a before after faults faults' response
AppliesIf folder path asker s before after faults faults' response (Err e) = IsRefusal (codes "apply") e response × (after ≡ before)

abbrev pub TellsApply : List ℕ → List ℕ → List ℕ → List ℕ → Snapshot → List (List ℕ) → Option Holding → Option Holding → ℕ → ℕ → Response → Type 0
TellsApply folder path asker token s files before after faults faults' response =
    (r : Result Applied ControlRefusal) × IsApplyAnswer s token files r × AppliesIf folder path asker s before after faults faults' response r
