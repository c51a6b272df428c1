-- The token by which a plan is applied: which document, which plan, which request.
use denote.Ref.{Bor}
use Rattle.std.specs.Prelude.{◌≡◌, ◌≢◌, ◌⊎◌, ℕ, Bool, List, [], ◌∷◌, ◌++◌, codes, Result, Ok, Err}
use Rattle.std.specs.Str.{IsUtf8, bytes_eq}
use Rattle.ofrep_requests.specs.Tag.{entity_tag, opaque_tag}
use Rattle.text_spans.specs.Path.{Stands, name}
use Rattle.control_answers.specs.declared.refusal.ControlRefusal.{ControlRefusal}
use Rattle.control_answers.specs.declared.refusal.ControlRefusal.TheVariants.{WantOfMemory, BadToken}
use Rattle.control_answers.specs.declared.token.Token as program

-- the tag of the document, the plan file and the request, as they are
abbrev pub token_text : List ℕ → List ℕ → List ℕ → List ℕ
token_text document request plan = codes "{\"document\":\"" ++ (opaque_tag document ++ (codes "\",\"plan\":" ++ (plan ++ (codes ",\"request\":" ++ (request ++ codes "}")))))

-- ---- what a text is as a token

-- the bytes of its members, as they stand there: of several of one name the last
pub record Token : Type 0 where
  pub document : List ℕ
  pub plan : List ℕ
  pub request : List ℕ

-- these bytes are the value of the member of this name
abbrev pub IsMember : List ℕ → List ℕ → List ℕ → Type 0
IsMember text key bytes = (front back : List ℕ) × Stands text (name key ∷ []) front bytes back

abbrev pub HasNoMember : List ℕ → List ℕ → Type 0
HasNoMember text key = (bytes : List ℕ) → ¬ (IsMember text key bytes)

pub record IsToken (text : List ℕ) (t : Token) : Type 0 where
  pub document : IsMember text (codes "document") t.document
  pub plan : IsMember text (codes "plan") t.plan
  pub request : IsMember text (codes "request") t.request

-- it is no text, or lacks a member
abbrev pub IsNoToken : List ℕ → Type 0
IsNoToken text = (¬ (IsUtf8 text)) ⊎ (HasNoMember text (codes "document") ⊎ (HasNoMember text (codes "plan") ⊎ HasNoMember text (codes "request")))

-- this is the tag of the document, in quotes
abbrev pub is_tag_of : List ℕ → List ℕ → Bool
is_tag_of tag document = bytes_eq (entity_tag (opaque_tag document)) tag

-- ---- for private clauses

abbrev pub token_view : program.Token → Token
token_view t = record { document = t.document.now; plan = t.plan.now; request = t.request.now }

abbrev pub ReadsToken : List ℕ → Result program.Token ControlRefusal → Type 0
ReadsToken text (Ok t) = IsToken text (token_view t)
ReadsToken text (Err e) = e ≢ WantOfMemory → (e ≡ BadToken) × IsNoToken text

abbrev pub FindsMember : List ℕ → List ℕ → Result (Bor (List ℕ)) ControlRefusal → Type 0
FindsMember text key (Ok bytes) = IsMember text key bytes.now
FindsMember text key (Err e) = e ≢ WantOfMemory → (e ≡ BadToken) × HasNoMember text key
