-- What is recorded first.
use Rattle.std.proofs.Common.{◌≡◌, ◌∙◌, ◌++◌, ◌∷◌, [], ℕ, Bool, true, false, List, Option, Some, Result, Ok, Err, IfOk, OnErr, Contains, ap, append-nil, refl, subst, sym, inr}
use Rattle.std.proofs.Math.Logic.{∥∥₁_map}
use Rattle.std.proofs.lemmas.List.Elements.{Contains-append_left, Contains-push}
use Rattle.std.specs.List.{flat_map}
use Rattle.log_file.specs.declared.file.LogFile.{Ghosts}
use Rattle.log_file.specs.declared.journal.Look.{Look}
use Rattle.note_lines.specs.Hashed.{line_as}
use Rattle.note_lines.specs.Note.{Noted}
use Rattle.note_log.specs.Log.{Logged, Records, Wants, logged, logged_after}
use Rattle.note_log.specs.declared.log.NoteLog.{NoteLog}
use Rattle.note_log.proofs.Lists.{not_in}
use Rattle.http.specs.declared.request.Request.{Request}
use Rattle.http_server.specs.declared.response.Response.{Response}
use Rattle.snap_share.specs.Known.{Seat}
use Rattle.ofrep_worker.specs.Answers.{HandsOver, Kept, LogFails, LooksIn, RecordedFirst, Responds, kept_in}
use Rattle.ofrep_worker.specs.declared.unrecorded.WithoutRecord.{WithoutRecord}

recorded : (all : Bool) (notes : List Noted) (old new : Kept) → ∥ Records notes old.logged new.logged old.bytes new.bytes all ∥₁
    → (all ≡ true → new.stands ≡ true) → (all ≡ false → LogFails old new) → RecordedFirst all notes old new
recorded true notes old new r stands fails = inr (stands refl, r)
recorded false notes old new r stands fails = (fails refl, r)

pub all_recorded : {E : Type 0} (result : Result Bool E) (notes : List Noted) (old new : Kept) → IfOk result (λ all. ∥ Records notes old.logged new.logged old.bytes new.bytes all ∥₁)
    → IfOk result (λ all. all ≡ true → new.stands ≡ true) → IfOk result (λ all. all ≡ false → LogFails old new) → IfOk result (λ all. RecordedFirst all notes old new)
all_recorded (Ok all) notes old new r stands fails = recorded all notes old new r stands fails
all_recorded (Err e) notes old new r stands fails = tt

-- what a look left, and what was handed over then
pub looks_kept : (look : Look) (old new : Kept) (seen : Logged) → seen ≡ logged_after look old.logged → ∥ HandsOver seen new.logged ∥₁ → LooksIn (Some old) (Some new)
looks_kept look old new seen is h = (look, subst (λ (l : Logged). ∥ HandsOver l new.logged ∥₁) is h)

none_of : (notes : List Noted) → ((note : Noted) → Contains notes note → Wants [] note) → notes ≡ []
none_of [] h = refl
none_of (note ∷ notes) h = absurd (not_in note (h note (Contains-append_left (note ∷ []) notes note (Contains-push [] note))).0)

-- without a note more, what waited was handed over
waited : (old new : Logged) (old_bytes new_bytes : Option (List ℕ)) (all : Bool) → Records [] old new old_bytes new_bytes all → HandsOver old new
waited old new old_bytes new_bytes all r = record {
  more = r.more;
  shown = r.shown;
  form = r.form;
  earlier = r.earlier;
  handed = r.handed;
  waiting = sym (append-nil old.waiting) ∙ ap (λ (notes : List Noted). old.waiting ++ flat_map (line_as old.form) notes) (sym (none_of r.recorded r.wanted)) ∙ r.lines;
  relied = r.relied;
}

same_log : (old new : Logged) → new ≡ old → HandsOver old new
same_log old new is = record { more = []; shown = []; form = ap (λ (l : Logged). l.form) is; earlier = ap (λ (l : Logged). l.earlier) is; handed = ap (λ (l : Logged). l.handed) is ∙ sym (append-nil old.handed); waiting = ap (λ (l : Logged). l.waiting) (sym is); relied = ap (λ (l : Logged). l.relied) is ∙ sym (append-nil old.relied) }

pub handed_over : {E F : Type 0} {g : Ghosts F} (result : Result Bool E) (old new : NoteLog F g) (old_bytes new_bytes : Option (List ℕ))
    → IfOk result (λ all. ∥ Records [] (logged old) (logged new) old_bytes new_bytes all ∥₁) → OnErr result (new ≡ old) → ∥ HandsOver (logged old) (logged new) ∥₁
handed_over (Ok all) old new old_bytes new_bytes r same = ∥∥₁_map r (waited (logged old) (logged new) old_bytes new_bytes all)
handed_over {E} {F} {g} (Err e) old new old_bytes new_bytes r same = ∣ same_log (logged old) (logged new) (ap (λ (l : NoteLog F g). logged l) same) ∣₁

-- the log and the seat stay as they were after the response
pub counted : {F : Type 0} {g : Ghosts F} (without : WithoutRecord) (seat seat' seat'' : Seat) (request : Request (List ℕ)) (response : Response) (old log log' : Option (NoteLog F g))
    → seat'' ≡ seat' → log' ≡ log → Responds without seat seat' request response (kept_in old) (kept_in log) → Responds without seat seat'' request response (kept_in old) (kept_in log')
counted {F} {g} without seat seat' seat'' request response old log log' knows same r =
    subst (λ (k : Seat). Responds without seat k request response (kept_in old) (kept_in log')) (sym knows)
    (subst (λ (l : Option (NoteLog F g)). Responds without seat seat' request response (kept_in old) (kept_in l)) (sym same) r)
