-- What answers rest on stands, and stays: the laws of a worker.
use Rattle.std.proofs.Common.{◌≡◌, ◌++◌, ◌∷◌, ◌<◌, ◌^◌, ◌||◌, ℕ, Bool, true, false, List, [], Option, Some, None, IfSome, Contains, ap, ◌∙◌, append-nil, append_assoc, sym, subst, refl, inl, inr}
use Rattle.std.proofs.Math.Logic.{∥∥₁_map, ∥∥₁_map₂}
use Rattle.std.proofs.lemmas.List.Elements.{Contains-append_cases, Contains-append_left, Contains-append_right, Contains-push, Contains-push_cases}
use mathlib.Core.List.{IsPrefix}
use Rattle.flag_defs.specs.Flags.{flags_view}
use Rattle.flag_defs.specs.declared.flags.Flags.{Flags}
use Rattle.http.specs.declared.request.Request.{Request}
use Rattle.http_server.specs.declared.response.Response.{Response}
use Rattle.note_lines.specs.Hashed.{line_as}
use Rattle.note_lines.specs.Note.{Noted}
use Rattle.note_lines.specs.declared.form.NoteForm.{NoteForm}
use Rattle.note_log.specs.Files.{StandsIn}
use Rattle.note_log.specs.Line.{HasLine}
use Rattle.log_file.specs.declared.journal.Look.{Look}
use Rattle.log_file.specs.declared.journal.Look.TheVariants.{Stands as Still, Reopened, Lost}
use Rattle.note_log.specs.Log.{Logged, Records, begun_anew, files_of, logged_after}
use Rattle.note_log.proofs.Lines.{has_more}
use Rattle.note_log.proofs.Lists.{not_in}
use Rattle.ofrep_answers.specs.Answer.{Answered}
use Rattle.snap_share.specs.Known.{Seat, last_of}
use Rattle.note_log.specs.declared.trouble.Trouble.{Trouble}
use Rattle.ofrep_worker.specs.Answers.{AllRecorded, Handed, HandsOver, HaveLines, IsAnswer, Kept, LooksIn, RecordedFirst, RecordedIn, Responds, RestsOn, Stands, answer_for, files, handed_of, is_answered}
use Rattle.ofrep_worker.specs.Asked.{asked_of}
use Rattle.ofrep_worker.specs.Notes.{notes_of}
use Rattle.ofrep_worker.specs.Sent.{Gives, GivesIn, Sends, unready}
use Rattle.ofrep_worker.specs.declared.unrecorded.WithoutRecord.{WithoutRecord}
use Rattle.ofrep_worker.specs.declared.unrecorded.WithoutRecord.TheVariants.{Answer, Refuse}

-- what is among some of the published flags is among them all
among_more : (o : Option Flags) (x : Flags) (xs : List Flags) → IfSome o (Contains xs) → IfSome o (Contains (x ∷ xs))
among_more None x xs h = tt
among_more (Some flags) x xs h = Contains-append_right (x ∷ []) xs flags h

-- the last of them is one of them
last_among : (known : List Flags) → IfSome (last_of known) (Contains known)
last_among [] = tt
last_among (x ∷ []) = Contains-push [] x
last_among (x ∷ y ∷ ys) = among_more (last_of (y ∷ ys)) x (y ∷ ys) (last_among (y ∷ ys))

is_among : (known : List Flags) (flags : Flags) → last_of known ≡ Some flags → Contains known flags
is_among known flags last = subst (λ (o : Option Flags). IfSome o (Contains known)) last (last_among known)

-- recorded in the log's own file, or in one that it relied on
recorded_in : (notes : List Noted) (old new : Kept) → Records notes old.logged new.logged old.bytes new.bytes true → HaveLines notes (handed_of new)
recorded_in notes old new r note w =
    let l = new.logged in
    let line = line_as old.logged.form note in
    let stands : StandsIn line (files_of l ++ l.relied) = elim ((r.whole refl).1 note w) [
      | inl own ↦ (l.handed, Contains-append_left (files_of l) l.relied l.handed (Contains-push l.earlier l.handed), own)
      | inr s ↦ (
        s.0,
        Contains-append_right (files_of l) l.relied s.0 (subst (λ (fs : List (List ℕ)). Contains fs s.0) (sym r.relied) (Contains-append_right old.logged.relied r.shown s.0 s.1)),
        s.2,
      )
    ] in
    subst (λ (form : NoteForm). StandsIn (line_as form note) (files_of l ++ l.relied)) (sym r.form) stands

all_stand : (notes : List Noted) (old new : Kept) → AllRecorded notes old new → ∥ HaveLines notes (handed_of new) ∥₁
all_stand notes old new (inl none) = ∣ (λ note w. absurd (not_in note (subst (λ (l : List Noted). Contains l note) none.0 w.0))) ∣₁
all_stand notes old new (inr records) = ∥∥₁_map records.1 (recorded_in notes old new)

all_stand_in : (notes : List Noted) (old new : Option Kept) → RecordedIn true notes old new → ∥ IfSome (files new) (HaveLines notes) ∥₁
all_stand_in notes (Some old) (Some new) r = all_stand notes old new r
all_stand_in notes (Some old) None r = absurd r
all_stand_in notes None (Some new) r = absurd r
all_stand_in notes None None r = ∣ tt ∣₁

module _ (known : List Flags) (request : Request (List ℕ)) (response : Response) (old new : Option Kept) (flags : Flags) (last : last_of known ≡ Some flags) (moment : ℕ) (small : moment < 2 ^ 53) where
  abbrev a : Answered
  a = answer_for flags moment (asked_of request)

  abbrev given : Sends a response → IsAnswer known request response
  given sends = record { flags = flags; is_known = is_among known flags last; moment = moment; is_moment = small; sends = sends }

  answered : (without : WithoutRecord) (all : Bool) → Gives (all || is_answered without) a response → RecordedIn all (notes_of (flags_view flags) a) old new → Stands without known (files new) request response
  answered without true gives records = inr (inl (∥∥₁_map (all_stand_in (notes_of (flags_view flags) a) old new records) (λ lines. record { answer = given gives; lines = lines })))
  answered Answer false gives records = inr (inr (refl, ∣ given gives ∣₁))
  answered Refuse false gives records = inl (inl gives)

  answered_in : (without : WithoutRecord) (all : Bool) (why : Option Trouble) → GivesIn why (all || is_answered without) a response → RecordedIn all (notes_of (flags_view flags) a) old new
      → Stands without known (files new) request response
  answered_in without all None gives records = answered without all gives records
  answered_in without all (Some trouble) gives records = inl (inr (trouble, gives))

responded_so : (without : WithoutRecord) (seat seat' : Seat) (request : Request (List ℕ)) (response : Response) (old new : Option Kept)
    → Responds without seat seat' request response old new → Stands without seat'.known (files new) request response
responded_so without seat seat' request response old new (inl r) =
    let b = r.3 in
    answered_in seat'.known request response old new r.0 r.2 b.0 b.1 without b.2 (unready b.3 (asked_of request) (answer_for r.0 b.0 (asked_of request))) b.5 b.6
responded_so without seat seat' request response old new (inr r) = inl (inl (inr r.1))

pub responded : (without without' : WithoutRecord) (seat seat' : Seat) (request : Request (List ℕ)) (response : Response) (old new : Option Kept)
    → (without' ≡ without) × Responds without seat seat' request response old new → Stands without' seat'.known (files new) request response
responded without without' seat seat' request response old new r =
    subst (λ (w : WithoutRecord). Stands w seat'.known (files new) request response) (sym r.0) (responded_so without seat seat' request response old new r.1)

-- ---- it stays

-- what each file was handed, one was handed still, with more at its end
abbrev pub GoOn : List (List ℕ) → List (List ℕ) → Type 0
GoOn old new = (file : List ℕ) → Contains old file → (later : List ℕ) × Contains new later × IsPrefix file later

-- a log has only grown, in its form, and where none is kept there is none still
abbrev pub GrowsIn : Option Handed → Option Handed → Type 0
GrowsIn (Some old) (Some new) = (new.form ≡ old.form) × GoOn old.files new.files
GrowsIn None None = Unit {0}
GrowsIn _ _ = ⊥

same_files : (handed : List (List ℕ)) → GoOn handed handed
same_files handed file c = (file, c, ([], append-nil file))

same_in : (handed : Option Handed) → GrowsIn handed handed
same_in (Some handed) = (refl, same_files handed.files)
same_in None = tt

-- all that a log has to show
abbrev shown_of : Logged → List (List ℕ)
shown_of l = files_of l ++ l.relied

-- the file that is open has grown, and more was relied on
grown_files : (old new : Logged) (shown : List (List ℕ)) → new.earlier ≡ old.earlier → IsPrefix old.handed new.handed → new.relied ≡ old.relied ++ shown → GoOn (shown_of old) (shown_of new)
grown_files old new shown earlier prefix relied file c = elim (Contains-append_cases (files_of old) old.relied file c) [
  | inl own ↦ elim (Contains-push_cases old.earlier old.handed file own) [
    | inl was ↦
        let there : Contains (files_of new) file = Contains-append_left new.earlier (new.handed ∷ []) file (subst (λ (l : List (List ℕ)). Contains l file) (sym earlier) was) in
        (file, Contains-append_left (files_of new) new.relied file there, ([], append-nil file))
    | inr same ↦ (new.handed, Contains-append_left (files_of new) new.relied new.handed (Contains-push new.earlier new.handed), subst (λ (f : List ℕ). IsPrefix f new.handed) same prefix)
  ]
  | inr other ↦
      let there : Contains new.relied file = subst (λ (l : List (List ℕ)). Contains l file) (sym relied) (Contains-append_left old.relied shown file other) in
      (file, Contains-append_right (files_of new) new.relied file there, ([], append-nil file))
]

-- what one of several logs was handed, the later one still, in its form
abbrev Grown : Logged → Logged → Type 0
Grown old new = (new.form ≡ old.form) × GoOn (shown_of old) (shown_of new)

of_records : (notes : List Noted) (old new : Kept) (all : Bool) → Records notes old.logged new.logged old.bytes new.bytes all → Grown old.logged new.logged
of_records notes old new all r = (r.form, grown_files old.logged new.logged r.shown r.earlier (r.more, sym r.handed) r.relied)

grown : (notes : List Noted) (old new : Kept) (all : Bool) → RecordedFirst all notes old new → ∥ Grown old.logged new.logged ∥₁
grown notes old new true (inl none) = ∣ subst (λ (k : Kept). Grown old.logged k.logged) (sym none.1) (refl, same_files (shown_of old.logged)) ∣₁
grown notes old new true (inr records) = ∥∥₁_map records.1 (of_records notes old new true)
grown notes old new false records = ∥∥₁_map records.1 (of_records notes old new false)

grown_in : (notes : List Noted) (old new : Option Kept) (all : Bool) → RecordedIn all notes old new → ∥ GrowsIn (files old) (files new) ∥₁
grown_in notes (Some old) (Some new) all r = grown notes old new all r
grown_in notes (Some old) None all r = absurd r
grown_in notes None (Some new) all r = absurd r
grown_in notes None None all r = ∣ tt ∣₁

further : (without : WithoutRecord) (seat seat' : Seat) (request : Request (List ℕ)) (response : Response) (old new : Option Kept)
    → Responds without seat seat' request response old new → IsPrefix seat.known seat'.known × (∥ GrowsIn (files old) (files new) ∥₁)
further without seat seat' request response old new (inl r) =
    let a = r.3 in
    (r.1.forward, grown_in (notes_of (flags_view r.0) (answer_for r.0 a.0 (asked_of request))) old new a.2 a.6)
further without seat seat' request response old new (inr r) = (r.0.forward, ∣ (subst (λ (k : Option Kept). GrowsIn (files old) (files k)) (sym r.2) (same_in (files old))) ∣₁)

more_lines : (notes : List Noted) (old new : Option Handed) → GrowsIn old new → IfSome old (HaveLines notes) → IfSome new (HaveLines notes)
more_lines notes (Some old) (Some new) g h = λ note w.
    let s = h note w in
    let later = g.1 s.0 s.1 in
    let stands : StandsIn (line_as old.form note) new.files = (later.0, later.1, subst (HasLine (line_as old.form note)) later.2.1 (has_more (line_as old.form note) s.0 later.2.0 s.2)) in
    subst (λ (form : NoteForm). StandsIn (line_as form note) new.files) (sym g.0) stands
more_lines notes (Some old) None g h = absurd g
more_lines notes None (Some new) g h = absurd g
more_lines notes None None g h = tt

-- where more is known, it is an answer still
abbrev answer_still : (known known' : List Flags) (request : Request (List ℕ)) (response : Response) → IsPrefix known known' → IsAnswer known request response → IsAnswer known' request response
answer_still known known' request response k r = record {
  flags = r.flags;
  is_known = subst (λ (l : List Flags). Contains l r.flags) k.1 (Contains-append_left known k.0 r.flags r.is_known);
  moment = r.moment;
  is_moment = r.is_moment;
  sends = r.sends;
}

-- and where more stands in the log, it rests on no less
rests_still : (known known' : List Flags) (handed handed' : Option Handed) (request : Request (List ℕ)) (response : Response)
    → IsPrefix known known' → GrowsIn handed handed' → RestsOn known handed request response → RestsOn known' handed' request response
rests_still known known' handed handed' request response k b r = record {
  answer = answer_still known known' request response k r.answer;
  lines = more_lines (notes_of (flags_view r.answer.flags) (answer_for r.answer.flags r.answer.moment (asked_of request))) handed handed' b r.lines;
}

stands_still : (without without' : WithoutRecord) (known known' : List Flags) (handed handed' : Option Handed) (request : Request (List ℕ)) (response : Response)
    → without' ≡ without → IsPrefix known known' → ∥ GrowsIn handed handed' ∥₁ → Stands without known handed request response → Stands without' known' handed' request response
stands_still without without' known known' handed handed' request response same k b (inl fails) = inl fails
stands_still without without' known known' handed handed' request response same k b (inr (inl rests)) = inr (inl (∥∥₁_map₂ b rests (rests_still known known' handed handed' request response k)))
stands_still without without' known known' handed handed' request response same k b (inr (inr is)) =
    inr (inr (ap is_answered same ∙ is.0, ∥∥₁_map is.1 (answer_still known known' request response k)))

pub still_stands : (without without' : WithoutRecord) (seat seat' : Seat) (request : Request (List ℕ)) (response : Response) (old new : Option Kept)
    → (without' ≡ without) × Responds without seat seat' request response old new
    → (earlier : Request (List ℕ)) (told : Response) → Stands without seat.known (files old) earlier told → Stands without' seat'.known (files new) earlier told
still_stands without without' seat seat' request response old new r earlier told stands =
    let f = further without seat seat' request response old new r.1 in
    stands_still without without' seat.known seat'.known (files old) (files new) earlier told r.0 f.0 f.1 stands

-- ---- it stays, whatever a look finds

begun_files : (l : Logged) → GoOn (shown_of l) (shown_of (begun_anew l))
begun_files l file c = elim (Contains-append_cases (files_of l) l.relied file c) [
  | inl own ↦ (file, Contains-append_left (files_of l ++ [] ∷ []) l.relied file (Contains-append_left (files_of l) ([] ∷ []) file own), ([], append-nil file))
  | inr other ↦ (file, Contains-append_right (files_of l ++ [] ∷ []) l.relied file other, ([], append-nil file))
]

looked_files : (look : Look) (l : Logged) → Grown l (logged_after look l)
looked_files Still l = (refl, same_files (shown_of l))
looked_files (Reopened loss) l = (refl, begun_files l)
looked_files (Lost loss fault) l = (refl, begun_files l)

handed_over : (old new : Logged) → HandsOver old new → Grown old new
handed_over old new h = (h.form, grown_files old new h.shown h.earlier (h.more, sym h.handed) h.relied)

then_on : (a b c : List (List ℕ)) → GoOn a b → GoOn b c → GoOn a c
then_on a b c x y file d =
    let first = x file d in
    let later = y first.0 first.1 in
    (later.0, later.1, (first.2.0 ++ later.2.0, sym (append_assoc file first.2.0 later.2.0) ∙ ap (λ (l : List ℕ). l ++ later.2.0) first.2.1 ∙ later.2.1))

looked_in : (old new : Option Kept) → LooksIn old new → ∥ GrowsIn (files old) (files new) ∥₁
looked_in (Some old) (Some new) k =
    let seen = logged_after k.0 old.logged in
    let first = looked_files k.0 old.logged in
    ∥∥₁_map k.1 (λ (h : HandsOver seen new.logged).
    let next = handed_over seen new.logged h in
    (next.0 ∙ first.0, then_on (shown_of old.logged) (shown_of seen) (shown_of new.logged) first.1 next.1))
looked_in (Some old) None k = absurd k
looked_in None (Some new) k = absurd k
looked_in None None k = ∣ tt ∣₁

pub still_stands_looked : (without without' : WithoutRecord) (seat seat' : Seat) (old new : Option Kept) → without' ≡ without → seat' ≡ seat → LooksIn old new
    → (earlier : Request (List ℕ)) (told : Response) → Stands without seat.known (files old) earlier told → Stands without' seat'.known (files new) earlier told
still_stands_looked without without' seat seat' old new same knows looked earlier told stands =
    let prefix : IsPrefix seat.known seat'.known = ([], append-nil seat.known ∙ ap (λ (s : Seat). s.known) (sym knows)) in
    stands_still without without' seat.known seat'.known (files old) (files new) earlier told same prefix (looked_in old new looked) stands
