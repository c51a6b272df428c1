-- What a filter came to, as the console shows it.
use Rattle.std.proofs.Common.{◌≡◌, ◌⊎◌, ◌∙◌, ◌||◌, true, false, ℕ, List, Bool, Option, None, Some, IfOk, IfSome, Result, Ok, Err, ap, inl, inr, is_some, refl, subst, sym}
use Rattle.clap.specs.Kinds.{Kinds}
use Rattle.clap.specs.declared.error.kind.ErrorKind.{ErrorKind}
use Rattle.flagops_words.specs.Alone.{IsToldBy}
use Rattle.flagops_shell.specs.Console.{Shown}
use Rattle.flagops_shell.specs.Diagnostic.{PutsRemark, Says}
use Rattle.flagops_shell.specs.Ending.{Ends, KeepsUnlessDone, Remarks, ShowsRefusal, ShowsUnread}
use Rattle.flagops_shell.specs.Files.{Holding}
use Rattle.flagops_shell.specs.Report.{ShowsReport, outcome_view}
use Rattle.flagops_shell.specs.Running.{MayRun}
use Rattle.flagops_shell.specs.Usage.{ShowsUsage, ShowsWordsWant}
use Rattle.flagops_shell.specs.declared.outcome.Outcome.{Outcome}
use Rattle.flagops_shell.specs.declared.refused.Remark.{Remark}
use Rattle.flagops_filters.specs.Command.{tally_description}
use Rattle.flagops_filters.specs.Refusal.{is_unread, is_want, line_of}
use Rattle.flagops_filters.specs.Beside.{IsBesideTally}
use Rattle.flagops_filters.specs.Remarks.{NamesRefused, RemarksUnjoinedOf, join_remark, tally_remark}
use Rattle.flagops_filters.specs.Report.{Told}
use Rattle.flagops_filters.specs.Tally.{IsTallyReport, tally_call}
use Rattle.flagops_filters.specs.Words.{Tallying}
use Rattle.flagops_filters.specs.Writing.{RefusesOrWants}
use Rattle.flagops_filters.specs.declared.refusal.FilterRefusal.{FilterRefusal}
use Rattle.flagops_filters.specs.FileLines.{file_line}

pub not_both : (b : Bool) → b ≡ true → b ≡ false → ⊥
not_both b one other = cc

-- ---- `join`

nothing_said : {X : Type 0} (o : Option Remark) (remark : Remark) → o ≡ None → o ≡ Some remark → X
nothing_said o remark none some = cc

-- of a refusal the first file that is refused, and else nothing
pub join_remarks : (holding : Option Holding) (paths : List (List ℕ)) (r : Result Outcome Told) → IfSome holding (λ at. RemarksUnjoinedOf at paths r) → IfOk r (λ o. o.remark ≡ None)
    → IfSome holding (λ at. Remarks is_want (join_remark at paths) r)
join_remarks None paths r names quiet = tt
join_remarks (Some at) paths (Ok o) names quiet = λ remark is. nothing_said o.remark remark quiet is
join_remarks (Some at) paths (Err t) names quiet = names

pub stays : {E : Type 0} (old new : Option Holding) (r : Result Outcome E) → new ≡ old → KeepsUnlessDone old new r
stays old new r same = inl same

-- ---- words

module _ (old new : Shown) (status : ℕ) where
  wants_words : {A : Type 0} (asked : Option A) (holding : Option Holding) (given : Option (List ℕ)) (P : A → Holding → List ℕ → Type 0) → ShowsWordsWant old new status
      → IfSome asked (λ a. IfSome holding (λ at. IfSome given (λ bytes. P a at bytes ⊎ ShowsWordsWant old new status)))
  wants_words None holding given P wants = tt
  wants_words (Some a) None given P wants = tt
  wants_words (Some a) (Some at) None P wants = tt
  wants_words (Some a) (Some at) (Some bytes) P wants = inr wants

  -- no answer is owed, or memory ran out
  pub unasked : {A : Type 0} (asked : Option A) (holding : Option Holding) (given : Option (List ℕ)) (P : A → Holding → List ℕ → Type 0) (kinds : Kinds) (kind : ErrorKind) → IsToldBy kinds asked kind → ShowsUsage old new status kind
      → IfSome asked (λ a. IfSome holding (λ at. IfSome given (λ bytes. P a at bytes ⊎ ShowsWordsWant old new status)))
  unasked asked holding given P kinds kind (inl memory) shows = wants_words asked holding given P (subst (λ (k : ErrorKind). ShowsUsage old new status k) memory shows)
  unasked asked holding given P kinds kind (inr none) shows = rw none.0 tt

-- over what the words ask for, the files hold and the standard input gives
pub answered : {A : Type 0} (asked : Option A) (a : A) (holding : Option Holding) (given : Option (List ℕ)) (P : A → Holding → List ℕ → Type 0) (W : Type 0) → asked ≡ Some a
    → IfSome holding (λ at. IfSome given (P a at)) → IfSome asked (λ b. IfSome holding (λ at. IfSome given (λ bytes. P b at bytes ⊎ W)))
answered asked a None given P W is answers = rw is tt
answered asked a (Some at) None P W is answers = rw is tt
answered asked a (Some at) (Some bytes) P W is answers = rw is (inl answers)

-- the same, where the standard input is asked for first
pub turned : {A : Type 0} (asked : Option A) (holding : Option Holding) (given : Option (List ℕ)) (P : A → Holding → List ℕ → Type 0)
    → IfSome asked (λ a. IfSome holding (λ at. IfSome given (P a at))) → IfSome given (λ bytes. IfSome asked (λ a. IfSome holding (λ at. P a at bytes)))
turned asked holding None P is = tt
turned None holding (Some bytes) P is = tt
turned (Some a) None (Some bytes) P is = tt
turned (Some a) (Some at) (Some bytes) P is = is

-- ---- a refusal that is written

module _ (old new : Shown) (status : ℕ) (name : List ℕ) where
  -- such a refusal with such a remark
  pub refused_so : (MaySay : List ℕ → Type 0) (e f : FilterRefusal) (remark : Remark) → ShowsRefusal old new status is_want line_of name e remark → e ≡ f → (is_want e ≡ false → Says MaySay remark) → RefusesOrWants old new status name MaySay f
  refused_so MaySay e f remark (inl shows) is says =
      subst (λ (x : FilterRefusal). RefusesOrWants old new status name MaySay x) is (inl (shows.0, (shows.1, (remark, says shows.0, shows.2))))
  refused_so MaySay e f remark (inr wants) is says = inr wants

  -- a file that could not be read is what is reported
  pub unread_shown : (e : FilterRefusal) (remark : Remark) → is_unread e ≡ true → ShowsRefusal old new status is_want line_of name e remark → ShowsUnread old new status (λ n. n ≡ name)
  unread_shown e remark unread (inl shows) = inl (line_of e, file_line e unread, shows.1)
  unread_shown e remark unread (inr wants) = inr (name, refl, wants)

-- a read that failed, where none had before, is of the file that is refused
pub failed_now : (was has unread : Bool) → has ≡ (was || unread) → was ≡ false → has ≡ true → unread ≡ true
failed_now true has unread fails none failed = cc
failed_now false has unread fails none failed = sym fails ∙ failed

-- ---- `tally`

module _ (old new : Shown) (status : ℕ) (a : Tallying) (is_cut : Bool) (after : Option Holding) (has_failed : Bool) where
  abbrev pub Comes : Option Holding → Option (List ℕ) → Type 0
  Comes holding given = IfSome holding (λ at. IfSome given (λ bytes. Ends old new status line_of (λ n. n ≡ tally_call) (tally_remark bytes a.document) (MayRun (tally_description bytes is_cut) is_unread a at after has_failed)))

  -- the remark is told
  noted : (P : List ℕ → Type 0) (o : Outcome) → IfSome o.remark (Says P) → PutsRemark old.reported new.reported new.is_mute o.remark → is_some o.remark ≡ true
      → (remark : Remark) × Says P remark × PutsRemark old.reported new.reported new.is_mute (Some remark)
  noted P o = go o.remark
    where
      go : (m : Option Remark) → IfSome m (Says P) → PutsRemark old.reported new.reported new.is_mute m → is_some m ≡ true → (remark : Remark) × Says P remark × PutsRemark old.reported new.reported new.is_mute (Some remark)
      go None says puts some = cc
      go (Some remark) says puts some = (remark, says, puts)

  pub reported : (holding : Option Holding) (given : Option (List ℕ)) (o : Outcome) → IfSome holding (λ at. IfSome given (λ bytes. IsTallyReport at a bytes is_cut (Ok (outcome_view o)))) → IfSome given (λ bytes. IfSome o.remark (Says (IsBesideTally bytes o.text.items)))
      → ShowsReport old new status (outcome_view o) → PutsRemark old.reported new.reported new.is_mute o.remark → Comes holding given
  reported None None o is says shows puts = tt
  reported None (Some bytes) o is says shows puts = tt
  reported (Some at) None o is says shows puts = tt
  reported (Some at) (Some bytes) o is says shows puts = inl (Ok (outcome_view o), (is, λ none. absurd none), (shows, noted (IsBesideTally bytes o.text.items) o says puts))

  refused_at : (at : Holding) (bytes : List ℕ) (t : Told) → (is_want t.refusal ≡ false → IsTallyReport at a bytes is_cut (Err t.refusal)) → (is_unread t.refusal ≡ true → has_failed ≡ true) → (is_want t.refusal ≡ false → Says (NamesRefused a.document t.refusal) t.remark)
      → ShowsRefusal old new status is_want line_of tally_call t.refusal t.remark → Ends old new status line_of (λ n. n ≡ tally_call) (tally_remark bytes a.document) (MayRun (tally_description bytes is_cut) is_unread a at after has_failed)
  refused_at at bytes t is fails names (inl shows) = inl (Err t.refusal, (is shows.0, fails), (shows.1, λ told. (t.remark, names shows.0, shows.2)))
  refused_at at bytes t is fails names (inr wants) = inr (tally_call, refl, wants)

  pub refused : (holding : Option Holding) (given : Option (List ℕ)) (t : Told) → IfSome holding (λ at. IfSome given (λ bytes. is_want t.refusal ≡ false → IsTallyReport at a bytes is_cut (Err t.refusal))) → (is_unread t.refusal ≡ true → has_failed ≡ true)
      → (is_want t.refusal ≡ false → Says (NamesRefused a.document t.refusal) t.remark) → ShowsRefusal old new status is_want line_of tally_call t.refusal t.remark → Comes holding given
  refused None None t is fails names shows = tt
  refused None (Some bytes) t is fails names shows = tt
  refused (Some at) None t is fails names shows = tt
  refused (Some at) (Some bytes) t is fails names shows = refused_at at bytes t is fails names shows

-- a failed read is seen
or_true : (b : Bool) → (b || true) ≡ true
or_true true = refl
or_true false = refl

pub fails_so : (was has unread : Bool) → has ≡ (was || unread) → unread ≡ true → has ≡ true
fails_so was has unread fails is = fails ∙ (ap (λ (b : Bool). was || b) is ∙ or_true was)
