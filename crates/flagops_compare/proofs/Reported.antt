-- From what was loaded to the report of the command, its picture, and what a person is told of it.
use Rattle.std.proofs.Common.{◌≡◌, ◌∙◌, ◌||◌, ◌&&◌, true, false, Bool, ℕ, List, Option, None, Some, IfSome, IfOk, if◌then◌else◌, inl, inr, refl, sym, ap, subst, is_some, string_bytes}
use Rattle.std.specs.Prelude.{IfErr, OnErr, OnOk, Result, Ok, Err}
use Rattle.clap.specs.Walk.{Text}
use Rattle.flag_defs.specs.Document.{Definitions}
use Rattle.flagops_compare.specs.Compared.{IsComparedOn}
use Rattle.flagops_compare.specs.Drawn.{Draws, DrawsAt, LeavesBut, pages_drawn}
use Rattle.flagops_compare.specs.Loaded.{IsLoadedAt, Loaded, compare_attempts, loaded_of}
use Rattle.flagops_compare.specs.Refusal.{is_want}
use Rattle.flagops_compare.specs.Report.{IsCompareReport, IsWithLoaded, IsWithPages, NamesRefused, TellsLeft, TellsOfLoaded, attempts_of, compare_report, is_doubted, picture_attempts, picture_path}
use Rattle.flagops_compare.specs.Step.{GivesOne, IsDrawnAt, TellsRefused, Told}
use Rattle.flagops_compare.specs.Told.{told_lines}
use Rattle.flagops_compare.specs.Words.{Comparing}
use Rattle.flagops_compare.specs.declared.refusal.CompareRefusal.{CompareRefusal}
use Rattle.flagops_compare.specs.declared.refusal.CompareRefusal.TheVariants.{WantOfMemory, Load, OtherTally}
use Rattle.flagops_files.proofs.Told.{first_left, first_right}
use Rattle.flagops_files.specs.Lines.{NamesFile}
use Rattle.flagops_files.specs.Refusal as files
use Rattle.flagops_files.specs.Refusal.{Refused, unwritable}
use Rattle.flagops_files.specs.Told.{AllSucceed, NamesFirst, NamesSubject, file}
use Rattle.flagops_files.specs.declared.evidence.Evidence.{Evidence}
use Rattle.flagops_files.specs.declared.refusal.Refusal.{Refusal}
use Rattle.flagops_files.specs.Question.{IsEvidenceAt}
use Rattle.flagops_shell.specs.Diagnostic.{Says}
use Rattle.flagops_shell.specs.Ending.{KeepsUnlessDone}
use Rattle.flagops_shell.specs.Files.{Holding, KeepsOthers, Stores}
use Rattle.flagops_shell.specs.Report.{outcome_view}
use Rattle.flagops_shell.specs.declared.outcome.Outcome.{Outcome}
use Rattle.flagops_shell.specs.declared.refused.Remark.{Remark}
use Rattle.flagops_shell.specs.declared.refused.Remark.TheVariants.{Short, Lines}
use Rattle.rule_switches.specs.Found.{PageFound}
use Rattle.rule_switches.specs.declared.fault.TallyFault.TheVariants as tally
use Rattle.picture.specs.Spelling.{IsPicture, Pictures}
use Rattle.picture.specs.declared.words.Title.TheVariants as title

-- a refusal that wraps one is want of memory where that is
not_want : (t : Told) (e : Refused) → t.refusal ≡ Load e.refusal → is_want t.refusal ≡ false → files.is_want e.refusal ≡ false
not_want t e is no_want = sym (ap is_want is) ∙ no_want

-- what follows from what a remark says, it says too
says_so : (P Q : List ℕ → Type 0) (remark : Remark) → ((lines : List ℕ) → P lines → Q lines) → Says P remark → Says Q remark
says_so P Q Short f says = tt
says_so P Q (Lines lines) f says = f (string_bytes lines) says

differ : {X E Y : Type 0} {x : X} {e : E} → Ok x ≡ Err e → Y
differ same = cc

is_none : {X : Type 0} (t : Told) → t.refusal ≡ WantOfMemory → is_want t.refusal ≡ false → X
is_none t is no_want = absurd (apart (ap is_want is) no_want)
  where
    apart : {b : Bool} → b ≡ true → b ≡ false → ⊥
    apart one other = cc

-- ---- files that a load left as they were

pub same_left : (p : Option Text) (h : Option Holding) → LeavesBut p h h
same_left None h = refl
same_left (Some path) h = inl refl

left_as : (p : Option Text) (old new : Option Holding) → new ≡ old → LeavesBut p old new
left_as None old new same = same
left_as (Some path) old new same = inl same

pub left_behind : (p : Option Text) (old mid new : Option Holding) → mid ≡ old → LeavesBut p mid new → LeavesBut p old new
left_behind p old mid new same left = subst (λ (h : Option Holding). LeavesBut p h new) same left

pub unloaded_left : (p : Option Text) (old new : Option Holding) → new ≡ old → LeavesBut p old new
unloaded_left p old new same = left_as p old new same

pub kept_behind : {E : Type 0} (r : Result Outcome E) (old mid new : Option Holding) → mid ≡ old → KeepsUnlessDone mid new r → KeepsUnlessDone old new r
kept_behind r old mid new same kept = subst (λ (h : Option Holding). KeepsUnlessDone h new r) same kept

or_false : (b : Bool) → (b || false) ≡ b
or_false true = refl
or_false false = refl

pub failed_behind : (old mid new fault : Bool) → mid ≡ (old || false) → new ≡ (mid || fault) → new ≡ (old || fault)
failed_behind old mid new fault first last = last ∙ ap (λ (b : Bool). b || fault) (first ∙ or_false old)

-- ---- the file of the picture

pub unwritten : (e : Refused) (t : Told) → t.refusal ≡ Load e.refusal → (files.is_want e.refusal ≡ false → e.refusal ≡ unwritable) → is_want t.refusal ≡ false → t.refusal ≡ Load unwritable
unwritten e t is fault no_want = is ∙ ap Load (fault (not_want t e is no_want))

pub told_unwritten : (path : List ℕ) (e : Refused) (t : Told) → t.refusal ≡ Load e.refusal → t.remark ≡ e.remark → (files.is_want e.refusal ≡ false → Says (NamesSubject (file path)) e.remark) → is_want t.refusal ≡ false → Says (NamesSubject (file path)) t.remark
told_unwritten path e t is same says no_want = subst (λ (m : Remark). Says (NamesSubject (file path)) m) (sym same) (says (not_want t e is no_want))

module _ (ps : Pictures) (path : List ℕ) where
  pub drawn_at : (old new : Option Holding) (bytes : List ℕ) (r : Result (Unit {0}) Told) → IsPicture title.Edit ps bytes → OnOk r (Stores old new path bytes) → KeepsOthers old new path → OnErr r (new ≡ old)
      → IfErr r (λ t. is_want t.refusal ≡ false → t.refusal ≡ Load unwritable) → IfErr r (λ t. is_want t.refusal ≡ false → Says (NamesSubject (file path)) t.remark) → IsDrawnAt ps path old new r
  drawn_at old new bytes (Ok x) picture stores others refused fault names = (bytes, picture, stores, others)
  drawn_at old new bytes (Err t) picture stores others refused fault names = ((λ no_want. (fault no_want, names no_want)), refused)

  pub undrawn_at : (h : Option Holding) (t : Told) → t.refusal ≡ WantOfMemory → IsDrawnAt {X = Unit {0}} ps path h h (Err t)
  undrawn_at h t is = ((is_none t is), refl)

-- ---- what is doubted, with `--strict`

chosen : (b : Bool) (p : Option Text) (path : Text) → (if b then None else p) ≡ Some path → ◌≡◌ {A = ℕ} (if b then 1 else 0) 0
chosen true p path is = absurd (apart is)
  where
    apart : None ≡ Some path → ⊥
    apart same = cc
chosen false p path is = refl

asked_for : (b : Bool) (p : Option Text) (path : Text) → (if b then None else p) ≡ Some path → p ≡ Some path
asked_for true p path is = absurd (apart is)
  where
    apart : None ≡ Some path → ⊥
    apart same = cc
asked_for false p path is = is

module _ (a : Comparing) (pages : List PageFound) (ps : Pictures) (o : Outcome) (shown : outcome_view o ≡ compare_report a pages) where
  -- no picture is written
  pub undrawn : (h : Option Holding) → picture_path a pages ≡ None → GivesOne (Ok o) (IsWithPages h h a ps pages)
  undrawn h none = (shown, subst (λ (p : Option Text). DrawsAt ps p h h) (sym none) refl)

  module _ (path : Text) (there : picture_path a pages ≡ Some path) where
    -- it is written, and the command did what it was asked
    pub drawn_too : (old new : Option Holding) → Draws ps path old new → GivesOne (Ok o) (IsWithPages old new a ps pages)
    drawn_too old new draws = (shown, subst (λ (p : Option Text). DrawsAt ps p old new) (sym there) draws)

    pub is_done : (outcome_view o).status ≡ 0
    is_done = ap (λ r. r.status) shown ∙ chosen (a.strict && is_doubted a pages) a.picture path there

    pub left_but : (old new : Option Holding) → Draws ps path old new → LeavesBut a.picture old new
    left_but old new (bytes, picture, stores, others) = subst (λ (p : Option Text). LeavesBut p old new) (sym (asked_for (a.strict && is_doubted a pages) a.picture path there)) (inr others)

module _ (a : Comparing) (pages : List PageFound) (ps : Pictures) where
  -- the pages were not reported
  pub unshown : (h : Option Holding) (t : Told) → t.refusal ≡ WantOfMemory → GivesOne (Err t) (IsWithPages h h a ps pages)
  unshown h t is = is_none t is

  pub untold : (t : Told) → t.refusal ≡ WantOfMemory → TellsRefused (picture_attempts a.picture) a (Err t)
  untold t is = is_none t is

  -- the picture was not written
  module _ (path : Text) (there : picture_path a pages ≡ Some path) (t : Told) where
    abbrev asked : a.picture ≡ Some path
    asked = asked_for (a.strict && is_doubted a pages) a.picture path there

    pub refused_too : (old new : Option Holding) → IsDrawnAt {X = Unit {0}} ps path old new (Err t) → GivesOne (Err t) (IsWithPages old new a ps pages)
    refused_too old new (fault, same) = λ no_want. ((fault no_want).0, ap is_some there, same)

    pub refused_left : (old new : Option Holding) → IsDrawnAt {X = Unit {0}} ps path old new (Err t) → LeavesBut a.picture old new
    refused_left old new (fault, same) = left_as a.picture old new same

    pub refused_told : (old new : Option Holding) → IsDrawnAt {X = Unit {0}} ps path old new (Err t) → TellsRefused (picture_attempts a.picture) a (Err t)
    refused_told old new (fault, same) = λ no_want.
        subst (λ (r : CompareRefusal). NamesRefused (picture_attempts a.picture) a r t.remark) (sym (fault no_want).0)
        (subst (λ (p : Option Text). NamesFirst (picture_attempts p) unwritable t.remark) (sym asked) (inl (refl, (fault no_want).1)))

module _ (a : Comparing) where
  -- ---- the report

  reported_at : (at : Holding) (new : Option Holding) (l : Loaded) (r : Result Outcome Told) → IsLoadedAt a.floats at a.old a.new a.book (Ok l) → GivesOne r (IsWithLoaded (Some at) new a (Ok l)) → GivesOne r (IsCompareReport at new a)
  unfolding IsCompareReport
  reported_at at new l (Ok o) loaded gives = (Ok l, loaded, gives)
  reported_at at new l (Err t) loaded gives = λ no_want. (Ok l, loaded, gives no_want)

  pub reported : (old mid new : Option Holding) (l : Loaded) (r : Result Outcome Told) → mid ≡ old → IfSome old (λ at. IsLoadedAt a.floats at a.old a.new a.book (Ok l)) → GivesOne r (IsWithLoaded mid new a (Ok l))
      → IfSome old (λ at. GivesOne r (IsCompareReport at new a))
  reported None mid new l r same loaded gives = tt
  reported (Some at) mid new l r same loaded gives = reported_at at new l r loaded (subst (λ (h : Option Holding). GivesOne r (IsWithLoaded h new a (Ok l))) same gives)

  refused_at : (at : Holding) (new : Option Holding) (e : Refused) (t : Told) → t.refusal ≡ Load e.refusal → new ≡ Some at → (files.is_want e.refusal ≡ false → IsLoadedAt a.floats at a.old a.new a.book (Err e.refusal)) → GivesOne (Err t) (IsCompareReport at new a)
  unfolding IsCompareReport
  refused_at at new e t is same loaded = λ no_want. (Err e.refusal, loaded (not_want t e is no_want), (ap Err is, same))

  pub refused : (old new : Option Holding) (e : Refused) (t : Told) → t.refusal ≡ Load e.refusal → new ≡ old → IfSome old (λ at. files.is_want e.refusal ≡ false → IsLoadedAt a.floats at a.old a.new a.book (Err e.refusal))
      → IfSome old (λ at. GivesOne (Err t) (IsCompareReport at new a))
  refused None new e t is same loaded = tt
  refused (Some at) new e t is same loaded = refused_at at new e t is same loaded

  -- ---- of what was loaded

  pub compared_so : (old new : Option Holding) (l : Loaded) (pages : List PageFound) (r : Result Outcome Told) → IsComparedOn l a.flag (Ok pages) → GivesOne r (IsWithPages old new a (pages_drawn l.old l.new pages) pages) → GivesOne r (IsWithLoaded old new a (Ok l))
  compared_so old new l pages (Ok o) is gives = (Ok pages, is, gives)
  compared_so old new l pages (Err t) is gives = λ no_want. (Ok pages, is, gives no_want)

  pub tally_refused : (h : Option Holding) (l : Loaded) (t : Told) → IsComparedOn l a.flag (Err tally.OtherTally) → t.refusal ≡ OtherTally → GivesOne (Err t) (IsWithLoaded h h a (Ok l))
  tally_refused h l t is refusal = λ no_want. (Err tally.OtherTally, is, (ap Err refusal, refl))

  pub wanted : (h : Option Holding) (l : Loaded) (t : Told) → t.refusal ≡ WantOfMemory → GivesOne (Err t) (IsWithLoaded h h a (Ok l))
  wanted h l t is = is_none t is

  -- ---- what is told

  pub tally_told : (t : Told) → t.refusal ≡ OtherTally → Says (NamesFile a.book) t.remark → TellsRefused (picture_attempts a.picture) a (Err t)
  tally_told t is says = λ no_want. subst (λ (r : CompareRefusal). NamesRefused (picture_attempts a.picture) a r t.remark) (sym is) says

  pub want_told : (t : Told) → t.refusal ≡ WantOfMemory → TellsRefused (picture_attempts a.picture) a (Err t)
  want_told t is = is_none t is

  named_at : (at : Holding) (e : Refused) (t : Told) → t.refusal ≡ Load e.refusal → t.remark ≡ e.remark → (files.is_want e.refusal ≡ false → NamesFirst (compare_attempts a.floats at a.old a.new a.book) e.refusal e.remark) → TellsRefused (attempts_of at a) a (Err t)
  named_at at e t is same names = λ no_want.
      subst (λ (r : CompareRefusal). NamesRefused (attempts_of at a) a r t.remark) (sym is)
      (subst (λ (m : Remark). NamesFirst (attempts_of at a) e.refusal m) (sym same) (first_left (compare_attempts a.floats at a.old a.new a.book) (picture_attempts a.picture) e.refusal e.remark (names (not_want t e is no_want))))

  pub named : (holding : Option Holding) (e : Refused) (t : Told) → t.refusal ≡ Load e.refusal → t.remark ≡ e.remark
      → IfSome holding (λ at. files.is_want e.refusal ≡ false → NamesFirst (compare_attempts a.floats at a.old a.new a.book) e.refusal e.remark) → IfSome holding (λ at. TellsRefused (attempts_of at a) a (Err t))
  named None e t is same names = tt
  named (Some at) e t is same names = named_at at e t is same names

  third : (at : Holding) (old new : Definitions) (l : Loaded) (evidence : Result Evidence Refusal) → IsEvidenceAt at a.book evidence → Ok l ≡ loaded_of old new evidence → (e : Evidence) × IsEvidenceAt at a.book (Ok e)
  third at old new l (Err e) is same = differ same
  third at old new l (Ok e) is same = (e, is)

  -- the files were read
  succeeded : (at : Holding) (l : Loaded) → IsLoadedAt a.floats at a.old a.new a.book (Ok l) → AllSucceed (compare_attempts a.floats at a.old a.new a.book)
  unfolding IsLoadedAt
  succeeded at l (Err e, is, same) = differ same
  succeeded at l (Ok old, is, (Err e, found, same)) = differ same
  succeeded at l (Ok old, is, (Ok new, found, (evidence, read, same))) = ((old, is), ((new, found), (third at old new l evidence read same, tt)))

  behind : (at : Holding) (l : Loaded) (e : CompareRefusal) (remark : Remark) → IsLoadedAt a.floats at a.old a.new a.book (Ok l) → NamesRefused (picture_attempts a.picture) a e remark → NamesRefused (attempts_of at a) a e remark
  behind at l WantOfMemory remark loaded names = names
  behind at l (Load e) remark loaded names = first_right (compare_attempts a.floats at a.old a.new a.book) (picture_attempts a.picture) e remark (succeeded at l loaded) names
  behind at l OtherTally remark loaded names = names

  behind_at : (at : Holding) (l : Loaded) (r : Result Outcome Told) → IsLoadedAt a.floats at a.old a.new a.book (Ok l) → TellsRefused (picture_attempts a.picture) a r → TellsRefused (attempts_of at a) a r
  behind_at at l (Ok o) loaded tells = tt
  behind_at at l (Err t) loaded tells = λ no_want. behind at l t.refusal t.remark loaded (tells no_want)

  -- what is refused once the files were read
  pub told_behind : (holding : Option Holding) (l : Loaded) (r : Result Outcome Told) → IfSome holding (λ at. IsLoadedAt a.floats at a.old a.new a.book (Ok l)) → TellsRefused (picture_attempts a.picture) a r → IfSome holding (λ at. TellsRefused (attempts_of at a) a r)
  told_behind None l r loaded tells = tt
  told_behind (Some at) l r loaded tells = behind_at at l r loaded tells

  pub noted_so : (l : Loaded) (pages : List PageFound) (r : Result Outcome Told) → IsComparedOn l a.flag (Ok pages) → IfOk r (λ o. IfSome o.remark (Says (λ lines. lines ≡ told_lines a l.old pages))) → IfOk r (λ o. IfSome o.remark (Says (TellsOfLoaded a l)))
  noted_so l pages (Ok o) is says = in_remark o.remark says
    where
      in_remark : (m : Option Remark) → IfSome m (Says (λ lines. lines ≡ told_lines a l.old pages)) → IfSome m (Says (TellsOfLoaded a l))
      in_remark None says = tt
      in_remark (Some m) says = says_so (λ lines. lines ≡ told_lines a l.old pages) (TellsOfLoaded a l) m (λ lines same. (pages, is, same)) says
  noted_so l pages (Err t) is says = tt

  pub noted : (holding : Option Holding) (l : Loaded) (r : Result Outcome Told) → IfSome holding (λ at. IsLoadedAt a.floats at a.old a.new a.book (Ok l)) → IfOk r (λ o. IfSome o.remark (Says (TellsOfLoaded a l)))
      → IfSome holding (λ at. IfOk r (λ o. IfSome o.remark (Says (TellsLeft at a))))
  unfolding TellsLeft
  noted None l r loaded says = tt
  noted (Some at) l (Ok o) loaded says = in_remark o.remark says
    where
      in_lines : (lines : List ℕ) → TellsOfLoaded a l lines → TellsLeft at a lines
      in_lines lines tells = (l, loaded, tells)

      in_remark : (m : Option Remark) → IfSome m (Says (TellsOfLoaded a l)) → IfSome m (Says (TellsLeft at a))
      in_remark None says = tt
      in_remark (Some m) says = says_so (TellsOfLoaded a l) (TellsLeft at a) m in_lines says
  noted (Some at) l (Err t) loaded says = tt
