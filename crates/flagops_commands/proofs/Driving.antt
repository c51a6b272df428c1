-- What was loaded in turn, driven and then stored, as the report of `drive`.
use Rattle.std.proofs.Common.{◌≡◌, ◌≢◌, ℕ, Bool, List, Option, Some, None, true, false, IfSome, is_some, inr, refl, ap, ◌∙◌, ◌||◌, subst, sym}
use Rattle.std.specs.Prelude.{IsErrOf, IsOk, Result, Ok, Err, option_map}
use Rattle.book_core.specs.Book.{Contents}
use Rattle.flag_resolve.specs.Floats.{Marked}
use Rattle.flag_text.specs.Shape.{Shape}
use Rattle.flagops_drive.specs.Asks.{Ask, asks_of}
use Rattle.flagops_drive.specs.Driven.{DriveOutput, IsDriveOf, refusal_of, workers_refusal}
use Rattle.flagops_drive.specs.Fault.{want}
use Rattle.flagops_drive.specs.declared.fault.DriveRefusal.{DriveRefusal}
use Rattle.flagops_drive.specs.declared.fault.DriveRefusal.TheVariants as reason
use Rattle.flagops_commands.specs.Loaded.{AreFlagsAt, tree_at}
use Rattle.flagops_shell.specs.Files.{Holding, KeepsOthers}
use Rattle.flagops_files.specs.Loading.{max_text}
use Rattle.flagops_shell.specs.Outcomes.{◌>>=◌, refused_by}
use Rattle.flagops_commands.specs.Refusal.{GivesOne, GivesUnlessWant, is_want, Refused}
use Rattle.flagops_shell.specs.Report.{outcome_view}
use Rattle.flagops_shell.specs.declared.outcome.Outcome.{Outcome}
use Rattle.flagops_commands.specs.declared.refusal.ListedRefusal.{ListedRefusal}
use Rattle.flagops_commands.specs.declared.refusal.ListedRefusal.TheVariants.{Drive}
use Rattle.flagops_commands.specs.Drive.{AreRead, IsAnswered, IsDriveReport, IsDriveOutputOf, IsWritten, LeavesBook, admitted, before_at, doubt_of_asks, recorded, settle}

-- ---- the whole

-- what is known of the files at first, where they stayed
pub at_first : {A : Type 0} (old mid : Option A) (P : A → Type 0) → mid ≡ old → IfSome mid P → IfSome old P
at_first old mid P same h = subst (λ o. IfSome o P) same h

module _ (floats : Bool) (path asks : List ℕ) (workers : ℕ) (book : List ℕ) (add replace strict json : Bool) where
  abbrev Is : Option Holding → Option Holding → Result Outcome Refused → Type 0
  Is old after r = IfSome old (λ at. GivesOne outcome_view r (IsDriveReport floats at after path asks workers book add replace strict json))

  pub no_document : (old after : Option Holding) (e : Refused) → after ≡ old → IfSome old (λ at. is_want e.refusal ≡ false → AreFlagsAt floats at path (Err e.refusal)) → Is old after (Err e)
  unfolding IsDriveReport
  no_document None after e same loaded = tt
  no_document (Some at) after e same loaded = λ wanted. (Err e.refusal, loaded wanted, Err e.refusal, refl, (refl, same))

  module _ (flags : Marked) where
    pub no_asks : (old after : Option Holding) (e : Refused) → after ≡ old → IfSome old (λ at. AreFlagsAt floats at path (Ok flags))
        → IfSome old (λ at. is_want e.refusal ≡ false → tree_at at asks max_text ≡ Err e.refusal) → Is old after (Err e)
    unfolding IsDriveReport
    no_asks None after e same document tree = tt
    no_asks (Some at) after e same document tree = λ wanted. (Ok flags, document, Err e.refusal, rw (tree wanted) refl, (refl, same))

    module _ (t : Shape) where
      pub no_book : (old after : Option Holding) (e : Refused) → after ≡ old → IfSome old (λ at. AreFlagsAt floats at path (Ok flags)) → IfSome old (λ at. tree_at at asks max_text ≡ Ok t)
          → IfSome old (λ at. is_want e.refusal ≡ false → before_at at book add ≡ Err e.refusal) → Is old after (Err e)
      unfolding IsDriveReport
      no_book None after e same document tree before = tt
      no_book (Some at) after e same document tree before = λ wanted. (Ok flags, document, Err e.refusal, rw (tree, before wanted) refl, (refl, same))

      module _ (before : Option Contents) where
        pub not_driven : (old after : Option Holding) (e : Refused) → after ≡ old → IfSome old (λ at. AreFlagsAt floats at path (Ok flags)) → IfSome old (λ at. tree_at at asks max_text ≡ Ok t)
            → IfSome old (λ at. before_at at book add ≡ Ok before) → (is_want e.refusal ≡ false → IsDriveOutputOf (Ok flags) (Ok t) (Ok before) workers strict json (Err e.refusal)) → Is old after (Err e)
        unfolding IsDriveReport
        not_driven None after e same document tree had drive_output = tt
        not_driven (Some at) after e same document tree had drive_output = λ wanted. (Ok flags, document, Err e.refusal, rw (tree, had) (drive_output wanted), (refl, same))

        pub driven : (old after : Option Holding) (d : DriveOutput) (r : Result Outcome Refused) → IfSome old (λ at. AreFlagsAt floats at path (Ok flags)) → IfSome old (λ at. tree_at at asks max_text ≡ Ok t)
            → IfSome old (λ at. before_at at book add ≡ Ok before) → IsDriveOutputOf (Ok flags) (Ok t) (Ok before) workers strict json (Ok d)
            → IfSome old (λ at. GivesOne outcome_view r (IsWritten at after book (add || replace) (Ok d))) → Is old after r
        unfolding IsDriveReport
        driven None after d r document tree had drive_output written = tt
        driven (Some at) after d (Ok o) document tree had drive_output written = (Ok flags, document, Ok d, rw (tree, had) drive_output, written)
        driven (Some at) after d (Err e) document tree had drive_output written = λ wanted. (Ok flags, document, Ok d, rw (tree, had) drive_output, written wanted)

-- ---- what the asks come to

same_reason : {X : Type 0} (d e : DriveRefusal) → IsErrOf {T = X} (Err d) e → d ≡ e
same_reason d e is = cc

not_ok : {X : Type 0} (e : ListedRefusal) → IsOk {T = Bool} (Err e) → X
not_ok e h = cc

-- what is refused before an ask is answered is what `drive` refuses, where nothing is doubted that is refused
pub undriven_first : {X : Type 0} (strict : Bool) (o : Option DriveRefusal) (t : Shape) (d : DriveRefusal) → IsOk (settle strict (doubt_of_asks t)) → ((first : DriveRefusal) → o ≡ Some first → IsErrOf {T = X} (Err d) first)
    → (e : ListedRefusal) → admitted strict o t ≡ Err e → Drive d ≡ e
undriven_first strict None t d ok first e is = not_ok e (subst (λ (s : Result Bool ListedRefusal). IsOk s) is ok)
undriven_first strict (Some x) t d ok first e is =
    let same : d ≡ x = same_reason d x (first x refl) in
    let refused : Drive x ≡ e = cc in
    ap Drive same ∙ refused

-- what is refused of asks is what comes of them, or the first that is refused before one is answered
is_so : {d : DriveRefusal} → is_want (Drive d) ≡ false → d ≢ want
is_so h same = let b : is_want (Drive want) ≡ false = ap (λ (x : DriveRefusal). is_want (Drive x)) (sym same) ∙ h in cc

module _ (strict : Bool) (t : Shape) (flags : Marked) (workers : ℕ) (before : Option Contents) (json : Bool) (d : DriveRefusal) where
  settled_so : (s : Result Bool ListedRefusal) → IsOk s → IsDriveOf flags (asks_of t) workers before json (Err d) → IsAnswered s flags t before workers strict json (Err (Drive d))
  settled_so (Ok noted) ok is = (Err d, is, refl)
  settled_so (Err e) ok is = not_ok e ok

  pub undriven_so : {X : Type 0} (o : Option DriveRefusal) → IsOk (settle strict (doubt_of_asks t)) → ((first : DriveRefusal) → o ≡ Some first → IsErrOf {T = X} (Err d) first)
      → (d ≢ want → IsDriveOf flags (asks_of t) workers before json (Err d)) → is_want (Drive d) ≡ false → IsAnswered (admitted strict o t) flags t before workers strict json (Err (Drive d))
  undriven_so None ok first drives wanted = settled_so (settle strict (doubt_of_asks t)) ok (drives (is_so wanted))
  undriven_so (Some x) ok first drives wanted =
      let same : d ≡ x = same_reason d x (first x refl) in
      ap (λ (e : DriveRefusal). Err (Drive e)) same

-- asks that were driven are not refused before one is answered
driven_unrefused : (o : Option (List Ask)) (flags : Marked) (workers : ℕ) (before : Option Contents) (json : Bool) (d : DriveOutput) → IsDriveOf flags o workers before json (Ok d) → refusal_of o workers ≡ None
driven_unrefused None flags workers before json d h = cc
driven_unrefused (Some asks) flags workers before json d h = ap (option_map reason.Drive) h.0

module _ (strict : Bool) (t : Shape) (flags : Marked) (workers : ℕ) (before : Option Contents) (json : Bool) (d : DriveOutput) where
  driven_settled : (s : Result Bool ListedRefusal) → IsOk s → IsDriveOf flags (asks_of t) workers before json (Ok d) → IsAnswered s flags t before workers strict json (recorded strict d)
  driven_settled (Ok noted) ok is = (Ok d, is, refl)
  driven_settled (Err e) ok is = not_ok e ok

  pub driven_so : IsOk (settle strict (doubt_of_asks t)) → IsDriveOf flags (asks_of t) workers before json (Ok d)
      → IsAnswered (admitted strict (refusal_of (asks_of t) workers) t) flags t before workers strict json (recorded strict d)
  driven_so ok is =
      let none = driven_unrefused (asks_of t) flags workers before json d is in
      subst (λ (o : Option DriveRefusal). IsAnswered (admitted strict o t) flags t before workers strict json (recorded strict d)) (sym none) (driven_settled (settle strict (doubt_of_asks t)) ok is)

  pub driven_admitted : {X : Type 0} → IsOk (settle strict (doubt_of_asks t)) → IsDriveOf flags (asks_of t) workers before json (Ok d) → (e : ListedRefusal) → admitted strict (refusal_of (asks_of t) workers) t ≡ Err e → X
  driven_admitted ok is e refused =
      let none = driven_unrefused (asks_of t) flags workers before json d is in
      not_ok e (subst (λ (s : Result Bool ListedRefusal). IsOk s) (ap (λ (o : Option DriveRefusal). admitted strict o t) (sym none) ∙ refused) ok)

pub gives_one : {X Y : Type 0} (seen : X → Y) (r : Result X Refused) (wanted : Result Y ListedRefusal) (P : Result Y ListedRefusal → Type 0) → GivesUnlessWant seen r wanted → P wanted → GivesOne seen r P
gives_one seen (Ok x) wanted P is h = subst P is h
gives_one seen (Err r) wanted P is h = λ w. subst P (is w) h

-- asks that are not refused before one is answered
admits : (strict : Bool) (o : Option DriveRefusal) (t : Shape) (noted : Bool) → admitted strict o t ≡ Ok noted → settle strict (doubt_of_asks t) ≡ Ok noted
admits strict None t noted is = is
admits strict (Some e) t noted is = cc

answered : (flags : Marked) (o : Option (List Ask)) (workers : ℕ) (before : Option Contents) (json : Bool) (d : DriveOutput) → IsDriveOf flags o workers before json (Ok d) → (workers_refusal workers ≡ None) × (is_some o ≡ true)
answered flags None workers before json d is = cc
answered flags (Some asks) workers before json d is = (ap (option_map reason.Drive) is.0, refl)

-- ---- what is left

-- asks that came to something were admitted
drove_by : (flags : Marked) (t : Shape) (workers : ℕ) (before : Option Contents) (strict json : Bool) (d : DriveOutput) → IsDriveOutputOf (Ok flags) (Ok t) (Ok before) workers strict json (Ok d)
    → (workers_refusal workers ≡ None) × (is_some (asks_of t) ≡ true) × IsOk (settle strict (doubt_of_asks t))
drove_by flags t workers before strict json d came = go (admitted strict (refusal_of (asks_of t) workers) t) refl came
  where
    made : (noted : Bool) → admitted strict (refusal_of (asks_of t) workers) t ≡ Ok noted → (r : Result DriveOutput DriveRefusal) → IsDriveOf flags (asks_of t) workers before json r → Ok d ≡ (refused_by Drive r >>= recorded strict)
        → (workers_refusal workers ≡ None) × (is_some (asks_of t) ≡ true) × IsOk (settle strict (doubt_of_asks t))
    made noted is (Ok x) drive_output same =
        let fit : (workers_refusal workers ≡ None) × (is_some (asks_of t) ≡ true) = answered flags (asks_of t) workers before json x drive_output in
        let settled : settle strict (doubt_of_asks t) ≡ Ok noted = admits strict (refusal_of (asks_of t) workers) t noted is in
        (fit.0, fit.1, subst (λ (s : Result Bool ListedRefusal). IsOk s) (sym settled) refl)
    made noted is (Err e) drive_output same = cc

    go : (a : Result Bool ListedRefusal) → admitted strict (refusal_of (asks_of t) workers) t ≡ a → IsAnswered a flags t before workers strict json (Ok d)
        → (workers_refusal workers ≡ None) × (is_some (asks_of t) ≡ true) × IsOk (settle strict (doubt_of_asks t))
    go (Ok noted) is came = made noted is came.0 came.1 came.2
    go (Err e) is came = cc

pub left_by_storing : (floats : Bool) (path asks : List ℕ) (workers : ℕ) (book : List ℕ) (add strict json : Bool) (flags : Marked) (t : Shape) (before : Option Contents) (old after : Option Holding) (d : DriveOutput)
    → IfSome old (λ at. AreFlagsAt floats at path (Ok flags)) → IfSome old (λ at. tree_at at asks max_text ≡ Ok t) → IfSome old (λ at. before_at at book add ≡ Ok before)
    → IsDriveOutputOf (Ok flags) (Ok t) (Ok before) workers strict json (Ok d) → KeepsOthers old after book → LeavesBook floats old after path asks workers book add strict
left_by_storing floats path asks workers book add strict json flags t before old after d document tree had drive_output kept =
    let fit : (workers_refusal workers ≡ None) × (is_some (asks_of t) ≡ true) × IsOk (settle strict (doubt_of_asks t)) = drove_by flags t workers before strict json d drive_output in
    inr (fit.0, read old document tree had fit.1 fit.2, kept)
  where
    read : (h : Option Holding) → IfSome h (λ at. AreFlagsAt floats at path (Ok flags)) → IfSome h (λ at. tree_at at asks max_text ≡ Ok t) → IfSome h (λ at. before_at at book add ≡ Ok before)
        → is_some (asks_of t) ≡ true → IsOk (settle strict (doubt_of_asks t)) → IfSome h (λ at. AreRead floats at path asks book add strict)
    read None document tree had some ok = tt
    read (Some at) document tree had some ok = (flags, document, t, tree, some, ok, before, had)
