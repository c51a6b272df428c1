-- What `drive` refuses: by name where the workers or the asks are wrong or a member is not read, and before any file is stored.
use Rattle.std.proofs.Common.{◌≡◌, ◌∙◌, ◌||◌, ℕ, List, Option, Some, None, Bool, true, false, IfSome, inl, refl, sym, ap, subst}
use Rattle.std.specs.Prelude.{if◌then◌else◌, nat_eq, Result, Ok, Err}
use Rattle.flag_text.specs.Shape.{Shape}
use Rattle.flagops_drive.proofs.Named.{is_refused, named}
use Rattle.flagops_drive.specs.Asks.{Ask, asks_of}
use Rattle.flagops_drive.specs.Driven.{refusal_of, workers_refusal}
use Rattle.flagops_drive.specs.Unread.{has_unread_ask}
use Rattle.flagops_drive.specs.declared.fault.DriveRefusal.{DriveRefusal}
use Rattle.flagops_drive.specs.Fault.{number_of}
use Rattle.flagops_drive.specs.declared.fault.DriveRefusal.TheVariants as reason
use Rattle.flagops_drive.specs.declared.fault.DriveRefusal.TheVariants.{BadAsks}
use Rattle.book_share.specs.declared.drive_fault.DriveFault.TheVariants as sharing
use Rattle.flagops_shell.specs.Files.{Holding}
use Rattle.flagops_files.specs.Loading.{max_text}
use Rattle.flagops_commands.specs.Loaded.{tree_at}
use Rattle.flagops_commands.specs.Refusal.{call_of, is_want, Refused}
use Rattle.flagops_commands.specs.declared.refusal.ListedCall.TheVariants as call
use Rattle.flagops_commands.specs.declared.refusal.ListedCall.{ListedCall}
use Rattle.flagops_rollouts.specs.declared.refusal.Doubt.TheVariants as doubt
use Rattle.flagops_commands.specs.declared.refusal.ListedRefusal.{ListedRefusal}
use Rattle.flagops_commands.specs.declared.refusal.ListedRefusal.TheVariants.{Drive, Doubted}
use Rattle.flagops_commands.specs.Drive.{HasNoAsks, HasUnreadAsk, IsRefusedByName, admitted, settle}
use Rattle.flagops_shell.specs.Ending.{KeepsUnlessDone}
use Rattle.flagops_shell.specs.declared.outcome.Outcome.{Outcome}

differs : {X : Type 0} → true ≡ false → X
differs h = cc

-- a refusal by a call that is not `drive` itself
pub by_another : (calls : ListedCall → Bool) (r : ListedRefusal) → calls call.Drive ≡ false → calls (call_of r) ≡ true → call_of r ≡ call.Drive → is_want r ≡ false
by_another calls r apart made is = differs (sym made ∙ (ap calls is ∙ apart))

-- ---- what is refused before an ask is answered

-- asks are refused so, and not for want of memory
abbrev pub AreRefused : Bool → Shape → ℕ → Type 0
AreRefused strict t workers = (x : ListedRefusal) × (admitted strict (refusal_of (asks_of t) workers) t ≡ Err x) × (is_want x ≡ false)

-- and then so is what was returned
pub by_name : (strict : Bool) (t : Shape) (workers : ℕ) (r : ListedRefusal) → AreRefused strict t workers → ((x : ListedRefusal) → admitted strict (refusal_of (asks_of t) workers) t ≡ Err x → r ≡ x) → is_want r ≡ false
by_name strict t workers r are refused = ap is_want (refused are.0 are.1) ∙ are.2

pub none_driven : (strict : Bool) (t : Shape) (workers : ℕ) → AreRefused strict t workers → ((x : ListedRefusal) → admitted strict (refusal_of (asks_of t) workers) t ≡ Err x → ⊥) → ⊥
none_driven strict t workers are refused = refused are.0 are.1

-- a fault of another number than that of want of memory
by_number : (e : DriveRefusal) → nat_eq (number_of e) 0 ≡ false → is_want (Drive e) ≡ false
by_number (reason.Drive sharing.WantOfMemory) apart = differs apart
by_number (reason.Drive sharing.NoWorkers) apart = refl
by_number (reason.Drive sharing.TooManyWorkers) apart = refl
by_number (reason.Drive sharing.Stalled) apart = refl
by_number reason.BadAsks apart = refl
by_number reason.PageFull apart = refl

-- what `drive` itself refuses
by_drive : (strict : Bool) (t : Shape) (workers : ℕ) (e : DriveRefusal) → refusal_of (asks_of t) workers ≡ Some e → AreRefused strict t workers
by_drive strict t workers e is = (Drive e, ap (λ (o : Option DriveRefusal). admitted strict o t) is, by_number e (named (asks_of t) workers e is))

-- a wrong number of workers
pub wrong_workers : (strict : Bool) (t : Shape) (workers : ℕ) (e : DriveRefusal) → workers_refusal workers ≡ Some e → AreRefused strict t workers
wrong_workers strict t workers e wrong = let found : (d : DriveRefusal) × (refusal_of (asks_of t) workers ≡ Some d) = is_refused (asks_of t) workers e wrong in by_drive strict t workers found.0 found.1

-- no list of asks
no_asks : (strict : Bool) (t : Shape) (workers : ℕ) → asks_of t ≡ None → AreRefused strict t workers
no_asks strict t workers none = by_drive strict t workers BadAsks (ap (λ (o : Option (List Ask)). refusal_of o workers) none)

-- a member that is not read
unread : (t : Shape) (workers : ℕ) → has_unread_ask t ≡ true → AreRefused true t workers
unread t workers has = go (refusal_of (asks_of t) workers) refl
  where
    go : (o : Option DriveRefusal) → refusal_of (asks_of t) workers ≡ o → AreRefused true t workers
    go (Some e) is = by_drive true t workers e is
    go None is = (Doubted doubt.Unread, ap (λ (o : Option DriveRefusal). admitted true o t) is ∙ ap (λ (b : Bool). settle true (if b then Some doubt.Unread else None)) has, refl)

-- ---- the file of the asks

-- whatever it has
pub in_any_case : {X : Type 0} (P : Holding → Type 0) (h : Option Holding) (r : Result X Refused) → IsRefusedByName r → IfSome h (λ at. P at → IsRefusedByName r)
in_any_case P None r refused = tt
in_any_case P (Some at) r refused = λ _. refused

pub in_any_mode : {X : Type 0} (P : Holding → Type 0) (h : Option Holding) (strict : Bool) (r : Result X Refused) → IsRefusedByName r → IfSome h (λ at. strict ≡ true → P at → IsRefusedByName r)
in_any_mode P None strict r refused = tt
in_any_mode P (Some at) strict r refused = λ _ _. refused

-- the tree that was loaded is the one that the file has
same_tree : (P : Shape → Type 0) (at : Holding) (path : List ℕ) (s t : Shape) → tree_at at path max_text ≡ Ok t → tree_at at path max_text ≡ Ok s → P s → P t
same_tree P at path s t loaded is has = let same : s ≡ t = cc in subst P same has

module _ (path : List ℕ) (t : Shape) (strict : Bool) (workers : ℕ) {X : Type 0} (old mid : Option Holding) (r : Result X Refused) where
  pub for_no_asks : mid ≡ old → IfSome mid (λ at. tree_at at path max_text ≡ Ok t) → (AreRefused strict t workers → IsRefusedByName r) → IfSome old (λ at. HasNoAsks at path → IsRefusedByName r)
  for_no_asks same loaded refused = go old (subst (λ (h : Option Holding). IfSome h (λ at. tree_at at path max_text ≡ Ok t)) same loaded)
    where
      go : (h : Option Holding) → IfSome h (λ at. tree_at at path max_text ≡ Ok t) → IfSome h (λ at. HasNoAsks at path → IsRefusedByName r)
      go None loaded = tt
      go (Some at) loaded = λ has. refused (no_asks strict t workers (same_tree (λ (u : Shape). asks_of u ≡ None) at path has.0 t loaded has.1 has.2))

  pub for_unread : mid ≡ old → IfSome mid (λ at. tree_at at path max_text ≡ Ok t) → (AreRefused strict t workers → IsRefusedByName r) → IfSome old (λ at. strict ≡ true → HasUnreadAsk at path → IsRefusedByName r)
  for_unread same loaded refused = go old (subst (λ (h : Option Holding). IfSome h (λ at. tree_at at path max_text ≡ Ok t)) same loaded)
    where
      go : (h : Option Holding) → IfSome h (λ at. tree_at at path max_text ≡ Ok t) → IfSome h (λ at. strict ≡ true → HasUnreadAsk at path → IsRefusedByName r)
      go None loaded = tt
      go (Some at) loaded = λ is has.
          refused (subst (λ (b : Bool). AreRefused b t workers) (sym is) (unread t workers (same_tree (λ (u : Shape). has_unread_ask u ≡ true) at path has.0 t loaded has.1 has.2)))

-- ---- the files

-- files that stay
pub all_kept : {E : Type 0} (old new : Option Holding) (r : Result Outcome E) → new ≡ old → KeepsUnlessDone old new r
all_kept old new r same = inl same

-- no file failed until the last step
or_false : (b : Bool) → (b || false) ≡ b
or_false true = refl
or_false false = refl

pub failed_last : (start first second third last fault : Bool) → first ≡ (start || false) → second ≡ (first || false) → third ≡ (second || false) → last ≡ (third || fault) → last ≡ (start || fault)
failed_last start first second third last fault a b c d = d ∙ ap (λ (x : Bool). x || fault) (c ∙ (or_false second ∙ (b ∙ (or_false first ∙ (a ∙ or_false start)))))
