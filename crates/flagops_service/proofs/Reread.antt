-- Documents that are read again, one after the other and turn by turn.
use Rattle.std.proofs.Common.{Bor, ◌≡◌, ◌≢◌, ◌+◌, ◌<◌, ◌⊎◌, ℕ, Bool, true, suc, List, [], ◌∷◌, ◌++◌, add-one, ap, decimal, drop, drop-cons, get_or, length, map, Option, Some, None, Err, IfSome, Vec, Global, inl, inr, is_some, refl, slice_get, subst, sym}
use Rattle.source_merge.specs.Sources.{SetsWithFloats, SourceList}
use Rattle.source_merge.specs.declared.fault.SourceFault.{SourceFault}
use Rattle.flagops_service.specs.Rereading.{IsUnfit, Kept, MayBeRefused, ReadsFrom, ReadsOne, State, Turns, Watches}
use Rattle.flagops_service.specs.declared.taking.Unfit.{Unfit}
use Rattle.flagops_service.specs.declared.taking.Unfit.TheVariants as unfit
use Rattle.flagops_service.specs.declared.asked.OnBroken.{OnBroken}
use Rattle.flagops_service.specs.declared.taking.Taken.{Taken}
use Rattle.flagops_shell.specs.Files.{Holding}

-- the item at a place is the first of those that are left from there on
pub left_at : {X : Type 0} (xs : List X) (i : ℕ) (x : X) → i < length xs → get_or xs i x ≡ x → drop i xs ≡ x ∷ drop (i + 1) xs
left_at xs i x h is = rw (add-one, drop-cons xs i x h) (ap (λ y. y ∷ drop (suc i) xs) is)

-- a path that is none, in the place of an item behind the end
abbrev pub no_path : Bor (List ℕ)
no_path = record { ref_ptr = (0, 0); now = [] }

-- a text that was refused before is there
pub known_refused : (refused : List (Option (Vec ℕ Global))) (place : ℕ) (o : Option (Vec ℕ Global)) (text : List ℕ) → slice_get refused place ≡ Some o → IfSome o (λ last. last.items ≡ text) → is_some o ≡ true
    → (last : Vec ℕ Global) × (slice_get refused place ≡ Some (Some last)) × (last.items ≡ text)
known_refused refused place (Some last) text here same some = (last, here, same)
known_refused refused place None text here same some = absurd (cc some)

-- why a text is not set, where memory was there
pub why_unfit : (mode : OnBroken) (number : ℕ) (sources : SourceList) (accepted text : List ℕ) (why : Unfit) → IsUnfit mode number sources accepted text why → why ≢ unfit.WantOfMemory
    → ((fault : SourceFault) × SetsWithFloats sources (decimal number) text (Err fault)) ⊎ MayBeRefused mode accepted text
why_unfit mode number sources accepted text unfit.WantOfMemory is other = absurd (other refl)
why_unfit mode number sources accepted text (unfit.Refused fault) is other = inl (fault, is)
why_unfit mode number sources accepted text (unfit.Harms regression) is other = inr is

module _ (holding : Option Holding) (mode : OnBroken) where
  -- the document at a place was read, and those behind it are
  pub one_read : {X : Type 0} (now : X → List ℕ) (paths : List X) (place : ℕ) (x : X) → place < length paths → get_or paths place x ≡ x
      → (old mid new : Kept) (taken : Taken) → ReadsOne holding mode (now x) place old mid taken → ReadsFrom holding mode (map now (drop (place + 1) paths)) (place + 1) mid new
      → ReadsFrom holding mode (map now (drop place paths)) place old new
  one_read now paths place x h is old mid new taken reads rest =
      subst (λ ps. ReadsFrom holding mode (map now ps) place old new) (sym (left_at paths place x h is)) (mid, taken, reads, rest)

  -- one more turn behind others
  pub one_turn : (paths : List (List ℕ)) (desks : Bool) (mids : List State) (old mid new : State) → Watches holding mode paths desks mids old mid → Turns holding mode paths desks mid new
      → Watches holding mode paths desks (mids ++ new ∷ []) old new
  one_turn paths desks [] old mid new watches turn = (subst (λ (s : State). Turns holding mode paths desks s new) watches turn, refl)
  one_turn paths desks (m ∷ ms) old mid new watches turn = (watches.0, one_turn paths desks ms m mid new watches.1 turn)

-- the same documents were read, of the same files
pub reads_as : (held held' : Option Holding) (mode mode' : OnBroken) (paths paths' : List (List ℕ)) (old new : Kept) → held ≡ held' → mode ≡ mode' → paths ≡ paths'
    → ReadsFrom held mode paths 0 old new → ReadsFrom held' mode' paths' 0 old new
reads_as held held' mode mode' paths paths' old new files modes places reads =
    subst (λ (h : Option Holding). ReadsFrom h mode' paths' 0 old new) files
    (subst (λ (m : OnBroken). ReadsFrom held m paths' 0 old new) modes (subst (λ (ps : List (List ℕ)). ReadsFrom held mode ps 0 old new) places reads))
