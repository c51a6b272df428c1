-- What the command `apply --keep` answers, and the document that it writes.
use Rattle.std.specs.Prelude.{◌≡◌, ◌⊎◌, ℕ, Bool, true, false, List, ◌++◌, length, codes, decimal, option_map, Option, Some, None, Result, Ok, Err, Vec}
use Rattle.std.specs.declared.alloc.Global.{Global}
use Rattle.bucket_core.specs.Rule.{Entries}
use Rattle.flag_defs.specs.Document.{Definitions}
use Rattle.flag_defs.specs.Floats.{MeansAs}
use Rattle.kept_document.specs.Kept.{IsRefused, KeptAt, place_in}
use Rattle.kept_document.specs.declared.fault.KeepFault.{KeepFault}
use Rattle.plan_text.specs.Answer.{Answer, emit, none_exists}
use Rattle.price_core.specs.Request.{Asked, asked_of}
use Rattle.rollout.specs.Applied.{applied}
use Rattle.rollout.specs.declared.fault.RolloutFault.{RolloutFault}
use Rattle.rollout.specs.declared.verify_fault.VerifyFault.{VerifyFault}
use Rattle.kept_document.specs.Place.{SitePlace}
use Rattle.std.specs.Result.{result_ok}
use Rattle.flagops_rollouts.specs.Apply.{none_report}
use Rattle.flagops_rollouts.specs.Beside.{noted_with}
use Rattle.flagops_rollouts.specs.Doubts.{doubt_of, settle}
use Rattle.flagops_rollouts.specs.Finer.{is_finer, times_asked}
use Rattle.flagops_rollouts.specs.Verify.{MayBeTold}
use Rattle.flagops_shell.specs.Files.{Holding, KeepsOthers, Stores, load_of}
use Rattle.flagops_files.specs.Loading.{max_text}
use Rattle.flagops_rollouts.specs.Loaded.{plan_at, IsQuestionAt}
use Rattle.flagops_files.specs.Question.{Question}
use Rattle.flagops_rollouts.specs.Refusal.{unwritable, Outcomes}
use Rattle.flagops_shell.specs.Outcomes.{beside, done}
use Rattle.flagops_rollouts.specs.declared.keep_refusal.KeepRefusal.TheVariants.{Verify, Document}
use Rattle.flagops_rollouts.specs.declared.refusal.RolloutCall.TheVariants as call
use Rattle.flagops_rollouts.specs.declared.refusal.RolloutRefusal.{RolloutRefusal}
use Rattle.flagops_rollouts.specs.declared.refusal.RolloutRefusal.TheVariants.{Apply, Keep}

-- ---- the document

-- the text of the changed document, or none where no rule fits
abbrev pub Kept : Type 0
Kept = Option (List ℕ)

-- the same, without where it lies in memory
abbrev pub kept_view : Option (Vec ℕ Global) → Kept
kept_view o = option_map (λ v. v.items) o

abbrev pub some_view : Vec ℕ Global → Kept
some_view v = Some v.items

-- The document with the rule in place of the buckets at a place and all else as it was, which means these flags, read as it was; or a refusal.
abbrev pub IsEdited : Bool → List ℕ → SitePlace → Entries → Definitions → Result Kept RolloutRefusal → Type 0
IsEdited floats document place rule wanted (Ok None) = ⊥
IsEdited floats document place rule wanted (Ok (Some text)) = KeptAt document place rule text × MeansAs floats text (Ok wanted)
IsEdited floats document place rule wanted (Err e) = (fault : KeepFault) × IsRefused floats document place rule wanted fault × (e ≡ Keep (Document fault))

-- the flags that are wanted are those that `apply` gives
abbrev pub IsEditedTo : Bool → List ℕ → SitePlace → Entries → Result Definitions RolloutFault → Result Kept RolloutRefusal → Type 0
IsEditedTo floats document place rule (Err e) r = r ≡ Err (Apply e)
IsEditedTo floats document place rule (Ok wanted) r = IsEdited floats document place rule wanted r

-- the document with the rule at a site
abbrev pub IsKeptAt : Bool → List ℕ → Definitions → List ℕ → ℕ → Entries → Result Kept RolloutRefusal → Type 0
IsKeptAt floats document flags key site rule r = IsEditedTo floats document (place_in floats document flags key site) rule (applied flags key site rule) r

-- at the site of a request
abbrev pub IsKeptFor : Bool → List ℕ → Question → Entries → Result Kept RolloutRefusal → Type 0
IsKeptFor floats document q rule r = (asked : Asked) × (asked_of q.request ≡ Ok asked) × IsKeptAt floats document q.flags asked.flag asked.site rule r

-- by a right answer
abbrev pub IsKeptWith : Bool → List ℕ → Question → Answer → Result Kept RolloutRefusal → Type 0
IsKeptWith floats document q (emit rule c) r = IsKeptFor floats document q rule r
IsKeptWith floats document q (none_exists kind names) r = r ≡ Ok None

-- An answer that is not right changes nothing.
abbrev pub IsKeptBy : Bool → List ℕ → Question → Answer → Result (Unit {0}) VerifyFault → Result Kept RolloutRefusal → Type 0
IsKeptBy floats document q answer (Err e) r = r ≡ Err (Keep (Verify e))
IsKeptBy floats document q answer (Ok u) r = IsKeptWith floats document q answer r

-- What may become of the document by an answer. Where it is right its rule costs the recorded inputs the least of all that fit.
abbrev pub MayBeKept : Bool → Option ℕ → List ℕ → Question → Answer → Result Kept RolloutRefusal → Type 0
MayBeKept floats refine document q answer r = (verdict : Result (Unit {0}) VerifyFault) × MayBeTold refine q answer verdict × IsKeptBy floats document q answer verdict r

-- ---- the report

-- how many bytes were written
unfoldable pub written_text : ℕ → List ℕ
written_text n = codes "written " ++ (decimal n ++ codes "\n")

-- The document at a path is replaced by this text, and no other file is changed; none is where it is refused to be written.
abbrev pub IsWritten : Holding → Option Holding → List ℕ → Bool → List ℕ → Outcomes
IsWritten at after path told text r =
    ((r ≡ beside told (done (written_text (length text)))) × Stores (Some at) after path text × KeepsOthers (Some at) after path) ⊎ ((r ≡ Err unwritable) × (after ≡ Some at))

-- The text is printed, or with `--write` written over the document.
abbrev pub IsTextPut : Holding → Option Holding → List ℕ → Bool → Bool → List ℕ → Outcomes
IsTextPut at after path false told text r = (r ≡ beside told (done text)) × (after ≡ Some at)
IsTextPut at after path true told text r = IsWritten at after path told text r

-- Nothing is changed where there is none.
abbrev pub IsKeptPut : Holding → Option Holding → List ℕ → Bool → Bool → Kept → Outcomes
IsKeptPut at after path write told None r = (r ≡ beside told (Ok none_report)) × (after ≡ Some at)
IsKeptPut at after path write told (Some text) r = IsTextPut at after path write told text r

-- Nor where it is refused, or doubted and `--strict` refuses that.
abbrev pub IsPut : Holding → Option Holding → List ℕ → Bool → Result Bool RolloutRefusal → Result Kept RolloutRefusal → Outcomes
IsPut at after path write settled (Err e) r = (r ≡ Err e) × (after ≡ Some at)
IsPut at after path write (Err e) (Ok kept) r = (r ≡ Err e) × (after ≡ Some at)
IsPut at after path write (Ok told) (Ok kept) r = IsKeptPut at after path write told kept r

-- the rule of the answer has finer points than the one at the site of the question's request
abbrev pub is_finer_there : Question → Answer → Bool
is_finer_there q answer = is_finer (times_asked q.flags (result_ok (asked_of q.request)) answer) answer

-- The same, of what becomes of the document. A person is told of a doubt, and of finer points.
abbrev pub IsKeepWith : Bool → Holding → Option Holding → List ℕ → Bool → Bool → Option ℕ → List ℕ → Question → Answer → Outcomes
IsKeepWith floats at after path write strict refine document q answer r =
    (kept : Result Kept RolloutRefusal) × MayBeKept floats refine document q answer kept × IsPut at after path write (noted_with (is_finer_there q answer) (settle call.Apply strict (doubt_of q))) kept r

-- The same over what was read.
abbrev pub IsKeepOf : Bool → Holding → Option Holding → List ℕ → Bool → Bool → Option ℕ → Result Question RolloutRefusal → Result Answer RolloutRefusal → Outcomes
IsKeepOf floats at after path write strict refine (Err e) answer r = (r ≡ Err e) × (after ≡ Some at)
IsKeepOf floats at after path write strict refine (Ok q) (Err e) r = (r ≡ Err e) × (after ≡ Some at)
IsKeepOf floats at after path write strict refine (Ok q) (Ok answer) r =
    (document : List ℕ) × (load_of at path max_text ≡ Ok document) × IsKeepWith floats at after path write strict refine document q answer r

unfoldable pub IsKeepReport : Bool → Holding → Option Holding → List ℕ → List ℕ → List ℕ → List ℕ → Bool → Option ℕ → Bool → Outcomes
IsKeepReport floats at after document plan request book write refine strict r =
    (question : Result Question RolloutRefusal) × IsQuestionAt floats at document request book question × IsKeepOf floats at after document write strict refine question (plan_at at plan) r

-- The files stay as they are; or they are to be written, and the document alone changes.
abbrev pub LeavesDocument : Option Holding → Option Holding → List ℕ → Bool → Type 0
LeavesDocument old new path write = (new ≡ old) ⊎ ((write ≡ true) × KeepsOthers old new path)
