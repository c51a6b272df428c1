-- What a person is told beside the reports of `compare` and of `check`.
use Rattle.std.proofs.Common.{◌≡◌, ℕ, Bool, true, false, List, [], ◌∷◌, Result, Ok, Err, refl, sym, subst, ◌∙◌}
use Rattle.file_diagnostics.specs.Broken.{TellsBroken}
use Rattle.flag_defs.specs.Document.{Definitions}
use Rattle.flagops_checks.specs.Documents.{AreChecked, IsCheckedAt, IsCheckedOf, IsWithOthers}
use Rattle.flagops_checks.specs.Judged.{Checked, checked, has_broken}
use Rattle.flagops_checks.specs.Printed.{form_of}
use Rattle.flagops_checks.specs.Report.{TellsChecked}
use Rattle.flagops_checks.specs.Told.{BrokenPart, TellsAll, TellsDocument, check_attempts}
use Rattle.flagops_checks.specs.Words.{Checking}
use Rattle.flagops_checks.specs.declared.refusal.CheckRefusal.{CheckRefusal}
use Rattle.flagops_checks.specs.declared.refusal.CheckRefusal.TheVariants.{Load}
use Rattle.flagops_compare.specs.Report as compare
use Rattle.flagops_compare.specs.Words.{Comparing}
use Rattle.flagops_compare.specs.declared.refusal.CompareRefusal.TheVariants as comparing
use Rattle.flagops_files.specs.Documents.{IsDocumentAs}
use Rattle.flagops_files.specs.Question.{IsEvidenceAt}
use Rattle.flagops_files.specs.Told.{attempt, file}
use Rattle.flagops_files.specs.Loading.{max_text}
use Rattle.flagops_files.specs.declared.refusal.Refusal.{Refusal}
use Rattle.flagops_files.specs.declared.refusal.Refusal.TheVariants as loading
use Rattle.flagops_shell.specs.Files.{Holding, load_of}
use Rattle.flagops_shell.specs.Outcomes.{◌>>=◌, refused_by}
use Rattle.flagops_shell.specs.declared.files.LoadFault.{LoadFault}
use Rattle.product_laws.specs.Documents.{MeaningsStay, TreesStay}
use Rattle.product_laws.specs.FloatWhole.{IsWholeText}
use Rattle.product_laws.specs.Remarks.{CheckRemarksStay, CompareRemarksStay}
use Rattle.product_laws.specs.Whole.{AreWholeAt, IsWholeAt}
use Rattle.product_laws.proofs.Attempted.{AreLike, attempt_so, first_so, says_so, themselves}
use Rattle.product_laws.proofs.Filters as filters
use Rattle.product_laws.proofs.Read.{document_so}
use Rattle.product_laws.proofs.Rollouts.{loaded_so}

module _ (meanings : MeaningsStay) where
  -- ---- compare

  left_so : (other : Bool) (at : Holding) (a : Comparing) (lines : List ℕ) → IsWholeAt at a.old → IsWholeAt at a.new → compare.TellsLeft at a lines → compare.TellsLeft at (record a { floats = other }) lines
  unfolding compare.TellsLeft
  left_so other at a lines old new h = (h.0, loaded_so meanings a.floats other at a.old a.new a.book (Ok h.0) old new h.1, h.2)

  compare_like : (other : Bool) (at : Holding) (a : Comparing) → IsWholeAt at a.old → IsWholeAt at a.new → AreLike (compare.attempts_of at a) (compare.attempts_of at (record a { floats = other }))
  compare_like other at a old new = (
    attempt_so (file a.old) (IsDocumentAs a.floats at a.old) (IsDocumentAs other at a.old) (λ r. document_so meanings a.floats other at a.old r old),
    (
      attempt_so (file a.new) (IsDocumentAs a.floats at a.new) (IsDocumentAs other at a.new) (λ r. document_so meanings a.floats other at a.new r new),
      themselves (attempt (file a.book) (IsEvidenceAt at a.book) ∷ compare.picture_attempts a.picture),
    ),
  )

  pub compare_remarks : CompareRemarksStay
  compare_remarks other at a (Ok report) remark old new h = says_so (compare.TellsLeft at a) (compare.TellsLeft at (record a { floats = other })) (λ lines. left_so other at a lines old new) remark h
  compare_remarks other at a (Err comparing.WantOfMemory) remark old new h = h
  compare_remarks other at a (Err (comparing.Load e)) remark old new h = first_so (compare.attempts_of at a) (compare.attempts_of at (record a { floats = other })) (compare_like other at a old new) e remark h
  compare_remarks other at a (Err comparing.OtherTally) remark old new h = h

-- ---- check

abbrev AreWhole : List Checked → Type 0
AreWhole [] = Unit {0}
AreWhole (c ∷ cs) = IsWholeText c.bytes × AreWhole cs

-- what is checked are the bytes of the files
same_bytes : (floats : Bool) (path bytes : List ℕ) (document : Result Definitions Refusal) (c : Checked) → IsWholeText bytes → Ok c ≡ (refused_by Load document >>= λ flags. Ok (checked floats path bytes flags)) → IsWholeText c.bytes
same_bytes floats path bytes (Err e) c whole h = cc
same_bytes floats path bytes (Ok flags) c whole h = let same : c ≡ checked floats path bytes flags = cc in subst (λ (d : Checked). IsWholeText d.bytes) (sym same) whole

checked_whole : (floats : Bool) (at : Holding) (path : List ℕ) (c : Checked) → IsWholeAt at path → IsCheckedAt floats at path (Ok c) → IsWholeText c.bytes
unfolding IsCheckedAt
checked_whole floats at path c whole h = by (load_of at path max_text) refl h
  where
    by : (l : Result (List ℕ) LoadFault) → load_of at path max_text ≡ l → IsCheckedOf floats path (refused_by loading.Load l) (Ok c) → IsWholeText c.bytes
    by (Err e) is h = cc
    by (Ok bytes) is h = same_bytes floats path bytes h.0 c (whole bytes is) h.2

no_checks : {P : Type 0} (cs : List Checked) (e : CheckRefusal) → Ok cs ≡ Err e → P
no_checks cs e h = cc

all_whole : (floats : Bool) (at : Holding) (paths : List (List ℕ)) (cs : List Checked) → AreWholeAt at paths → AreChecked floats at paths (Ok cs) → AreWhole cs
unfolding AreChecked
all_whole floats at [] cs whole h = let none : cs ≡ [] = cc in subst (λ (ds : List Checked). AreWhole ds) (sym none) tt
all_whole floats at (path ∷ paths) cs whole h = by h.0 h.1 h.2 (λ ds. all_whole floats at paths ds whole.1)
  where
    rest : (c : Checked) → IsCheckedAt floats at path (Ok c) → ((ds : List Checked) → AreChecked floats at paths (Ok ds) → AreWhole ds) → (others : Result (List Checked) CheckRefusal) → AreChecked floats at paths others
        → Ok cs ≡ (others >>= λ ds. Ok (c ∷ ds)) → AreWhole cs
    rest c is more (Err e) others h = no_checks cs e h
    rest c is more (Ok ds) others h = let same : cs ≡ c ∷ ds = cc in subst (λ (es : List Checked). AreWhole es) (sym same) (checked_whole floats at path c whole.0 is, more ds others)

    by : (first : Result Checked CheckRefusal) → IsCheckedAt floats at path first → IsWithOthers (AreChecked floats at paths) first (Ok cs) → ((ds : List Checked) → AreChecked floats at paths (Ok ds) → AreWhole ds) → AreWhole cs
    by (Err e) is h more = no_checks cs e h
    by (Ok c) is h more = rest c is more h.0 h.1 h.2

module _ (trees : TreesStay) (floats other : Bool) (json : Bool) (paths : List (List ℕ)) where
  broken_so : (bytes lines : List ℕ) → IsWholeText bytes → TellsBroken floats bytes lines → TellsBroken other bytes lines
  unfolding TellsBroken
  broken_so bytes lines whole h = (h.0, sym (filters.document_same trees floats other bytes whole) ∙ h.1, h.2)

  part_so : (b : Bool) (path bytes lines : List ℕ) → IsWholeText bytes → BrokenPart b (form_of json floats paths) path bytes lines → BrokenPart b (form_of json other paths) path bytes lines
  part_so true path bytes lines whole h = (h.0, broken_so bytes h.0 whole h.1, h.2)
  part_so false path bytes lines whole h = h

  document_told : (c : Checked) (lines : List ℕ) → IsWholeText c.bytes → TellsDocument (form_of json floats paths) c lines → TellsDocument (form_of json other paths) c lines
  unfolding TellsDocument
  document_told c lines whole h = (h.0, h.1, h.2, h.3, part_so (has_broken c) c.path c.bytes h.0 whole h.4, h.5, h.6, h.7, h.8)

  all_told : (cs : List Checked) (lines : List ℕ) → AreWhole cs → TellsAll (form_of json floats paths) cs lines → TellsAll (form_of json other paths) cs lines
  all_told [] lines whole h = h
  all_told (c ∷ cs) lines whole h = (h.0, h.1, document_told c h.0 whole.0 h.2, all_told cs h.1 whole.1 h.3, h.4)

module _ (meanings : MeaningsStay) (trees : TreesStay) where
  tells_so : (other : Bool) (at : Holding) (c : Checking) (lines : List ℕ) → AreWholeAt at c.documents → TellsChecked at c lines → TellsChecked at (record c { floats = other }) lines
  unfolding TellsChecked
  tells_so other at c lines whole h = (
    h.0,
    filters.all_checked meanings trees c.floats other at c.documents (Ok h.0) whole h.1,
    all_told trees c.floats other c.json c.documents h.0 lines (all_whole c.floats at c.documents h.0 whole h.1) h.2,
  )

  check_like : (floats other : Bool) (at : Holding) (paths : List (List ℕ)) → AreWholeAt at paths → AreLike (check_attempts floats at paths) (check_attempts other at paths)
  check_like floats other at [] whole = tt
  check_like floats other at (path ∷ paths) whole =
      (attempt_so (file path) (IsCheckedAt floats at path) (IsCheckedAt other at path) (λ r. filters.checked_so meanings trees floats other at path r whole.0), check_like floats other at paths whole.1)

  pub check_remarks : CheckRemarksStay
  check_remarks other at c (Ok report) remark whole h = says_so (TellsChecked at c) (TellsChecked at (record c { floats = other })) (λ lines. tells_so other at c lines whole) remark h
  check_remarks other at c (Err e) remark whole h = first_so (check_attempts c.floats at c.documents) (check_attempts other at c.documents) (check_like c.floats other at c.documents whole) e remark h
