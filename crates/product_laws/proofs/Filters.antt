-- What `check`, `record`, `tally` and `serve` come to.
use Rattle.std.proofs.Common.{◌≡◌, ◌∙◌, inl, inr, ℕ, Bool, true, false, List, [], ◌∷◌, map, is_some, Result, Ok, Err, refl, ap}
use Rattle.file_diagnostics.specs.Broken.{document_in}
use Rattle.flag_defs.specs.Definition.{Definition}
use Rattle.flag_defs.specs.Document.{Definitions}
use Rattle.flag_defs.specs.Flag as definitions
use Rattle.flag_doubts.specs.Doubled as doubled
use Rattle.flag_doubts.specs.Repeated as repeated
use Rattle.flag_text.specs.Shape.{Shape}
use Rattle.flag_text.specs.declared.fault.TextFault.{TextFault}
use Rattle.product_laws.specs.Documents.{MeaningsStay, TreesStay}
use Rattle.product_laws.specs.FloatWhole.{IsWholeText}
use Rattle.flagops_checks.specs.Documents.{AreChecked, IsCheckedAt, IsCheckedOf, IsWithOthers}
use Rattle.flagops_checks.specs.Judged.{Checked, Judged, checked, flag_doubts, or_null}
use Rattle.flagops_checks.specs.Printed.{document_text, form_of}
use Rattle.flagops_checks.specs.Report.{IsCheckReport, check_report}
use Rattle.flagops_checks.specs.Sites.{site_doubts}
use Rattle.flagops_checks.specs.declared.refusal.CheckRefusal.{CheckRefusal}
use Rattle.flagops_checks.specs.declared.refusal.CheckRefusal.TheVariants.{Load}
use Rattle.flagops_files.specs.Loading.{max_text}
use Rattle.flagops_files.specs.declared.refusal.Refusal.{Refusal}
use Rattle.flagops_files.specs.declared.refusal.Refusal.TheVariants as file
use Rattle.flagops_filters.specs.Tally.{IsTallyIn, IsTallyReport}
use Rattle.flagops_shell.specs.Files.{Holding, load_of}
use Rattle.flagops_shell.specs.Outcomes.{refused_by}
use Rattle.flagops_shell.specs.declared.files.LoadFault.{LoadFault}
use Rattle.product_laws.specs.Filters.{ChecksStay, RecordsStay, TalliesStay}
use Rattle.product_laws.specs.Whole.{AreWholeAt, IsWholeAt}
use Rattle.member_names.specs.Unread.{unread_of}
use Rattle.member_names.specs.declared.reader.Reader.TheVariants as reader
use Rattle.product_laws.proofs.Read.{bind-same, document_so, in_so}

-- ---- what is found of a document

pub document_same : TreesStay → (floats other : Bool) (bytes : List ℕ) → IsWholeText bytes → document_in floats bytes ≡ document_in other bytes
document_same trees true true bytes whole = refl
document_same trees true false bytes whole = trees true false bytes whole
document_same trees false true bytes whole = trees false true bytes whole
document_same trees false false bytes whole = refl

-- by its tree
judged_by : Shape → List ℕ → List ℕ × Definition → Judged
judged_by t bytes f = record {
  key = f.0;
  is_broken = definitions.is_broken f.1;
  doubts = flag_doubts t f.0 f.1;
  sites = site_doubts f.1;
  is_doubled = doubled.is_doubled bytes f.0;
  is_repeated = repeated.is_repeated bytes f.0;
}

checked_by : Result Shape TextFault → List ℕ → List ℕ → Definitions → Checked
checked_by r path bytes flags = record {
  path = path;
  bytes = bytes;
  flags = map (judged_by (or_null r) bytes) flags;
  is_unread = is_some (unread_of reader.Document (or_null r));
  is_repeated = repeated.has_repeated bytes;
}

checked_same : TreesStay → (floats other : Bool) (path bytes : List ℕ) → IsWholeText bytes → (flags : Definitions) → checked floats path bytes flags ≡ checked other path bytes flags
unfolding checked_by judged_by
checked_same trees floats other path bytes whole flags = ap (λ (r : Result Shape TextFault). checked_by r path bytes flags) (document_same trees floats other bytes whole)

-- what is printed of documents
printed_same : (strict json floats other : Bool) (paths : List (List ℕ)) (cs : List Checked) → check_report strict (form_of json floats paths) cs ≡ check_report strict (form_of json other paths) cs
unfolding document_text
printed_same strict json floats other paths cs = refl

module _ (meanings : MeaningsStay) (trees : TreesStay) where
  -- ---- check

  pub checked_so : (floats other : Bool) (at : Holding) (path : List ℕ) (r : Result Checked CheckRefusal) → IsWholeAt at path → IsCheckedAt floats at path r → IsCheckedAt other at path r
  unfolding IsCheckedAt
  checked_so floats other at path r whole h = by (load_of at path max_text) refl h
    where
      by : (l : Result (List ℕ) LoadFault) → load_of at path max_text ≡ l → IsCheckedOf floats path (refused_by file.Load l) r → IsCheckedOf other path (refused_by file.Load l) r
      by (Ok bytes) is h = (
        h.0,
        in_so meanings floats other bytes h.0 (whole bytes is) h.1,
        h.2
            ∙ bind-same (λ flags. Ok (checked floats path bytes flags)) (λ flags. Ok (checked other path bytes flags)) (λ flags. ap Ok (checked_same trees floats other path bytes (whole bytes is) flags)) (refused_by Load h.0),
      )
      by (Err e) is h = h

  with_others : (Some Other : Result (List Checked) CheckRefusal → Type 0) → ((others : Result (List Checked) CheckRefusal) → Some others → Other others) → (first : Result Checked CheckRefusal) (r : Result (List Checked) CheckRefusal)
      → IsWithOthers Some first r → IsWithOthers Other first r
  with_others Some Other more (Err e) r h = h
  with_others Some Other more (Ok c) r h = (h.0, more h.0 h.1, h.2)

  pub all_checked : (floats other : Bool) (at : Holding) (paths : List (List ℕ)) (r : Result (List Checked) CheckRefusal) → AreWholeAt at paths → AreChecked floats at paths r → AreChecked other at paths r
  unfolding AreChecked
  all_checked floats other at [] r whole h = h
  all_checked floats other at (path ∷ paths) r whole h =
      let more : (others : Result (List Checked) CheckRefusal) → AreChecked floats at paths others → AreChecked other at paths others = λ others. all_checked floats other at paths others whole.1 in
      (h.0, checked_so floats other at path h.0 whole.0 h.1, with_others (AreChecked floats at paths) (AreChecked other at paths) more h.0 r h.2)

  pub checks_stay : ChecksStay
  unfolding IsCheckReport
  checks_stay other at c r whole h = (
    h.0,
    all_checked c.floats other at c.documents h.0 whole h.1,
    h.2 ∙ bind-same (check_report c.strict (form_of c.json c.floats c.documents)) (check_report c.strict (form_of c.json other c.documents)) (printed_same c.strict c.json c.floats other c.documents) h.0,
  )

  -- ---- record and tally

  pub records_stay : RecordsStay
  records_stay other old new status at has_failed a now bytes is_cut whole (inl h) = inl (h.0, document_so meanings a.floats other at a.document h.0 whole h.1, h.2)
  records_stay other old new status at has_failed a now bytes is_cut whole (inr wants) = inr wants

  pub tallies_stay : TalliesStay
  unfolding IsTallyReport
  tallies_stay other at a bytes is_cut r whole h = (h.0, document_so meanings a.floats other at a.document h.0 whole h.1, in_it h.0 h.2)
    where
      in_it : (document : Result Definitions Refusal) → IsTallyIn document a bytes is_cut r → IsTallyIn document (record a { floats = other }) bytes is_cut r
      in_it (Err e) h = h
      in_it (Ok flags) h = h
