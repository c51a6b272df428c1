-- The first of the files of a command on steps that is refused, or what is made of them.
use Rattle.std.proofs.Common.{◌≡◌, false, ℕ, Bool, List, [], ◌∷◌, ◌++◌, map, Option, Some, None, IfSome, inl, inr, refl, sym, subst}
use Rattle.std.specs.Prelude.{Result, Ok, Err}
use Rattle.flagops_files.proofs.Succeeded.{question_succeed}
use Rattle.flagops_files.proofs.Told.{first_left, succeed_both, told_of_first}
use Rattle.flagops_files.specs.Loading.{max_rule}
use Rattle.flagops_files.specs.Question.{IsQuestionAt, Question}
use Rattle.flagops_files.specs.Refusal as files
use Rattle.flagops_files.specs.Refusal.{Attempts}
use Rattle.flagops_files.specs.Told.{AllSucceed, NamesFirst, NamesSubject, attempt, file, within}
use Rattle.flagops_files.specs.Documents.{IsDocumentAs}
use Rattle.flagops_files.specs.declared.refusal.Refusal.{Refusal}
use Rattle.flagops_files.specs.declared.refusal.Refusal.TheVariants.{Load as Unread}
use Rattle.flag_defs.specs.Document.{Definitions}
use Rattle.flagops_shell.specs.Diagnostic.{Says}
use Rattle.flagops_shell.specs.Files.{Holding, load_of}
use Rattle.flagops_shell.specs.Outcomes.{refused_by}
use Rattle.flagops_shell.specs.declared.refused.Remark.{Remark}
use Rattle.plan_text.specs.Answer.{Answer}
use Rattle.flagops_ramps.specs.Attempts.{IsOfFirst, answers_file, ramp_files, verify_files}
use Rattle.flagops_ramps.specs.Diagnostics.{Diagnoses, Diagnosis}
use Rattle.flagops_ramps.specs.Judging.{Answered, IsFoundAt, IsFoundOf, answers_at, if_loaded}
use Rattle.flagops_ramps.specs.Refusal.{is_want}
use Rattle.flagops_ramps.specs.Report.{Told}
use Rattle.flagops_ramps.specs.Words.{Ramping, Verifying}
use Rattle.flagops_ramps.specs.declared.refusal.RampRefusal.{RampRefusal}
use Rattle.flagops_ramps.specs.declared.refusal.RampRefusal.TheVariants.{Load}

differ : {X E Y : Type 0} {x : X} {e : E} → Ok x ≡ Err e → Y
differ same = cc

-- ---- one refusal

first_behind : (xs ys : Attempts) (e : RampRefusal) (remark : Remark) → AllSucceed xs → NamesFirst (map (within Load) ys) e remark → NamesFirst (map (within Load) (xs ++ ys)) e remark
first_behind [] ys e remark succeed names = names
first_behind (x ∷ xs) ys e remark (succeeds, succeed) names = inr (succeeds, first_behind xs ys e remark succeed names)

behind_one : (xs ys : Attempts) (Is : Diagnosis) (e : RampRefusal) (remark : Remark) → AllSucceed xs → IsOfFirst ys Is e remark → IsOfFirst (xs ++ ys) Is e remark
behind_one xs ys Is e remark succeed (inl names) = inl (first_behind xs ys e remark succeed names)
behind_one xs ys Is e remark succeed (inr (rest, is)) = inr (succeed_both xs ys succeed rest, is)

-- ---- what was returned

module _ {X : Type 0} (Is : Diagnosis) (r : Result X Told) where
  -- what is made of files that are not refused
  pub made : (old : Option Holding) (reads : Holding → Attempts) → IfSome old (λ at. AllSucceed (reads at)) → Diagnoses Is r → IfSome old (λ at. Diagnoses (IsOfFirst (reads at) Is) r)
  made old reads succeed told = go old r succeed told
    where
      go : (h : Option Holding) (s : Result X Told) → IfSome h (λ at. AllSucceed (reads at)) → Diagnoses Is s → IfSome h (λ at. Diagnoses (IsOfFirst (reads at) Is) s)
      go None s succeed told = tt
      go (Some at) (Ok x) succeed told = tt
      go (Some at) (Err t) succeed told = λ wanted. inr (succeed, told wanted)

  -- what is told behind files that are not refused, of files that stay
  pub behind : (mid old : Option Holding) (first rest : Holding → Attempts) → mid ≡ old → IfSome old (λ at. AllSucceed (first at)) → IfSome mid (λ at. Diagnoses (IsOfFirst (rest at) Is) r)
      → IfSome old (λ at. Diagnoses (IsOfFirst (first at ++ rest at) Is) r)
  behind mid old first rest same succeed told = go old r succeed (subst (λ (h : Option Holding). IfSome h (λ at. Diagnoses (IsOfFirst (rest at) Is) r)) same told)
    where
      go : (h : Option Holding) (s : Result X Told) → IfSome h (λ at. AllSucceed (first at)) → IfSome h (λ at. Diagnoses (IsOfFirst (rest at) Is) s) → IfSome h (λ at. Diagnoses (IsOfFirst (first at ++ rest at) Is) s)
      go None s succeed told = tt
      go (Some at) (Ok x) succeed told = tt
      go (Some at) (Err t) succeed told = λ wanted. behind_one (first at) (rest at) Is t.refusal t.remark succeed (told wanted)

  -- as another command would tell it
  pub told_as : (Was : Diagnosis) (old : Option Holding) (reads : Holding → Attempts) (t : Told) → r ≡ Err t → ((e : RampRefusal) (remark : Remark) → Was e remark → Is e remark)
      → IfSome old (λ at. is_want t.refusal ≡ false → IsOfFirst (reads at) Was t.refusal t.remark) → IfSome old (λ at. Diagnoses (IsOfFirst (reads at) Is) r)
  told_as Was old reads t is alike told = subst (λ (s : Result X Told). IfSome old (λ at. Diagnoses (IsOfFirst (reads at) Is) s)) (sym is) (go old told)
    where
      go : (h : Option Holding) → IfSome h (λ at. is_want t.refusal ≡ false → IsOfFirst (reads at) Was t.refusal t.remark) → IfSome h (λ at. is_want t.refusal ≡ false → IsOfFirst (reads at) Is t.refusal t.remark)
      go None told = tt
      go (Some at) told = λ wanted. also (told wanted)
        where
          also : IsOfFirst (reads at) Was t.refusal t.remark → IsOfFirst (reads at) Is t.refusal t.remark
          also (inl names) = inl names
          also (inr (succeed, was)) = inr (succeed, alike t.refusal t.remark was)

-- a refusal of one of the files
module _ (Is : Diagnosis) (e : files.Refused) (t : Told) (is : t.refusal ≡ Load e.refusal) (said : t.remark ≡ e.remark) where
  unread_one : (xs ys : Attempts) → (files.is_want e.refusal ≡ false → NamesFirst xs e.refusal e.remark) → is_want t.refusal ≡ false → IsOfFirst (xs ++ ys) Is t.refusal t.remark
  unread_one xs ys named wanted = inl (told_of_first files.is_want is_want Load (λ x. refl) e t is said (xs ++ ys) (λ w. first_left xs ys e.refusal e.remark (named w)) wanted)

  pub unread : (old : Option Holding) (first rest : Holding → Attempts) → IfSome old (λ at. files.is_want e.refusal ≡ false → NamesFirst (first at) e.refusal e.remark) → IfSome old (λ at. is_want t.refusal ≡ false → IsOfFirst (first at ++ rest at) Is t.refusal t.remark)
  unread None first rest named = tt
  unread (Some at) first rest named = unread_one (first at) (rest at) named

  -- of the file of answers
  pub unread_answers : (path : List ℕ) (old : Option Holding) → IfSome old (λ at. files.is_want e.refusal ≡ false → (let x : Result (List ℕ) Refusal = refused_by Unread (load_of at path max_rule) in x) ≡ Err e.refusal)
      → (files.is_want e.refusal ≡ false → Says (NamesSubject (file path)) e.remark) → IfSome old (λ at. is_want t.refusal ≡ false → IsOfFirst (answers_file at path) Is t.refusal t.remark)
  unread_answers path None refused says = tt
  unread_answers path (Some at) refused says = unread_one (answers_file at path) [] (λ wanted. inl (refused wanted, says wanted))

  -- of a document
  pub unread_document : (floats : Bool) (path : List ℕ) (old : Option Holding) (rest : Holding → Attempts) → IfSome old (λ at. files.is_want e.refusal ≡ false → IsDocumentAs floats at path (Err e.refusal)) → (files.is_want e.refusal ≡ false → Says (NamesSubject (file path)) e.remark)
      → IfSome old (λ at. is_want t.refusal ≡ false → IsOfFirst (attempt (file path) (IsDocumentAs floats at path) ∷ rest at) Is t.refusal t.remark)
  unread_document floats path None rest refused says = tt
  unread_document floats path (Some at) rest refused says = unread_one (attempt (file path) (IsDocumentAs floats at path) ∷ []) (rest at) (λ wanted. inl (refused wanted, says wanted))

-- ---- what was read

pub question_read : (a : Ramping) (q : Question) (old : Option Holding) → IfSome old (λ at. IsQuestionAt a.floats at a.document a.steps a.book (Ok q)) → IfSome old (λ at. AllSucceed (ramp_files at a))
question_read a q None asked = tt
question_read a q (Some at) asked = question_succeed a.floats at a.document a.steps a.book q asked

pub document_read : (floats : Bool) (path : List ℕ) (flags : Definitions) (old : Option Holding) → IfSome old (λ at. IsDocumentAs floats at path (Ok flags)) → IfSome old (λ at. AllSucceed (let xs : Attempts = attempt (file path) (IsDocumentAs floats at path) ∷ [] in xs))
document_read floats path flags None there = tt
document_read floats path flags (Some at) there = ((flags, there), tt)

pub bytes_read : (path bytes : List ℕ) (old : Option Holding) → IfSome old (λ at. (let x : Result (List ℕ) Refusal = refused_by Unread (load_of at path max_rule) in x) ≡ Ok bytes) → IfSome old (λ at. AllSucceed (answers_file at path))
bytes_read path bytes None loaded = tt
bytes_read path bytes (Some at) loaded = ((bytes, loaded), tt)

answers_there : (at : Holding) (path : List ℕ) (answers : List Answer) → answers_at at path ≡ Ok answers → AllSucceed (answers_file at path)
unfolding answers_at
answers_there at path answers is = go (refused_by Unread (load_of at path max_rule)) refl is
  where
    go : (bytes : Result (List ℕ) Refusal) → refused_by Unread (load_of at path max_rule) ≡ bytes → if_loaded bytes ≡ Ok answers → AllSucceed (answers_file at path)
    go (Err e) loaded same = differ (sym same)
    go (Ok bytes) loaded same = ((bytes, loaded), tt)

pub answers_were_read : (path : List ℕ) (answers : List Answer) (old : Option Holding) → IfSome old (λ at. answers_at at path ≡ Ok answers) → IfSome old (λ at. AllSucceed (answers_file at path))
answers_were_read path answers None is = tt
answers_were_read path answers (Some at) is = answers_there at path answers is

-- answers that are found right were read, and so was what they are judged by
module _ (v : Verifying) (a : Answered) (at : Holding) where
  answers_found : (q : Question) (answers : Result (List Answer) RampRefusal) → answers_at at v.ramp ≡ answers → IsFoundOf v.rollout.refine (Ok q) answers (Ok a) → AllSucceed (answers_file at v.ramp)
  answers_found q (Err e) is found = differ found
  answers_found q (Ok answers) is found = answers_there at v.ramp answers is

  found_there : IsFoundAt at v (Ok a) → AllSucceed (verify_files at v)
  unfolding IsFoundAt
  found_there (Err e, asked, found) = differ found
  found_there (Ok q, asked, found) = succeed_both (ramp_files at v.rollout) (answers_file at v.ramp) (question_succeed v.rollout.floats at v.rollout.document v.rollout.steps v.rollout.book q asked) (answers_found q (answers_at at v.ramp) refl found)

pub found_read : (v : Verifying) (a : Answered) (old : Option Holding) → IfSome old (λ at. IsFoundAt at v (Ok a)) → IfSome old (λ at. AllSucceed (verify_files at v))
found_read v a None found = tt
found_read v a (Some at) found = found_there v a at found
