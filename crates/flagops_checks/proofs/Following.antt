-- Documents that are checked one after the other.
use Rattle.std.proofs.Common.{◌≡◌, ◌+◌, ◌<◌, ◌∙◌, ◌||◌, ℕ, Bool, true, false, List, [], ◌∷◌, ◌++◌, Option, Some, None, IfSome, add-one, ap, append-nil, append_assoc, drop, drop-cons, get_or, length, map, refl, subst, sym, string_bytes}
use Rattle.std.proofs.lemmas.Grind.{flat_map-append}
use Rattle.std.proofs.lemmas.List.Folds.{list_any-append}
use Rattle.std.specs.Prelude.{Result, Ok, Err}
use Rattle.flag_defs.specs.Document.{Definitions}
use Rattle.flagops_checks.specs.Judged.{Checked, are_wrong, checked, has_broken, has_doubted}
use Rattle.flagops_checks.specs.Printed.{document_text, report_text}
use Rattle.flagops_checks.specs.Documents.{AreChecked, IsCheckedAt, IsCheckedOf, IsDocumentAt}
use Rattle.flagops_checks.specs.Step.{Adds, AddsLines, GivesAll, GivesNext, Holds, HoldsLines}
use Rattle.flagops_checks.specs.Told.{TellsAll, TellsDocument, check_attempts}
use Rattle.flagops_checks.specs.declared.form.Form.{Form}
use Rattle.flagops_checks.specs.declared.gathering.Gathered.{Gathered}
use Rattle.flagops_checks.specs.declared.remark_lines.RemarkLines.{RemarkLines}
use Rattle.flagops_files.specs.Documents as files
use Rattle.flagops_files.specs.Documents.{IsDocumentInAs, IsDocumentOfAs}
use Rattle.flagops_files.specs.declared.refusal.Refusal.{Refusal}
use Rattle.flagops_files.specs.declared.refusal.Refusal.TheVariants as file
use Rattle.flagops_shell.specs.Files.{Holding, load_of}
use Rattle.flagops_files.specs.Loading.{max_text}
use Rattle.flagops_shell.specs.Outcomes.{◌>>=◌, Lifts, refused_by}
use Rattle.flagops_files.proofs.Told.{AreLeft, first_of_left, left_after}
use Rattle.flagops_files.specs.Told.{NamesFirst, NamesSubject, attempt, file}
use Rattle.flagops_shell.specs.Diagnostic.{Says}
use Rattle.flagops_checks.specs.Refusal.{is_want, Refused}
use Rattle.flagops_checks.specs.declared.refusal.CheckRefusal.{CheckRefusal}
use Rattle.flagops_checks.specs.declared.refusal.CheckRefusal.TheVariants.{Load}

-- ---- one document

refused_of : (floats : Bool) (path : List ℕ) (o : Result (List ℕ) Refusal) (e : CheckRefusal) → Lifts Load (IsDocumentOfAs floats o) (Err e) → IsCheckedOf floats path o (Err e)
refused_of floats path (Err f) e (given, is, same) = ap (λ (r : Result Definitions CheckRefusal). r >>= λ flags. Ok (checked floats path [] flags)) (same ∙ ap (refused_by Load) is)
refused_of floats path (Ok bytes) e (given, is, same) = (given, is, ap (λ (r : Result Definitions CheckRefusal). r >>= λ flags. Ok (checked floats path bytes flags)) same)

module _ (floats : Bool) (at : Holding) (path : List ℕ) where
  pub no_document : (e : CheckRefusal) → IsDocumentAt floats at path (Err e) → IsCheckedAt floats at path (Err e)
  unfolding IsDocumentAt files.IsDocumentAs IsCheckedAt
  no_document e is = refused_of floats path (refused_by file.Load (load_of at path max_text)) e is

  pub a_document : (bytes : List ℕ) (flags : Definitions) → load_of at path max_text ≡ Ok bytes → IsDocumentAt floats at path (Ok flags) → IsCheckedAt floats at path (Ok (checked floats path bytes flags))
  unfolding IsDocumentAt files.IsDocumentAs IsCheckedAt
  a_document bytes flags loaded (given, is, same) =
      let known : refused_by file.Load (load_of at path max_text) ≡ Ok bytes = ap (refused_by file.Load) loaded in
      let found : IsDocumentInAs floats bytes given = subst (λ (o : Result (List ℕ) Refusal). IsDocumentOfAs floats o given) known is in
      let r : Result Checked CheckRefusal = Ok (checked floats path bytes flags) in
      subst (λ (o : Result (List ℕ) Refusal). IsCheckedOf floats path o r) (sym known)
      (given, found, ap (λ (d : Result Definitions CheckRefusal). d >>= λ fs. Ok (checked floats path bytes fs)) same)

-- ---- along the paths

abbrev with_front : List Checked → Result (List Checked) CheckRefusal → Result (List Checked) CheckRefusal
with_front cs r = r >>= λ more. Ok (cs ++ more)

no_front : (r : Result (List Checked) CheckRefusal) → with_front [] r ≡ r
no_front (Ok more) = refl
no_front (Err e) = refl

longer_front : (cs : List Checked) (c : Checked) (r : Result (List Checked) CheckRefusal) → with_front cs (r >>= λ more. Ok (c ∷ more)) ≡ with_front (cs ++ c ∷ []) r
longer_front cs c (Ok more) = ap Ok (sym (append_assoc cs (c ∷ []) more))
longer_front cs c (Err e) = refl

-- what the paths that are left come to behind what is found so far, all come to; and the first of them that is refused is the first of all
abbrev pub Goes : Form → Holding → List (List ℕ) → List (List ℕ) → Gathered → Type 0
Goes form at paths left g =
    (cs : List Checked) × Holds form cs g × ((r : Result (List Checked) CheckRefusal) → AreChecked form.floats at left r → AreChecked form.floats at paths (r >>= λ more. Ok (cs ++ more)))
    × AreLeft (check_attempts form.floats at left) (check_attempts form.floats at paths)

pub starts : (form : Form) (at : Holding) (paths : List (List ℕ)) (g : Gathered) → g.text.items ≡ [] → g.is_wrong ≡ false → string_bytes g.told.lines ≡ [] → Goes form at paths paths g
starts form at paths g empty right silent = (
  [],
  record { text = empty; wrong = right; told = λ whole. silent },
  λ r is. subst (AreChecked form.floats at paths) (sym (no_front r)) is,
  λ e remark names. names,
)

told_on : (form : Form) (cs : List Checked) (c : Checked) (lines more whole : List ℕ) → TellsAll form cs lines → TellsDocument form c more → whole ≡ lines ++ more → TellsAll form (cs ++ c ∷ []) whole
told_on form [] c lines more whole told tells is = (more, [], tells, refl, is ∙ (ap (λ (t : List ℕ). t ++ more) told ∙ sym (append-nil more)))
told_on form (d ∷ cs) c lines more whole told tells is =
    let rest = told_on form cs c told.1 more (told.1 ++ more) told.3 tells refl in
    (told.0, told.1 ++ more, told.2, rest, is ∙ (ap (λ (t : List ℕ). t ++ more) told.4 ∙ append_assoc told.0 told.1 more))

all_told_on : (form : Form) (cs : List Checked) (c : Checked) (before after : RemarkLines) → HoldsLines form cs before → AddsLines form c before after → HoldsLines form (cs ++ c ∷ []) after
all_told_on form cs c before after told adds = λ whole.
    let on = adds whole in
    told_on form cs c (string_bytes before.lines) on.1 (string_bytes after.lines) (told on.0) on.2 on.3

or_none : (b : Bool) → (b || false) ≡ b
or_none true = refl
or_none false = refl

held_on : (form : Form) (cs : List Checked) (c : Checked) (before after : Gathered) → Holds form cs before → Adds form c before after → Holds form (cs ++ c ∷ []) after
held_on form cs c before after holds adds = record {
  text = adds.text ∙ (ap (λ (t : List ℕ). t ++ document_text form c.path c.flags) holds.text ∙ (ap (λ (t : List ℕ). report_text form cs ++ t) (sym (append-nil (document_text form c.path c.flags)))
      ∙ sym (flat_map-append (λ (d : Checked). document_text form d.path d.flags) cs (c ∷ []))));
  wrong = adds.wrong ∙ (ap (λ (b : Bool). b || (has_broken c || has_doubted c)) holds.wrong ∙ (ap (λ (b : Bool). are_wrong cs || b) (sym (or_none (has_broken c || has_doubted c)))
      ∙ sym (list_any-append (λ (d : Checked). has_broken d || has_doubted d) cs (c ∷ []))));
  told = all_told_on form cs c before.told after.told holds.told adds.told;
}

module _ (form : Form) (at : Holding) (paths left rest : List (List ℕ)) (path : List ℕ) (g : Gathered) (goes : Goes form at paths left g) (first : left ≡ path ∷ rest) where
  along : (r : Result (List Checked) CheckRefusal) → AreChecked form.floats at (path ∷ rest) r → AreChecked form.floats at paths (with_front goes.0 r)
  along r came = goes.2 r (subst (λ (ps : List (List ℕ)). AreChecked form.floats at ps r) (sym first) came)

  named_along : AreLeft (check_attempts form.floats at (path ∷ rest)) (check_attempts form.floats at paths)
  named_along e remark names = goes.3 e remark (subst (λ (ps : List (List ℕ)). NamesFirst (check_attempts form.floats at ps) e remark) (sym first) names)

  pub goes_on : (next : Gathered) → GivesNext form g (Ok next) (IsCheckedAt form.floats at path) → Goes form at paths rest next
  unfolding AreChecked
  goes_on next gives = (
    goes.0 ++ gives.0 ∷ [],
    held_on form goes.0 gives.0 g next goes.1 gives.2,
    λ r later. subst (AreChecked form.floats at paths) (longer_front goes.0 gives.0 r) (along (r >>= λ more. Ok (gives.0 ∷ more)) (Ok gives.0, gives.1, (r, later, refl))),
    left_after (attempt (file path) (IsCheckedAt form.floats at path)) (check_attempts form.floats at rest) (check_attempts form.floats at paths) named_along (gives.0, gives.1),
  )

  pub goes_refused : (e : Refused) → GivesNext form g (Err e) (IsCheckedAt form.floats at path) → GivesAll form (Err e) (AreChecked form.floats at paths)
  unfolding AreChecked
  goes_refused e gives = λ wanted. along (Err e.refusal) (Err e.refusal, gives wanted, refl)

  pub goes_told : (e : Refused) → GivesNext form g (Err e) (IsCheckedAt form.floats at path) → (is_want e.refusal ≡ false → Says (NamesSubject (file path)) e.remark) → is_want e.refusal ≡ false
      → NamesFirst (check_attempts form.floats at paths) e.refusal e.remark
  goes_told e gives says wanted =
      first_of_left (attempt (file path) (IsCheckedAt form.floats at path)) (check_attempts form.floats at rest) (check_attempts form.floats at paths) named_along e.refusal e.remark (gives wanted) (says wanted)

pub goes_all : (form : Form) (at : Holding) (paths left : List (List ℕ)) (g : Gathered) → Goes form at paths left g → left ≡ [] → GivesAll form (Ok g) (AreChecked form.floats at paths)
unfolding AreChecked
goes_all form at paths left g goes none =
    let last : AreChecked form.floats at paths (Ok (goes.0 ++ [])) = goes.2 (Ok []) (subst (λ (ps : List (List ℕ)). AreChecked form.floats at ps (Ok [])) (sym none) refl) in
    (goes.0, subst (λ (cs : List Checked). AreChecked form.floats at paths (Ok cs)) (append-nil goes.0) last, goes.1)

-- the first of those that are left, and those behind it
pub first_left : {X Y : Type 0} (now : X → Y) (xs : List X) (i : ℕ) (z : X) → i < length xs → map now (drop i xs) ≡ now (get_or xs i z) ∷ map now (drop (i + 1) xs)
first_left now xs i z inside =
    let left : drop i xs ≡ get_or xs i z ∷ drop (i + 1) xs = rw add-one (drop-cons xs i z inside) in
    ap (map now) left

-- ---- what follows for files whose bytes are known

pub where_known : {A : Type 0} (h : Option A) (P Q : A → Type 0) → ((a : A) → P a → Q a) → IfSome h P → IfSome h Q
where_known None P Q f p = tt
where_known (Some a) P Q f p = f a p

pub everywhere : {A : Type 0} (h : Option A) (P : A → Type 0) → ((a : A) → P a) → IfSome h P
everywhere None P f = tt
everywhere (Some a) P f = f a

-- the same of two facts, where the files stay
pub both_known : {A : Type 0} (h k : Option A) (P S : A → Type 0) → k ≡ h → IfSome h P → {Q : A → Type 0} → IfSome k Q → ((a : A) → P a → Q a → S a) → IfSome h S
both_known {A} h k P S same p {Q} q f = go h p (subst (λ (o : Option A). IfSome o Q) same q)
  where
    go : (o : Option A) → IfSome o P → IfSome o Q → IfSome o S
    go None p q = tt
    go (Some a) p q = f a p q

-- ---- the document at a path

pub next_refused : (form : Form) (g : Gathered) (path : List ℕ) (h : Option Holding) (e : Refused) → IfSome h (λ at. is_want e.refusal ≡ false → IsDocumentAt form.floats at path (Err e.refusal)) → IfSome h (λ at. GivesNext form g (Err e) (IsCheckedAt form.floats at path))
next_refused form g path None e is = tt
next_refused form g path (Some at) e is = λ wanted. no_document form.floats at path e.refusal (is wanted)

pub next_found : (form : Form) (g : Gathered) (path : List ℕ) (h : Option Holding) (bytes : List ℕ) (flags : Definitions) (next : Gathered) → IfSome h (λ at. IsDocumentAt form.floats at path (Ok flags)) → IfSome h (λ at. load_of at path max_text ≡ Ok bytes)
    → Adds form (checked form.floats path bytes flags) g next → IfSome h (λ at. GivesNext form g (Ok next) (IsCheckedAt form.floats at path))
next_found form g path None bytes flags next is loaded adds = tt
next_found form g path (Some at) bytes flags next is loaded adds = (checked form.floats path bytes flags, a_document form.floats at path bytes flags loaded is, adds)
