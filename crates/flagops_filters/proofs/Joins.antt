-- Files of tallies, read and joined one after another.
use Rattle.std.proofs.Common.{◌≡◌, false, ◌+◌, ◌<◌, ℕ, List, [], ◌∷◌, Vec, Global, Option, None, Some, Result, Ok, Err, add-one, drop, get_or, length, map, refl, ap, subst, sym, inl, inr}
use Rattle.std.proofs.Math.Seq.{drop-cons}
use Rattle.std.specs.Prelude.{IfSome}
use Rattle.flagops_shell.specs.Files.{Holding, load_of}
use Rattle.flagops_files.specs.Loading.{max_rule}
use Rattle.flagops_shell.specs.Outcomes.{refused_by}
use Rattle.flagops_files.specs.Refusal as files
use Rattle.flagops_shell.specs.Diagnostic.{Says}
use Rattle.flagops_shell.specs.declared.outcome.Outcome.{Outcome}
use Rattle.flagops_shell.specs.declared.refused.Remark.{Remark}
use Rattle.flagops_files.specs.declared.refusal.Refusal.{Refusal}
use Rattle.flagops_files.specs.declared.refusal.Refusal.TheVariants.{Load as Unread, ReadTally}
use Rattle.flagops_files.specs.Refusal.{Refused}
use Rattle.note_tallies.specs.Tally.{PageTally}
use Rattle.note_tallies.specs.Reading.{ReadsTally}
use Rattle.note_tallies.specs.declared.file_fault.TallyFileFault.{TallyFileFault}
use Rattle.flagops_filters.specs.Join.{IsJoinReport, IsTallyIn, IsTallyOf, JoinsAllFiles, JoinsFiles, report_joined}
use Rattle.flagops_filters.specs.Joined.{JoinsNext, JoinsTwo, JoinsUnless}
use Rattle.flagops_filters.specs.Refusal.{is_want}
use Rattle.flagops_filters.specs.Remarks.{NamesPath, NamesUnjoined, NamesUnjoinedOf, RemarksUnjoined, RemarksUnjoinedOf}
use Rattle.flagops_filters.specs.Report.{GivesOne, Told}
use Rattle.flagops_filters.specs.declared.refusal.FilterRefusal.{FilterRefusal}
use Rattle.flagops_filters.specs.declared.refusal.FilterRefusal.TheVariants.{Load}
use Rattle.flagops_filters.proofs.Loaded.{not_want}

-- ---- one file

pub read_so : (bytes : List ℕ) (t : PageTally) → ReadsTally bytes (Ok t) → JoinsUnless (Ok t) (IsTallyIn (Ok bytes))
read_so bytes t is = (Ok t, is, refl)

pub unread : (bytes : List ℕ) (fault : TallyFileFault) (told : Told) → ReadsTally bytes (Err fault) → told.refusal ≡ Load (ReadTally fault) → JoinsUnless (Err told) (IsTallyIn (Ok bytes))
unread bytes fault told reads is = λ no_want. (Err fault, reads, ap Err is)

module _ (path : List ℕ) where
  not_loaded_at : (at : Holding) (e : Refused) (told : Told) → told.refusal ≡ Load e.refusal → files.GivesUnlessWant (λ (v : Vec ℕ Global). v.items) (Err e) (refused_by Unread (load_of at path max_rule)) → JoinsUnless (Err told) (IsTallyOf at path)
  unfolding IsTallyOf
  not_loaded_at at e told is bytes = λ no_want. subst (λ (x : Result (List ℕ) Refusal). IsTallyIn x (Err told.refusal)) (sym (bytes (not_want told e is no_want))) (ap Err is)

  pub not_loaded : (holding : Option Holding) (e : Refused) (told : Told) → told.refusal ≡ Load e.refusal → IfSome holding (λ at. files.GivesUnlessWant (λ (v : Vec ℕ Global). v.items) (Err e) (refused_by Unread (load_of at path max_rule)))
      → IfSome holding (λ at. JoinsUnless (Err told) (IsTallyOf at path))
  not_loaded None e told is bytes = tt
  not_loaded (Some at) e told is bytes = not_loaded_at at e told is bytes

  loaded_at : (at : Holding) (bytes : List ℕ) (r : Result PageTally Told) → refused_by Unread (load_of at path max_rule) ≡ Ok bytes → JoinsUnless r (IsTallyIn (Ok bytes)) → JoinsUnless r (IsTallyOf at path)
  unfolding IsTallyOf
  loaded_at at bytes (Ok t) is read = subst (λ (x : Result (List ℕ) Refusal). IsTallyIn x (Ok t)) (sym is) read
  loaded_at at bytes (Err told) is read = λ no_want. subst (λ (x : Result (List ℕ) Refusal). IsTallyIn x (Err told.refusal)) (sym is) (read no_want)

  pub loaded : (holding : Option Holding) (bytes : List ℕ) (r : Result PageTally Told) → IfSome holding (λ at. refused_by Unread (load_of at path max_rule) ≡ Ok bytes) → JoinsUnless r (IsTallyIn (Ok bytes)) → IfSome holding (λ at. JoinsUnless r (IsTallyOf at path))
  loaded None bytes r is read = tt
  loaded (Some at) bytes r is read = loaded_at at bytes r is read

-- ---- one more file

module _ (at : Holding) (one : PageTally) (path : List ℕ) where
  joined_with : (next : PageTally) (r : Result PageTally Told) → IsTallyOf at path (Ok next) → JoinsUnless r (JoinsTwo one next) → JoinsUnless r (JoinsNext at one path)
  joined_with next (Ok both) is joins = (next, is, joins)
  joined_with next (Err told) is joins = λ no_want. inl (next, is, joins no_want)

module _ (one : PageTally) (path : List ℕ) where
  pub next_joined : (holding : Option Holding) (next : PageTally) (r : Result PageTally Told) → IfSome holding (λ at. JoinsUnless (Ok next) (IsTallyOf at path)) → JoinsUnless r (JoinsTwo one next) → IfSome holding (λ at. JoinsUnless r (JoinsNext at one path))
  next_joined None next r is joins = tt
  next_joined (Some at) next r is joins = joined_with at one path next r is joins

  pub next_refused : (holding : Option Holding) (told : Told) → IfSome holding (λ at. JoinsUnless (Err told) (IsTallyOf at path)) → IfSome holding (λ at. JoinsUnless (Err told) (JoinsNext at one path))
  next_refused None told is = tt
  next_refused (Some at) told is = λ no_want. inr (is no_want)

-- ---- several files

-- what is joined of one and of the files that are left is what is joined of all, and the first of them that is refused is the first of all
abbrev pub Leads : Holding → PageTally → List (List ℕ) → PageTally → List (List ℕ) → Type 0
Leads at first all one paths =
    ((r : Result PageTally FilterRefusal) → JoinsFiles at one paths r → JoinsFiles at first all r)
    × ((e : FilterRefusal) (remark : Remark) → NamesUnjoined at one paths e remark → NamesUnjoined at first all e remark)

abbrev pub Known : Option Holding → PageTally → List (List ℕ) → PageTally → List (List ℕ) → Type 0
Known holding first all one paths = IfSome holding (λ at. Leads at first all one paths)

pub leads_all : (holding : Option Holding) (first : PageTally) (all : List (List ℕ)) → Known holding first all first all
leads_all None first all = tt
leads_all (Some at) first all = (λ r joins. joins, λ e remark names. names)

module _ (first : PageTally) (all : List (List ℕ)) where
  module _ (at : Holding) (one : PageTally) (path : List ℕ) (paths : List (List ℕ)) (leads : Leads at first all one (path ∷ paths)) where
    leads_next : (both : PageTally) → JoinsNext at one path (Ok both) → Leads at first all both paths
    leads_next both is = (λ r later. leads.0 r (inl (is.0, both, is.1, is.2, later)), λ e remark names. leads.1 e remark (inr (both, is, names)))

    leads_none : (e : FilterRefusal) → JoinsNext at one path (Err e) → JoinsFiles at first all (Err e)
    leads_none e (inl two) = leads.0 (Err e) (inr (inl (two.0, two.2.0, two.1, two.2.1, ap Err two.2.2)))
    leads_none e (inr unread) = leads.0 (Err e) (inr (inr (e, unread, refl)))

  pub next_file : (holding now : Option Holding) (one both : PageTally) (path : List ℕ) (paths left : List (List ℕ)) → now ≡ holding → Known holding first all one left → IfSome now (λ at. JoinsUnless (Ok both) (JoinsNext at one path)) → left ≡ path ∷ paths
      → Known holding first all both paths
  next_file None now one both path paths left same known is split = tt
  next_file (Some at) now one both path paths left same known is split =
      let next = subst (λ (h : Option Holding). IfSome h (λ at. JoinsUnless (Ok both) (JoinsNext at one path))) same is in
      leads_next at one path paths (subst (λ (ps : List (List ℕ)). Leads at first all one ps) split known) both next

  pub no_next : (holding now : Option Holding) (one : PageTally) (told : Told) (path : List ℕ) (paths left : List (List ℕ)) → now ≡ holding → Known holding first all one left → IfSome now (λ at. JoinsUnless (Err told) (JoinsNext at one path)) → left ≡ path ∷ paths
      → IfSome holding (λ at. JoinsUnless (Err told) (JoinsFiles at first all))
  no_next None now one told path paths left same known is split = tt
  no_next (Some at) now one told path paths left same known is split = λ no_want.
      let next = subst (λ (h : Option Holding). IfSome h (λ at. JoinsUnless (Err told) (JoinsNext at one path))) same is in
      leads_none at one path paths (subst (λ (ps : List (List ℕ)). Leads at first all one ps) split known) told.refusal (next no_want)

  pub no_next_named : (holding now : Option Holding) (one : PageTally) (told : Told) (path : List ℕ) (paths left : List (List ℕ)) → now ≡ holding → Known holding first all one left → IfSome now (λ at. JoinsUnless (Err told) (JoinsNext at one path)) → left ≡ path ∷ paths
      → (is_want told.refusal ≡ false → Says (NamesPath path) told.remark) → IfSome holding (λ at. is_want told.refusal ≡ false → NamesUnjoined at first all told.refusal told.remark)
  no_next_named None now one told path paths left same known is split names = tt
  no_next_named (Some at) now one told path paths left same known is split names = λ no_want.
      let next = subst (λ (h : Option Holding). IfSome h (λ at. JoinsUnless (Err told) (JoinsNext at one path))) same is in
      let leads = subst (λ (ps : List (List ℕ)). Leads at first all one ps) split known in
      leads.1 told.refusal told.remark (inl (next no_want, names no_want))

  pub all_files : (holding : Option Holding) (one : PageTally) (left : List (List ℕ)) → left ≡ [] → Known holding first all one left → IfSome holding (λ at. JoinsUnless (Ok one) (JoinsFiles at first all))
  all_files None one left none known = tt
  all_files (Some at) one left none known =
      let leads = subst (λ (ps : List (List ℕ)). Leads at first all one ps) none known in
      leads.0 (Ok one) refl

module _ (path : List ℕ) (paths : List (List ℕ)) where
  joins_at : (at : Holding) (one : PageTally) (r : Result PageTally Told) → IsTallyOf at path (Ok one) → JoinsUnless r (JoinsFiles at one paths) → JoinsUnless r (JoinsAllFiles at (path ∷ paths))
  joins_at at one (Ok t) is joins = inl (one, is, joins)
  joins_at at one (Err told) is joins = λ no_want. inl (one, is, joins no_want)

  pub from_first : (holding now : Option Holding) (one : PageTally) (r : Result PageTally Told) → now ≡ holding → IfSome holding (λ at. JoinsUnless (Ok one) (IsTallyOf at path)) → IfSome now (λ at. JoinsUnless r (JoinsFiles at one paths))
      → IfSome holding (λ at. JoinsUnless r (JoinsAllFiles at (path ∷ paths)))
  from_first None now one r same is joins = tt
  from_first (Some at) now one r same is joins = joins_at at one r is (subst (λ (h : Option Holding). IfSome h (λ at. JoinsUnless r (JoinsFiles at one paths))) same joins)

  pub no_first : (holding : Option Holding) (told : Told) → IfSome holding (λ at. JoinsUnless (Err told) (IsTallyOf at path)) → IfSome holding (λ at. JoinsUnless (Err told) (JoinsAllFiles at (path ∷ paths)))
  no_first None told is = tt
  no_first (Some at) told is = λ no_want. inr (told.refusal, is no_want, refl)

  named_at : (at : Holding) (one : PageTally) (r : Result PageTally Told) → IsTallyOf at path (Ok one) → RemarksUnjoined at one paths r → RemarksUnjoinedOf at (path ∷ paths) r
  named_at at one (Ok t) is names = tt
  named_at at one (Err told) is names = λ no_want. inr (one, is, names no_want)

  pub from_first_named : (holding now : Option Holding) (one : PageTally) (r : Result PageTally Told) → now ≡ holding → IfSome holding (λ at. JoinsUnless (Ok one) (IsTallyOf at path)) → IfSome now (λ at. RemarksUnjoined at one paths r)
      → IfSome holding (λ at. RemarksUnjoinedOf at (path ∷ paths) r)
  from_first_named None now one r same is names = tt
  from_first_named (Some at) now one r same is names = named_at at one r is (subst (λ (h : Option Holding). IfSome h (λ at. RemarksUnjoined at one paths r)) same names)

  pub no_first_named : (holding : Option Holding) (told : Told) → IfSome holding (λ at. JoinsUnless (Err told) (IsTallyOf at path)) → (is_want told.refusal ≡ false → Says (NamesPath path) told.remark)
      → IfSome holding (λ at. is_want told.refusal ≡ false → NamesUnjoinedOf at (path ∷ paths) told.refusal told.remark)
  no_first_named None told is names = tt
  no_first_named (Some at) told is names = λ no_want. inl (is no_want, names no_want)

-- ---- the report

reported_at : (at : Holding) (paths : List (List ℕ)) (t : PageTally) (r : Result Outcome Told) → JoinsAllFiles at paths (Ok t) → GivesOne r (λ came. came ≡ report_joined (Ok t)) → GivesOne r (IsJoinReport at paths)
unfolding IsJoinReport
reported_at at paths t (Ok o) joins gives = (Ok t, joins, gives)
reported_at at paths t (Err told) joins gives = λ no_want. (Ok t, joins, gives no_want)

pub reported : (holding : Option Holding) (paths : List (List ℕ)) (t : PageTally) (r : Result Outcome Told) → IfSome holding (λ at. JoinsUnless (Ok t) (JoinsAllFiles at paths)) → GivesOne r (λ came. came ≡ report_joined (Ok t)) → IfSome holding (λ at. GivesOne r (IsJoinReport at paths))
reported None paths t r joins gives = tt
reported (Some at) paths t r joins gives = reported_at at paths t r joins gives

refused_at : (at : Holding) (paths : List (List ℕ)) (told : Told) → JoinsUnless (Err told) (JoinsAllFiles at paths) → GivesOne (Err told) (IsJoinReport at paths)
unfolding IsJoinReport
refused_at at paths told joins = λ no_want. (Err told.refusal, joins no_want, refl)

pub refused : (holding : Option Holding) (paths : List (List ℕ)) (told : Told) → IfSome holding (λ at. JoinsUnless (Err told) (JoinsAllFiles at paths)) → IfSome holding (λ at. GivesOne (Err told) (IsJoinReport at paths))
refused None paths told joins = tt
refused (Some at) paths told joins = refused_at at paths told joins

-- the first of those that are left, and those behind it
pub first_left : {X : Type 0} (now : X → List ℕ) (xs : List X) (i : ℕ) (z : X) → i < length xs → map now (drop i xs) ≡ now (get_or xs i z) ∷ map now (drop (i + 1) xs)
first_left now xs i z inside =
    let left : drop i xs ≡ get_or xs i z ∷ drop (i + 1) xs = rw add-one (drop-cons xs i z inside) in
    ap (map now) left
