-- What was loaded, and a refusal to load it, as a listed command has them.
use Rattle.std.proofs.Common.{◌≡◌, ◌∙◌, ap, ℕ, List, Option, Some, None, IfSome, true, false, Bool, refl, sym, ◌||◌}
use Rattle.std.specs.Prelude.{Result, Ok, Err}
use Rattle.bucket_core.specs.Rule.{Entries}
use Rattle.book_core.specs.Book.{Contents}
use Rattle.flag_text.specs.Shape.{Shape}
use Rattle.flagops_shell.proofs.Lifted.{given_one, given_so, not_want, refused_one, refused_so}
use Rattle.flagops_shell.specs.Diagnostic.{Says}
use Rattle.flagops_shell.specs.Files.{Holding, load_of}
use Rattle.flagops_shell.specs.Outcomes.{Lifts, refused_by}
use Rattle.flagops_shell.specs.Report.{Report, outcome_view}
use Rattle.flagops_shell.specs.declared.outcome.Outcome.{Outcome}
use Rattle.flagops_files.proofs.Told.{told_of, told_of_first}
use Rattle.flagops_files.specs.Documents as documents
use Rattle.flagops_files.specs.Loading as loading
use Rattle.flagops_files.specs.Loading.{max_text}
use Rattle.flagops_files.specs.Question as questions
use Rattle.flagops_files.specs.Refusal as files
use Rattle.flagops_files.specs.declared.refusal.Call.{Call}
use Rattle.flagops_files.specs.Told.{NamesFirst, NamesSubject, Subject}
use Rattle.flagops_files.specs.declared.refusal.Refusal.TheVariants as file
use Rattle.flagops_rollouts.specs.Attempts as rolling
use Rattle.flagops_rollouts.specs.Refusal as rollouts
use Rattle.flagops_rollouts.specs.declared.refusal.RolloutCall.{RolloutCall}
use Rattle.flagops_rollouts.specs.declared.refusal.RolloutRefusal.{RolloutRefusal}
use Rattle.flagops_commands.specs.Loaded.{AreFlagsAt, book_at, bytes_at, choice_at, replaceable_at, rule_at, tree_at}
use Rattle.flagops_commands.specs.Attempts.{rolled}
use Rattle.flagops_commands.specs.Refusal.{Refused, call_of, is_unread, is_want, loads, rolls, unwritable}
use Rattle.flagops_commands.specs.declared.refusal.ListedRefusal.TheVariants.{Load, Rollout}

module _ (old : Option Holding) (path : List ℕ) where
  pub tree_there : (limit : ℕ) (it : Shape) → IfSome old (λ at. loading.tree_at at path limit ≡ Ok it) → IfSome old (λ at. tree_at at path limit ≡ Ok it)
  unfolding tree_at
  tree_there limit it loaded = given_so files.is_want is_want Load (λ e. refl) (λ at. loading.tree_at at path limit) old it loaded

  pub no_tree : (limit : ℕ) (e : files.Refused) (t : Refused) → t.refusal ≡ Load e.refusal → IfSome old (λ at. files.is_want e.refusal ≡ false → loading.tree_at at path limit ≡ Err e.refusal)
      → IfSome old (λ at. is_want t.refusal ≡ false → tree_at at path limit ≡ Err t.refusal)
  unfolding tree_at
  no_tree limit e t is loaded = refused_so files.is_want is_want Load (λ e. refl) (λ at. loading.tree_at at path limit) old e t is loaded

  pub rule_there : (it : Entries) → IfSome old (λ at. loading.rule_at at path ≡ Ok it) → IfSome old (λ at. rule_at at path ≡ Ok it)
  unfolding rule_at
  rule_there it loaded = given_so files.is_want is_want Load (λ e. refl) (λ at. loading.rule_at at path) old it loaded

  pub no_rule : (e : files.Refused) (t : Refused) → t.refusal ≡ Load e.refusal → IfSome old (λ at. files.is_want e.refusal ≡ false → loading.rule_at at path ≡ Err e.refusal)
      → IfSome old (λ at. is_want t.refusal ≡ false → rule_at at path ≡ Err t.refusal)
  unfolding rule_at
  no_rule e t is loaded = refused_so files.is_want is_want Load (λ e. refl) (λ at. loading.rule_at at path) old e t is loaded

  pub choice_there : (key : List ℕ) (it : ℕ × Option (List ℕ)) → IfSome old (λ at. loading.choice_at at path key ≡ Ok it) → IfSome old (λ at. choice_at at path key ≡ Ok it)
  unfolding choice_at
  choice_there key it loaded = given_so files.is_want is_want Load (λ e. refl) (λ at. loading.choice_at at path key) old it loaded

  pub no_choice : (key : List ℕ) (e : files.Refused) (t : Refused) → t.refusal ≡ Load e.refusal → IfSome old (λ at. files.is_want e.refusal ≡ false → loading.choice_at at path key ≡ Err e.refusal)
      → IfSome old (λ at. is_want t.refusal ≡ false → choice_at at path key ≡ Err t.refusal)
  unfolding choice_at
  no_choice key e t is loaded = refused_so files.is_want is_want Load (λ e. refl) (λ at. loading.choice_at at path key) old e t is loaded

  pub book_there : (it : Contents) → IfSome old (λ at. questions.book_at at path ≡ Ok it) → IfSome old (λ at. book_at at path ≡ Ok it)
  unfolding book_at
  book_there it loaded = given_so files.is_want is_want Load (λ e. refl) (λ at. questions.book_at at path) old it loaded

  pub no_book : (e : files.Refused) (t : Refused) → t.refusal ≡ Load e.refusal → IfSome old (λ at. files.is_want e.refusal ≡ false → questions.book_at at path ≡ Err e.refusal)
      → IfSome old (λ at. is_want t.refusal ≡ false → book_at at path ≡ Err t.refusal)
  unfolding book_at
  no_book e t is loaded = refused_so files.is_want is_want Load (λ e. refl) (λ at. questions.book_at at path) old e t is loaded

  pub replaceable_there : (it : Unit {0}) → IfSome old (λ at. questions.replaceable_at at path ≡ Ok it) → IfSome old (λ at. replaceable_at at path ≡ Ok it)
  unfolding replaceable_at
  replaceable_there it loaded = given_so files.is_want is_want Load (λ e. refl) (λ at. questions.replaceable_at at path) old it loaded

  pub not_replaceable : (e : files.Refused) (t : Refused) → t.refusal ≡ Load e.refusal → IfSome old (λ at. files.is_want e.refusal ≡ false → questions.replaceable_at at path ≡ Err e.refusal)
      → IfSome old (λ at. is_want t.refusal ≡ false → replaceable_at at path ≡ Err t.refusal)
  unfolding replaceable_at
  not_replaceable e t is loaded = refused_so files.is_want is_want Load (λ e. refl) (λ at. questions.replaceable_at at path) old e t is loaded

  pub bytes_there : (bytes : List ℕ) → IfSome old (λ at. refused_by file.Load (load_of at path max_text) ≡ Ok bytes) → IfSome old (λ at. bytes_at at path ≡ Ok bytes)
  bytes_there bytes loaded = given_so files.is_want is_want Load (λ e. refl) (λ at. refused_by file.Load (load_of at path max_text)) old bytes loaded

  pub no_bytes : (e : files.Refused) (t : Refused) → t.refusal ≡ Load e.refusal → IfSome old (λ at. files.is_want e.refusal ≡ false → refused_by file.Load (load_of at path max_text) ≡ Err e.refusal)
      → IfSome old (λ at. is_want t.refusal ≡ false → bytes_at at path ≡ Err t.refusal)
  no_bytes e t is loaded = refused_so files.is_want is_want Load (λ e. refl) (λ at. refused_by file.Load (load_of at path max_text)) old e t is loaded

  pub marked_there : (floats : Bool) (flags : documents.Marked) → IfSome old (λ at. documents.AreFlagsAt floats at path (Ok flags)) → IfSome old (λ at. AreFlagsAt floats at path (Ok flags))
  unfolding AreFlagsAt
  marked_there floats flags loaded = given_one files.is_want is_want Load (λ e. refl) (λ at. documents.AreFlagsAt floats at path) old flags loaded

  pub no_marked : (floats : Bool) (e : files.Refused) (t : Refused) → t.refusal ≡ Load e.refusal → IfSome old (λ at. files.is_want e.refusal ≡ false → documents.AreFlagsAt floats at path (Err e.refusal))
      → IfSome old (λ at. is_want t.refusal ≡ false → AreFlagsAt floats at path (Err t.refusal))
  unfolding AreFlagsAt
  no_marked floats e t is loaded = refused_one files.is_want is_want Load (λ e. refl) (λ at. documents.AreFlagsAt floats at path) old e t is loaded

-- ---- a refusal is told as it was

module _ (e : files.Refused) (t : Refused) where
  pub told : (subject : Subject) → t.refusal ≡ Load e.refusal → t.remark ≡ e.remark → (files.is_want e.refusal ≡ false → Says (NamesSubject subject) e.remark) → is_want t.refusal ≡ false → Says (NamesSubject subject) t.remark
  told subject is said named = told_of files.is_want is_want Load (λ e. refl) e t is said subject named

  -- a file that is not written is refused as it was
  pub unwritten : t.refusal ≡ Load e.refusal → (files.is_want e.refusal ≡ false → e.refusal ≡ files.unwritable) → is_want t.refusal ≡ false → t.refusal ≡ unwritable
  unwritten is fault no_want = is ∙ ap Load (fault (not_want files.is_want is_want Load (λ e. refl) e t is no_want))

-- ---- a command on rollouts

-- the first that it refuses is told so
pub rolled_told : (old : Option Holding) (xs : Holding → rolling.Attempts) (e : rollouts.Refused) (t : Refused) → t.refusal ≡ Rollout e.refusal → t.remark ≡ e.remark → IfSome old (λ at. rollouts.is_want e.refusal ≡ false → NamesFirst (xs at) e.refusal e.remark)
    → IfSome old (λ at. is_want t.refusal ≡ false → NamesFirst (rolled (xs at)) t.refusal t.remark)
rolled_told None xs e t is said names = tt
rolled_told (Some at) xs e t is said names = told_of_first rollouts.is_want is_want Rollout (λ e. refl) e t is said (xs at) names

module _ (P : Holding → Result Report RolloutRefusal → Type 0) (old : Option Holding) where
  pub rolled_there : (o : Outcome) → IfSome old (λ at. P at (Ok (outcome_view o))) → IfSome old (λ at. Lifts Rollout (P at) (Ok (outcome_view o)))
  rolled_there o gives = given_one rollouts.is_want is_want Rollout (λ e. refl) P old (outcome_view o) gives

  pub not_rolled : (e : rollouts.Refused) (t : Refused) → t.refusal ≡ Rollout e.refusal → IfSome old (λ at. rollouts.is_want e.refusal ≡ false → P at (Err e.refusal)) → IfSome old (λ at. is_want t.refusal ≡ false → Lifts Rollout (P at) (Err t.refusal))
  not_rolled e t is gives = refused_one rollouts.is_want is_want Rollout (λ e. refl) P old e t is gives

-- ---- what refused, and whether a file could not be read, is as it was

pub comes : (calls : Call → Bool) (e : files.Refused) (t : Refused) → t.refusal ≡ Load e.refusal → calls (files.call_of e.refusal) ≡ true → loads calls (call_of t.refusal) ≡ true
comes calls e t is came = ap (λ r. loads calls (call_of r)) is ∙ came

pub failed_load : (old new : Bool) (e : files.Refused) (t : Refused) → t.refusal ≡ Load e.refusal → new ≡ (old || files.is_unread e.refusal) → new ≡ (old || is_unread t.refusal)
failed_load old new e t is failed = failed ∙ ap (λ b. old || b) (sym (ap is_unread is))

-- the same of a command on rollouts
pub rolls_from : (calls : RolloutCall → Bool) (e : rollouts.Refused) (t : Refused) → t.refusal ≡ Rollout e.refusal → calls (rollouts.call_of e.refusal) ≡ true → rolls calls (call_of t.refusal) ≡ true
rolls_from calls e t is came = ap (λ r. rolls calls (call_of r)) is ∙ came

pub failed_rollout : (old new : Bool) (e : rollouts.Refused) (t : Refused) → t.refusal ≡ Rollout e.refusal → new ≡ (old || rollouts.is_unread e.refusal) → new ≡ (old || is_unread t.refusal)
failed_rollout old new e t is failed = failed ∙ ap (λ b. old || b) (sym (ap is_unread is))
