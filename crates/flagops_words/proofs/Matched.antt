-- What `clap` is proved to read of the words, as the command that they ask for.
use Rattle.std.proofs.Common.{◌≡◌, ◌≢◌, ◌⊎◌, ◌||◌, Bool, cond, true, false, is_some, List, [], ◌∷◌, length, map, Option, Some, None, ap, refl, subst, sym, ◌∙◌, inl, inr}
use Rattle.std.specs.Prelude.{codes, option_and_then}
use Rattle.std.specs.Str.{bytes_eq}
use Rattle.clap.proofs.WalkLemmas.{first_value-rows, raw_values-rows}
use Rattle.clap.specs.Walk.{Row, first_of}
use Rattle.clap.specs.Words.{App, HasMatchesOf, IsAmong, Kinds, Text, is_simple, is_simple_and_free, fault_of, subcommand_of, subcommand_rows_of}
use Rattle.clap.specs.declared.error.kind.ErrorKind.{ErrorKind}
use Rattle.clap.specs.declared.error.kind.ErrorKind.TheVariants.{InvalidSubcommand, InvalidValue, MissingRequiredArgument, OutOfMemory, ValueValidation}
use Rattle.clap.specs.declared.parser.matches.ArgMatches.{ArgMatches}
use Rattle.flagops_words.specs.Asked.{Asked}
use Rattle.flagops_words.proofs.Named.{faultless}
use Rattle.flagops_words.specs.Words.{IsToldBy, applied_in, apply_fault, apply_in, asked_by, asked_in, asked_of, faults_of, apply_app, bucket_app, bucket_in, completions_app, completions_in, drive_app, drive_in, flag_in, if_any, is_read, is_stray, keep_in, kind_fault, kind_fault_in, kind_in, mistake_of, plan_app, plan_in, price_app, price_in, resolve_app, resolve_in, rollout_in, shell_in, site_in, unless, verify_app, verify_in, flagops_app}

pub ruleset rows = (first_value-rows, raw_values-rows)

is_plain : is_simple flagops_app ≡ true
unfolding flagops_app bucket_app price_app resolve_app plan_app verify_app apply_app drive_app completions_app
is_plain = refl

is_free : is_simple_and_free flagops_app ≡ true
unfolding flagops_app bucket_app price_app resolve_app plan_app verify_app apply_app drive_app completions_app
is_free = refl

-- a command that is read has a kind of value where it wants one
some_kind : {X Y Z A : Type 0} (o : Option X) (p : Option Y) (q : Option Z) (next : X → Y → Z → Option A) (a : A)
    → option_and_then (λ x. option_and_then (λ y. option_and_then (next x y) q) p) o ≡ Some a → is_some q ≡ true
some_kind None p q next a e = cc
some_kind (Some x) None q next a e = cc
some_kind (Some x) (Some y) None next a e = cc
some_kind (Some x) (Some y) (Some z) next a e = refl

has_kind : (rows : List Row) (a : Asked) → resolve_in rows ≡ Some a → is_some (kind_in rows) ≡ true
has_kind rows a e = some_kind (first_of (codes "DOC") rows) (first_of (codes "KEY") rows) (kind_in rows) _ a e

some_shell : {X A : Type 0} (o : Option X) (next : X → A) (a : A) → option_and_then (λ x. Some (next x)) o ≡ Some a → is_some o ≡ true
some_shell None next a e = cc
some_shell (Some x) next a e = refl

has_shell : (rows : List Row) (a : Asked) → completions_in rows ≡ Some a → is_some (shell_in rows) ≡ true
has_shell rows a e = some_shell (shell_in rows) _ a e

none_some : {X : Type 0} {x : X} → None ≡ Some x → ⊥
none_some e = cc

some_site : {X A : Type 0} (o : Option X) (next : X → Option A) (a : A) → option_and_then next o ≡ Some a → is_some o ≡ true
some_site None next a e = cc
some_site (Some x) next a e = refl

no_apply_fault : (rows : List Row) (a : Asked) → apply_in rows ≡ Some a → apply_fault rows ≡ []
no_apply_fault rows a e = go (flag_in (codes "keep") rows) (is_stray rows) e
  where
    go : (keeps stray : Bool) → cond keeps (keep_in rows) (cond stray None (applied_in rows)) ≡ Some a
        → cond keeps [] (cond stray (MissingRequiredArgument ∷ []) (unless ValueValidation (is_some (site_in rows)))) ≡ []
    go true stray h = refl
    go false true h = absurd (none_some h)
    go false false h = rw (some_site (site_in rows) _ a h) refl

-- what is read of a command other than the three that have a mistake of their own
reads_other : (rows : List Row) (p b v l d : Bool) (a : Asked)
    → cond p (price_in rows) (cond b (bucket_in rows) (cond v (verify_in rows) (cond l (plan_in rows) (cond d (drive_in rows) None)))) ≡ Some a
    → unless InvalidSubcommand (p || (b || (v || (l || d)))) ≡ []
reads_other rows true b v l d a e = refl
reads_other rows false true v l d a e = refl
reads_other rows false false true l d a e = refl
reads_other rows false false false true d a e = refl
reads_other rows false false false false true a e = refl
reads_other rows false false false false false a e = absurd (none_some e)

no_fault_in : (name : Text) (rows : List Row) (a : Asked) → asked_in (name, rows) ≡ Some a → kind_fault_in (name, rows) ≡ []
no_fault_in name rows a e = go (bytes_eq name (codes "resolve")) (bytes_eq name (codes "completions")) (bytes_eq name (codes "apply")) e
  where
    go : (b c d : Bool)
        → cond b (resolve_in rows) (cond c (completions_in rows) (cond d (apply_in rows) (cond (bytes_eq name (codes "price")) (price_in rows)
        (cond (bytes_eq name (codes "bucket")) (bucket_in rows) (rollout_in (name, rows)))))) ≡ Some a
        → cond b (unless InvalidValue (is_some (kind_in rows)))
        (cond c (unless InvalidValue (is_some (shell_in rows))) (cond d (apply_fault rows) (unless InvalidSubcommand (is_read name)))) ≡ []
    go true c d h = rw (has_kind rows a h) refl
    go false true d h = rw (has_shell rows a h) refl
    go false false true h = no_apply_fault rows a h
    go false false false h =
        reads_other rows (bytes_eq name (codes "price")) (bytes_eq name (codes "bucket")) (bytes_eq name (codes "verify")) (bytes_eq name (codes "plan"))
        (bytes_eq name (codes "drive")) a h

no_kind_fault : (named : Option (Text × List Row)) (a : Asked) → asked_of named ≡ Some a → kind_fault named ≡ []
no_kind_fault None a e = refl
no_kind_fault (Some (name, rows)) a e = no_fault_in name rows a e

-- words with which `clap` finds no fault, by what the matches hold
module _ (words : List Text) (app : App) (m : ArgMatches) (is : app ≡ flagops_app) (no_fault : is_simple_and_free app ≡ true → fault_of app words ≡ []) where
  none : fault_of flagops_app words ≡ []
  none = subst (λ (p : App). fault_of p words ≡ []) is (no_fault (ap is_simple_and_free is ∙ is_free))

  held : HasMatchesOf app words m → subcommand_rows_of m ≡ subcommand_of flagops_app words
  held matches = (matches (ap is_simple is ∙ is_plain)).1 ∙ ap (λ (p : App). subcommand_of p words) is

  -- they ask for what is read of them
  pub asked_by-read : (a : Asked) → HasMatchesOf app words m → Some a ≡ asked_of (subcommand_rows_of m) → asked_by words ≡ Some a
  unfolding asked_by faults_of
  asked_by-read a matches read =
      let asks : asked_of (subcommand_of flagops_app words) ≡ Some a = ap asked_of (sym (held matches)) ∙ sym read in
      rw (none, no_kind_fault (subcommand_of flagops_app words) a asks) asks

  -- and where nothing is read of them, one of them is a mistake
  pub told_by-kind : HasMatchesOf app words m → None ≡ asked_of (subcommand_rows_of m) → IsToldBy words (mistake_of (subcommand_rows_of m))
  unfolding asked_by faults_of
  told_by-kind matches read = elim (faultless words none) [
    | inl some ↦
        let bad : None ≡ Some some.0 = read ∙ ap asked_of (held matches) ∙ some.1 in
        absurd (none_some bad)
    | inr fault ↦
        let same : mistake_of (subcommand_rows_of m) ≡ mistake_of (subcommand_of flagops_app words) = ap mistake_of (held matches) in
        inr (rw (none, fault) refl, rw (none, fault) (inl same))
  ]

by_fault : (words : List Text) (kind : ErrorKind) (kinds more : Kinds) → fault_of flagops_app words ≡ kinds → kind_fault (subcommand_of flagops_app words) ≡ more → IsAmong kind kinds
    → (asked_by words ≡ None) × IsAmong kind (faults_of words)
unfolding asked_by faults_of
by_fault words kind [] more e f h = absurd h
by_fault words kind (k ∷ ks) more e f h = (rw e refl, rw e h)

-- an error's kind is one of the faults of the words
pub told_by-kinds : (words : List Text) (app : App) (kind : ErrorKind) → app ≡ flagops_app → (is_simple_and_free app ≡ true → (kind ≡ OutOfMemory) ⊎ IsAmong kind (fault_of app words))
    → IsToldBy words kind
told_by-kinds words app kind is fails = elim (fails (ap is_simple_and_free is ∙ is_free)) [
  | inl memory ↦ inl memory
  | inr among ↦ inr (by_fault words kind _ _ refl refl (subst (λ (p : App). IsAmong kind (fault_of p words)) is among))
]

-- texts that are given, where there are none and where there are some
pub no_texts : {B : Type 0} (now : B → Text) (given : List B) (all : Option (List Text)) → Some (map now given) ≡ all → length given ≡ 0 → None ≡ option_and_then if_any all
no_texts now [] all e h = ap (option_and_then if_any) e
no_texts now (t ∷ ts) all e h = cc

pub any_texts : {B : Type 0} (now : B → Text) (given : List B) (all : Option (List Text)) → Some (map now given) ≡ all → length given ≢ 0 → Some (map now given) ≡ option_and_then if_any all
any_texts now [] all e h = absurd (h refl)
any_texts now (t ∷ ts) all e h = ap (option_and_then if_any) e
