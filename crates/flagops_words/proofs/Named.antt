-- Words with which `clap` finds no fault ask for a command, or one of them is a mistake.
use Rattle.std.proofs.Common.{◌≡◌, ◌&&◌, ◌||◌, ◌⊎◌, ◌↔◌, inl, inr, ℕ, Bool, cond, true, false, refl, subst, sym, List, [], ◌∷◌, Option, Some, None, not, codes, is_some, option_map, drop}
use Rattle.std.specs.Prelude.{option_and_then, slice_get}
use Rattle.std.specs.List.{find, list_all, list_any}
use Rattle.std.specs.Option.{option_map_or}
use Rattle.std.specs.Str.{bytes_eq}
use Rattle.std.specs.Str.Parse.{digits_value, without_leading_plus}
use Rattle.std.proofs.lemmas.Slice.Eq.{bytes_eq-Decides}
use Rattle.clap.proofs.WalkLemmas.{both}
use Rattle.clap.specs.Facts.{explicit_source}
use Rattle.clap.specs.Faults.{entered_fault, fault_of, level_fault, settle_fault, defaults_fault, walk_fault}
use Rattle.clap.specs.Kinds.{check_kinds}
use Rattle.clap.specs.Simple.{App, Shape, built, entered, label_of, names_of, rows_at, subcommand_of}
use Rattle.clap.specs.Takes.{is_given}
use Rattle.clap.specs.ValueTests.{is_unsigned_in}
use Rattle.clap.specs.declared.error.kind.ErrorKind.{ErrorKind}
use Rattle.flag_defs.specs.declared.kind.Kind.{Kind}
use Rattle.clap.specs.Walk.{Row, Rule, Text, answers_to, first_of, nothing_held, rows_after, settled, walk, walk_from}
use Rattle.flagops_words.specs.Asked.{Asked, bucket, price, resolve, verify, apply, keep, plan, drive, completions}
use Rattle.flagops_words.specs.Kinds.{kind_spelled}
use Rattle.flagops_words.specs.Shell.{shell_named}
use Rattle.flagops_words.specs.declared.shell.Shell.{Shell}
use Rattle.flagops_words.specs.Numbers.{max_16, max_32, max_moment, number_in}
use Rattle.flagops_words.specs.Words.{apply_app, asked_in, asked_of, bucket_app, completions_app, drive_app, flag_in, flagops_app, has_floats, is_json, is_stray, is_strict, kind_fault, mistake_of, plan_app, price_app, refine_in, refuses_doubts, resolve_app, verify_app}
use Rattle.flagops_words.proofs.Filled.{Each, Filled, IsFull, Stores, filled_level, none_both, stores}
use Rattle.flagops_words.proofs.Unhelped.{IsNoHelp, no_help}

-- ---- one command

check_none : (a b c : Bool) → check_kinds a b c ≡ [] → (b ≡ false) × (c ≡ false)
check_none true b c e = cc
check_none false true c e = cc
check_none false false true e = cc
check_none false false false e = (refl, refl)

and_false : (b : Bool) → (b && false) ≡ false
and_false true = refl
and_false false = refl

-- the checks after the walk find nothing at fault
level_checked : (s : Shape) (names : _) (words : List Text) (has_subcommand : Bool) (below : _) → level_fault s names nothing_held words has_subcommand below ≡ []
    → ((not has_subcommand && s.subcommand_required) ≡ false)
    × ((not (s.subcommand_negates_reqs && has_subcommand) && list_any (λ a. a.required && not (is_given a.id (rows_after s.rules names words))) s.rules) ≡ false)
level_checked s names words has_subcommand below e =
    let end = (walk s.rules names nothing_held words).held in
    let after = none_both below _ (none_both (walk_fault s names (walk_from nothing_held) words) _ e).1 in
    let defaults = none_both (settle_fault s.rules s.args_override_self end) _ after.1 in
    check_none _ _ _ (none_both (defaults_fault (settled s.rules end).rows s.rules) _ defaults.1).1

abbrev HasGiven : Shape → List Row → Type 0
HasGiven s rows = list_any (λ a. a.required && not (is_given a.id rows)) s.rules ≡ false

level_given : (s : Shape) (words : List Text) → level_fault s [] nothing_held words false [] ≡ [] → HasGiven s (rows_after s.rules [] words)
level_given s words e = rw (and_false s.subcommand_negates_reqs) at (level_checked s [] words false [] e).1

-- a word that is required is given
needed : (given rest : Bool) → ((true && not given) || rest) ≡ false → (given ≡ true) × (rest ≡ false)
needed true rest e = (refl, e)
needed false rest e = cc

head_taken : {Q : Text → Type 0} (vs : List Text) → IsFull vs → Each Q vs → (v : Text) × (slice_get vs 0 ≡ Some v) × Q v
head_taken [] h q = absurd h
head_taken (v ∷ vs) h q = (v, refl, q.0)

-- what is given has a value, which is as it has to be
value_taken : (P : Text → Text → Type 0) (id : Text) (rows : List Row) → Filled P rows → is_given id rows ≡ true → (v : Text) × (first_of id rows ≡ Some v) × P id v
value_taken P id [] p e = cc
value_taken P id (r ∷ rs) p e = go (bytes_eq r.id id) refl e (value_taken P id rs p.1)
  where
    go : (b : Bool) → bytes_eq r.id id ≡ b → option_map_or (λ (x : Row). explicit_source x.source) (cond b (Some r) (find (λ x. bytes_eq x.id id) rs)) false ≡ true
        → (is_given id rs ≡ true → (v : Text) × (first_of id rs ≡ Some v) × P id v)
        → (v : Text) × (option_and_then (λ (x : Row). slice_get x.values 0) (cond b (Some r) (find (λ x. bytes_eq x.id id) rs)) ≡ Some v) × P id v
    go true is e rest = head_taken r.values p.0.0 (subst (λ (k : Text). Each (P k) r.values) ((bytes_eq-Decides r.id id).0 is) p.0.1)
    go false is e rest = rest e

-- a value of which nothing is asked
abbrev Any : Text → Text → Type 0
Any id v = Unit {0}

any_stored : (c : List Rule) → list_all stores c ≡ true → Each (Stores Any) c
any_stored [] e = tt
any_stored (a ∷ c) e = (((both _ _ e).0, λ v e. tt), any_stored c (both _ _ e).1)

value_given : (id : Text) (rows : List Row) → Filled Any rows → is_given id rows ≡ true → (v : Text) × (first_of id rows ≡ Some v)
value_given id rows p e = let taken = value_taken Any id rows p e in (taken.0, taken.1)

-- they ask for a command, or one of them is a mistake
abbrev pub IsRead : Option (Text × List Row) → Type 0
IsRead named = ((a : Asked) × (asked_of named ≡ Some a)) ⊎ (kind_fault named ≡ mistake_of named ∷ [])

-- the command reads words without a fault
abbrev Asks : Shape → Type 0
Asks s = (words : List Text) → level_fault s [] nothing_held words false [] ≡ [] → IsRead (Some (rows_at s words))

bucket_read : (name : Text) (rows : List Row) (rule key : Text) → name ≡ codes "bucket" → first_of (codes "RULE") rows ≡ Some rule → first_of (codes "KEY") rows ≡ Some key
    → asked_in (name, rows) ≡ Some (bucket rule key (is_json rows))
bucket_read name rows rule key is rule_is key_is = rw (is, rule_is, key_is) refl

bucket_asks : (s : Shape) → s.name ≡ codes "bucket" → list_all stores s.rules ≡ true
    → ((rows : List Row) → HasGiven s rows → (is_given (codes "RULE") rows ≡ true) × (is_given (codes "KEY") rows ≡ true)) → Asks s
bucket_asks s name stored given words e =
    let rows = rows_after s.rules [] words in
    let full = filled_level Any s [] (any_stored s.rules stored) words false [] e in
    let both = given rows (level_given s words e) in
    let rule = value_given (codes "RULE") rows full both.0 in
    let key = value_given (codes "KEY") rows full both.1 in
    inl (bucket rule.0 key.0 (is_json rows), bucket_read s.name rows rule.0 key.0 name rule.1 key.1)

price_read : (name : Text) (rows : List Row) (old new request keys : Text) → name ≡ codes "price" → first_of (codes "OLD") rows ≡ Some old → first_of (codes "NEW") rows ≡ Some new
    → first_of (codes "REQUEST") rows ≡ Some request → first_of (codes "KEYS") rows ≡ Some keys → asked_in (name, rows) ≡ Some (price old new request keys (is_json rows))
price_read name rows old new request keys is old_is new_is request_is keys_is = rw (is, old_is, new_is, request_is, keys_is) refl

price_asks : (s : Shape) → s.name ≡ codes "price" → list_all stores s.rules ≡ true
    → ((rows : List Row) → HasGiven s rows → (is_given (codes "OLD") rows ≡ true) × (is_given (codes "NEW") rows ≡ true) × (is_given (codes "REQUEST") rows ≡ true) × (is_given (codes "KEYS") rows ≡ true)) → Asks s
price_asks s name stored given words e =
    let rows = rows_after s.rules [] words in
    let full = filled_level Any s [] (any_stored s.rules stored) words false [] e in
    let all = given rows (level_given s words e) in
    let old = value_given (codes "OLD") rows full all.0 in
    let new = value_given (codes "NEW") rows full all.1 in
    let request = value_given (codes "REQUEST") rows full all.2 in
    let keys = value_given (codes "KEYS") rows full all.3 in
    inl (price old.0 new.0 request.0 keys.0 (is_json rows), price_read s.name rows old.0 new.0 request.0 keys.0 name old.1 new.1 request.1 keys.1)

-- each value of this argument is a number within these bounds
abbrev IsNumber : Text → ℕ → ℕ → Text → Text → Type 0
IsNumber name least most id v = bytes_eq id name ≡ true → is_unsigned_in least most v ≡ true

passes : (b : Bool) (k : ErrorKind) → cond b [] (k ∷ []) ≡ [] → b ≡ true
passes true k e = refl
passes false k e = cc

number_read : (least most : ℕ) (word : Text) → is_unsigned_in least most word ≡ true → (n : ℕ) × (number_in least most word ≡ Some n)
number_read least most word e = (digits_value 10 (without_leading_plus word), rw e refl)

abbrev Moment : Text → Text → Type 0
Moment = IsNumber (codes "MOMENT") 0 max_moment

resolve_read : (name : Text) (rows : List Row) (document key word default context number : Text) (moment : ℕ) (kind : Option Kind) → name ≡ codes "resolve"
    → first_of (codes "DOC") rows ≡ Some document → first_of (codes "KEY") rows ≡ Some key → first_of (codes "KIND") rows ≡ Some word → first_of (codes "DEFAULT") rows ≡ Some default
    → first_of (codes "CONTEXT") rows ≡ Some context → first_of (codes "MOMENT") rows ≡ Some number → number_in 0 max_moment number ≡ Some moment → kind_spelled word ≡ kind → IsRead (Some (name, rows))
resolve_read name rows document key word default context number moment (Some kind) is document_is key_is word_is default_is context_is number_is moment_is kind_is =
    inl (resolve document key kind default context moment (has_floats rows), rw (is, document_is, key_is, word_is, kind_is, default_is, context_is, number_is, moment_is) refl)
resolve_read name rows document key word default context number moment None is document_is key_is word_is default_is context_is number_is moment_is kind_is =
    inr (rw (is, word_is, kind_is) refl)

resolve_asks : (s : Shape) → s.name ≡ codes "resolve" → Each (Stores Moment) s.rules
    → ((rows : List Row) → HasGiven s rows → (is_given (codes "DOC") rows ≡ true) × (is_given (codes "KEY") rows ≡ true) × (is_given (codes "KIND") rows ≡ true)
    × (is_given (codes "DEFAULT") rows ≡ true) × (is_given (codes "CONTEXT") rows ≡ true) × (is_given (codes "MOMENT") rows ≡ true)) → Asks s
resolve_asks s name stored given words e =
    let rows = rows_after s.rules [] words in
    let full = filled_level Moment s [] stored words false [] e in
    let all = given rows (level_given s words e) in
    let document = value_taken Moment (codes "DOC") rows full all.0 in
    let key = value_taken Moment (codes "KEY") rows full all.1 in
    let kind = value_taken Moment (codes "KIND") rows full all.2 in
    let default = value_taken Moment (codes "DEFAULT") rows full all.3 in
    let context = value_taken Moment (codes "CONTEXT") rows full all.4 in
    let moment = value_taken Moment (codes "MOMENT") rows full all.5 in
    let number = number_read 0 max_moment moment.0 (moment.2 refl) in
    resolve_read s.name rows document.0 key.0 kind.0 default.0 context.0 moment.0 number.0 (kind_spelled kind.0) name document.1 key.1 kind.1 default.1 context.1 moment.1 number.1 refl

-- an argument that may be left out is not given, or has a value, which is as it has to be
given_or_not : (P : Text → Text → Type 0) (id : Text) (rows : List Row) → Filled P rows → (first_of id rows ≡ None) ⊎ ((v : Text) × (first_of id rows ≡ Some v) × P id v)
given_or_not P id [] p = inl refl
given_or_not P id (r ∷ rs) p = go (bytes_eq r.id id) refl (given_or_not P id rs p.1)
  where
    go : (b : Bool) → bytes_eq r.id id ≡ b → (first_of id rs ≡ None) ⊎ ((v : Text) × (first_of id rs ≡ Some v) × P id v)
        → (option_and_then (λ (x : Row). slice_get x.values 0) (cond b (Some r) (find (λ x. bytes_eq x.id id) rs)) ≡ None)
        ⊎ ((v : Text) × (option_and_then (λ (x : Row). slice_get x.values 0) (cond b (Some r) (find (λ x. bytes_eq x.id id) rs)) ≡ Some v) × P id v)
    go true is rest = inr (head_taken r.values p.0.0 (subst (λ (k : Text). Each (P k) r.values) ((bytes_eq-Decides r.id id).0 is) p.0.1))
    go false is rest = rest

abbrev Refine : Text → Text → Type 0
Refine = IsNumber (codes "M") 1 max_32

refine_read : (rows : List Row) → Filled Refine rows → (m : Option ℕ) × (refine_in rows ≡ Some m)
refine_read rows p = elim (given_or_not Refine (codes "M") rows p) [
  | inl none ↦ (None, rw none refl)
  | inr given ↦
      let number = number_read 1 max_32 given.0 (given.2 refl) in
      (Some number.0, rw (given.1, number.1) refl)
]

verify_read : (name : Text) (rows : List Row) (document request book file : Text) (refine : Option ℕ) → name ≡ codes "verify"
    → first_of (codes "DOC") rows ≡ Some document → first_of (codes "REQUEST") rows ≡ Some request → first_of (codes "BOOK") rows ≡ Some book → first_of (codes "PLAN") rows ≡ Some file
    → refine_in rows ≡ Some refine → asked_in (name, rows) ≡ Some (verify document request book file refine (is_strict rows) (is_json rows) (has_floats rows))
verify_read name rows document request book file refine is document_is request_is book_is file_is refine_is =
    rw (is, document_is, request_is, book_is, file_is, refine_is) refl

verify_asks : (s : Shape) → s.name ≡ codes "verify" → Each (Stores Refine) s.rules
    → ((rows : List Row) → HasGiven s rows → (is_given (codes "DOC") rows ≡ true) × (is_given (codes "REQUEST") rows ≡ true) × (is_given (codes "BOOK") rows ≡ true)
    × (is_given (codes "PLAN") rows ≡ true)) → Asks s
verify_asks s name stored given words e =
    let rows = rows_after s.rules [] words in
    let full = filled_level Refine s [] stored words false [] e in
    let all = given rows (level_given s words e) in
    let document = value_taken Refine (codes "DOC") rows full all.0 in
    let request = value_taken Refine (codes "REQUEST") rows full all.1 in
    let book = value_taken Refine (codes "BOOK") rows full all.2 in
    let file = value_taken Refine (codes "PLAN") rows full all.3 in
    let refine = refine_read rows full in
    inl (verify document.0 request.0 book.0 file.0 refine.0 (is_strict rows) (is_json rows) (has_floats rows), verify_read s.name rows document.0 request.0 book.0 file.0 refine.0 name document.1 request.1 book.1 file.1 refine.1)

plan_read : (name : Text) (rows : List Row) (document request book : Text) (refine : Option ℕ) → name ≡ codes "plan"
    → first_of (codes "DOC") rows ≡ Some document → first_of (codes "REQUEST") rows ≡ Some request → first_of (codes "BOOK") rows ≡ Some book
    → refine_in rows ≡ Some refine → asked_in (name, rows) ≡ Some (plan document request book refine (is_strict rows) (flag_in (codes "explain") rows) (has_floats rows))
plan_read name rows document request book refine is document_is request_is book_is refine_is = rw (is, document_is, request_is, book_is, refine_is) refl

plan_asks : (s : Shape) → s.name ≡ codes "plan" → Each (Stores Refine) s.rules
    → ((rows : List Row) → HasGiven s rows → (is_given (codes "DOC") rows ≡ true) × (is_given (codes "REQUEST") rows ≡ true) × (is_given (codes "BOOK") rows ≡ true)) → Asks s
plan_asks s name stored given words e =
    let rows = rows_after s.rules [] words in
    let full = filled_level Refine s [] stored words false [] e in
    let all = given rows (level_given s words e) in
    let document = value_taken Refine (codes "DOC") rows full all.0 in
    let request = value_taken Refine (codes "REQUEST") rows full all.1 in
    let book = value_taken Refine (codes "BOOK") rows full all.2 in
    let refine = refine_read rows full in
    inl (plan document.0 request.0 book.0 refine.0 (is_strict rows) (flag_in (codes "explain") rows) (has_floats rows), plan_read s.name rows document.0 request.0 book.0 refine.0 name document.1 request.1 book.1 refine.1)

-- the four words of `apply`, in its form with `--keep` and in the other
apply_read : (name : Text) (rows : List Row) (document file third fourth : Text) (refine site : Option ℕ) (keeps stray : Bool) → name ≡ codes "apply"
    → first_of (codes "DOC") rows ≡ Some document → first_of (codes "PLAN") rows ≡ Some file → first_of (codes "FLAG|REQUEST") rows ≡ Some third
    → first_of (codes "SITE|BOOK") rows ≡ Some fourth → refine_in rows ≡ Some refine → number_in 0 max_32 fourth ≡ site → flag_in (codes "keep") rows ≡ keeps → is_stray rows ≡ stray
    → IsRead (Some (name, rows))
apply_read name rows document file third fourth refine site true stray is document_is file_is third_is fourth_is refine_is site_is keeps_is stray_is =
    inl (keep document file third fourth (flag_in (codes "write") rows) refine (refuses_doubts rows) (has_floats rows), rw (is, keeps_is, document_is, file_is, third_is, fourth_is, refine_is) refl)
apply_read name rows document file third fourth refine site false true is document_is file_is third_is fourth_is refine_is site_is keeps_is stray_is =
    inr (rw (is, keeps_is, stray_is) refl)
apply_read name rows document file third fourth refine (Some site) false false is document_is file_is third_is fourth_is refine_is site_is keeps_is stray_is =
    inl (apply document file third site (is_strict rows) (has_floats rows), rw (is, keeps_is, stray_is, document_is, file_is, third_is, fourth_is, site_is) refl)
apply_read name rows document file third fourth refine None false false is document_is file_is third_is fourth_is refine_is site_is keeps_is stray_is =
    inr (rw (is, keeps_is, stray_is, fourth_is, site_is) refl)

apply_asks : (s : Shape) → s.name ≡ codes "apply" → Each (Stores Refine) s.rules
    → ((rows : List Row) → HasGiven s rows → (is_given (codes "DOC") rows ≡ true) × (is_given (codes "PLAN") rows ≡ true) × (is_given (codes "FLAG|REQUEST") rows ≡ true)
    × (is_given (codes "SITE|BOOK") rows ≡ true)) → Asks s
apply_asks s name stored given words e =
    let rows = rows_after s.rules [] words in
    let full = filled_level Refine s [] stored words false [] e in
    let all = given rows (level_given s words e) in
    let document = value_taken Refine (codes "DOC") rows full all.0 in
    let file = value_taken Refine (codes "PLAN") rows full all.1 in
    let third = value_taken Refine (codes "FLAG|REQUEST") rows full all.2 in
    let fourth = value_taken Refine (codes "SITE|BOOK") rows full all.3 in
    let refine = refine_read rows full in
    apply_read s.name rows document.0 file.0 third.0 fourth.0 refine.0 (number_in 0 max_32 fourth.0) (flag_in (codes "keep") rows) (is_stray rows) name document.1 file.1 third.1 fourth.1 refine.1 refl refl refl

abbrev Workers : Text → Text → Type 0
Workers = IsNumber (codes "WORKERS") 0 max_16

drive_read : (name : Text) (rows : List Row) (document file number book : Text) (workers : ℕ) (add : Bool) → name ≡ codes "drive" → first_of (codes "DOC") rows ≡ Some document
    → first_of (codes "ASKS") rows ≡ Some file → first_of (codes "WORKERS") rows ≡ Some number → number_in 0 max_16 number ≡ Some workers → first_of (codes "BOOK") rows ≡ Some book
    → flag_in (codes "add") rows ≡ add → asked_in (name, rows) ≡ Some (drive document file workers book add (flag_in (codes "replace") rows) (is_strict rows) (is_json rows) (has_floats rows))
drive_read name rows document file number book workers add is document_is file_is number_is workers_is book_is add_is =
    rw (is, document_is, file_is, number_is, workers_is, book_is, add_is) refl

drive_asks : (s : Shape) → s.name ≡ codes "drive" → Each (Stores Workers) s.rules
    → ((rows : List Row) → HasGiven s rows → (is_given (codes "DOC") rows ≡ true) × (is_given (codes "ASKS") rows ≡ true) × (is_given (codes "WORKERS") rows ≡ true)
    × (is_given (codes "BOOK") rows ≡ true)) → Asks s
drive_asks s name stored given words e =
    let rows = rows_after s.rules [] words in
    let full = filled_level Workers s [] stored words false [] e in
    let all = given rows (level_given s words e) in
    let document = value_taken Workers (codes "DOC") rows full all.0 in
    let file = value_taken Workers (codes "ASKS") rows full all.1 in
    let word = value_taken Workers (codes "WORKERS") rows full all.2 in
    let book = value_taken Workers (codes "BOOK") rows full all.3 in
    let workers = number_read 0 max_16 word.0 (word.2 refl) in
    inl (
      drive document.0 file.0 workers.0 book.0 (flag_in (codes "add") rows) (flag_in (codes "replace") rows) (is_strict rows) (is_json rows) (has_floats rows),
      drive_read s.name rows document.0 file.0 word.0 book.0 workers.0 (flag_in (codes "add") rows) name document.1 file.1 word.1 workers.1 book.1 refl,
    )

completions_read : (name : Text) (rows : List Row) (word : Text) (shell : Option Shell) → name ≡ codes "completions" → first_of (codes "SHELL") rows ≡ Some word → shell_named word ≡ shell
    → IsRead (Some (name, rows))
completions_read name rows word (Some shell) is word_is shell_is = inl (completions shell, rw (is, word_is, shell_is) refl)
completions_read name rows word None is word_is shell_is = inr (rw (is, word_is, shell_is) refl)

completions_asks : (s : Shape) → s.name ≡ codes "completions" → list_all stores s.rules ≡ true → ((rows : List Row) → HasGiven s rows → is_given (codes "SHELL") rows ≡ true) → Asks s
completions_asks s name stored given words e =
    let rows = rows_after s.rules [] words in
    let full = filled_level Any s [] (any_stored s.rules stored) words false [] e in
    let shell = value_given (codes "SHELL") rows full (given rows (level_given s words e)) in
    completions_read s.name rows shell.0 (shell_named shell.0) name shell.1 refl

-- ---- the program

-- the command that a name other than `help` enters
abbrev AsksBy : Shape → Type 0
AsksBy s = (name : Text) → answers_to name (label_of s) ≡ true → bytes_eq name (codes "help") ≡ false → Asks s

abbrev AllAsk : List Shape → Type 0
AllAsk = Each AsksBy

-- `clap`'s own command is entered by its name alone
help_unasked : (s : Shape) (name : Text) → (answers_to name (label_of s) ≡ true → name ≡ codes "help") → answers_to name (label_of s) ≡ true → bytes_eq name (codes "help") ≡ false → Asks s
help_unasked s name only is other = absurd (go name (only is) other)
  where
    go : (n : Text) → n ≡ codes "help" → bytes_eq n (codes "help") ≡ false → ⊥
    go n same differs =
        let bad : bytes_eq (codes "help") (codes "help") ≡ false = subst (λ (k : Text). bytes_eq k (codes "help") ≡ false) same differs in
        cc

alone : {P : Type 0} (b : Bool) → (b || false) ≡ true → (b ≡ true ↔ P) → P
alone true e decides = decides.0 refl
alone false e decides = cc

-- the commands that are only listed, and `help`
listed : AllAsk (drop 8 (built flagops_app).subs)
unfolding flagops_app
listed = (
  λ _ _ _ _ _. inr refl,
  (
    λ _ _ _ _ _. inr refl,
    (
      λ _ _ _ _ _. inr refl,
      (
        λ _ _ _ _ _. inr refl,
        (
          λ _ _ _ _ _. inr refl,
          (
            λ _ _ _ _ _. inr refl,
            (
              λ _ _ _ _ _. inr refl,
              (
                λ _ _ _ _ _. inr refl,
                (
                  λ _ _ _ _ _. inr refl,
                  (
                    λ _ _ _ _ _. inr refl,
                    (
                      λ _ _ _ _ _. inr refl,
                      (
                        λ _ _ _ _ _. inr refl,
                        (λ name is other. help_unasked _ name (λ named. sym (alone (bytes_eq (codes "help") name) named (bytes_eq-Decides (codes "help") name))) is other, tt),
                      ),
                    ),
                  ),
                ),
              ),
            ),
          ),
        ),
      ),
    ),
  ),
)

each : AllAsk (built flagops_app).subs
unfolding flagops_app bucket_app price_app resolve_app plan_app verify_app apply_app drive_app completions_app
each = (
  λ _ _ _. bucket_asks _ refl refl (λ rows e. let rule = needed _ _ e in let key = needed _ _ rule.1 in (rule.0, key.0)),
  (
    λ _ _ _. price_asks _ refl refl (λ rows e.
        let old = needed _ _ e in
        let new = needed _ _ old.1 in
        let request = needed _ _ new.1 in
        let keys = needed _ _ request.1 in
        (old.0, new.0, request.0, keys.0)),
    (
      λ _ _ _. resolve_asks _ refl
          ((refl, λ v e h. cc), ((refl, λ v e h. cc), ((refl, λ v e h. cc), ((refl, λ v e h. cc), ((refl, λ v e h. cc), ((refl, λ v e h. passes _ _ e), ((refl, λ v e h. cc), ((refl, λ v e h. cc), tt))))))))
          (λ rows e.
          let document = needed _ _ e in
          let key = needed _ _ document.1 in
          let kind = needed _ _ key.1 in
          let default = needed _ _ kind.1 in
          let context = needed _ _ default.1 in
          let moment = needed _ _ context.1 in
          (document.0, key.0, kind.0, default.0, context.0, moment.0)),
      (
        λ _ _ _. plan_asks _ refl
            ((refl, λ v e h. cc), ((refl, λ v e h. cc), ((refl, λ v e h. cc), ((refl, λ v e h. passes _ _ e), ((refl, λ v e h. cc), ((refl, λ v e h. cc), ((refl, λ v e h. cc), ((refl, λ v e h. cc), tt))))))))
            (λ rows e.
            let document = needed _ _ e in
            let request = needed _ _ document.1 in
            let book = needed _ _ request.1 in
            (document.0, request.0, book.0)),
        (
          λ _ _ _. verify_asks _ refl
              ((refl, λ v e h. cc), ((refl, λ v e h. cc), ((refl, λ v e h. cc), ((refl, λ v e h. cc), ((refl, λ v e h. passes _ _ e), ((refl, λ v e h. cc), ((refl, λ v e h. cc), ((refl, λ v e h. cc), ((refl, λ v e h. cc), tt)))))))))
              (λ rows e.
              let document = needed _ _ e in
              let request = needed _ _ document.1 in
              let book = needed _ _ request.1 in
              let file = needed _ _ book.1 in
              (document.0, request.0, book.0, file.0)),
          (
            λ _ _ _. apply_asks _ refl
                ((refl, λ v e h. cc), ((refl, λ v e h. cc), ((refl, λ v e h. cc), ((refl, λ v e h. cc), ((refl, λ v e h. cc), ((refl, λ v e h. cc), ((refl, λ v e h. passes _ _ e), ((refl, λ v e h. cc), ((refl, λ v e h. cc), ((refl, λ v e h. cc), ((refl, λ v e h. cc), tt)))))))))))
                (λ rows e.
                let document = needed _ _ e in
                let file = needed _ _ document.1 in
                let key = needed _ _ file.1 in
                let site = needed _ _ key.1 in
                (document.0, file.0, key.0, site.0)),
            (
              λ _ _ _. drive_asks _ refl
                  ((refl, λ v e h. cc), ((refl, λ v e h. cc), ((refl, λ v e h. passes _ _ e), ((refl, λ v e h. cc), ((refl, λ v e h. cc), ((refl, λ v e h. cc), ((refl, λ v e h. cc), ((refl, λ v e h. cc), ((refl, λ v e h. cc), ((refl, λ v e h. cc), tt))))))))))
                  (λ rows e.
                  let document = needed _ _ e in
                  let file = needed _ _ document.1 in
                  let workers = needed _ _ file.1 in
                  let book = needed _ _ workers.1 in
                  (document.0, file.0, workers.0, book.0)),
              (λ _ _ _. completions_asks _ refl refl (λ rows e. (needed _ _ e).0), listed),
            ),
          ),
        ),
      ),
    ),
  ),
)

named : (subs : List Shape) (p : Text × List Text) → AllAsk subs → bytes_eq p.0 (codes "help") ≡ false → option_map_or (λ s. level_fault s [] nothing_held p.1 false []) (find (λ s. answers_to p.0 (label_of s)) subs) [] ≡ []
    → (not (is_some (option_map (λ s. rows_at s p.1) (find (λ s. answers_to p.0 (label_of s)) subs))) && true) ≡ false
    → IsRead (option_map (λ s. rows_at s p.1) (find (λ s. answers_to p.0 (label_of s)) subs))
named [] p asks other e has = cc
named (s ∷ ss) p asks other e has = go (answers_to p.0 (label_of s)) refl e has (named ss p asks.1 other)
  where
    rest : Option Shape
    rest = find (λ t. answers_to p.0 (label_of t)) ss

    go : (b : Bool) → answers_to p.0 (label_of s) ≡ b → option_map_or (λ t. level_fault t [] nothing_held p.1 false []) (cond b (Some s) rest) [] ≡ []
        → (not (is_some (option_map (λ t. rows_at t p.1) (cond b (Some s) rest))) && true) ≡ false
        → (option_map_or (λ t. level_fault t [] nothing_held p.1 false []) rest [] ≡ [] → (not (is_some (option_map (λ t. rows_at t p.1) rest)) && true) ≡ false
        → IsRead (option_map (λ t. rows_at t p.1) rest)) → IsRead (option_map (λ t. rows_at t p.1) (cond b (Some s) rest))
    go true is e has more = asks.0 p.0 is other p.1 e
    go false is e has more = more e has

stopped : (a : App) → AllAsk a.subs → (stop : Option (Text × List Text)) → IsNoHelp stop → entered_fault a stop ≡ [] → (not (is_some (entered a stop)) && true) ≡ false
    → IsRead (entered a stop)
stopped a asks None other e has = cc
stopped a asks (Some p) other e has = named a.subs p asks other e has

-- what words that `clap` finds no fault with ask for
pub faultless : (words : List Text) → fault_of flagops_app words ≡ [] → IsRead (subcommand_of flagops_app words)
unfolding flagops_app bucket_app price_app resolve_app plan_app verify_app apply_app drive_app completions_app
faultless words e =
    let app = built flagops_app in
    let stop = (walk app.top.rules (names_of app) nothing_held words).stopped in
    let below = none_both (entered_fault app stop) _ (none_both (walk_fault app.top (names_of app) (walk_from nothing_held) words) _ e).1 in
    let walked = none_both (walk_fault app.top (names_of app) (walk_from nothing_held) words) _ e in
    stopped app each stop (no_help app.top (names_of app) refl (walk_from nothing_held) words walked.0 tt) below.0 (level_checked app.top (names_of app) words (is_some (entered app stop)) (entered_fault app stop) e).0
