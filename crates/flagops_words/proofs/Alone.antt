-- What `clap` is proved to read of the words of a command that reads them by itself.
use Rattle.std.proofs.Common.{◌≡◌, ◌⊎◌, true, List, [], ◌∷◌, Option, Some, None, ap, subst, sym, ◌∙◌, inl, inr, refl}
use Rattle.clap.specs.Simple.{matches_of}
use Rattle.clap.specs.Walk.{Row}
use Rattle.clap.specs.Words.{App, HasMatchesOf, IsAmong, Kinds, Text, found_of, rows_of, is_simple, is_simple_and_free, fault_of}
use Rattle.clap.specs.declared.error.kind.ErrorKind.{ErrorKind}
use Rattle.clap.specs.declared.error.kind.ErrorKind.TheVariants.{InvalidValue, OutOfMemory}
use Rattle.clap.specs.declared.parser.matches.ArgMatches.{ArgMatches}
use Rattle.flagops_words.specs.Alone.{IsToldBy, asked_in, faults_in}

-- a command that words are read for, by what the matches hold
module _ {X : Type 0} (app : App) (plain : is_simple app ≡ true) (free : is_simple_and_free app ≡ true) (read : List Row → Option X) (words : List Text) where
  by_fault : (kind : ErrorKind) (kinds : Kinds) → fault_of app words ≡ kinds → IsAmong kind kinds → (asked_in app read words ≡ None) × IsAmong kind (faults_in app read words)
  by_fault kind [] e h = absurd h
  by_fault kind (k ∷ ks) e h = (rw e refl, rw e h)

  module _ (made : App) (is : made ≡ app) where
    -- an error's kind is one of the mistakes of the words
    pub told_of : (kind : ErrorKind) → (is_simple_and_free made ≡ true → (kind ≡ OutOfMemory) ⊎ IsAmong kind (fault_of made words)) → IsToldBy (faults_in app read words) (asked_in app read words) kind
    told_of kind fails = elim (fails (ap is_simple_and_free is ∙ free)) [
      | inl memory ↦ inl memory
      | inr among ↦ inr (by_fault kind _ refl (subst (λ (p : App). IsAmong kind (fault_of p words)) is among))
    ]

    module _ (m : ArgMatches) (no_fault : is_simple_and_free made ≡ true → fault_of made words ≡ []) (matches : HasMatchesOf made words m) where
      none : fault_of app words ≡ []
      none = subst (λ (p : App). fault_of p words ≡ []) is (no_fault (ap is_simple_and_free is ∙ free))

      held : rows_of (found_of m) ≡ matches_of app words
      held = (matches (ap is_simple is ∙ plain)).0 ∙ ap (λ (p : App). matches_of p words) is

      -- words without a mistake ask for what is read of them
      pub asked_of : (x : X) → read (rows_of (found_of m)) ≡ Some x → asked_in app read words ≡ Some x
      asked_of x e =
          let there : read (matches_of app words) ≡ Some x = ap read (sym held) ∙ e in
          rw (none, there) refl

      -- and where nothing is read of them, a value is not there
      pub missed_in : read (rows_of (found_of m)) ≡ None → IsToldBy (faults_in app read words) (asked_in app read words) InvalidValue
      missed_in e =
          let there : read (matches_of app words) ≡ None = ap read (sym held) ∙ e in
          inr (rw (none, there) refl, rw (none, there) (inl refl))
