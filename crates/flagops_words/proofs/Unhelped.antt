-- Words without a fault do not name the command `help`, of which `clap` makes a fault.
use Rattle.std.proofs.Common.{◌≡◌, ◌&&◌, ◌∷◌, [], ℕ, Bool, cond, true, false, not, refl, List, Option, Some, None, codes, is_some}
use Rattle.std.specs.List.{fold}
use Rattle.std.specs.Str.{bytes_eq}
use Rattle.clap.specs.Faults.{other_fault, step_fault, turn_fault, walk_fault, word_fault}
use Rattle.clap.specs.Kinds.{or_else}
use Rattle.clap.specs.Lexer.{long_of, short_of}
use Rattle.clap.specs.Simple.{Shape}
use Rattle.clap.specs.Walk.{Held, Names, Outcome, Rule, Step, Text, Waiting, Walk, after_flag, after_step, arg_by_index, done, idle, long_or_other, next, option, plain, plain_word, positional, refused, short_or_plain, subcommand, subcommand_met, subcommand_or_other, to_positional, trailing, value, waits, walked, walked_from, word_met}
use Rattle.clap.specs.declared.error.kind.ErrorKind.TheVariants as kind
use Rattle.flagops_words.proofs.Filled.{none_both}

abbrev pub IsNoHelp : Option (Text × List Text) → Type 0
IsNoHelp None = Unit {0}
IsNoHelp (Some p) = bytes_eq p.0 (codes "help") ≡ false

abbrev IsStep : Step → Type 0
IsStep (next waiting) = Unit {0}
IsStep (trailing position) = Unit {0}
IsStep (subcommand name) = bytes_eq name (codes "help") ≡ false
IsStep value = Unit {0}

-- ---- what a word that names no command comes to

plain_step : (c : List Rule) (waiting : Waiting) (word : Text) (h : Held) → IsStep (plain_word c waiting word h).1
plain_step c idle word h = tt
plain_step c positional word h = tt
plain_step c (option id) word h = tt

flag_step : (c : List Rule) (waiting : Waiting) (word : Text) (h : Held) (o : Outcome) → IsStep (after_flag c waiting word h o).1
flag_step c waiting word h done = tt
flag_step c waiting word h (waits id) = tt
flag_step c waiting word h plain = plain_step c waiting word h
flag_step c waiting word h refused = plain_step c waiting word h

short_step : (c : List Rule) (waiting : Waiting) (word : Text) (o : Option Text) (h : Held) → IsStep (short_or_plain c waiting word o h).1
short_step c waiting word None h = plain_step c waiting word h
short_step c waiting word (Some flags) h = flag_step c waiting word _ _

long_step : (c : List Rule) (waiting : Waiting) (word : Text) (o : Option (Text × Option Text)) (h : Held) → IsStep (long_or_other c waiting word o h).1
long_step c waiting word None h = short_step c waiting word (short_of word) h
long_step c waiting word (Some p) h = flag_step c waiting word _ _

-- ---- the words in turn

module _ (s : Shape) (names : Names) (enabled : s.disable_help_subcommand ≡ false) where
  named_step : (name word : Text) (h : Held) → other_fault s (Some name) word h ≡ [] → bytes_eq name (codes "help") ≡ false
  named_step name word h e = go (bytes_eq name (codes "help")) s.disable_help_subcommand enabled e
    where
      go : (is disabled : Bool) → disabled ≡ false → cond (is && not disabled) (kind.DisplayHelp ∷ kind.InvalidSubcommand ∷ []) [] ≡ [] → is ≡ false
      go true true off h = cc
      go true false off h = cc
      go false disabled off h = refl

  other_step : (m : Option Text) (waiting : Waiting) (position : ℕ) (word : Text) (h : Held) → other_fault s m word h ≡ [] → IsStep (subcommand_or_other s.rules m waiting position word h).1
  other_step (Some name) waiting position word h e = named_step name word h e
  other_step None waiting position word h e = go (bytes_eq word (45 ∷ 45 ∷ []))
    where
      go : (b : Bool) → IsStep (cond b (h, trailing position) (long_or_other s.rules waiting word (long_of word) h)).1
      go true = tt
      go false = long_step s.rules waiting word (long_of word) h

  word_step : (is_trailing : Bool) (waiting : Waiting) (position : ℕ) (word : Text) (h : Held) → word_fault s names is_trailing waiting word h ≡ []
      → IsStep (word_met s.rules names is_trailing waiting position word h).1
  word_step true waiting position word h e = tt
  word_step false waiting position word h e = other_step (subcommand_met names waiting word) waiting position word h e

  positional_stop : (o : Option Rule) (word : Text) (w : Walk) (h : Held) → IsNoHelp w.stopped → IsNoHelp (to_positional s.rules o word w h).stopped
  positional_stop None word w h p = p
  positional_stop (Some a) word w h p = tt

  step_stop : (step : Step) (word : Text) (w : Walk) (h : Held) → IsStep step → IsNoHelp w.stopped → IsNoHelp (after_step s.rules word w h step).stopped
  step_stop (next waiting) word w h is p = p
  step_stop (trailing position) word w h is p = p
  step_stop (subcommand name) word w h is p = is
  step_stop value word w h is p = positional_stop (arg_by_index s.rules w.position) word w h p

  turn_stop : (w : Walk) (word : Text) → turn_fault s names w word ≡ [] → IsNoHelp w.stopped → IsNoHelp (walked s.rules names w word).stopped
  unfolding walked
  turn_stop w word e p = go w.stopped e p
    where
      met : Held × Step
      met = word_met s.rules names w.is_trailing w.waiting w.position word w.held

      go : (o : Option (Text × List Text)) → cond (is_some o) [] (or_else (word_fault s names w.is_trailing w.waiting word w.held) (step_fault s w.position met.0 met.1)) ≡ []
          → IsNoHelp o → IsNoHelp (walked_from s.rules names o w word).stopped
      go (Some q) e p = p
      go None e p' =
          let parts = none_both (word_fault s names w.is_trailing w.waiting word w.held) _ e in
          step_stop met.1 word w met.0 (word_step w.is_trailing w.waiting w.position word w.held parts.0) p

  pub no_help : (w : Walk) (words : List Text) → walk_fault s names w words ≡ [] → IsNoHelp w.stopped → IsNoHelp (fold (walked s.rules names) w words).stopped
  unfolding walk_fault
  no_help w [] e p = p
  no_help w (word ∷ rest) e p =
      let parts = none_both (turn_fault s names w word) _ e in
      no_help (walked s.rules names w word) rest parts.1 (turn_stop w word parts.0 p)
