-- Words without a fault give each argument that they use a value, and values that its parser takes.
use Rattle.std.proofs.Common.{◌≡◌, ◌&&◌, ◌||◌, ◌++◌, ℕ, Bool, cond, true, false, zero, suc, refl, sym, subst, List, [], ◌∷◌, Option, Some, None, length, nat_lt, is_some}
use Rattle.std.specs.Prelude.{slice_get}
use Rattle.std.specs.List.{find, fold}
use Rattle.std.specs.Option.{option_map_or}
use Rattle.std.specs.Str.{bytes_eq, chars}
use Rattle.std.proofs.lemmas.Slice.Eq.{bytes_eq-Decides}
use Rattle.clap.proofs.SimpleLemmas.{is_nil}
use Rattle.clap.specs.Facts.{parser_of_value, unwrap_or_range}
use Rattle.clap.specs.Faults.{bundle_fault, bundle_step_fault, default_fault, defaults_fault, flags_fault, given_default_fault, set_fault, flag_word_fault, level_fault, long_fault, option_fault, other_fault, positional_fault, react_fault, settle_fault, short_fault, step_fault, turn_fault, action_fault, repeat_fault, use_fault, values_fault, walk_fault, word_fault}
use Rattle.clap.specs.Kinds.{Kinds, or_else, range_kinds, request_kinds, value_kinds}
use Rattle.clap.specs.Lexer.{long_of, short_of}
use Rattle.clap.specs.Simple.{Shape}
use Rattle.clap.specs.Walk.{Held, Names, attached_value, option_word, positional_held, short_or_plain, to_positional, Outcome, Row, Rule, Step, Text, Waiting, Walk, action_of, most_values, after_flag, after_step, arg_by_id, arg_by_index, arg_by_long, arg_by_short, at_row, bundle_met, bundle_step, default_rows, flag_met, has_row, idle, is_empty, is_pending, long_met, long_or_other, more_values, next, nothing_held, option, option_met, plain, plain_word, positional, reacted, reading_by, rows_after, settled, settled_rows, short_met, subcommand, subcommand_met, subcommand_or_other, takes_several, takes_values, trailing, used, used_as, used_by_id, value, values_or_missing, walk, walk_from, walked, walked_from, with_default, with_values, without, word_met, waits, done, refused}
use Rattle.clap.specs.declared.builder.action.ArgAction.{ArgAction}
use Rattle.clap.specs.declared.builder.action.ArgAction.TheVariants as action
use Rattle.clap.specs.declared.builder.value_parser.Reading.{Reading}
use Rattle.clap.specs.declared.error.kind.ErrorKind.TheVariants as kind
use Rattle.clap.specs.declared.parser.matches.ValueSource.{ValueSource}
use Rattle.clap.specs.declared.parser.matches.ValueSource.TheVariants.{CommandLine, DefaultValue}

-- ---- rows that have a value each

abbrev pub IsFull : List Text → Type 0
IsFull [] = ⊥
IsFull (v ∷ vs) = Unit {0}

abbrev pub Each : {X : Type 0} → (X → Type 0) → List X → Type 0
Each P [] = Unit {0}
Each P (x ∷ xs) = P x × Each P xs

each_both : {X : Type 0} (P : X → Type 0) (xs ys : List X) → Each P xs → Each P ys → Each P (xs ++ ys)
each_both P [] ys p q = q
each_both P (x ∷ xs) ys p q = (p.0, each_both P xs ys p.1 q)

full_more : (xs ys : List Text) → IsFull xs → IsFull (xs ++ ys)
full_more [] ys h = absurd h
full_more (x ∷ xs) ys h = tt

pub none_both : (a b : Kinds) → or_else a b ≡ [] → (a ≡ []) × (b ≡ [])
none_both [] b e = (refl, e)
none_both (k ∷ ks) b e = cc

-- ---- what an argument stores

abbrev has_some : List Text → Bool
has_some [] = false
has_some (v ∷ vs) = true

-- a use of the argument stores a value, or is one at fault: it wants a value, or has one that stands for none
abbrev stores_as : ArgAction → Bool → Bool → Bool
stores_as action.Set wants has_missing = wants
stores_as action.Append wants has_missing = wants
stores_as action.SetTrue wants has_missing = has_missing
stores_as action.SetFalse wants has_missing = has_missing
stores_as action.Count wants has_missing = false
stores_as _ wants has_missing = true

abbrev pub stores : Rule → Bool
stores a = stores_as (action_of a) (nat_lt 0 (unwrap_or_range a.range).start_inclusive) (has_some a.missing)

-- `P` says what each value of an argument has to be
module _ (P : Text → Text → Type 0) where
  -- one value or more, and each as it has to be
  abbrev pub Taken : Text → List Text → Type 0
  Taken id values = IsFull values × Each (P id) values

  abbrev pub Filled : List Row → Type 0
  Filled [] = Unit {0}
  Filled (r ∷ rs) = Taken r.id r.values × Filled rs

  -- the parser of the argument takes such values alone
  abbrev pub IsSound : Rule → Type 0
  IsSound a = (v : Text) → value_kinds a.ignore_case (parser_of_value a.parser) v ≡ [] → P a.id v

  abbrev pub Stores : Rule → Type 0
  Stores a = (stores a ≡ true) × IsSound a

  taken_more : (id : Text) (xs ys : List Text) → Taken id xs → Taken id ys → Taken id (xs ++ ys)
  taken_more id xs ys p q = (full_more xs ys p.0, each_both (P id) xs ys p.1 q.1)

  filled_both : (rs ss : List Row) → Filled rs → Filled ss → Filled (rs ++ ss)
  filled_both [] ss p q = q
  filled_both (r ∷ rs) ss p q = (p.0, filled_both rs ss p.1 q)

  filled_at : (id : Text) (change : Row → List Row) (missing rows : List Row) → ((r : Row) → r.id ≡ id → Taken r.id r.values → Filled (change r)) → Filled missing → Filled rows
      → Filled (at_row id change missing rows)
  filled_at id change missing [] keeps m p = m
  filled_at id change missing (r ∷ rs) keeps m p = go (bytes_eq r.id id) refl (filled_at id change missing rs keeps m p.1)
    where
      go : (b : Bool) → bytes_eq r.id id ≡ b → Filled (at_row id change missing rs) → Filled (cond b (change r ++ rs) (r ∷ at_row id change missing rs))
      go true e rest = filled_both (change r) rs (keeps r ((bytes_eq-Decides r.id id).0 e) p.0) p.1
      go false e rest = (p.0, rest)

  filled_with : (id : Text) (how : Reading) (s : ValueSource) (values : List Text) (rows : List Row) → Taken id values → Filled rows → Filled (with_values id how s values rows)
  filled_with id how s values rows v p =
      filled_at id (more_values s values) _ rows (λ r e f. (taken_more r.id r.values values f (subst (λ (k : Text). Taken k values) (sym e) v), tt)) (v, tt) p

  filled_without : (id : Text) (rows : List Row) → Filled rows → Filled (without id rows)
  filled_without id rows p = filled_at id (λ _. []) [] rows (λ r e f. tt) tt p

  -- ---- one use of an argument

  -- values that an action may store
  abbrev MayStore : ArgAction → Text → List Text → Type 0
  MayStore action.Set id values = Taken id values
  MayStore action.Append id values = Taken id values
  MayStore action.SetTrue id values = Taken id values
  MayStore action.SetFalse id values = Taken id values
  MayStore action.Count id values = ⊥
  MayStore _ id values = Unit {0}

  filled_used_as : (x : ArgAction) (id : Text) (how : Reading) (values : List Text) (rows : List Row) → MayStore x id values → Filled rows → Filled (used_as x id how values rows)
  filled_used_as action.Set id how values rows v p = filled_with id how CommandLine values _ v (filled_without id rows p)
  filled_used_as action.Append id how values rows v p = filled_with id how CommandLine values _ v p
  filled_used_as action.SetTrue id how values rows v p = filled_with id how CommandLine values _ v (filled_without id rows p)
  filled_used_as action.SetFalse id how values rows v p = filled_with id how CommandLine values _ v (filled_without id rows p)
  filled_used_as action.Count id how values rows v p = absurd v
  filled_used_as action.Help id how values rows v p = p
  filled_used_as action.HelpShort id how values rows v p = p
  filled_used_as action.HelpLong id how values rows v p = p
  filled_used_as action.Version id how values rows v p = p

  each_taken : (a : Rule) (vs : List Text) → IsSound a → values_fault a vs ≡ [] → Each (P a.id) vs
  each_taken a [] sound e = tt
  each_taken a (v ∷ vs) sound e =
      let parts = none_both (value_kinds a.ignore_case (parser_of_value a.parser) v) _ e in
      (sound v parts.0, each_taken a vs sound parts.1)

  -- a use without a value is at fault, where one is wanted
  wants_one : (wants : Bool) (k : _) (rest more : Kinds) → wants ≡ true → or_else (cond (wants && true) (k ∷ []) rest) more ≡ [] → ⊥
  wants_one true k rest more f e = cc
  wants_one false k rest more f e = cc

  -- values, or those that stand for none
  some_or_missing : (a : Rule) (values : List Text) → has_some a.missing ≡ true → IsFull (values_or_missing a values)
  some_or_missing a (v ∷ vs) e = tt
  some_or_missing a [] e = go a.missing e
    where
      go : (vs : List Text) → has_some vs ≡ true → IsFull vs
      go [] h = cc
      go (v ∷ vs) h = tt

  flag_taken : (again : Bool) (a : Rule) (values : List Text) (rows : List Row) (count : Kinds) → has_some a.missing ≡ true → IsSound a
      → or_else count (set_fault again a (values_or_missing a values) rows) ≡ [] → Taken a.id (values_or_missing a values)
  flag_taken again a values rows count some sound e =
      let set = (none_both count _ e).1 in
      (some_or_missing a values some, each_taken a _ sound (none_both (repeat_fault again a.id rows) _ set).1)

  filled_use : (again : Bool) (a : Rule) (values : List Text) (rows : List Row) → Stores a → use_fault again a values rows ≡ [] → Filled rows → Filled (used a values rows)
  filled_use again a values rows f e p = filled_used_as (action_of a) a.id (reading_by a) _ rows (kept (action_of a) values f.0 e) p
    where
      least : ℕ
      least = (unwrap_or_range a.range).start_inclusive

      kept : (x : ArgAction) (vs : List Text) → stores_as x (nat_lt 0 least) (has_some a.missing) ≡ true
          → or_else (range_kinds least (most_values a) (length vs)) (action_fault x again a (values_or_missing a vs) rows) ≡ [] → MayStore x a.id (values_or_missing a vs)
      kept action.Set [] s h = absurd (wants_one _ _ _ _ s h)
      kept action.Set (v ∷ vs) s h =
          let used_rest = none_both (range_kinds least (most_values a) (length (v ∷ vs))) _ h in
          (tt, each_taken a (v ∷ vs) f.1 (none_both (repeat_fault again a.id rows) _ used_rest.1).1)
      kept action.Append [] s h = absurd (wants_one _ _ _ _ s h)
      kept action.Append (v ∷ vs) s h = (tt, each_taken a (v ∷ vs) f.1 (none_both (range_kinds least (most_values a) (length (v ∷ vs))) _ h).1)
      kept action.SetTrue vs s h = flag_taken again a vs rows _ s f.1 h
      kept action.SetFalse vs s h = flag_taken again a vs rows _ s f.1 h
      kept action.Count vs s h = cc
      kept action.Help vs s h = tt
      kept action.HelpShort vs s h = tt
      kept action.HelpLong vs s h = tt
      kept action.Version vs s h = tt

  -- an argument that a search finds is one of the arguments
  stores_found : (p : Rule → Bool) (c : List Rule) (a : Rule) → Each Stores c → find p c ≡ Some a → Stores a
  stores_found p [] a all e = cc
  stores_found p (x ∷ xs) a all e = go (p x) e (stores_found p xs a all.1)
    where
      go : (b : Bool) → cond b (Some x) (find p xs) ≡ Some a → (find p xs ≡ Some a → Stores a) → Stores a
      go true h rest = let is : x ≡ a = cc in subst Stores is all.0
      go false h rest = rest h

  -- ---- one word; each lemma goes by a step of the walk beside the fault of that step

  module _ (c : List Rule) (again : Bool) (all : Each Stores c) where
    filled_settled : (h : Held) → settle_fault c again h ≡ [] → Filled h.rows → Filled (settled c h).rows
    filled_settled h e p = pending h.pending e
      where
        found : (o : Option Rule) (values : List Text) → ((a : Rule) → o ≡ Some a → Stores a) → option_map_or (λ a. use_fault again a values h.rows) o [] ≡ []
            → Filled (used_by_id o values h.rows)
        found None values f e = p
        found (Some a) values f e = filled_use again a values h.rows (f a refl) e p

        pending : (o : Option (Text × List Text)) → option_map_or (λ q. option_map_or (λ a. use_fault again a q.1 h.rows) (arg_by_id c q.0) []) o [] ≡ []
            → Filled (settled_rows c o h.rows)
        pending None e = p
        pending (Some q) e = found (arg_by_id c q.0) q.1 (λ a is. stores_found _ c a all is) e

    filled_reacted : (a : Rule) (values : List Text) (h : Held) → Stores a → react_fault c again a values h ≡ [] → Filled h.rows → Filled (reacted c a values h).rows
    filled_reacted a values h f e p =
        let parts = none_both (settle_fault c again h) _ e in
        filled_use again a values (settled c h).rows f parts.1 (filled_settled h parts.0 p)

    filled_option : (a : Rule) (v : Option Text) (h : Held) → Stores a → option_fault c again a v h ≡ [] → Filled h.rows → Filled (option_met c a v h).0.rows
    filled_option a (Some v) h f e p = filled_reacted a (v ∷ []) h f e p
    filled_option a None h f e p = filled_settled h e p

    filled_flag : (a : Rule) (v : Option Text) (k : _) (h : Held) → Stores a → cond (is_some v) (k ∷ []) (react_fault c again a [] h) ≡ [] → Filled h.rows
        → Filled (flag_met c a v h).0.rows
    filled_flag a (Some v) k h f e p = p
    filled_flag a None k h f e p = filled_reacted a [] h f e p

    filled_long : (o : Option Rule) (v : Option Text) (h : Held) → ((a : Rule) → o ≡ Some a → Stores a) → long_fault c again o v h ≡ [] → Filled h.rows
        → Filled (long_met c o v h).0.rows
    filled_long None v h f e p = p
    filled_long (Some a) v h f e p = go (takes_values a) e
      where
        go : (b : Bool) → cond b (option_fault c again a v h) (cond (is_some v) (kind.TooManyValues ∷ []) (react_fault c again a [] h)) ≡ []
            → Filled (cond b (option_met c a v h) (flag_met c a v h)).0.rows
        go true e = filled_option a v h (f a refl) e p
        go false e = filled_flag a v _ h (f a refl) e p

    -- what follows in a bundle keeps the rows filled
    abbrev Keeps : (Held → Kinds) → (Held → Held × Outcome) → Type 0
    Keeps fault met = (h : Held) → fault h ≡ [] → Filled h.rows → Filled (met h).0.rows

    filled_short : (o : Option Rule) (rest : Text) (h : Held) (fault : Held → Kinds) (met : Held → Held × Outcome) → ((a : Rule) → o ≡ Some a → Stores a) → Keeps fault met
        → short_fault c again o rest h fault ≡ [] → Filled h.rows → Filled (short_met c o rest h met).0.rows
    filled_short None rest h fault met f keeps e p = p
    filled_short (Some a) rest h fault met f keeps e p = go (takes_values a) e
      where
        go : (b : Bool) → cond b (option_fault c again a (attached_value rest) h) (or_else (react_fault c again a [] h) (fault (reacted c a [] h))) ≡ []
            → Filled (cond b (option_met c a (attached_value rest) h) (met (reacted c a [] h))).0.rows
        go true e = filled_option a (attached_value rest) h (f a refl) e p
        go false e =
            let parts = none_both (react_fault c again a [] h) _ e in
            keeps (reacted c a [] h) parts.1 (filled_reacted a [] h (f a refl) parts.0 p)

    filled_flag_step : (o : Option ℕ) (flags : Text) (skip : ℕ) (so_far : Outcome) (h : Held) (fault : Text → ℕ → Held → Kinds) (met : Text → ℕ → Outcome → Held → Held × Outcome)
        → ((rest : Text) (n : ℕ) (so : Outcome) → Keeps (fault rest n) (met rest n so)) → bundle_step_fault c again o flags skip h fault ≡ [] → Filled h.rows
        → Filled (bundle_step c o flags skip so_far h met).0.rows
    filled_flag_step None flags skip so_far h fault met keeps e p = p
    filled_flag_step (Some x) flags zero so_far h fault met keeps e p =
        filled_short (arg_by_short c x) _ h _ _ (λ a is. stores_found _ c a all is) (keeps _ 0 done) e p
    filled_flag_step (Some x) flags (suc skip) so_far h fault met keeps e p = keeps _ skip so_far h e p

    filled_bundle : (k : ℕ) (flags : Text) (skip : ℕ) (so_far : Outcome) → Keeps (flags_fault c again k flags skip) (bundle_met c k flags skip so_far)
    unfolding flags_fault bundle_met
    filled_bundle zero flags skip so_far h e p = p
    filled_bundle (suc k) flags skip so_far h e p =
        filled_flag_step (slice_get (chars flags) 0) flags skip so_far h (flags_fault c again k) (bundle_met c k) (λ rest n so. filled_bundle k rest n so) e p

    filled_plain : (waiting : Waiting) (word : Text) (h : Held) → Filled h.rows → Filled (plain_word c waiting word h).0.rows
    filled_plain idle word h p = p
    filled_plain positional word h p = p
    filled_plain (option id) word h p = go (arg_by_id c id)
      where
        go : (o : Option Rule) → Filled (option_word o id word h).0.rows
        go None = p
        go (Some a) = p

    filled_after : (waiting : Waiting) (word : Text) (h : Held) (o : Outcome) → Filled h.rows → Filled (after_flag c waiting word h o).0.rows
    filled_after waiting word h done p = p
    filled_after waiting word h (waits id) p = p
    filled_after waiting word h plain p = filled_plain waiting word h p
    filled_after waiting word h refused p = filled_plain waiting word h p

    filled_flag_word : (waiting : Waiting) (word : Text) (l : Option (Text × Option Text)) (h : Held) → flag_word_fault c again l word h ≡ [] → Filled h.rows
        → Filled (long_or_other c waiting word l h).0.rows
    filled_flag_word waiting word (Some q) h e p =
        filled_after waiting word _ _ (filled_long (arg_by_long c q.0) q.1 h (λ a is. stores_found _ c a all is) e p)
    filled_flag_word waiting word None h e p = go (short_of word) e
      where
        go : (o : Option Text) → option_map_or (λ flags. bundle_fault c again flags h) o [] ≡ [] → Filled (short_or_plain c waiting word o h).0.rows
        go None e = filled_plain waiting word h p
        go (Some flags) e = filled_after waiting word _ _ (filled_bundle (length flags) flags h.skip plain (record h { skip = 0 }) e p)

    -- a word that no flag takes goes to a positional
    filled_positional : (a : Rule) (word : Text) (h : Held) → positional_fault c again a h ≡ [] → Filled h.rows → Filled (positional_held c a word h).rows
    filled_positional a word h e p = go (is_pending a h.pending && takes_several a) e
      where
        go : (b : Bool) → cond b [] (settle_fault c again h) ≡ [] → Filled (cond b h (settled c h)).rows
        go true e = p
        go false e = filled_settled h e p

    filled_to : (o : Option Rule) (word : Text) (w : Walk) (h : Held) (stray : Kinds) → option_map_or (λ a. positional_fault c again a h) o stray ≡ [] → Filled h.rows
        → Filled (to_positional c o word w h).held.rows
    filled_to None word w h stray e p = p
    filled_to (Some a) word w h stray e p = filled_positional a word h e p

  -- ---- the words in turn

  module _ (s : Shape) (names : Names) (all : Each Stores s.rules) where
    filled_other : (m : Option Text) (waiting : Waiting) (position : ℕ) (word : Text) (h : Held) → other_fault s m word h ≡ [] → Filled h.rows
        → Filled (subcommand_or_other s.rules m waiting position word h).0.rows
    filled_other (Some name) waiting position word h e p = p
    filled_other None waiting position word h e p = go (bytes_eq word (45 ∷ 45 ∷ [])) e
      where
        go : (b : Bool) → cond b [] (flag_word_fault s.rules s.args_override_self (long_of word) word h) ≡ []
            → Filled (cond b (h, trailing position) (long_or_other s.rules waiting word (long_of word) h)).0.rows
        go true e = p
        go false e = filled_flag_word s.rules s.args_override_self all waiting word (long_of word) h e p

    filled_word : (is_trailing : Bool) (waiting : Waiting) (position : ℕ) (word : Text) (h : Held) → word_fault s names is_trailing waiting word h ≡ [] → Filled h.rows
        → Filled (word_met s.rules names is_trailing waiting position word h).0.rows
    filled_word true waiting position word h e p = p
    filled_word false waiting position word h e p = filled_other (subcommand_met names waiting word) waiting position word h e p

    filled_step : (step : Step) (word : Text) (w : Walk) (h : Held) → step_fault s w.position h step ≡ [] → Filled h.rows → Filled (after_step s.rules word w h step).held.rows
    filled_step (next waiting) word w h e p = p
    filled_step (trailing position) word w h e p = p
    filled_step (subcommand name) word w h e p = p
    filled_step value word w h e p = filled_to s.rules s.args_override_self all (arg_by_index s.rules w.position) word w h _ e p

    filled_turn : (w : Walk) (word : Text) → turn_fault s names w word ≡ [] → Filled w.held.rows → Filled (walked s.rules names w word).held.rows
    unfolding walked
    filled_turn w word e p = go w.stopped e
      where
        met : Held × Step
        met = word_met s.rules names w.is_trailing w.waiting w.position word w.held

        go : (o : Option (Text × List Text)) → cond (is_some o) [] (or_else (word_fault s names w.is_trailing w.waiting word w.held) (step_fault s w.position met.0 met.1)) ≡ []
            → Filled (walked_from s.rules names o w word).held.rows
        go (Some q) e = p
        go None e =
            let parts = none_both (word_fault s names w.is_trailing w.waiting word w.held) _ e in
            filled_step met.1 word w met.0 parts.1 (filled_word w.is_trailing w.waiting w.position word w.held parts.0 p)

    filled_walk : (w : Walk) (words : List Text) → walk_fault s names w words ≡ [] → Filled w.held.rows → Filled (fold (walked s.rules names) w words).held.rows
    unfolding walk_fault
    filled_walk w [] e p = p
    filled_walk w (word ∷ rest) e p =
        let parts = none_both (turn_fault s names w word) _ e in
        filled_walk (walked s.rules names w word) rest parts.1 (filled_turn w word parts.0 p)

    -- a default is checked as a value of the words is
    filled_defaults : (c : List Rule) (rows : List Row) → Each Stores c → defaults_fault rows c ≡ [] → Filled rows → Filled (fold with_default rows c)
    unfolding defaults_fault
    filled_defaults [] rows all e p = p
    filled_defaults (a ∷ c) rows all e p =
        let faults = none_both (default_fault rows a) _ e in
        filled_defaults c (with_default rows a) all.1 faults.1 (go (has_row a.id rows) faults.0)
      where
        given : (values : List Text) (b : Bool) → is_empty values ≡ b → cond b [] (given_default_fault a values) ≡ [] → Filled (default_rows a.id (reading_by a) values rows)
        given values true is h = subst (λ (vs : List Text). Filled (default_rows a.id (reading_by a) vs rows)) (sym (is_nil values is)) p
        given [] false is h = p
        given (v ∷ vs) false is h = filled_with a.id (reading_by a) DefaultValue (v ∷ vs) rows (tt, each_taken a (v ∷ vs) all.0.1 (none_both (request_kinds (action_of a)) _ h).1) p

        go : (b : Bool) → cond (b || is_empty a.defaults) [] (given_default_fault a a.defaults) ≡ [] → Filled (cond b rows (default_rows a.id (reading_by a) a.defaults rows))
        go true h = p
        go false h = given a.defaults (is_empty a.defaults) refl h

    -- the matches of words without a fault have a value each
    pub filled_level : (words : List Text) (has_subcommand : Bool) (below : Kinds) → level_fault s names nothing_held words has_subcommand below ≡ []
        → Filled (rows_after s.rules names words)
    filled_level words has_subcommand below e =
        let walked_all = none_both (walk_fault s names (walk_from nothing_held) words) _ e in
        let after = none_both below _ walked_all.1 in
        let end = (walk s.rules names nothing_held words).held in
        let settles = none_both (settle_fault s.rules s.args_override_self end) _ after.1 in
        let defaults = none_both (defaults_fault (settled s.rules end).rows s.rules) _ settles.1 in
        filled_defaults s.rules _ all defaults.0 (filled_settled s.rules s.args_override_self all end settles.0 (filled_walk (walk_from nothing_held) words walked_all.0 tt))
