-- Lines that are tallied one after another.
use Rattle.std.proofs.Common.{◌≡◌, ◌≢◌, ◌<◌, ◌≤◌, ◌⊎◌, ◌+◌, ◌-◌, ℕ, nat_eq, nat_lt, Bool, true, false, if◌then◌else◌, List, [], ◌∷◌, ◌++◌, length, Option, Some, None, IfSome, Result, Ok, Err, append-nil, append_assoc, length-append, refl, sym, ap, ◌∙◌, subst, inl, inr, arith}
use Rattle.std.proofs.lemmas.Bool.{le-ltb, lt-ltb}
use Rattle.std.specs.Io.KnownBytes.{IsAtEnd}
use Rattle.byte_streams.proofs.Cutting.{begins, line_first, no_line, some_part}
use Rattle.byte_streams.specs.Fill.{Grows}
use Rattle.byte_streams.specs.Lines.{HasNoFeed, IsFirst, parts_of}
use Rattle.note_tallies.specs.Law.{hashes_of, inputs_of}
use Rattle.note_tallies.specs.Lines.{Tallied, finished, untallied}
use Rattle.note_tallies.specs.JoinLaw.{HashesStandForInputs, TalliesInAnyOrder}
use Rattle.note_streams.specs.Record.{most_line}
use Rattle.note_tallies.specs.Filter.{Filtered, RefusesLine, StreamIsTallied, Takes, TakesAll}
use Rattle.note_tallies.specs.declared.filter_fault.FilterFault.{FilterFault}
use Rattle.note_tallies.specs.declared.filter_fault.FilterFault.TheVariants.{Line, WantOfMemory}
use Rattle.note_streams.specs.Batch.{Goes, GoesOn, KeepsRest}
use Rattle.note_streams.specs.Law.{StreamIsOfItsInputs, StreamIsOfItsLines, lines_in}
use Rattle.note_streams.specs.Rest.{has_rest, is_empty, is_torn}
use Rattle.note_streams.specs.Tallied.{RefusesNext, TakesNext, Tallies, behind}
use Rattle.note_streams.proofs.Behind.{at_end, behind_one}

abbrev Next : Tallied → ℕ → List ℕ → List (List ℕ) → Result Tallied FilterFault → Type 0
Next t n line parts r = ((new : Tallied) × TakesNext t line new × Tallies new (n + 1) parts r) ⊎ ((fault : FilterFault) × RefusesNext t n line fault × (r ≡ Err fault))

next_line : (t : Tallied) (n : ℕ) (line : List ℕ) (parts : List (List ℕ)) (r : Result Tallied FilterFault) → parts ≢ [] → Next t n line parts r → Tallies t n (line ∷ parts) r
next_line t n line [] r some next = absurd (some refl)
next_line t n line (part ∷ parts) r some next = next

-- the first line of some bytes, and what follows
pub first_parts : (bytes line rest : List ℕ) (first : IsFirst bytes line rest) (more : List ℕ) → parts_of (bytes ++ more) ≡ first.text ∷ parts_of (rest ++ more)
first_parts bytes line rest first more =
    ap (λ (t : List ℕ). parts_of (t ++ more)) first.whole ∙ ap parts_of (append_assoc first.text (10 ∷ rest) more) ∙ line_first first.text (rest ++ more) first.none

module _ (bytes line rest : List ℕ) (first : IsFirst bytes line rest) where
  text_length : length line ≡ length first.text + 1
  text_length = ap length first.ended ∙ length-append first.text (10 ∷ [])

  at_line : (t : Tallied) (n : ℕ) (more : List ℕ) (r : Result Tallied FilterFault) → Next t n first.text (parts_of (rest ++ more)) r → Tallies t n (parts_of (bytes ++ more)) r
  at_line t n more r next = subst (λ (ps : List (List ℕ)). Tallies t n ps r) (sym (first_parts bytes line rest first more)) (next_line t n first.text (parts_of (rest ++ more)) r (some_part (rest ++ more)) next)

  -- a line that was taken
  pub goes_line : (old new : Filtered) → length line ≤ most_line + 1 → new.lines ≡ old.lines + 1 → Takes old.tally line new.tally → Goes old bytes new rest
  goes_line old new short number takes = λ more r later.
      let low : nat_lt most_line (length first.text) ≡ false = le-ltb most_line (length first.text) (omega (arith, short, text_length)) in
      at_line old.tally old.lines more r
      (inl (new.tally, (low, subst (λ (l : List ℕ). Takes old.tally l new.tally) first.ended takes), subst (λ (n : ℕ). Tallies new.tally n (parts_of (rest ++ more)) r) number later))

  -- what stands behind the lines stands behind the others
  pub keeps_line : KeepsRest bytes rest
  keeps_line = λ more. sym (ap has_rest (first_parts bytes line rest first more) ∙ behind_one first.text (parts_of (rest ++ more)) (some_part (rest ++ more)))

  -- a line that is refused
  pub stops_line : (old new : Filtered) (fault : FilterFault) → length line ≤ most_line + 1 → RefusesLine old line fault new → (more : List ℕ) → Tallies old.tally old.lines (parts_of (bytes ++ more)) (Err fault)
  stops_line old new fault short refuses more =
      let low : nat_lt most_line (length first.text) ≡ false = le-ltb most_line (length first.text) (omega (arith, short, text_length)) in
      let there : RefusesLine (behind old.tally old.lines) line fault (behind old.tally old.lines) = record { some = refuses.some; why = refuses.why; same = refl } in
      at_line old.tally old.lines more (Err fault)
      (inr (fault, inr (low, subst (λ (l : List ℕ). RefusesLine (behind old.tally old.lines) l fault (behind old.tally old.lines)) first.ended there), refl))

  -- a line that is too long
  pub stops_long : (old : Filtered) → most_line + 1 < length line → (more : List ℕ) → Tallies old.tally old.lines (parts_of (bytes ++ more)) (Err (Line (old.lines + 1)))
  stops_long old long more =
      let high : nat_lt most_line (length first.text) ≡ true = lt-ltb most_line (length first.text) (omega (arith, long, text_length)) in
      at_line old.tally old.lines more (Err (Line (old.lines + 1))) (inr (Line (old.lines + 1), inl (high, refl), refl))

long_first : (t : Tallied) (n : ℕ) (part : List ℕ) (others : List (List ℕ)) → most_line < length part → Tallies t n (part ∷ others) (Err (Line (n + 1)))
long_first t n part [] long =
    let high : nat_lt most_line (length part) ≡ true = lt-ltb most_line (length part) long in
    ap (λ (b : Bool). if b then Err (Line (n + 1)) else Ok t) (sym high)
long_first t n part (next ∷ others) long = inr (Line (n + 1), inl (lt-ltb most_line (length part) long, refl), refl)

-- what is too long for a line is refused, whatever follows it
pub stops_rest : (f : Filtered) (rest : List ℕ) → HasNoFeed rest → most_line < length rest → (more : List ℕ) → Tallies f.tally f.lines (parts_of (rest ++ more)) (Err (Line (f.lines + 1)))
stops_rest f rest none long more =
    let first = begins rest more none in
    subst (λ (ps : List (List ℕ)). Tallies f.tally f.lines ps (Err (Line (f.lines + 1)))) (sym first.2) (long_first f.tally f.lines first.0 first.1 (omega (arith, long, first.3)))

-- what stands behind the last line is passed over
pub ends_rest : (f : Filtered) (rest : List ℕ) → HasNoFeed rest → length rest ≤ most_line → Tallies f.tally f.lines (parts_of (rest ++ [])) (Ok f.tally)
ends_rest f rest none short =
    let is : parts_of (rest ++ []) ≡ rest ∷ [] = ap parts_of (append-nil rest) ∙ no_line rest none in
    let low : nat_lt most_line (length rest) ≡ false = le-ltb most_line (length rest) short in
    subst (λ (ps : List (List ℕ)). Tallies f.tally f.lines ps (Ok f.tally)) (sym is) (ap (λ (b : Bool). if b then Err (Line (f.lines + 1)) else Ok f.tally) (sym low))

pub goes_none : (f : Filtered) (bytes : List ℕ) → Goes f bytes f bytes
goes_none f bytes = λ more r is. is

pub goes_more : (a b d : Filtered) (xs ys zs : List ℕ) → Goes a xs b ys → Goes b ys d zs → Goes a xs d zs
goes_more a b d xs ys zs one two = λ more r is. one more r (two more r is)

-- what stops further on stops all
pub stops_all : (a b : Filtered) (xs ys : List ℕ) (fault : FilterFault) → Goes a xs b ys → ((more : List ℕ) → Tallies b.tally b.lines (parts_of (ys ++ more)) (Err fault)) → (more : List ℕ) → Tallies a.tally a.lines (parts_of (xs ++ more)) (Err fault)
stops_all a b xs ys fault goes stops = λ more. goes more (Err fault) (stops more)

-- ---- a stream

abbrev pub Known : Tallied → List ℕ → ℕ → Filtered → Option (List ℕ) → Option (List ℕ) → Type 0
Known start held taken f known now = IfSome known (λ bytes. GoesOn start bytes held taken f now)

module _ (start : Tallied) where
  pub begun : (f : Filtered) (known : Option (List ℕ)) → f ≡ behind start 0 → Known start [] 0 f known known
  begun f None is = tt
  begun f (Some bytes) is = (λ r all. subst (λ (x : Filtered). Tallies x.tally x.lines (parts_of bytes) r) is all, omega arith, refl)

  grown_at : (bytes held after : List ℕ) (taken : ℕ) (f : Filtered) (now next : Option (List ℕ)) (grows : Grows now next held after) → GoesOn start bytes held taken f now → GoesOn start bytes after (taken + (length after - length held)) f next
  grown_at bytes held after taken f None next grows goes = absurd goes
  grown_at bytes held after taken f (Some left) None grows goes = absurd grows.stream
  grown_at bytes held after taken f (Some left) (Some more) grows goes =
      let all : after ++ more ≡ held ++ left = ap (λ (t : List ℕ). t ++ more) grows.batch ∙ append_assoc held grows.added more ∙ ap (λ (t : List ℕ). held ++ t) (sym grows.stream) in
      let a : length after ≡ length held + length grows.added = ap length grows.batch ∙ length-append held grows.added in
      let b : length left ≡ length grows.added + length more = ap length grows.stream ∙ length-append grows.added more in
      (λ r is. goes.0 r (subst (λ (t : List ℕ). Tallies f.tally f.lines (parts_of t) r) all is), omega (arith, a, b, goes.1), ap is_torn all ∙ goes.2)

  pub grown : (held after : List ℕ) (taken : ℕ) (f : Filtered) (known now next : Option (List ℕ)) → Grows now next held after → Known start held taken f known now → Known start after (taken + (length after - length held)) f known next
  grown held after taken f None now next grows goes = tt
  grown held after taken f (Some bytes) now next grows goes = grown_at bytes held after taken f now next grows goes

  left_at : (bytes held rest : List ℕ) (taken : ℕ) (old new : Filtered) (now : Option (List ℕ)) → Goes old held new rest → KeepsRest held rest → GoesOn start bytes held taken old now → GoesOn start bytes rest taken new now
  left_at bytes held rest taken old new None goes keeps on = absurd on
  left_at bytes held rest taken old new (Some left) goes keeps on = (λ r is. on.0 r (goes left r is), on.1, keeps left ∙ on.2)

  pub left_so : (held rest : List ℕ) (taken : ℕ) (old new : Filtered) (known now : Option (List ℕ)) → Goes old held new rest → KeepsRest held rest → Known start held taken old known now → Known start rest taken new known now
  left_so held rest taken old new None now goes keeps on = tt
  left_so held rest taken old new (Some bytes) now goes keeps on = left_at bytes held rest taken old new now goes keeps on

  stopped_at : (bytes held : List ℕ) (taken : ℕ) (f : Filtered) (now : Option (List ℕ)) (fault : FilterFault) → ((more : List ℕ) → Tallies f.tally f.lines (parts_of (held ++ more)) (Err fault)) → GoesOn start bytes held taken f now → Tallies start 0 (parts_of bytes) (Err fault)
  stopped_at bytes held taken f None fault stops on = absurd on
  stopped_at bytes held taken f (Some left) fault stops on = on.0 (Err fault) (stops left)

  pub stopped : (held : List ℕ) (taken : ℕ) (f : Filtered) (known now : Option (List ℕ)) (fault : FilterFault) → (fault ≢ WantOfMemory → (more : List ℕ) → Tallies f.tally f.lines (parts_of (held ++ more)) (Err fault)) → Known start held taken f known now
      → IfSome known (λ bytes. fault ≢ WantOfMemory → Tallies start 0 (parts_of bytes) (Err fault))
  stopped held taken f None now fault stops on = tt
  stopped held taken f (Some bytes) now fault stops on = λ other. stopped_at bytes held taken f now fault (stops other) on

  ended_at : (bytes rest : List ℕ) (taken : ℕ) (f : Filtered) (now : Option (List ℕ)) → HasNoFeed rest → length rest ≤ most_line → IsAtEnd now → GoesOn start bytes rest taken f now → Tallies start 0 (parts_of bytes) (Ok f.tally)
  ended_at bytes rest taken f None none short end on = absurd on
  ended_at bytes rest taken f (Some left) none short end on = on.0 (Ok f.tally) (subst (λ (t : List ℕ). Tallies f.tally f.lines (parts_of (rest ++ t)) (Ok f.tally)) (sym end) (ends_rest f rest none short))

  pub ended : (rest : List ℕ) (taken : ℕ) (f : Filtered) (known now : Option (List ℕ)) → HasNoFeed rest → length rest ≤ most_line → IsAtEnd now → Known start rest taken f known now → IfSome known (λ bytes. Tallies start 0 (parts_of bytes) (Ok f.tally))
  ended rest taken f None now none short end on = tt
  ended rest taken f (Some bytes) now none short end on = ended_at bytes rest taken f now none short end on

  -- what was passed over there, of so many bytes
  rest_at : (bytes rest : List ℕ) (taken : ℕ) (f : Filtered) (now : Option (List ℕ)) → HasNoFeed rest → IsAtEnd now → GoesOn start bytes rest taken f now → (nat_lt 0 (length rest) ≡ is_torn bytes) × (nat_eq taken 0 ≡ is_empty bytes)
  rest_at bytes rest taken f None none end on = absurd on
  rest_at bytes rest taken f (Some left) none end on =
      let no_more = ap length end in
      let all : taken ≡ length bytes = omega (arith, no_more, on.1) in
      (sym (at_end rest none) ∙ ap (λ (t : List ℕ). is_torn (rest ++ t)) (sym end) ∙ on.2, ap (λ (n : ℕ). nat_eq n 0) all)

  pub rest_so : (rest : List ℕ) (taken : ℕ) (f : Filtered) (known now : Option (List ℕ)) → HasNoFeed rest → IsAtEnd now → Known start rest taken f known now → IfSome known (λ bytes. (nat_lt 0 (length rest) ≡ is_torn bytes) × (nat_eq taken 0 ≡ is_empty bytes))
  rest_so rest taken f None now none end on = tt
  rest_so rest taken f (Some bytes) now none end on = rest_at bytes rest taken f now none end on

  long_at : (bytes held : List ℕ) (taken : ℕ) (f : Filtered) (now : Option (List ℕ)) → GoesOn start bytes held taken f now → taken ≤ length bytes
  long_at bytes held taken f None on = absurd on
  long_at bytes held taken f (Some left) on = omega (arith, on.1)

  -- no more was taken than there is
  pub long : (held : List ℕ) (taken : ℕ) (f : Filtered) (known now : Option (List ℕ)) → Known start held taken f known now → IfSome known (λ bytes. taken ≤ length bytes)
  long held taken f None now on = tt
  long held taken f (Some bytes) now on = long_at bytes held taken f now on

-- ---- the lines of a stream that is not refused

same_tally : (one other : Result Tallied FilterFault) (t last : Tallied) → one ≡ Ok last → other ≡ Ok t → one ≡ other → last ≡ t
same_tally one other t last a b is = cc

no_fault : (t : Tallied) (fault : FilterFault) → Ok t ≡ Err fault → ⊥
no_fault t fault is = cc

passed_rest : (b : Bool) (n : ℕ) (t last : Tallied) → Ok last ≡ (if b then Err (Line (n + 1)) else Ok t) → last ≡ t
passed_rest true n t last is = absurd (no_fault last (Line (n + 1)) is)
passed_rest false n t last is = same_tally (Ok last) (Ok t) t last refl refl is

takes_all : (t : Tallied) (n : ℕ) (parts : List (List ℕ)) (last : Tallied) → Tallies t n parts (Ok last) → TakesAll t (lines_in parts) last
takes_all t n [] last is = same_tally (Ok last) (Ok t) t last refl refl is
takes_all t n (rest ∷ []) last is = passed_rest (nat_lt most_line (length rest)) n t last is
takes_all t n (line ∷ next ∷ parts) last (inl taken) = (taken.0, taken.1.1, takes_all taken.0 (n + 1) (next ∷ parts) last taken.2)
takes_all t n (line ∷ next ∷ parts) last (inr refused) = absurd (no_fault last refused.0 refused.2)

pub of_lines : StreamIsTallied → StreamIsOfItsLines
of_lines law page total bytes last some tallies = law page total (lines_in (parts_of bytes)) last some (takes_all (untallied page total) 0 (parts_of bytes) last tallies)

pub of_inputs : StreamIsTallied → TalliesInAnyOrder → HashesStandForInputs → StreamIsOfItsInputs
of_inputs law any stand page total bytes last some tallies = elim (of_lines law page total bytes last some tallies) [
  | inl is ↦ inl (is.0, is.1, λ inputs same. any (finished last) (inputs_of page is.0) inputs is.2.tally.tally same)
  | inr is ↦ inr (is.0, is.1, λ inputs are once. stand (finished last) (hashes_of page is.0) inputs is.2.tally are once)
]
