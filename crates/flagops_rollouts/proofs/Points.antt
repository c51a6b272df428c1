-- What is told of a rule in finer points.
use Rattle.std.proofs.Common.{◌≡◌, ◌++◌, ◌||◌, ◌∙◌, ap, append-nil, ℕ, Bool, true, false, List, [], ◌∷◌, Option, Some, None, IfSome, refl, sym, subst}
use Rattle.std.specs.Prelude.{IfOk, Result, Ok, Err, is_some, nat_lt, string_bytes}
use Rattle.bucket_core.specs.Rule.{Entries, total_weight}
use Rattle.file_diagnostics.specs.Named.{Names}
use Rattle.file_diagnostics.specs.declared.lines.Opening.TheVariants.{Note}
use Rattle.plan_text.specs.Answer.{Answer, emit, none_exists}
use Rattle.transport_core.specs.declared.certificate.CutKind.{CutKind}
use Rattle.transport_core.specs.Certificate.{DualPrices}
use Rattle.flagops_rollouts.specs.Beside.{AreBehind, AreBoth, AreParts, Tells, part_if}
use Rattle.flagops_rollouts.specs.Doubts.{NamesDoubt, NamesDoubted}
use Rattle.flagops_rollouts.specs.declared.refusal.Doubt.TheVariants as doubt
use Rattle.flagops_rollouts.specs.declared.refusal.Doubt.{Doubt}
use Rattle.flagops_rollouts.specs.Finer.{IsFinerLine, IsMore, TellsFiner, TellsFinerOf, finer_line, finer_part, finer_parts, finer_text}
use Rattle.flagops_rollouts.proofs.Doubting.{named_still}
use Rattle.flagops_rollouts.proofs.Edits.{still}
use Rattle.flagops_rollouts.proofs.Parts.{still_said}
use Rattle.flagops_rollouts.specs.ByHand.{TellsEdit}
use Rattle.flagops_rollouts.specs.Plan.{Holds}
use Rattle.flagops_rollouts.specs.Refusal.{Refused}
use Rattle.flagops_files.specs.Question.{Question}
use Rattle.flagops_shell.specs.declared.outcome.Outcome.{Outcome}
use Rattle.flagops_shell.specs.Diagnostic.{Says}
use Rattle.flagops_shell.specs.declared.refused.Remark.{Remark}
use Rattle.flagops_shell.specs.declared.refused.Remark.TheVariants.{Short, Lines}

-- ---- what was noted still names what it named

doubted_by : (request book lines more whole : List ℕ) (d : Doubt) → NamesDoubt request book d lines → whole ≡ lines ++ more → NamesDoubt request book d whole
doubted_by request book lines more whole doubt.Unread named is = named_still request lines more whole named is
doubted_by request book lines more whole doubt.Unrecorded named is = named_still book lines more whole named is
doubted_by request book lines more whole doubt.Foreign named is = named_still book lines more whole named is

pub doubted_still : (request book lines more whole : List ℕ) → NamesDoubted request book lines → whole ≡ lines ++ more → NamesDoubted request book whole
doubted_still request book lines more whole (d, named) is = (d, doubted_by request book lines more whole d named is)

pub both_doubted : (request book : List ℕ) (first more whole : Option Remark) → IfSome first (Says (NamesDoubted request book)) → IfSome more (Says (NamesDoubted request book)) → AreBoth first more whole → IfSome whole (Says (NamesDoubted request book))
both_doubted request book first more whole one two both = still_said (NamesDoubted request book) (doubted_still request book) first more whole one two both

line_names : (path : List ℕ) (m total : ℕ) → Names path (finer_line path m total)
unfolding Names finer_line
line_names path m total = (Note, finer_text m total, refl)

module _ (path : List ℕ) (m total : ℕ) where
  finer_names : (remark : Remark) → Says (IsFinerLine path m total) remark → Says (Names path) remark
  finer_names Short says = tt
  finer_names (Lines line) says = subst (Names path) (sym says) (line_names path m total)

  finer_doubts : (book : List ℕ) (remark : Remark) → Says (IsFinerLine path m total) remark → Says (NamesDoubted path book) remark
  finer_doubts book Short says = tt
  finer_doubts book (Lines line) says = (doubt.Unread, subst (Names path) (sym says) (line_names path m total))

  one_line : (remark : Remark) → Says (AreParts (IsFinerLine path m total ∷ [])) remark → Says (IsFinerLine path m total) remark
  one_line Short says = tt
  one_line (Lines line) (part, rest, one, none, split) = split ∙ ap (λ (l : List ℕ). part ++ l) none ∙ append-nil part ∙ one

  -- the line, where there is one
  the_line : (there : Bool) (more : Option Remark) → Tells (part_if there (IsFinerLine path m total)) more → IfSome more (Says (IsFinerLine path m total))
  the_line there None tells = tt
  the_line true (Some remark) tells = one_line remark tells
  the_line false (Some remark) tells = cc

  weaker : (P Q : List ℕ → Type 0) (more : Option Remark) → ((remark : Remark) → Says P remark → Says Q remark) → IfSome more (Says P) → IfSome more (Says Q)
  weaker P Q None f says = tt
  weaker P Q (Some remark) f says = f remark says

  pub finer_notes : (book : List ℕ) (noted told : Option Remark) → AreBehind (finer_part path m total) noted told → IfSome noted (Says (NamesDoubted path book)) → IfSome told (Says (NamesDoubted path book))
  finer_notes book noted told (more, tells, both) doubted =
      still_said (NamesDoubted path book) (doubted_still path book) noted more told doubted (weaker (IsFinerLine path m total) (NamesDoubted path book) more (finer_doubts book) (the_line (nat_lt 1 m) more tells)) both

  pub finer_path : (noted told : Option Remark) → AreBehind (finer_part path m total) noted told → IfSome noted (Says (Names path)) → IfSome told (Says (Names path))
  finer_path noted told (more, tells, both) named = still_said (Names path) (named_still path) noted more told named (weaker (IsFinerLine path m total) (Names path) more finer_names (the_line (nat_lt 1 m) more tells)) both

-- ---- the line is there

bytes_of : Remark → List ℕ
bytes_of Short = []
bytes_of (Lines lines) = string_bytes lines

module _ (path : List ℕ) (m : ℕ) (rule : Entries) (c : DualPrices) where
  told_so : (before line whole : List ℕ) → IsFinerLine path m (total_weight rule) line → whole ≡ before ++ line → TellsFiner path m (emit rule c) whole
  unfolding TellsFiner
  told_so before line whole finer is = λ large. (before, [], is ∙ ap (λ (l : List ℕ). before ++ l) (finer ∙ sym (append-nil (finer_line path m (total_weight rule)))))

  behind_noted : (noted : Option Remark) (line : Remark) (told : Option Remark) → Says (IsFinerLine path m (total_weight rule)) line → AreBoth noted (Some line) told → IfSome told (Says (TellsFiner path m (emit rule c)))
  unfolding bytes_of
  behind_noted noted line None finer both = tt
  behind_noted noted line (Some Short) finer both = tt
  behind_noted None Short (Some (Lines whole)) finer both = cc
  behind_noted None (Lines line) (Some (Lines whole)) finer both =
      let same : Lines whole ≡ Lines line = cc in
      told_so [] (string_bytes line) (string_bytes whole) finer (ap bytes_of same)
  behind_noted (Some (Lines lines)) (Lines line) (Some (Lines whole)) finer both = told_so (string_bytes lines) (string_bytes line) (string_bytes whole) finer both
  behind_noted (Some Short) line (Some (Lines whole)) finer both = absurd both
  behind_noted (Some (Lines lines)) Short (Some (Lines whole)) finer both = absurd both

  not_larger : (lines : List ℕ) → nat_lt 1 m ≡ false → TellsFiner path m (emit rule c) lines
  unfolding TellsFiner
  not_larger lines small = λ large. absurd (let both : true ≡ false = sym large ∙ small in cc)

  not_finer : (noted : Option Remark) → nat_lt 1 m ≡ false → IfSome noted (Says (TellsFiner path m (emit rule c)))
  not_finer None small = tt
  not_finer (Some Short) small = tt
  not_finer (Some (Lines lines)) small = not_larger (string_bytes lines) small

  by_part : (b : Bool) (noted more told : Option Remark) → nat_lt 1 m ≡ b → Tells (part_if b (IsFinerLine path m (total_weight rule))) more → AreBoth noted more told → IfSome told (Says (TellsFiner path m (emit rule c)))
  by_part false noted more told small tells both = not_finer told small
  by_part true noted None told large tells both = absurd tells
  by_part true noted (Some line) told large tells both = behind_noted noted line told (one_line path m (total_weight rule) line tells) both

  pub finer_told : (noted told : Option Remark) → AreBehind (finer_part path m (total_weight rule)) noted told → IfSome told (Says (TellsFiner path m (emit rule c)))
  finer_told noted told (more, tells, both) = by_part (nat_lt 1 m) noted more told refl tells both

-- no rule at all
none_one : (path : List ℕ) (m : ℕ) (kind : CutKind) (names : List (List ℕ)) (lines : List ℕ) → TellsFiner path m (none_exists kind names) lines
unfolding TellsFiner
none_one path m kind names lines = tt

pub no_rule : (path : List ℕ) (m : ℕ) (kind : CutKind) (names : List (List ℕ)) (noted : Option Remark) → IfSome noted (Says (TellsFiner path m (none_exists kind names)))
no_rule path m kind names None = tt
no_rule path m kind names (Some Short) = tt
no_rule path m kind names (Some (Lines lines)) = none_one path m kind names (string_bytes lines)

-- ---- by an answer

pub answer_told : (path : List ℕ) (m : ℕ) (answer : Answer) (noted told : Option Remark) → AreBehind (finer_parts path m answer) noted told → IfSome told (Says (TellsFiner path m answer))
answer_told path m (emit rule c) noted told behind = finer_told path m rule c noted told behind
answer_told path m (none_exists kind names) noted told behind = no_rule path m kind names told

pub answer_notes : (path : List ℕ) (m : ℕ) (answer : Answer) (book : List ℕ) (noted told : Option Remark) → AreBehind (finer_parts path m answer) noted told → IfSome noted (Says (NamesDoubted path book)) → IfSome told (Says (NamesDoubted path book))
answer_notes path m (emit rule c) book noted told behind doubted = finer_notes path m (total_weight rule) book noted told behind doubted
answer_notes path m (none_exists kind names) book noted told (None, tells, both) doubted = still_said (NamesDoubted path book) (doubted_still path book) noted None told doubted tt both
answer_notes path m (none_exists kind names) book noted told (Some more, tells, both) doubted = cc

-- ---- with an answer in words before it

module _ (path : List ℕ) (q : Question) (m : ℕ) (answer : Answer) where
  pub in_words : (noted shown : Option Remark) → is_some noted ≡ true → IfSome noted (Says (TellsEdit path q m answer)) → IsMore noted shown → IfSome shown (Says (TellsEdit path q m answer))
  in_words None shown some told more = cc
  in_words (Some noted) None some told more = absurd more
  in_words (Some noted) (Some shown) some told more = still path q m answer noted shown told more

  -- what is explained stays so
  pub words_still : (explain other : Bool) (noted shown : Option Remark) → is_some noted ≡ (explain || other) → (explain ≡ true → IfSome noted (Says (TellsEdit path q m answer))) → IsMore noted shown → explain ≡ true → IfSome shown (Says (TellsEdit path q m answer))
  words_still explain other noted shown some told more is = in_words noted shown (some ∙ ap (λ (b : Bool). b || other) is) (told is) more

-- ---- beside the text of the answer

module _ (path : List ℕ) (m : ℕ) (answer : Answer) where
  printed_by : (text : List ℕ) (remark : Remark) → Holds answer text → Says (TellsFiner path m answer) remark → Says (TellsFinerOf path m text) remark
  unfolding TellsFinerOf
  printed_by text Short holds told = tt
  printed_by text (Lines lines) holds told = (answer, holds, told)

  printed_some : (text : List ℕ) (remark : Option Remark) → Holds answer text → IfSome remark (Says (TellsFiner path m answer)) → IfSome remark (Says (TellsFinerOf path m text))
  printed_some text None holds told = tt
  printed_some text (Some remark) holds told = printed_by text remark holds told

  pub printed : (remark : Option Remark) (r : Result Outcome Refused) → IfSome remark (Says (TellsFiner path m answer)) → IfOk r (λ o. Holds answer o.text.items) → IfOk r (λ o. o.remark ≡ remark) → IfOk r (λ o. IfSome o.remark (Says (TellsFinerOf path m o.text.items)))
  printed remark (Ok o) told holds same = subst (λ (x : Option Remark). IfSome x (Says (TellsFinerOf path m o.text.items))) (sym same) (printed_some o.text.items remark holds told)
  printed remark (Err e) told holds same = tt
