-- The lines of a file of answers, one by one.
use Rattle.std.proofs.Common.{◌≡◌, ◌≢◌, ℕ, suc, ◌≤◌, length, Bool, true, false, cond, List, [], ◌∷◌, ◌++◌, Option, Some, None, Result, Ok, Err, refl, sym, ap, ◌∙◌, append_assoc, append-nil}
use Rattle.std.specs.List.{slice_split, onto_first}
use Rattle.std.proofs.lemmas.Bool.{le-ltb}
use Rattle.book_core.specs.Reading.{is_feed}
use Rattle.plan_text.specs.Answer.{Answer}
use Rattle.plan_text.specs.PlanFile.{max_plan}
use Rattle.ramp.specs.Lines.{and_more, if_ended, ramp_of, read_parts, step_of}
use Rattle.ramp.specs.declared.file_fault.RampFileFault.{RampFileFault}
use Rattle.ramp.specs.declared.file_fault.RampFileFault.TheVariants.{Line}

abbrev pub Read : Type 0
Read = Result (List Answer) RampFileFault

-- behind these answers
abbrev pub behind : List Answer → Read → Read
behind done (Ok bs) = Ok (done ++ bs)
behind done (Err e) = Err e

some_joined : (feed : Bool) (b : ℕ) (parts : List (List ℕ)) → cond feed ([] ∷ parts) (onto_first b parts) ≢ []
some_joined true b parts e = cc
some_joined false b [] e = cc
some_joined false b (part ∷ parts) e = cc

pub some_part : (bytes : List ℕ) → slice_split is_feed bytes ≢ []
some_part [] e = cc
some_part (b ∷ bs) e = some_joined (is_feed b) b (slice_split is_feed bs) e

pub read_cons : (n : ℕ) (line : List ℕ) (parts : List (List ℕ)) → parts ≢ [] → read_parts n (line ∷ parts) ≡ and_more n (step_of n line) (read_parts (suc n) parts)
read_cons n line [] some = absurd (some refl)
read_cons n line (part ∷ parts) some = refl

behind_one : (n : ℕ) (done : List Answer) (a : Answer) (r : Read) → behind done (and_more n (Some a) r) ≡ behind (done ++ a ∷ []) r
behind_one n done a (Ok bs) = ap Ok (sym (append_assoc done (a ∷ []) bs))
behind_one n done a (Err e) = refl

module _ (bytes line rest : List ℕ) (n : ℕ) (split : slice_split is_feed bytes ≡ line ∷ slice_split is_feed rest) where
  pub line_read : (done : List Answer) (a : Answer) → step_of n line ≡ Some a → behind done (read_parts n (slice_split is_feed bytes)) ≡ behind (done ++ a ∷ []) (read_parts (suc n) (slice_split is_feed rest))
  line_read done a is =
      ap (λ ps. behind done (read_parts n ps)) split ∙ ap (behind done) (read_cons n line (slice_split is_feed rest) (some_part rest))
      ∙ ap (λ o. behind done (and_more n o (read_parts (suc n) (slice_split is_feed rest)))) is ∙ behind_one n done a (read_parts (suc n) (slice_split is_feed rest))

  pub line_refused : (done : List Answer) → step_of n line ≡ None → behind done (read_parts n (slice_split is_feed bytes)) ≡ Err (Line n)
  line_refused done is =
      ap (λ ps. behind done (read_parts n ps)) split ∙ ap (behind done) (read_cons n line (slice_split is_feed rest) (some_part rest))
      ∙ ap (λ o. behind done (and_more n o (read_parts (suc n) (slice_split is_feed rest)))) is

pub all_read : (n : ℕ) (done : List Answer) → behind done (read_parts n (slice_split is_feed [])) ≡ Ok done
all_read n done = rw (append-nil done) refl

pub unended : (n : ℕ) (done : List Answer) (b : ℕ) (bs : List ℕ) → slice_split is_feed (b ∷ bs) ≡ (b ∷ bs) ∷ [] → behind done (read_parts n (slice_split is_feed (b ∷ bs))) ≡ Err (Line n)
unended n done b bs split = ap (λ ps. behind done (read_parts n ps)) split

pub small : (bytes : List ℕ) → length bytes ≤ max_plan → ramp_of bytes ≡ read_parts 1 (slice_split is_feed bytes)
small bytes h = rw (le-ltb max_plan (length bytes) h) refl
