-- Runs of lines, recorded and written one after another.
use denote.Ref.{Bor}
use Rattle.std.proofs.Common.{◌≡◌, ◌<◌, ◌≤◌, ◌+◌, ℕ, Bool, true, false, List, [], ◌∷◌, ◌++◌, length, map, drop, drop-cons, get_or, add-one, Option, refl, sym, ap, ap₂, ◌∙◌, subst, arith}
use Rattle.std.proofs.KnownBytes.{Appends-nil, Appends-trans}
use Rattle.std.proofs.lemmas.List.{drop_all, map-append}
use Rattle.std.specs.Io.KnownBytes.{Appends}
use Rattle.flag_text.specs.Outlet.{AppendsPart}
use Rattle.note_streams.proofs.Folded.{joined-assoc, joined-first, joined-last, joined-refused, record-append}
use Rattle.note_streams.specs.Lines.{lines_view}
use Rattle.note_streams.specs.Outcomes.{Outcomes}
use Rattle.note_streams.specs.Record.{Recorded, Scene, joined, nothing, record_of}
use Rattle.note_streams.specs.View.{recorded_view}
use Rattle.note_streams.specs.declared.recorded.Recorded as code
use Rattle.note_streams.specs.Runs.{all_joined, runs_view}
use Rattle.note_streams.proofs.Batches.{begins_with, fronts, open_lines, open_refused, open_text}

-- what runs come to, and those behind them, is what all come to
pub all-append : (xs ys : List Recorded) → all_joined (xs ++ ys) ≡ joined (all_joined xs) (all_joined ys)
all-append [] ys = sym (joined-first (all_joined ys))
all-append (x ∷ xs) ys = ap (joined x) (all-append xs ys) ∙ sym (joined-assoc x (all_joined xs) (all_joined ys))

pub runs-append : (xs ys : List code.Recorded) → runs_view (xs ++ ys) ≡ joined (runs_view xs) (runs_view ys)
runs-append xs ys = ap all_joined (map-append recorded_view xs ys) ∙ all-append (map recorded_view xs) (map recorded_view ys)

pub one_run : (runs : List code.Recorded) (run : code.Recorded) (whole : Recorded) → runs ≡ run ∷ [] → recorded_view run ≡ whole → runs_view runs ≡ whole
one_run runs run whole one is = ap runs_view one ∙ (joined-last (recorded_view run) ∙ is)

-- the first of the runs that are left
pub first_run : (runs : List code.Recorded) (i : ℕ) (d : code.Recorded) → i < length runs → runs_view (drop i runs) ≡ joined (recorded_view (get_or runs i d)) (runs_view (drop (i + 1) runs))
first_run runs i d within =
    let next : drop i runs ≡ get_or runs i d ∷ drop (i + 1) runs = rw (add-one, drop-cons runs i d) refl in
    ap runs_view next

pub no_run : (runs : List code.Recorded) (i : ℕ) → length runs ≤ i → runs_view (drop i runs) ≡ nothing
no_run runs i past = ap runs_view (drop_all i runs past)

more : (t : List ℕ) (n : ℕ) (b : Bool) (o : Outcomes) (r : Recorded) → n ≤ (joined (record { text = t; lines = n; refused = b; outcomes = o }) r).lines
unfolding joined
more t n true o r = omega arith
more t n false o r = omega arith

more_lines : (run left : Recorded) → run.lines ≤ (joined run left).lines
more_lines run left = more run.text run.lines run.refused run.outcomes left

-- so many lines are written, of which none was refused, and what is left makes the whole of them
pub record Underway (old now : Option (List ℕ)) (lines : ℕ) (left whole : Recorded) : Type 0 where
  pub done : Recorded
  pub good : done.refused ≡ false
  pub number : lines ≡ done.lines
  pub text : Appends old now done.text
  pub all : joined done left ≡ whole

pub begun : (old : Option (List ℕ)) (whole : Recorded) → Underway old old 0 whole whole
begun old whole = record { done = nothing; good = refl; number = refl; text = Appends-nil old; all = joined-first whole }

-- and the next of them is this run
pub at_run : (old now : Option (List ℕ)) (lines : ℕ) (runs : List code.Recorded) (i : ℕ) (run : code.Recorded) → i < length runs → run ≡ get_or runs i run → Underway old now lines (runs_view (drop i runs)) (runs_view runs)
    → Underway old now lines (joined (recorded_view run) (runs_view (drop (i + 1) runs))) (runs_view runs)
at_run old now lines runs i run within is under =
    let next = first_run runs i run within ∙ ap (λ (r : code.Recorded). joined (recorded_view r) (runs_view (drop (i + 1) runs))) (sym is) in
    subst (λ (left : Recorded). Underway old now lines left (runs_view runs)) next under

module _ (old mid new : Option (List ℕ)) (lines : ℕ) (run left whole : Recorded) (under : Underway old mid lines (joined run left) whole) where
  together : joined (joined under.done run) left ≡ whole
  together = joined-assoc under.done run left ∙ under.all

  -- no more lines than there are
  pub fits : lines + run.lines ≤ whole.lines
  fits =
      let both = open_lines under.done (joined run left) under.good in
      let first = more_lines run left in
      let same = ap (λ (r : Recorded). r.lines) under.all in
      omega (arith, both, first, same, under.number)

  -- the next run is written
  pub next : run.refused ≡ false → Appends mid new run.text → Underway old new (lines + run.lines) left whole
  next good text = record {
    done = joined under.done run;
    good = open_refused under.done run under.good ∙ good;
    number = ap (λ (n : ℕ). n + run.lines) under.number ∙ sym (open_lines under.done run under.good);
    text = subst (Appends old new) (sym (open_text under.done run under.good)) (Appends-trans old mid new under.done.text run.text under.text text);
    all = together;
  }

  -- a line of it is no context
  pub stops : run.refused ≡ true → Appends mid new run.text → (lines + run.lines ≡ whole.lines) × (true ≡ whole.refused) × Appends old new whole.text
  stops bad text =
      let is : joined under.done run ≡ whole = ap (joined under.done) (sym (joined-refused run left bad)) ∙ under.all in (
        ap (λ (n : ℕ). n + run.lines) under.number ∙ sym (open_lines under.done run under.good) ∙ ap (λ (r : Recorded). r.lines) is,
        sym bad ∙ sym (open_refused under.done run under.good) ∙ ap (λ (r : Recorded). r.refused) is,
        subst (Appends old new) (sym (open_text under.done run under.good) ∙ ap (λ (r : Recorded). r.text) is) (Appends-trans old mid new under.done.text run.text under.text text),
      )

  -- the output failed within it
  pub breaks : AppendsPart mid new run.text → AppendsPart old new whole.text
  breaks part =
      let more = begins_with run left in
      let all : whole.text ≡ under.done.text ++ (run.text ++ more.0) = ap (λ (r : Recorded). r.text) (sym under.all) ∙ open_text under.done (joined run left) under.good ∙ ap (λ (t : List ℕ). under.done.text ++ t) more.1 in
      subst (AppendsPart old new) (sym all) (fronts old mid new under.done.text run.text more.0 under.text part)

-- all is written
pub ended : (old new : Option (List ℕ)) (lines : ℕ) (left whole : Recorded) → left ≡ nothing → (under : Underway old new lines left whole) → (lines ≡ whole.lines) × (false ≡ whole.refused) × Appends old new whole.text
ended old new lines left whole none under =
    let is : under.done ≡ whole = sym (joined-last under.done) ∙ ap (joined under.done) (sym none) ∙ under.all in (
      under.number ∙ ap (λ (r : Recorded). r.lines) is,
      sym under.good ∙ ap (λ (r : Recorded). r.refused) is,
      subst (Appends old new) (ap (λ (r : Recorded). r.text) is) under.text,
    )

-- the runs of two parts of lines, in order, are those of the lines
pub in_order : (s : Scene) (lines front behind : List (Bor (List ℕ))) (runs later : List code.Recorded) → front ++ behind ≡ lines → runs_view runs ≡ record_of s (lines_view front) → runs_view later ≡ record_of s (lines_view behind)
    → runs_view (runs ++ later) ≡ record_of s (lines_view lines)
in_order s lines front behind runs later whole first second =
    runs-append runs later ∙ ap₂ joined first second ∙ sym (record-append s (lines_view front) (lines_view behind))
    ∙ ap (record_of s) (sym (map-append (λ (line : Bor (List ℕ)). line.now) front behind) ∙ ap lines_view whole)

-- the runs that are written are those that were recorded of the lines that were cut
pub recorded_of_cut : (s : Scene) (cut lines : List (Bor (List ℕ))) (runs written : List code.Recorded) → lines ≡ cut → written ≡ runs → runs_view runs ≡ record_of s (lines_view lines) → runs_view written ≡ record_of s (lines_view cut)
recorded_of_cut s cut lines runs written same_lines same_runs is = ap runs_view same_runs ∙ is ∙ ap (λ (ls : List (Bor (List ℕ))). record_of s (lines_view ls)) same_lines
