-- What is recorded of lines is that of the first ones and then of the others.
use denote.Ref.{Bor}
use Rattle.std.proofs.Common.{◌≡◌, ◌<◌, ◌≤◌, ◌+◌, ℕ, get_or, drop-cons, add-one, Bool, true, false, Option, Some, None, nat_lt, if◌then◌else◌, drop, List, [], ◌∷◌, ◌++◌, length, append-nil, append_assoc, refl, sym, ap, ◌∙◌, subst, arith}
use Rattle.std.proofs.lemmas.List.{drop_all}
use Rattle.std.specs.List.{list_any}
use Rattle.flag_text.specs.Shape.{Shape}
use Rattle.flag_resolve.specs.Resolved.{Resolved}
use Rattle.note_streams.specs.Lines.{lines_view}
use Rattle.note_streams.specs.Outcomes.{Outcomes, both, contexts, no_outcomes, outcome_of}
use Rattle.note_streams.specs.Record.{Scene, Recorded, nothing, joined, refused, most_line, is_blank, context_of, is_long, notes_of, of_context, of_line, of_resolved, record_of, resolved_in}
use Rattle.note_streams.proofs.Both.{both-assoc, both-first, both-last, contexts-both, contexts-one}

pub joined-first : (r : Recorded) → joined nothing r ≡ r
unfolding joined
joined-first r =
    let same : 0 + r.lines ≡ r.lines = omega arith in
    let outcomes = both-first r.outcomes in
    λ i. record { text = r.text; lines = same i; refused = r.refused; outcomes = outcomes i }

assoc : (t : List ℕ) (n : ℕ) (b : Bool) (o : Outcomes) (two three : Recorded) → joined (joined (record { text = t; lines = n; refused = b; outcomes = o }) two) three ≡ joined (record { text = t; lines = n; refused = b; outcomes = o }) (joined two three)
unfolding joined
assoc t n true o two three = refl
assoc t n false o two three = later two.text two.lines two.refused two.outcomes three
  where
    later : (u : List ℕ) (m : ℕ) (c : Bool) (p : Outcomes) (r : Recorded)
        → joined (record { text = t ++ u; lines = n + m; refused = c; outcomes = both o p }) r ≡ joined (record { text = t; lines = n; refused = false; outcomes = o }) (joined (record { text = u; lines = m; refused = c; outcomes = p }) r)
    later u m true p r = refl
    later u m false p r =
        let texts = append_assoc t u r.text in
        let sums : n + m + r.lines ≡ n + (m + r.lines) = omega arith in
        let outcomes = both-assoc o p r.outcomes in
        λ i. record { text = texts i; lines = sums i; refused = r.refused; outcomes = outcomes i }

pub joined-assoc : (one two three : Recorded) → joined (joined one two) three ≡ joined one (joined two three)
joined-assoc one two three = assoc one.text one.lines one.refused one.outcomes two three

pub record-append : (s : Scene) (xs ys : List (List ℕ)) → record_of s (xs ++ ys) ≡ joined (record_of s xs) (record_of s ys)
record-append s [] ys = sym (joined-first (record_of s ys))
record-append s (x ∷ xs) ys = ap (joined (of_line s x)) (record-append s xs ys) ∙ sym (joined-assoc (of_line s x) (record_of s xs) (record_of s ys))

-- what comes behind a line that is no context is not looked at
pub joined-refused : (one other : Recorded) → one.refused ≡ true → joined one other ≡ one
unfolding joined
joined-refused one other e = rw e refl

pub joined-last : (r : Recorded) → joined r nothing ≡ r
unfolding joined
joined-last r = last r.text r.lines r.refused r.outcomes
  where
    last : (t : List ℕ) (n : ℕ) (b : Bool) (o : Outcomes) → joined (record { text = t; lines = n; refused = b; outcomes = o }) nothing ≡ record { text = t; lines = n; refused = b; outcomes = o }
    last t n true o = refl
    last t n false o =
        let texts = append-nil t in
        let sums : n + 0 ≡ n = omega arith in
        let outcomes = both-last o in
        λ i. record { text = texts i; lines = sums i; refused = false; outcomes = outcomes i }

line_count : (t : List ℕ) (n : ℕ) (b : Bool) (o : Outcomes) (r : Recorded) → (joined (record { text = t; lines = n; refused = b; outcomes = o }) r).lines ≤ n + r.lines
unfolding joined
line_count t n true o r = omega arith
line_count t n false o r = omega arith

-- the next line is recorded
pub next_line : (s : Scene) (lines : List (Bor (List ℕ))) (i : ℕ) (line : List ℕ) (out new all : Recorded) → lines_view (drop i lines) ≡ line ∷ lines_view (drop (i + 1) lines) → joined out (record_of s (lines_view (drop i lines))) ≡ all → new ≡ joined out (of_line s line)
    → joined new (record_of s (lines_view (drop (i + 1) lines))) ≡ all
next_line s lines i line out new all next so_far is =
    let later = record_of s (lines_view (drop (i + 1) lines)) in
    ap (λ (r : Recorded). joined r later) is ∙ joined-assoc out (of_line s line) later ∙ ap (λ (ls : List (List ℕ)). joined out (record_of s ls)) (sym next) ∙ so_far

-- the first of the lines that are left
pub first_left : (lines : List (Bor (List ℕ))) (i : ℕ) (d : Bor (List ℕ)) → i < length lines → lines_view (drop i lines) ≡ (get_or lines i d).now ∷ lines_view (drop (i + 1) lines)
first_left lines i d within =
    let next : drop i lines ≡ get_or lines i d ∷ drop (i + 1) lines = rw (add-one, drop-cons lines i d) refl in
    ap lines_view next

pub none_left : (s : Scene) (lines : List (Bor (List ℕ))) (i : ℕ) (out all : Recorded) → length lines ≤ i → joined out (record_of s (lines_view (drop i lines))) ≡ all → out ≡ all
none_left s lines i out all past so_far =
    sym (joined-last out) ∙ ap (λ (ls : List (Bor (List ℕ))). joined out (record_of s (lines_view ls))) (sym (drop_all i lines past)) ∙ so_far

line_counts : (one two : Recorded) → (joined one two).lines ≤ one.lines + two.lines
line_counts one two = line_count one.text one.lines one.refused one.outcomes two

of_line-one : (s : Scene) (line : List ℕ) → (of_line s line).lines ≡ 1
unfolding of_line
of_line-one s line = long (nat_lt most_line (length line)) (is_blank line) (context_of line)
  where
    context : (o : Option Shape) → (of_context s o).lines ≡ 1
    context None = refl
    context (Some t) = refl

    long : (b d : Bool) (o : Option Shape) → (if b then refused else (if d then record { text = []; lines = 1; refused = false; outcomes = no_outcomes } else of_context s o)).lines ≡ 1
    long true d o = refl
    long false true o = refl
    long false false o = context o

-- ---- no more contexts than lines

abbrev pub Few : Recorded → Type 0
Few r = contexts r.outcomes ≤ r.lines

pub few_nothing : Few nothing
few_nothing = omega arith

few_parts : (t : List ℕ) (n : ℕ) (b : Bool) (o : Outcomes) (r : Recorded) → contexts o ≤ n → Few r → Few (joined (record { text = t; lines = n; refused = b; outcomes = o }) r)
unfolding joined
few_parts t n true o r first second = first
few_parts t n false o r first second =
    let both = contexts-both o r.outcomes in
    omega (arith, both, first, second)

pub few_joined : (one other : Recorded) → Few one → Few other → Few (joined one other)
few_joined one other first second = few_parts one.text one.lines one.refused one.outcomes other first second

one_context : (s : Scene) (context : Shape) (r : Resolved) → Few (of_resolved s context r)
one_context s context r =
    let long = list_any is_long r.reached in
    let one = contexts-one long (outcome_of (nat_lt 0 (length (notes_of s r))) long context r) in
    omega (arith, one)

pub few_line : (s : Scene) (line : List ℕ) → Few (of_line s line)
unfolding of_line
few_line s line = long (nat_lt most_line (length line)) (is_blank line) (context_of line)
  where
    context : (o : Option Shape) → Few (of_context s o)
    context None = omega arith
    context (Some t) = one_context s t (resolved_in s t)

    long : (b d : Bool) (o : Option Shape) → Few (if b then refused else (if d then record { text = []; lines = 1; refused = false; outcomes = no_outcomes } else of_context s o))
    long true d o = omega arith
    long false true o = omega arith
    long false false o = context o

pub few_contexts : (s : Scene) (lines : List (List ℕ)) → Few (record_of s lines)
few_contexts s [] = omega arith
few_contexts s (line ∷ lines) = few_joined (of_line s line) (record_of s lines) (few_line s line) (few_contexts s lines)

-- and so where the next line is recorded
pub few_more : (s : Scene) (line : List ℕ) (out new : Recorded) → new ≡ joined out (of_line s line) → Few out → Few new
few_more s line out new is few = subst Few (sym is) (few_joined out (of_line s line) few (few_line s line))

-- no more lines than there are
pub few_lines : (s : Scene) (lines : List (List ℕ)) → (record_of s lines).lines ≤ length lines
few_lines s [] = omega arith
few_lines s (line ∷ lines) =
    let one = of_line-one s line in
    let both = line_counts (of_line s line) (record_of s lines) in
    let later = few_lines s lines in
    omega (arith, one, both, later)

-- the next line is one more
pub one_more : (s : Scene) (line : List ℕ) (out new : Recorded) (i : ℕ) → new ≡ joined out (of_line s line) → out.lines ≤ i → new.lines ≤ i + 1
one_more s line out new i is few =
    let sum = line_counts out (of_line s line) in
    let one = of_line-one s line in
    let e = ap (λ (r : Recorded). r.lines) is in
    omega (arith, sum, one, e, few)
