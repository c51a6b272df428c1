-- Parts of a page: one line, a line more, a part more, and the run that a part is.
use Rattle.std.proofs.Common.{◌≡◌, ◌<◌, ◌≤◌, ◌+◌, ◌++◌, ℕ, zero, suc, true, List, [], ◌∷◌, length, drop, Option, Some, None, refl, sym, ap, ap₂, ◌∙◌, subst, arith, length-append, length-drop}
use Rattle.std.proofs.lemmas.List.{drop-drop, drop_all, map-append}
use Rattle.std.specs.Ordering.{is_lt}
use Rattle.bucket_core.specs.Point.{point_of}
use Rattle.book_core.specs.Book.{Inputs, most_inputs, most_bytes}
use Rattle.book_core.specs.Page.{bytes_cmp}
use Rattle.book_core.specs.Reading.{FileLine, adds, lines_of}
use Rattle.page_tally.specs.Folding.{Kept, with_input, with_inputs}
use Rattle.page_tally.specs.Parts.{AreRising, IsEndOf, IsJoined, IsPart}
use Rattle.page_tally.specs.Points.{points_if}
use Rattle.page_tally.specs.Runs.{IsRun, last_of_run, with_lines, TakesRun}
use Rattle.page_tally.specs.declared.part.Part.{Part}
use Rattle.page_tally.proofs.Running.{inputs-with_inputs}

-- ---- the end of a list

-- ends of one length are one
pub same_end : (xs : List ℕ) (m n : ℕ) → length (drop m xs) ≡ length (drop n xs) → drop m xs ≡ drop n xs
same_end [] m n e = drop_all m [] (omega arith) ∙ sym (drop_all n [] (omega arith))
same_end (x ∷ xs) zero zero e = refl
same_end (x ∷ xs) zero (suc n) e =
    let long : suc (length xs) ≡ length (drop n xs) = e in
    absurd (omega (arith, long, length-drop n xs))
same_end (x ∷ xs) (suc m) zero e =
    let long : length (drop m xs) ≡ suc (length xs) = e in
    absurd (omega (arith, long, length-drop m xs))
same_end (x ∷ xs) (suc m) (suc n) e = same_end xs m n e

pub end_of_end : (xs ys zs : List ℕ) → IsEndOf xs ys → IsEndOf ys zs → IsEndOf xs zs
end_of_end xs ys zs p q = (p.0 + q.0, q.1 ∙ ap (drop q.0) p.1 ∙ drop-drop q.0 p.0 xs)

-- ---- runs that follow on one another

last-append : (xs ys : Inputs) (last y : List ℕ) → last_of_run last (xs ++ y ∷ ys) ≡ last_of_run y ys
last-append [] ys last y = refl
last-append (x ∷ xs) ys last y = last-append xs ys x y

last-both : (xs ys : Inputs) (last : List ℕ) → last_of_run last (xs ++ ys) ≡ last_of_run (last_of_run last xs) ys
last-both [] ys last = refl
last-both (x ∷ xs) ys last = last-both xs ys x

pub lines-append : (xs ys : Inputs) (after : List FileLine) → with_lines (xs ++ ys) after ≡ with_lines xs (with_lines ys after)
lines-append [] ys after = refl
lines-append (x ∷ xs) ys after = ap (λ ls. adds x ∷ ls) (lines-append xs ys after)

rising-append : (xs ys : Inputs) (last y : List ℕ) → AreRising last xs → is_lt (bytes_cmp (last_of_run last xs) y) ≡ true → length y ≤ most_bytes → AreRising y ys → AreRising last (xs ++ y ∷ ys)
rising-append [] ys last y rising above short later = (above, short, later)
rising-append (x ∷ xs) ys last y rising above short later = (rising.0, rising.1, rising-append xs ys x y rising.2 above short later)

points-append : (total : Option ℕ) (xs ys : Inputs) → points_if total (xs ++ ys) ≡ points_if total xs ++ points_if total ys
points-append None xs ys = refl
points-append (Some total) xs ys = map-append (point_of total) xs ys

run-append : (xs ys : Inputs) (count : ℕ) (first : List ℕ) → IsRun count first xs → IsRun (count + length xs) (last_of_run first xs) ys → IsRun count first (xs ++ ys)
run-append [] ys count first run later =
    let same : count + 0 ≡ count = omega arith in
    subst (λ n. IsRun n first ys) same later
run-append (x ∷ xs) ys count first run later =
    let same : count + length (x ∷ xs) ≡ count + 1 + length xs = omega arith in
    (run.0, run.1, run.2, run-append xs ys (count + 1) x run.3 (subst (λ n. IsRun n (last_of_run x xs) ys) same later))

with_inputs-append : (xs ys : Inputs) (k : Kept) → with_inputs k (xs ++ ys) ≡ with_inputs (with_inputs k xs) ys
with_inputs-append [] ys k = refl
with_inputs-append (x ∷ xs) ys k = with_inputs-append xs ys (with_input k x)

pub run_then : (first : List ℕ) (xs ys : Inputs) (before after later : List FileLine) (n m i : ℕ) (had have new : Kept) (end last : List ℕ)
    → TakesRun first xs before n had end after m have → TakesRun end ys after m have last later i new → TakesRun first (xs ++ ys) before n had last later i new
run_then first xs ys before after later n m i had have new end last t u =
    let many : have.inputs ≡ had.inputs + length xs = ap (λ (k : Kept). k.inputs) t.kept ∙ inputs-with_inputs xs had in
    record {
      run = run-append xs ys had.inputs first t.run (subst (λ e. IsRun (had.inputs + length xs) e ys) t.last (subst (λ c. IsRun c end ys) many u.run));
      lines = t.lines ∙ ap (with_lines xs) u.lines ∙ sym (lines-append xs ys later);
      number = omega (arith, t.number, u.number, length-append xs ys);
      last = u.last ∙ ap (λ e. last_of_run e ys) t.last ∙ sym (last-both xs ys first);
      kept = u.kept ∙ ap (λ k. with_inputs k ys) t.kept ∙ sym (with_inputs-append xs ys had);
    }

-- ---- parts

-- a line more
pub part_more : (bytes : List ℕ) (total : Option ℕ) (others : Inputs) (input rest : List ℕ) (old new : Part) → IsPart bytes total others old
    → lines_of old.rest.now ≡ adds input ∷ lines_of rest → length input ≤ most_bytes → rest ≡ drop (length input + 3) old.rest.now → length rest < length old.rest.now
    → is_lt (bytes_cmp old.last.now input) ≡ true → new.first.now ≡ old.first.now → new.last.now ≡ input → new.inputs ≡ old.inputs + 1
    → new.points.items ≡ old.points.items ++ points_if total (input ∷ []) → new.rest.now ≡ rest → IsPart bytes total (others ++ input ∷ []) new
part_more bytes total others input rest old new p line short behind shorter above first last inputs points is =
    let was : List ℕ = old.first.now in
    let more : IsEndOf bytes rest = end_of_end bytes old.rest.now rest p.behind (length input + 3, behind) in
    record {
      lines = p.lines ∙ ap (with_lines (was ∷ others)) line ∙ sym (lines-append (was ∷ others) (input ∷ []) (lines_of rest))
          ∙ ap₂ (λ f r. with_lines (f ∷ (others ++ input ∷ [])) (lines_of r)) (sym first) (sym is);
      short = subst (λ f. length f ≤ most_bytes) (sym first) p.short;
      rising = subst (λ f. AreRising f (others ++ input ∷ [])) (sym first) (rising-append others [] was input p.rising (subst (λ l. is_lt (bytes_cmp l input) ≡ true) p.last above) short tt);
      last = last ∙ sym (last-append others [] new.first.now input);
      inputs = omega (arith, inputs, p.inputs, length-append others (input ∷ []));
      points = points ∙ ap (λ ps. ps ++ points_if total (input ∷ [])) p.points ∙ sym (points-append total (was ∷ others) (input ∷ [])) ∙ ap (λ f. points_if total (f ∷ (others ++ input ∷ []))) (sym first);
      fits = omega (arith, inputs, p.fits, shorter, ap length is);
      behind = (more.0, is ∙ more.1);
    }

-- the part behind
pub part_joined : (bytes behind : List ℕ) (total : Option ℕ) (xs ys : Inputs) (p q r : Part) → IsPart bytes total xs p → IsEndOf bytes behind → IsPart behind total ys q
    → length p.rest.now ≡ length behind → is_lt (bytes_cmp p.last.now q.first.now) ≡ true → IsJoined p q r → IsPart bytes total (xs ++ q.first.now ∷ ys) r
part_joined bytes behind total xs ys p q r front end next met above both =
    let first = both.first in
    let is = both.rest in
    let was : List ℕ = p.first.now in
    let found : List ℕ = q.first.now in
    let sizes : length (drop front.behind.0 bytes) ≡ length (drop end.0 bytes) = ap length (sym front.behind.1) ∙ met ∙ ap length end.1 in
    let same : p.rest.now ≡ behind = front.behind.1 ∙ same_end bytes front.behind.0 end.0 sizes ∙ sym end.1 in
    let more : IsEndOf bytes q.rest.now = end_of_end bytes behind q.rest.now end next.behind in
    record {
      lines = front.lines ∙ ap (λ b. with_lines (was ∷ xs) (lines_of b)) same ∙ ap (with_lines (was ∷ xs)) next.lines ∙ sym (lines-append (was ∷ xs) (found ∷ ys) (lines_of q.rest.now))
          ∙ ap₂ (λ f b. with_lines (f ∷ (xs ++ found ∷ ys)) (lines_of b)) (sym first) (sym is);
      short = subst (λ f. length f ≤ most_bytes) (sym first) front.short;
      rising = subst (λ f. AreRising f (xs ++ found ∷ ys)) (sym first) (rising-append xs ys was found front.rising (subst (λ l. is_lt (bytes_cmp l found) ≡ true) front.last above) next.short next.rising);
      last = both.last ∙ next.last ∙ sym (last-append xs ys r.first.now found);
      inputs = omega (arith, both.inputs, front.inputs, next.inputs, length-append xs (found ∷ ys));
      points = both.points ∙ ap₂ (λ a b. a ++ b) front.points next.points ∙ sym (points-append total (was ∷ xs) (found ∷ ys)) ∙ ap (λ f. points_if total (f ∷ (xs ++ found ∷ ys))) (sym first);
      fits = omega (arith, both.inputs, front.fits, next.fits, met, ap length is);
      behind = (more.0, is ∙ more.1);
    }

run_of_rising : (xs : Inputs) (count : ℕ) (last : List ℕ) → AreRising last xs → count + length xs ≤ most_inputs → IsRun count last xs
run_of_rising [] count last rising room = tt
run_of_rising (x ∷ xs) count last rising room = (rising.0, rising.1, omega (arith, room), run_of_rising xs (count + 1) x rising.2 (omega (arith, room)))

-- a part that finds room, behind an input that is below its first, is a run
pub part_runs : (bytes : List ℕ) (total : Option ℕ) (others : Inputs) (p : Part) (last : List ℕ) (n m : ℕ) (had have : Kept) → IsPart bytes total others p
    → is_lt (bytes_cmp last p.first.now) ≡ true → had.inputs + p.inputs ≤ most_inputs → m ≡ n + p.inputs → have ≡ with_inputs had (p.first.now ∷ others)
    → TakesRun last (p.first.now ∷ others) (lines_of bytes) n had p.last.now (lines_of p.rest.now) m have
part_runs bytes total others p last n m had have part above room number kept =
    record {
      run = run_of_rising (p.first.now ∷ others) had.inputs last (above, part.short, part.rising) (omega (arith, room, part.inputs));
      lines = part.lines;
      number = omega (arith, number, part.inputs);
      last = part.last;
      kept = kept;
    }
