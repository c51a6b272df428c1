-- The pictures of steps in turn.
use Rattle.std.proofs.Common.{◌≡◌, ◌≢◌, ◌+◌, ◌-◌, ◌≤◌, ◌==◌, ℕ, suc, Bool, true, false, List, [], ◌∷◌, add-one, arith, drop, get_or, length, length-drop, map, take, Vec, Global, Option, Some, Result, Ok, Err, IfOk, refl, sym, ap, ◌∙◌, subst}
use Rattle.std.proofs.Math.Seq.{drop-cons}
use Rattle.std.proofs.lemmas.Bool.{eqb-true}
use Rattle.std.proofs.lemmas.List.{nil_from_length, take_all}
use Rattle.picture.specs.Spelling.{Adds, Continues, Pictures}
use Rattle.picture.specs.Told.{Item, down, step_height, step_told}
use Rattle.picture.proofs.Bodies.{continues_both, continues_none, continues_one}
use Rattle.plan_text.specs.Answer.{Answer, emit, none_exists, planned_view}
use Rattle.plan_text.specs.declared.planned.Planned.{Planned}
use Rattle.ramp.specs.Ramp.{Recorded, Standing, in_book, in_tally, left_by, still}
use Rattle.ramp.specs.Steps.{requests_view}
use Rattle.ramp.specs.Right.{AreRight, IsRight}
use Rattle.rollout.specs.declared.fault.RolloutFault.{RolloutFault}
use Rattle.flagops_pictures.specs.Asked.{step_asked}
use Rattle.flagops_pictures.specs.Pictured.{AddsTold}
use Rattle.flagops_pictures.specs.Ramps.{AreTold, step_picture}

-- nothing is told of no answers
pub told_none : (standing : Standing) (refine : Option ℕ) (requests : List (List ℕ)) (held : Recorded) (n : ℕ) → AreTold standing refine requests held n [] []
told_none standing refine [] held n = refl
told_none standing refine (request ∷ requests) held n = refl

-- the number of a step, its picture, and the rest
pub continues_step : (n : ℕ) (this : ℕ × List Item) (rest : Pictures) (y y1 y2 end : ℕ) (a b c d : List ℕ) → Adds y (step_told n ∷ []) a b → y1 ≡ down y step_height → Adds y1 this.1 b c → y2 ≡ down y1 this.0
    → Continues rest y2 end c d → Continues (step_picture n ∷ (this ∷ rest)) y end a d
continues_step n this rest y y1 y2 end a b c d first below second lower others =
    continues_both (step_picture n ∷ []) (this ∷ rest) y y1 end a b d (continues_one step_height (step_told n ∷ []) y y1 a b first below)
    (continues_both (this ∷ []) rest y1 y2 end b c d (continues_one this.0 this.1 y1 y2 b c second lower) others)

-- no answer is right behind a refusal
pub none_behind : (e : RolloutFault) (requests : List (List ℕ)) (held : Recorded) (answers : List Answer) → answers ≢ [] → AreRight (Err e) (Some 1) requests held answers → ⊥
none_behind e requests held [] some right = some refl
none_behind e [] held (answer ∷ answers) some right = right
none_behind e (request ∷ requests) (in_book book) (answer ∷ answers) some right = right.0.shown
none_behind e (request ∷ requests) (in_tally t) (answer ∷ answers) some right = right.0.shown

-- a step that has others behind it has a rule
pub goes_on : (standing : Standing) (answer : Answer) (requests : List (List ℕ)) (held : Recorded) (answers : List Answer) → answers ≢ [] → AreRight standing (Some 1) (still answer requests) held answers → still answer requests ≡ requests
goes_on standing (emit rule c) requests held answers some right = refl
goes_on standing (none_exists kind names) requests held [] some right = absurd (some refl)
goes_on standing (none_exists kind names) requests held (answer ∷ answers) some right = absurd right

-- what is told of answers, and was added
abbrev pub Tells : Standing → Option ℕ → List (List ℕ) → Recorded → ℕ → List Answer → ℕ → ℕ → List ℕ → List ℕ → Type 0
Tells standing refine requests held n answers y end before after = (ps : Pictures) × AreTold standing refine requests held n answers ps × Continues ps y end before after

-- there are no answers
pub no_answers : (standing : Standing) (refine : Option ℕ) (requests : List (List ℕ)) (held : Recorded) (n : ℕ) (answers : List Answer) (y : ℕ) (bytes : List ℕ) → answers ≡ [] → Tells standing refine requests held n answers y y bytes bytes
no_answers standing refine requests held n answers y bytes none =
    ([], subst (λ (xs : List Answer). AreTold standing refine requests held n xs []) (sym none) (told_none standing refine requests held n), continues_none y bytes)

module _ (standing : Standing) (refine : Option ℕ) (requests : List (List ℕ)) (held : Recorded) (answers : List Answer) (request : List ℕ) (more : List (List ℕ)) (answer : Answer) (others : List Answer) (is : requests ≡ request ∷ more) (are : answers ≡ answer ∷ others) where
  -- the first is right, and so are those behind it
  pub both_right : AreRight standing refine requests held answers → IsRight standing refine request held answer × AreRight (left_by standing request answer) (Some 1) (still answer more) held others
  both_right right = subst (λ (xs : List Answer). AreRight standing refine (request ∷ more) held xs) are (subst (λ (rs : List (List ℕ)). AreRight standing refine rs held answers) is right)

  -- the first was told, and so were those behind it
  pub both_told : (n y y1 y2 end : ℕ) (a b c d : List ℕ) → Adds y (step_told n ∷ []) a b → y1 ≡ down y step_height → AddsTold (step_asked standing refine answer request held) answer y1 y2 b c
      → Tells (left_by standing request answer) (Some 1) (still answer more) held (suc n) others y2 end c d → Tells standing refine requests held n answers y end a d
  both_told n y y1 y2 end a b c d first below second rest =
      let all : Tells standing refine (request ∷ more) held n (answer ∷ others) y end a d =
      (step_picture n ∷ (second.0 ∷ rest.0), (second.0, rest.0, second.1, rest.1, refl), continues_step n second.0 rest.0 y y1 y2 end a b c d first below second.2 second.3 rest.2) in
      subst (λ (rs : List (List ℕ)). Tells standing refine rs held n answers y end a d) (sym is) (subst (λ (xs : List Answer). Tells standing refine (request ∷ more) held n xs y end a d) (sym are) all)

-- those behind it, on the flags that it leaves
pub behind : (left next : Standing) (steps more : List (List ℕ)) (held : Recorded) (n m : ℕ) (answers : List Answer) (y end : ℕ) (c d : List ℕ) → left ≡ next → steps ≡ more → m ≡ suc n → Tells next (Some 1) more held m answers y end c d → Tells left (Some 1) steps held (suc n) answers y end c d
behind left next steps more held n m answers y end c d stands same follows tells =
    subst (λ (s : Standing). Tells s (Some 1) steps held (suc n) answers y end c d) (sym stands)
    (subst (λ (rs : List (List ℕ)). Tells next (Some 1) rs held (suc n) answers y end c d) (sym same) (subst (λ (k : ℕ). Tells next (Some 1) more held k answers y end c d) follows tells))

-- ---- lists, as the program cuts and tests them

-- a list that is not empty is its first item and the rest, as a slice pattern cuts it
pub first_of : {X : Type 0} (xs : List X) (x : X) → 1 ≤ length xs → x ≡ get_or xs 0 x → xs ≡ x ∷ take (length xs - 1) (drop 1 xs)
first_of xs x inside is = drop-cons xs 0 x (omega (arith, inside)) ∙ ap (λ y. y ∷ drop 1 xs) (sym is) ∙ ap (λ ys. x ∷ ys) (sym (take_all (length xs - 1) (drop 1 xs) (omega (arith, length-drop 1 xs))))

-- by the test that the program makes
pub empty_as : {X Y : Type 0} (f : X → Y) (xs : List X) (b : Bool) → b ≡ (length xs == 0) → b ≡ true → map f xs ≡ []
empty_as f xs b tests is = ap (map f) (nil_from_length xs (eqb-true (length xs) 0 (sym tests ∙ is)))

pub some_as : {X Y : Type 0} (f : X → Y) (xs : List X) (b : Bool) → b ≡ (length xs == 0) → b ≡ false → map f xs ≢ []
some_as f [] b tests is = λ none. absurd (let both : true ≡ false = sym tests ∙ is in cc)
some_as f (x ∷ xs) b tests is = λ none. cc

-- a call that went well tells what it tells
pub if_well : {X E : Type 0} {A B : X → Type 0} (r : Result X E) → ((x : X) → A x → B x) → IfOk r A → IfOk r B
if_well (Ok x) f a = f x a
if_well (Err e) f a = tt

-- the first step and answer of lists that are not empty, as the program cuts them, where all answers are right
module _ (standing : Standing) (refine : Option ℕ) (steps : List (Vec ℕ Global)) (held : Recorded) (answers : List Planned) (x : Vec ℕ Global) (planned : Planned) (more_steps : 1 ≤ length steps) (first_step : x ≡ get_or steps 0 x) (more_answers : 1 ≤ length answers) (first_answer : planned ≡ get_or answers 0 planned) where
  abbrev answer : Answer
  answer = planned_view planned

  abbrev requests_behind : List (List ℕ)
  requests_behind = requests_view (take (length steps - 1) (drop 1 steps))

  abbrev others : List Planned
  others = take (length answers - 1) (drop 1 answers)

  abbrev left : Standing
  left = left_by standing x.items answer

  is : requests_view steps ≡ x.items ∷ requests_behind
  is = ap requests_view (first_of steps x more_steps first_step)

  are : map planned_view answers ≡ answer ∷ map planned_view others
  are = ap (map planned_view) (first_of answers planned more_answers first_answer)

  both : AreRight standing refine (requests_view steps) held (map planned_view answers) → IsRight standing refine x.items held answer × AreRight left (Some 1) (still answer requests_behind) held (map planned_view others)
  both = both_right standing refine (requests_view steps) held (map planned_view answers) x.items requests_behind answer (map planned_view others) is are

  -- those behind it, where the program found that there are some
  module _ (right : AreRight standing refine (requests_view steps) held (map planned_view answers)) (ended : Bool) (tests : ended ≡ (length others == 0)) (not_ended : ended ≡ false) where
    some : map planned_view others ≢ []
    some = some_as planned_view others ended tests not_ended

    same : still answer requests_behind ≡ requests_behind
    same = goes_on left answer requests_behind held (map planned_view others) some (both right).1

    pub others_right : (next : Standing) → left ≡ next → AreRight next (Some 1) requests_behind held (map planned_view others)
    others_right next stands =
        subst (λ (s : Standing). AreRight s (Some 1) requests_behind held (map planned_view others)) stands
        (subst (λ (rs : List (List ℕ)). AreRight left (Some 1) rs held (map planned_view others)) same (both right).1)

    pub not_left : (e : RolloutFault) → left ≡ Err e → ⊥
    not_left e stands =
        none_behind e (still answer requests_behind) held (map planned_view others) some
        (subst (λ (s : Standing). AreRight s (Some 1) (still answer requests_behind) held (map planned_view others)) stands (both right).1)

    pub all_told : (n y y1 y2 end : ℕ) (a b c d : List ℕ) (next : Standing) → left ≡ next → Adds y (step_told n ∷ []) a b → y1 ≡ down y step_height → AddsTold (step_asked standing refine answer x.items held) answer y1 y2 b c
        → Tells next (Some 1) requests_behind held (n + 1) (map planned_view others) y2 end c d → Tells standing refine (requests_view steps) held n (map planned_view answers) y end a d
    all_told n y y1 y2 end a b c d next stands first below second tells =
        let follows : n + 1 ≡ suc n = add-one n in
        both_told standing refine (requests_view steps) held (map planned_view answers) x.items requests_behind answer (map planned_view others) is are n y y1 y2 end a b c d first below second
        (behind left next (still answer requests_behind) requests_behind held n (n + 1) (map planned_view others) y2 end c d stands same follows tells)

  -- there are none
  pub last_told : (ended : Bool) → ended ≡ (length others == 0) → ended ≡ true → (n y y1 y2 : ℕ) (a b c : List ℕ) → Adds y (step_told n ∷ []) a b → y1 ≡ down y step_height → AddsTold (step_asked standing refine answer x.items held) answer y1 y2 b c
      → Tells standing refine (requests_view steps) held n (map planned_view answers) y y2 a c
  last_told ended tests is_ended n y y1 y2 a b c first below second =
      both_told standing refine (requests_view steps) held (map planned_view answers) x.items requests_behind answer (map planned_view others) is are n y y1 y2 y2 a b c c first below second
      (no_answers left (Some 1) (still answer requests_behind) held (suc n) (map planned_view others) y2 c (empty_as planned_view others ended tests is_ended))
