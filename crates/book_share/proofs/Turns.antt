-- Asks that workers take in turn.
use Rattle.std.proofs.Common.{◌≡◌, ℕ, zero, suc, ◌+◌, ◌-◌, ◌*◌, ◌<◌, ◌≤◌, Bool, List, [], ◌∷◌, ◌++◌, append-nil, append_assoc, map, take, drop, length, length-append, get_or, add-one, Some, option_map, ⊎_elim, refl, sym, ap, ◌∙◌, subst, arith}
use Rattle.std.proofs.Math.ListN.{drop_of_length-le}
use Rattle.std.proofs.Math.Seq.{drop-cons, take-suc}
use Rattle.std.proofs.lemmas.List.{drop-drop, map-append}
use Rattle.std.proofs.lemmas.Option.{slice_get-get_or, slice_get_cases}
use Rattle.std.specs.Prelude.{All, IfSome, count_by, slice_get}
use Rattle.std.proofs.lemmas.List.Elements.{All-cons, All-nil}
use Rattle.flag_defs.specs.Document.{Definitions}
use Rattle.flag_resolve.specs.Resolved.{Resolved}
use Rattle.flag_resolve.specs.Views.{resolution_view}
use Rattle.flag_resolve.specs.declared.resolution.Resolution.{Resolution}
use Rattle.logic_eval.specs.Run.{most_units}
use Rattle.book_lock.specs.Counts.{own}
use Rattle.book_lock.specs.Seen.{AllKnow, StartsWith, sight, unseen}
use Rattle.book_lock.specs.Told.{all_told}
use Rattle.book_lock.specs.declared.call.Sight.{Sight}
use Rattle.book_share.specs.Asked.{Mention, asks_of, every, mentions, mentions_of, resolved}
use Rattle.book_share.specs.Driven.{AreInTurn, AreWorks, HasNoted, HaveNoted, IsAnswer, IsWork, NotesAsk, mentions_to_all, noted_by}
use Rattle.book_share.specs.declared.ask.Ask.{Ask}
use Rattle.book_share.proofs.Full.{full_none, full_to_more}
use Rattle.book_share.proofs.Reaching.{count-append, count-noted_by, told_more}

-- ---- the asks of one worker

every-drop : (m first : ℕ) (asks : List Ask) → every m first asks ≡ every m 0 (drop first asks)
every-drop m zero asks = refl
every-drop m (suc c) [] = refl
every-drop m (suc c) (a ∷ rest) = every-drop m c rest

-- the next ask, and those after it
every_next : (m n : ℕ) (asks : List Ask) (a : Ask) → n < length asks → slice_get asks n ≡ Some a → every m 0 (drop n asks) ≡ a ∷ every m 0 (drop (n + (m + 1)) asks)
every_next m n asks a within at =
    let same : get_or asks n a ≡ a = some_is (get_or asks n a) a (sym (slice_get-get_or asks n a within) ∙ at) in
    let here : drop n asks ≡ a ∷ drop (suc n) asks = drop-cons asks n a within ∙ ap (λ x. x ∷ drop (suc n) asks) same in
    let there : n + (m + 1) ≡ suc n + m = omega arith in
    ap (every m 0) here ∙ ap (λ l. a ∷ l) (every-drop m m (drop (suc n) asks) ∙ ap (every m 0) (drop-drop m (suc n) asks ∙ ap (λ k. drop k asks) (sym there)))
  where
    some_is : (x y : Ask) → Some x ≡ Some y → x ≡ y
    some_is x y e = cc

-- ---- the asks of all workers

none_to_all : (flags : Definitions) (m last : ℕ) → mentions_to_all flags m last [] ≡ []
none_to_all flags m zero = refl
none_to_all flags m (suc c) = none_to_all flags m c

-- once the first worker took an ask, it comes behind the last
turn_to_all : (flags : Definitions) (p : Mention → Bool) (m c : ℕ) (a : Ask) (rest : List Ask)
    → count_by p (mentions_to_all flags m (suc c) (a ∷ rest)) ≡ (count_by p (mentions_of flags a) + count_by p (mentions flags (every m m rest))) + count_by p (mentions_to_all flags m c rest)
turn_to_all flags p m zero a rest =
    let all = count-append p (mentions_of flags a ++ mentions flags (every m m rest)) [] in
    let one = count-append p (mentions_of flags a) (mentions flags (every m m rest)) in
    omega (arith, all, one)
turn_to_all flags p m (suc c) a rest =
    let later = turn_to_all flags p m c a rest in
    let all = count-append p (mentions flags (every m c rest)) (mentions_to_all flags m (suc c) (a ∷ rest)) in
    let one = count-append p (mentions flags (every m c rest)) (mentions_to_all flags m c rest) in
    omega (arith, later, all, one)

pub to_all : (flags : Definitions) (p : Mention → Bool) (m : ℕ) (asks : List Ask) → count_by p (mentions_to_all flags m (suc m) asks) ≡ count_by p (mentions flags asks)
to_all flags p m [] = ap (count_by p) (none_to_all flags m (suc m))
to_all flags p m (a ∷ rest) =
    let turn = turn_to_all flags p m m a rest in
    let all = count-append p (mentions flags (every m m rest)) (mentions_to_all flags m m rest) in
    let later = to_all flags p m rest in
    let one = count-append p (mentions_of flags a) (mentions flags rest) in
    omega (arith, turn, all, later, one)

-- ---- what one worker made so far

pub record IsSoFar (flags : Definitions) (asks : List Ask) (m first ask : ℕ) (seat : Sight) (given : List Resolution) (refusals : ℕ) : Type 0 where
  pub answers : map resolution_view given ++ map (resolved flags) (every m 0 (drop ask asks)) ≡ map (resolved flags) (every m first asks)
  pub done : List Mention
  pub noted : HasNoted seat refusals done
  pub left : (p : Mention → Bool) → count_by p done + count_by p (mentions flags (every m 0 (drop ask asks))) ≡ count_by p (mentions flags (every m first asks))
  pub few : length (own seat) + refusals ≤ ask * most_units

pub so_far_none : (flags : Definitions) (asks : List Ask) (m first : ℕ) (seat : Sight) (given : List Resolution) → own seat ≡ [] → given ≡ [] → IsSoFar flags asks m first first seat given 0
so_far_none flags asks m first seat given fresh no_given = record {
  answers = ap (λ l. map resolution_view l ++ map (resolved flags) (every m 0 (drop first asks))) no_given ∙ ap (map (resolved flags)) (sym (every-drop m first asks));
  done = [];
  noted = record {
    refused = [];
    many = refl;
    noted = λ p. ap (λ l. count_by p (noted_by l [])) fresh;
    full = full_none (λ all. StartsWith all seat.seen);
  };
  left = λ p.
      let same : count_by p (mentions flags (every m 0 (drop first asks))) ≡ count_by p (mentions flags (every m first asks)) = ap (λ l. count_by p (mentions flags l)) (sym (every-drop m first asks)) in
      omega (arith, same);
  few = let none = ap length fresh in omega (arith, none);
}

pub so_far_more : (flags : Definitions) (asks : List Ask) (m first ask : ℕ) (seat later : Sight) (given new : List Resolution) (refusals more : ℕ) (r : Resolution) → ask < length asks → new ≡ given ++ r ∷ []
    → IsSoFar flags asks m first ask seat given refusals → IsAnswer flags asks ask r → NotesAsk flags asks ask seat refusals later more → length (own later) + more ≤ length (own seat) + refusals + most_units
    → IsSoFar flags asks m first (ask + (m + 1)) later new more
unfolding IsAnswer NotesAsk
so_far_more flags asks m first ask seat later given new refusals more r within is before answer notes grown = go (get_or asks ask (asks_at asks ask within)) (slice_get-get_or asks ask (asks_at asks ask within) within)
  where
    asks_at : (xs : List Ask) (n : ℕ) → n < length xs → Ask
    asks_at [] n lt = absurd (omega (arith, lt))
    asks_at (x ∷ xs) n lt = x

    go : (a : Ask) → slice_get asks ask ≡ Some a → IsSoFar flags asks m first (ask + (m + 1)) later new more
    go a at =
        let next = every_next m ask asks a within at in
        let rest = every m 0 (drop (ask + (m + 1)) asks) in
        let same : resolved flags a ≡ resolution_view r = some_is (resolved flags a) (resolution_view r) (sym (ap (option_map (resolved flags)) at) ∙ answer) in record {
          answers =
              ap (λ l. map resolution_view l ++ map (resolved flags) rest) is ∙ ap (λ l. l ++ map (resolved flags) rest) (map-append resolution_view given (r ∷ []))
              ∙ append_assoc (map resolution_view given) (resolution_view r ∷ []) (map (resolved flags) rest)
              ∙ ap (λ x. map resolution_view given ++ (x ∷ map (resolved flags) rest)) (sym same)
              ∙ ap (λ l. map resolution_view given ++ map (resolved flags) l) (sym next) ∙ before.answers;
          done = before.done ++ mentions_of flags a;
          noted = notes a at before.done before.noted;
          left = λ p.
              let first_ones = before.left p in
              let both = count-append p before.done (mentions_of flags a) in
              let one = ap (λ l. count_by p (mentions flags l)) next ∙ count-append p (mentions_of flags a) (mentions flags rest) in
              omega (arith, first_ones, both, one);
          few = let old = before.few in omega (arith, old, grown);
        }
      where
        some_is : (x y : Resolved) → Some x ≡ Some y → x ≡ y
        some_is x y e = cc

pub so_far_done : (flags : Definitions) (asks : List Ask) (m first ask : ℕ) (seat : Sight) (given : List Resolution) (refusals : ℕ) → length asks ≤ ask → IsSoFar flags asks m first ask seat given refusals
    → IsWork flags (every m first asks) seat given refusals
so_far_done flags asks m first ask seat given refusals past so_far =
    let none : drop ask asks ≡ [] = drop_of_length-le asks past in record {
      answers = sym (append-nil (map resolution_view given)) ∙ ap (λ l. map resolution_view given ++ map (resolved flags) (every m 0 l)) (sym none) ∙ so_far.answers;
      noted = record {
        refused = so_far.noted.refused;
        many = so_far.noted.many;
        noted = λ p. (let seen = so_far.noted.noted p in let all = so_far.left p in let left = ap (λ l. count_by p (mentions flags (every m 0 l))) none in omega (arith, seen, all, left));
        full = so_far.noted.full;
      };
    }

-- ---- workers in a line

abbrev pub Line : Type 0
Line = List (List Resolution)

pub line_none : (flags : Definitions) (m last : ℕ) (asks : List Ask) (ws : Line) → ws ≡ [] → last ≡ 0 → AreInTurn flags m 0 last asks ws
line_none flags m last asks ws none zero_is = subst (λ (l : Line). AreInTurn flags m 0 last asks l) (sym none) (sym zero_is)

line_snoc : (flags : Definitions) (m first last : ℕ) (asks : List Ask) (ws : Line) (w : List Resolution) → AreInTurn flags m first last asks ws → map resolution_view w ≡ map (resolved flags) (every m last asks)
    → AreInTurn flags m first (suc last) asks (ws ++ w ∷ [])
line_snoc flags m first last asks [] w line here = (here ∙ ap (λ c. map (resolved flags) (every m c asks)) (sym line), ap suc line)
line_snoc flags m first last asks (x ∷ xs) w line here = (line.0, line_snoc flags m (suc first) last asks xs w line.1 here)

pub line_more : (flags : Definitions) (m last next : ℕ) (asks : List Ask) (ws new : Line) (w : List Resolution) → new ≡ ws ++ w ∷ [] → next ≡ suc last → AreInTurn flags m 0 last asks ws
    → map resolution_view w ≡ map (resolved flags) (every m last asks) → AreInTurn flags m 0 next asks new
line_more flags m last next asks ws new w is next_is line here =
    subst (λ n. AreInTurn flags m 0 n asks new) (sym next_is) (subst (λ (l : Line). AreInTurn flags m 0 (suc last) asks l) (sym is) (line_snoc flags m 0 last asks ws w line here))

-- the first gave its answer and goes behind the last
turned : (flags : Definitions) (m c : ℕ) (a : Ask) (rest : List Ask) (ws : Line) (w : List Resolution) → AreInTurn flags m (suc c) (suc m) (a ∷ rest) ws → map resolution_view w ≡ map (resolved flags) (every m m rest)
    → AreInTurn flags m c (suc m) rest (ws ++ w ∷ [])
turned flags m c a rest [] w line here = (here ∙ ap (λ k. map (resolved flags) (every m k rest)) (let e = line in omega (arith, e)), line)
turned flags m c a rest (x ∷ xs) w line here = (line.0, turned flags m (suc c) a rest xs w line.1 here)

some_worker : (flags : Definitions) (m : ℕ) (asks : List Ask) (ws : Line) → AreInTurn flags m 0 (suc m) asks ws → 0 < length ws
some_worker flags m asks [] line = absurd (let e : 0 ≡ suc m = line in omega (arith, e))
some_worker flags m asks (w ∷ ws) line = omega arith

parts_of_cons : {X : Type 0} (x y : X) (xs ys : List X) → x ∷ xs ≡ y ∷ ys → (x ≡ y) × (xs ≡ ys)
parts_of_cons x y xs ys e = (cc, cc)

length_map : {X Y : Type 0} (f : X → Y) (xs : List X) → length (map f xs) ≡ length xs
length_map f [] = refl
length_map f (x ∷ xs) = let later = length_map f xs in omega (arith, later)

line_last : (flags : Definitions) (m first last : ℕ) (asks : List Ask) (ws : Line) → AreInTurn flags m first last asks ws → first + length ws ≡ last
line_last flags m first last asks [] line = let e = line in omega (arith, e)
line_last flags m first last asks (w ∷ ws) line = let later = line_last flags m (suc first) last asks ws line.1 in omega (arith, later)

pub line_count : {Q : Type 0} (items : Q → List Resolution) (flags : Definitions) (m last : ℕ) (asks : List Ask) (ws : List Q) → AreInTurn flags m 0 last asks (map items ws) → length ws ≡ last
line_count items flags m last asks ws line = let n = line_last flags m 0 last asks (map items ws) line in let same = length_map items ws in omega (arith, n, same)

module _ {Q : Type 0} (items : Q → List Resolution) (flags : Definitions) (m i : ℕ) (asks : List Ask) (within : i < length asks) where
  -- there is a worker while there is an ask
  pub line_some : (line : List Q) → AreInTurn flags m 0 (suc m) (drop i asks) (map items line) → 0 < length line
  line_some line turns = let some = some_worker flags m (drop i asks) (map items line) turns in let same = length_map items line in omega (arith, some, same)

  next_ask : (a : Ask) × (drop i asks ≡ a ∷ drop (suc i) asks) × (take (i + 1) asks ≡ take i asks ++ a ∷ [])
  next_ask = go asks i within
    where
      go : (xs : List Ask) (n : ℕ) → n < length xs → (a : Ask) × (drop n xs ≡ a ∷ drop (suc n) xs) × (take (n + 1) xs ≡ take n xs ++ a ∷ [])
      go [] n lt = absurd (omega (arith, lt))
      go (x ∷ xs) n lt = (get_or (x ∷ xs) n x, drop-cons (x ∷ xs) n x lt, ap (λ k. take k (x ∷ xs)) (add-one n) ∙ take-suc (x ∷ xs) n x lt)

  -- and the first has an answer
  pub front_some : (line mid : List Q) (w : Q) → line ≡ w ∷ mid → AreInTurn flags m 0 (suc m) (drop i asks) (map items line) → 0 < length (items w)
  front_some line mid w is turns =
      let a = next_ask.0 in
      let rest = drop (suc i) asks in
      let here : AreInTurn flags m 0 (suc m) (a ∷ rest) (items w ∷ map items mid) = subst (λ (l : List Ask). AreInTurn flags m 0 (suc m) l (items w ∷ map items mid)) next_ask.1 (subst (λ (l : List Q). AreInTurn flags m 0 (suc m) (drop i asks) (map items l)) is turns) in
      let same = ap length here.0 in
      let given = length_map resolution_view (items w) in
      let asked = length_map (resolved flags) (every m 0 (a ∷ rest)) in
      omega (arith, same, given, asked)

  pub line_turns : (line mid new : List Q) (w later : Q) (r : Resolution) (rs more : List Resolution) → line ≡ w ∷ mid → items w ≡ r ∷ items later → new ≡ mid ++ later ∷ [] → more ≡ rs ++ r ∷ []
      → AreInTurn flags m 0 (suc m) (drop i asks) (map items line) → map resolution_view rs ≡ map (resolved flags) (take i asks)
      → AreInTurn flags m 0 (suc m) (drop (i + 1) asks) (map items new) × (map resolution_view more ≡ map (resolved flags) (take (i + 1) asks))
  line_turns line mid new w later r rs more is gave is_new is_more turns before =
      let a = next_ask.0 in
      let rest = drop (suc i) asks in
      let here : AreInTurn flags m 0 (suc m) (a ∷ rest) (items w ∷ map items mid) = subst (λ (l : List Ask). AreInTurn flags m 0 (suc m) l (items w ∷ map items mid)) next_ask.1 (subst (λ (l : List Q). AreInTurn flags m 0 (suc m) (drop i asks) (map items l)) is turns) in
      let both = parts_of_cons (resolution_view r) (resolved flags a) (map resolution_view (items later)) (map (resolved flags) (every m m rest)) (sym (ap (map resolution_view) gave) ∙ here.0) in
      let line_is : map items new ≡ map items mid ++ items later ∷ [] = ap (map items) is_new ∙ map-append items mid (later ∷ []) in (
        subst (λ n. AreInTurn flags m 0 (suc m) (drop n asks) (map items new)) (sym (add-one i)) (subst (λ (l : Line). AreInTurn flags m 0 (suc m) rest l) (sym line_is) (turned flags m 0 a rest (map items mid) (items later) here.1 both.1)),
        ap (map resolution_view) is_more ∙ map-append resolution_view rs (r ∷ []) ∙ ap (λ l. l ++ resolution_view r ∷ []) before ∙ ap (λ x. map (resolved flags) (take i asks) ++ x ∷ []) both.0
            ∙ sym (map-append (resolved flags) (take i asks) (a ∷ [])) ∙ sym (ap (map (resolved flags)) next_ask.2),
      )

-- ---- numbers of places

pub numbered_snoc : {J : Type 0} (P : ℕ → J → Type 0) (xs : List J) (x : J) → ((i : ℕ) → IfSome (slice_get xs i) (P i)) → P (length xs) x → (i : ℕ) → IfSome (slice_get (xs ++ x ∷ []) i) (P i)
numbered_snoc P [] x all one zero = one
numbered_snoc P [] x all one (suc i) = tt
numbered_snoc P (y ∷ ys) x all one zero = all zero
numbered_snoc P (y ∷ ys) x all one (suc i) = numbered_snoc (λ k. P (suc k)) ys x (λ k. all (suc k)) one i

pub numbered_none : {J : Type 0} (P : ℕ → J → Type 0) (xs : List J) → xs ≡ [] → (i : ℕ) → IfSome (slice_get xs i) (P i)
numbered_none P xs none i = subst (λ (l : List _). IfSome (slice_get l i) (P i)) (sym none) tt

pub numbered_more : {J : Type 0} (P : ℕ → J → Type 0) (xs new : List J) (x : J) → new ≡ xs ++ x ∷ [] → ((i : ℕ) → IfSome (slice_get xs i) (P i)) → P (length xs) x → (i : ℕ) → IfSome (slice_get new i) (P i)
numbered_more P xs new x is all one i = subst (λ l. IfSome (slice_get l i) (P i)) (sym is) (numbered_snoc P xs x all one i)

-- an item that is numbered by its place
pub numbered_at : {J : Type 0} (f : J → ℕ) (js : List J) (i : ℕ) (x : J) → i < length js → x ≡ get_or js i x → ((k : ℕ) → IfSome (slice_get js k) (λ j. f j ≡ k)) → f x ≡ i
numbered_at f js i x within at all = subst (λ o. IfSome o (λ j. f j ≡ i)) (slice_get-get_or js i x within ∙ ap Some (sym at)) (all i)

-- what each of the jobs gave stands in its place
pub at_each : {J R : Type 0} (js : List J) (rs : List R) (first : J → ℕ) (P : ℕ → R → Type 0) → length rs ≡ length js → ((i : ℕ) → IfSome (slice_get js i) (λ j. first j ≡ i))
    → ((i : ℕ) (d : R) → i < length js → (j : J) × (j ≡ get_or js i j) × P (first j) (get_or rs i d)) → (w : ℕ) → IfSome (slice_get rs w) (P w)
at_each js rs first P len numbered gives w =
    ⊎_elim
    (λ h.
    let lt : w < length js = subst (λ n. w < n) len h.1 in
    let given = gives w h.0 lt in
    let named : first given.0 ≡ w = subst (λ o. IfSome o (λ j. first j ≡ w)) (slice_get-get_or js w given.0 lt ∙ ap Some (sym given.1)) (numbered w) in
    subst (λ o. IfSome o (P w)) (sym h.2) (subst (P w) h.3 (subst (λ n. P n (get_or rs w h.0)) named given.2)))
    (λ h. subst (λ o. IfSome o (P w)) (sym h.1) tt)
    (slice_get_cases rs w).1

-- seats that have seen nothing
pub length_unseen : (n : ℕ) → length (unseen n) ≡ n
length_unseen zero = refl
length_unseen (suc n) = let later = length_unseen n in omega (arith, later)

fresh_unseen : (n : ℕ) → All (λ (x : Sight). own x ≡ []) (unseen n)
fresh_unseen zero = All-nil (λ (x : Sight). own x ≡ [])
fresh_unseen (suc n) = All-cons (λ (x : Sight). own x ≡ []) (sight n []) (unseen n) refl (fresh_unseen n)

pub fresh_all : (n : ℕ) (seats : List Sight) → seats ≡ unseen n → All (λ (x : Sight). own x ≡ []) seats
fresh_all n seats is = subst (All (λ (x : Sight). own x ≡ [])) (sym is) (fresh_unseen n)

-- ---- several workers

pub works_none : (flags : Definitions) (workers : ℕ) (asks : List Ask) (seats : List Sight) (given : Line) → seats ≡ [] → given ≡ [] → AreWorks flags workers asks seats given 0
works_none flags workers asks seats given no_seats no_given = subst (λ (l : List Sight). AreWorks flags workers asks l given 0) (sym no_seats) (record {
  answers = line_none flags (workers - 1) 0 asks given no_given refl;
  noted = record {
    refused = [];
    many = refl;
    noted = λ p. refl;
    full = full_none (λ all. AllKnow all []);
  };
})

-- one worker more
pub noted_both : (flags : Definitions) (m : ℕ) (asks : List Ask) (seats : List Sight) (seat : Sight) (refusals more : ℕ) → HaveNoted seats refusals (mentions_to_all flags m (length seats) asks)
    → HasNoted seat more (mentions flags (every m (length seats) asks)) → HaveNoted (seats ++ seat ∷ []) (refusals + more) (mentions_to_all flags m (suc (length seats)) asks)
noted_both flags m asks seats seat refusals more first last = record {
  refused = first.refused ++ last.refused;
  many = let all = length-append first.refused last.refused in let a = first.many in let b = last.many in omega (arith, all, a, b);
  noted = λ p.
      let told = ap (λ l. count_by p (noted_by l (first.refused ++ last.refused))) (told_more seats (seats ++ seat ∷ []) seat refl) in
      let mixed = count-noted_by p (all_told seats) (own seat) first.refused last.refused in
      let all = count-append p (mentions flags (every m (length seats) asks)) (mentions_to_all flags m (length seats) asks) in
      let a = first.noted p in
      let b = last.noted p in
      omega (arith, told, mixed, all, a, b);
  full = full_to_more seats seat first.refused last.refused first.full last.full;
}

pub works_more : (flags : Definitions) (workers : ℕ) (asks : List Ask) (seats new : List Sight) (seat : Sight) (given longer : Line) (answers : List Resolution) (refusals more both : ℕ)
    → new ≡ seats ++ seat ∷ [] → longer ≡ given ++ answers ∷ [] → both ≡ refusals + more → AreWorks flags workers asks seats given refusals → IsWork flags (asks_of workers (length seats) asks) seat answers more
    → AreWorks flags workers asks new longer both
works_more flags workers asks seats new seat given longer answers refusals more both is_seats is_given is_both first last =
    let next : length new ≡ suc (length seats) = ap length is_seats ∙ length-append seats (seat ∷ []) ∙ add-one (length seats) in record {
      answers = line_more flags (workers - 1) (length seats) (length new) asks given longer answers is_given next first.answers last.answers;
      noted =
          subst (λ n. HaveNoted new both (mentions_to_all flags (workers - 1) n asks)) (sym next)
          (subst (λ n. HaveNoted new n (mentions_to_all flags (workers - 1) (suc (length seats)) asks)) (sym is_both)
          (subst (λ (l : List Sight). HaveNoted l (refusals + more) (mentions_to_all flags (workers - 1) (suc (length seats)) asks)) (sym is_seats)
          (noted_both flags (workers - 1) asks seats seat refusals more first.noted last.noted)));
    }
