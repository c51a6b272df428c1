-- Each step keeps the rule.
use Rattle.std.proofs.Common.{rules, ◌==◌, ◌≡◌, ◌≢◌, ℕ, suc, ◌≤◌, List, [], ◌∷◌, ◌++◌, Option, Some, Bool, true, false, true≢false, get_or, set, refl, sym, ap, ◌∙◌, subst, ⊎_elim, arith, length-set, get_or-set_same}
use mathlib.Core.Option.{some, some-injective}
use lib.ListN.{get_elem?}
use lib.Seq.{set-get_or}
use prog.Atomic.{either}
use Rattle.atomic_table.specs.Table.{Act, keeps, takes, gives, Valid, carried_after, stepped, Allows, Splits, Joins}
use Rattle.atomic_table.proofs.Lists.{at_set, at_snoc, set_here, set_again, set_else, at_longer, exchanged}
use Rattle.book_core.specs.Book.{Contents}
use Rattle.book_core.specs.Calls.{Call, book_of_calls}
use Rattle.book_lock.specs.declared.call.View.{View}
use Rattle.book_lock.specs.Seen.{StartsWith, calls_by, IsLegal, AllKnow, sight, view_of, times, first_of, rest_of, seen_in}
use Rattle.book_lock.specs.Rule.{St, Sat, holding, idle, spent, Orderly, Takes, Gives, Records}
use Rattle.book_lock.proofs.Seats.{starts_self, other_call, know_more, know_append, know_first, know_rest, times-append, times-cut, total_set, total_snoc, total_one, total_two, once_few, once_none, there_set}

off : {X : Type 0} (b : Bool) → b ≡ false → b ≡ true → X
off b nay aye = absurd (true≢false (sym aye ∙ nay))

-- one holds, the other does not
apart : (views : List View) (i j : ℕ) (v w : View) → get_elem? views i ≡ some v → get_elem? views j ≡ some w → v.holds ≡ false → w.holds ≡ true → j ≢ i
apart views i j v w at there quiet aye e = off w.holds (ap (λ (y : View). y.holds) (sym (some-injective v w (sym at ∙ ap (get_elem? views) (sym e) ∙ there))) ∙ quiet) aye

others_none : (n : ℕ) (s : St) (o : Orderly n s) (k : ℕ) (i j : ℕ) (v w : View) → get_elem? s.views i ≡ some v → get_elem? s.views j ≡ some w → j ≢ i → times k v.seats ≡ 1 → times k w.seats ≡ 0
others_none n s o k i j v w at there ne one =
    let both = total_two (λ u. times k u.seats) s.views j i w v there at ne in
    let all = o.numbers k in
    let few = once_few k n in
    omega (arith, both, all, few, one)

-- a number that a view has is below n
beyond : (n : ℕ) (s : St) (o : Orderly n s) (k i : ℕ) (v : View) → get_elem? s.views i ≡ some v → times k v.seats ≡ 1 → (j : ℕ) → n ≤ j → j ≢ k
beyond n s o k i v at one j above e =
    let part = total_one (λ u. times k u.seats) s.views i v at in
    let all = o.numbers k in
    let none = once_none k n (omega (arith, above, e)) in
    absurd (omega (arith, part, all, none, one))

times_own : (k : ℕ) (seen : List Call) → times k (sight k seen ∷ []) ≡ 1
times_own k seen = search rules

abbrev Goes : ℕ → St → ℕ → Sat → (ℕ → Sat → Type 0) → ℕ → Type 0
Goes n s id m then k = (w : View) × (a : Act (Option Contents)) × Valid s.homes m.1 a × Orderly n (stepped s 0 k id m.1 w a) × then (get_or s.words 0 0) (w, carried_after m.1 a)

pub takes_one : (n slots id k new : ℕ) (mine : List Call) → new ≡ suc k → Allows (Orderly n) slots id (idle k mine, []) 0 (λ x. either (x == 0) new x) (Takes (idle k mine, []))
takes_one n slots id k new mine is s o deep at fits = exchanged (get_or s.words 0 0) 0 new (Goes n s id (idle k mine, []) (Takes (idle k mine, []))) hit miss
  where
    hit : get_or s.words 0 0 ≡ 0 → Goes n s id (idle k mine, []) (Takes (idle k mine, [])) new
    hit e =
        let t = o.free e in
        let w = holding k o.all in
        let word : get_or (set s.words 0 new) 0 0 ≡ new = get_or-set_same s.words 0 new 0 (omega (arith, o.wide)) in (
          w,
          takes 0 (Some (book_of_calls [] o.all)),
          subst (λ (b : Contents). get_elem? s.homes 0 ≡ some (some (Some b))) t.2 t.1,
          record {
            all = o.all;
            holder = id;
            wide = length-set s.words 0 new ∙ o.wide;
            legal = o.legal;
            callers = o.callers;
            free = λ z. absurd (omega (arith, word, z, is));
            nobody = λ z seat u there. absurd (omega (arith, word, z, is));
            named = λ ne. (w, there_set s.views id (idle k mine) w at, refl);
            one = λ seat u there aye. ⊎_elim
                (λ (x : (seat ≡ id) × (w ≡ u)). (x.0, (k, word ∙ is, sym x.1)))
                (λ (x : (seat ≢ id) × (get_elem? s.views seat ≡ some u)). off u.holds (o.nobody e seat u x.1) aye)
                (at_set s.views id seat w u there);
            seen = λ seat u there. ⊎_elim
                (λ (x : (seat ≡ id) × (w ≡ u)). subst (λ (y : View). AllKnow o.all y.seats) x.1 ((starts_self o.all, refl), tt))
                (λ (x : (seat ≢ id) × (get_elem? s.views seat ≡ some u)). o.seen seat u x.1)
                (at_set s.views id seat w u there);
            numbers = λ j. (let t = total_set (λ v. times j v.seats) s.views id (idle k mine) w at in omega (arith, t, o.numbers j));
          },
          (λ _. (o.all, refl, o.legal, o.seen id (idle k mine) at), λ ne. absurd (ne e)),
        )

    miss : get_or s.words 0 0 ≢ 0 → Goes n s id (idle k mine, []) (Takes (idle k mine, [])) (get_or s.words 0 0)
    miss ne = (
      idle k mine,
      keeps,
      tt,
      subst (λ (ws : List ℕ). Orderly n record { words = ws; homes = s.homes; views = set s.views id (idle k mine) }) (sym (set-get_or s.words 0 0))
          (subst (λ (vs : List View). Orderly n record { words = s.words; homes = s.homes; views = vs }) (sym (set_again s.views id (idle k mine) at)) o),
      (λ e. absurd (ne e), λ _. refl),
    )

-- the word is given back, with the book of a legal list that goes on by calls of this seat
pub gives_one : (n id k : ℕ) (all next : List Call) (book : Contents) → (IsLegal all → IsLegal next) → StartsWith next all → ((j : ℕ) → j ≢ k → calls_by j next ≡ calls_by j all) → book ≡ book_of_calls [] next
    → Allows (Orderly n) 1 id (holding k all, (0, Some book) ∷ []) 0 (λ _. 0) (λ _ m. m ≡ (idle k next, []))
gives_one n id k all next book legal grown others is s o deep at fits =
    let w = idle k next in
    let held = o.one id (holding k all) at refl in
    let same : all ≡ o.all = ap (λ (v : View). seen_in v.seats) held.1.2 in
    let rests : (seat : ℕ) (u : View) → seat ≢ id → get_elem? s.views seat ≡ some u → u.holds ≡ false = λ seat u ne there. no_other seat u ne there u.holds refl in
    let word : get_or (set s.words 0 0) 0 0 ≡ 0 = get_or-set_same s.words 0 0 0 (omega (arith, o.wide)) in (
      w,
      gives,
      tt,
      record {
        all = next;
        holder = id;
        wide = length-set s.words 0 0 ∙ o.wide;
        legal = legal (subst IsLegal (sym same) o.legal);
        callers = λ j above. others j (λ e. beyond n s o k id (holding k all) at (times_own k all) j above e) ∙ (ap (calls_by j) same ∙ o.callers j above);
        free = λ z. (book, set_here s.homes 0 (some (Some book)) (omega (arith, deep)), is);
        nobody = λ z seat u there. ⊎_elim
            (λ (x : (seat ≡ id) × (w ≡ u)). ap (λ (y : View). y.holds) (sym x.1))
            (λ (x : (seat ≢ id) × (get_elem? s.views seat ≡ some u)). rests seat u x.0 x.1)
            (at_set s.views id seat w u there);
        named = λ ne. absurd (ne word);
        one = λ seat u there aye. ⊎_elim
            (λ (x : (seat ≡ id) × (w ≡ u)). off u.holds (ap (λ (y : View). y.holds) (sym x.1)) aye)
            (λ (x : (seat ≢ id) × (get_elem? s.views seat ≡ some u)). off u.holds (rests seat u x.0 x.1) aye)
            (at_set s.views id seat w u there);
        seen = λ seat u there. ⊎_elim
            (λ (x : (seat ≡ id) × (w ≡ u)). subst (λ (y : View). AllKnow next y.seats) x.1 ((starts_self next, refl), tt))
            (λ (x : (seat ≢ id) × (get_elem? s.views seat ≡ some u)). know_more all next k u.seats grown others
            (others_none n s o k id seat (holding k all) u at x.1 x.0 (times_own k all))
            (subst (λ (l : List Call). AllKnow l u.seats) (sym same) (o.seen seat u x.1)))
            (at_set s.views id seat w u there);
        numbers = λ j. (let t = total_set (λ v. times j v.seats) s.views id (holding k all) w at in omega (arith, t, o.numbers j));
      },
      refl,
    )
  where
    no_other : (seat : ℕ) (u : View) → seat ≢ id → get_elem? s.views seat ≡ some u → (b : Bool) → u.holds ≡ b → u.holds ≡ false
    no_other seat u ne there false is = is
    no_other seat u ne there true is = absurd (ne ((o.one seat u there is).0 ∙ sym (o.one id (holding k all) at refl).0))

pub takes_as : (n slots id k new : ℕ) (m : Sat) (mine : List Call) → new ≡ suc k → m ≡ (idle k mine, []) → Allows (Orderly n) slots id m 0 (λ x. either (x == 0) new x) (Takes m)
takes_as n slots id k new m mine is at = subst (λ (l : Sat). Allows (Orderly n) slots id l 0 (λ x. either (x == 0) new x) (Takes l)) (sym at) (takes_one n slots id k new mine is)

pub gives_as : (n slots id k : ℕ) (m : Sat) (all : List Call) (book : Contents) → slots ≡ 1 → m ≡ (holding k all, (0, Some book) ∷ []) → book ≡ book_of_calls [] all
    → Allows (Orderly n) slots id m 0 (λ _. 0) (λ _. Gives m)
gives_as n slots id k m all book one at is =
    subst (λ (c : ℕ). Allows (Orderly n) c id m 0 (λ _. 0) (λ _. Gives m)) (sym one)
    (subst (λ (l : Sat). Allows (Orderly n) 1 id l 0 (λ _. 0) (λ _. Gives l)) (sym at) (gives_one n id k all all book (λ legal. legal) (starts_self all) (λ j ne. refl) is))

pub records_as : (n slots id k : ℕ) (m : Sat) (all : List Call) (c : Call) (book : Contents) → slots ≡ 1 → m ≡ (holding k all, (0, Some book) ∷ []) → c.seat ≡ k → IsLegal (all ++ c ∷ []) → book ≡ book_of_calls [] (all ++ c ∷ [])
    → Allows (Orderly n) slots id m 0 (λ _. 0) (λ _. Records c m)
records_as n slots id k m all c book one at seat legal is =
    subst (λ (d : ℕ). Allows (Orderly n) d id m 0 (λ _. 0) (λ _. Records c m)) (sym one)
    (subst (λ (l : Sat). Allows (Orderly n) 1 id l 0 (λ _. 0) (λ _. Records c l)) (sym at)
    (gives_one n id k all (all ++ c ∷ []) book (λ _. legal) (c ∷ [], refl) (λ j ne. other_call j all c (λ e. ne (e ∙ seat))) is))

pub splits : (n id : ℕ) (v : View) → v.holds ≡ false → Splits (Orderly n) id v (view_of v.holds (rest_of v.seats)) (view_of false (first_of v.seats))
splits n id v quiet s o at =
    let l = view_of v.holds (rest_of v.seats) in
    let r = view_of false (first_of v.seats) in
    record {
      all = o.all;
      holder = o.holder;
      wide = o.wide;
      legal = o.legal;
      callers = o.callers;
      free = o.free;
      nobody = λ z seat u there. ⊎_elim
          (λ (x : get_elem? (set s.views id l) seat ≡ some u). ⊎_elim
          (λ (y : (seat ≡ id) × (l ≡ u)). ap (λ (y : View). y.holds) (sym y.1) ∙ quiet)
          (λ (y : (seat ≢ id) × (get_elem? s.views seat ≡ some u)). o.nobody z seat u y.1)
          (at_set s.views id seat l u x))
          (λ (x : r ≡ u). ap (λ (y : View). y.holds) (sym x))
          (at_snoc (set s.views id l) r u seat there);
      named = λ ne. (let t = o.named ne in (t.0, at_longer (set s.views id l) (r ∷ []) o.holder t.0 (set_else s.views id o.holder l (apart s.views id o.holder v t.0 at t.1 quiet t.2) ∙ t.1), t.2));
      one = λ seat u there aye. ⊎_elim
          (λ (x : get_elem? (set s.views id l) seat ≡ some u). ⊎_elim
          (λ (y : (seat ≡ id) × (l ≡ u)). off u.holds (ap (λ (y : View). y.holds) (sym y.1) ∙ quiet) aye)
          (λ (y : (seat ≢ id) × (get_elem? s.views seat ≡ some u)). o.one seat u y.1 aye)
          (at_set s.views id seat l u x))
          (λ (x : r ≡ u). off u.holds (ap (λ (y : View). y.holds) (sym x)) aye)
          (at_snoc (set s.views id l) r u seat there);
      seen = λ seat u there. ⊎_elim
          (λ (x : get_elem? (set s.views id l) seat ≡ some u). ⊎_elim
          (λ (y : (seat ≡ id) × (l ≡ u)). subst (λ (y : View). AllKnow o.all y.seats) y.1 (know_rest o.all v.seats (o.seen id v at)))
          (λ (y : (seat ≢ id) × (get_elem? s.views seat ≡ some u)). o.seen seat u y.1)
          (at_set s.views id seat l u x))
          (λ (x : r ≡ u). subst (λ (y : View). AllKnow o.all y.seats) x (know_first o.all v.seats (o.seen id v at)))
          (at_snoc (set s.views id l) r u seat there);
      numbers = λ j. (
          let f : View → ℕ = λ u. times j u.seats in
          let more = total_snoc f (set s.views id l) r in
          let put = total_set f s.views id v l at in
          let cut = times-cut j v.seats in
          omega (arith, more, put, cut, o.numbers j));
    }

pub joins : (n id : ℕ) (v : View) (other : ℕ) (w : View) → v.holds ≡ false → w.holds ≡ false → Joins (Orderly n) id v other w (view_of v.holds (w.seats ++ v.seats)) spent
joins n id v other w quiet rests s o at ne there =
    let both = view_of v.holds (w.seats ++ v.seats) in
    let theirs : get_elem? s.views other ≡ some w = ⊎_elim (λ (t : (other ≡ id) × (both ≡ w)). absurd (ne t.0)) (λ (t : (other ≢ id) × (get_elem? s.views other ≡ some w)). t.1) (at_set s.views id other both w there) in
    record {
      all = o.all;
      holder = o.holder;
      wide = o.wide;
      legal = o.legal;
      callers = o.callers;
      free = o.free;
      nobody = λ z seat u is. ⊎_elim
          (λ (x : (seat ≡ other) × (spent ≡ u)). ap (λ (y : View). y.holds) (sym x.1))
          (λ (x : (seat ≢ other) × (get_elem? (set s.views id both) seat ≡ some u)). ⊎_elim
          (λ (y : (seat ≡ id) × (both ≡ u)). ap (λ (y : View). y.holds) (sym y.1) ∙ quiet)
          (λ (y : (seat ≢ id) × (get_elem? s.views seat ≡ some u)). o.nobody z seat u y.1)
          (at_set s.views id seat both u x.1))
          (at_set (set s.views id both) other seat spent u is);
      named = λ nz. (let t = o.named nz in (t.0, set_else (set s.views id both) other o.holder spent (apart s.views other o.holder w t.0 theirs t.1 rests t.2) ∙ (set_else s.views id o.holder both (apart s.views id o.holder v t.0 at t.1 quiet t.2) ∙ t.1), t.2));
      one = λ seat u is aye. ⊎_elim
          (λ (x : (seat ≡ other) × (spent ≡ u)). off u.holds (ap (λ (y : View). y.holds) (sym x.1)) aye)
          (λ (x : (seat ≢ other) × (get_elem? (set s.views id both) seat ≡ some u)). ⊎_elim
          (λ (y : (seat ≡ id) × (both ≡ u)). off u.holds (ap (λ (y : View). y.holds) (sym y.1) ∙ quiet) aye)
          (λ (y : (seat ≢ id) × (get_elem? s.views seat ≡ some u)). o.one seat u y.1 aye)
          (at_set s.views id seat both u x.1))
          (at_set (set s.views id both) other seat spent u is);
      seen = λ seat u is. ⊎_elim
          (λ (x : (seat ≡ other) × (spent ≡ u)). subst (λ (y : View). AllKnow o.all y.seats) x.1 tt)
          (λ (x : (seat ≢ other) × (get_elem? (set s.views id both) seat ≡ some u)). ⊎_elim
          (λ (y : (seat ≡ id) × (both ≡ u)). subst (λ (y : View). AllKnow o.all y.seats) y.1 (know_append o.all w.seats v.seats (o.seen other w theirs) (o.seen id v at)))
          (λ (y : (seat ≢ id) × (get_elem? s.views seat ≡ some u)). o.seen seat u y.1)
          (at_set s.views id seat both u x.1))
          (at_set (set s.views id both) other seat spent u is);
      numbers = λ j. (
          let f : View → ℕ = λ u. times j u.seats in
          let gone = total_set f (set s.views id both) other w spent there in
          let put = total_set f s.views id v both at in
          let sum = times-append j w.seats v.seats in
          omega (arith, gone, put, sum, o.numbers j));
    }
