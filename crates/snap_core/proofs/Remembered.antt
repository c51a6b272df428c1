-- What each subscriber has taken over a run.
use Rattle.std.proofs.Common.{◌≡◌, ◌↔◌, ℕ, zero, suc, ◌+◌, ◌-◌, ◌<◌, ◌≤◌, Bool, true, false, List, [], ◌∷◌, ◌++◌, length, nat_eq, nat_lt, slice_get, is_some, if◌then◌else◌, Option, None, Some, option_map, Result, Ok, Err, append-nil, append_assoc, refl, sym, ap, ◌∙◌, subst, arith}
use Rattle.std.proofs.lemmas.Bool.{eq-eqb, ltb-true, ltb-false}
use Rattle.std.proofs.lemmas.Map.Views.{exact_unsigned_eq}
use Rattle.std.proofs.lemmas.Option.{slice_get_within}
use Rattle.flag_defs.specs.Document.{Definitions}
use Rattle.book_core.specs.Calls.{reply_after}
use Rattle.book_core.specs.Page.{PageName}
use Rattle.book_core.specs.declared.noted.Noted.{Noted}
use Rattle.book_core.specs.declared.fault.BookFault.{BookFault}
use Rattle.source_merge.specs.Merge.{merged_of}
use Rattle.source_merge.specs.Sources.{SourceList, cleared}
use Rattle.source_merge.specs.declared.fault.SourceFault.{SourceFault}
use Rattle.snap_core.specs.Event.{Happening, sets, clears, publishes, joins, takes, leaves, notes, seals, Reply, taken, refused, joined, published, sealed}
use Rattle.snap_core.specs.History.{snapshot_in, given, taken_list, last_after, IsHistory, GivesHistories, GivesNothingTwice}
use Rattle.snap_core.specs.Hub.{Numbered, taken_by, with_member, with_taken, may_join, last_number}
use Rattle.snap_core.specs.Opening.{opening}
use Rattle.snap_core.specs.World.{State, Outcome, Step, Run, last_of, changed_sources, publishing, joining, taking, leaving, noting, noting_from, refuses, news}
use Rattle.snap_core.specs.declared.event.Refusal.TheVariants.{AlreadySealed, Book, Hub}
use Rattle.snap_core.specs.declared.fault.HubFault.TheVariants.{LastNumber, TooManySubs, NoSub}
use Rattle.book_core.specs.declared.fault.BookFault.TheVariants.{Stranger}
use Rattle.snap_core.proofs.Members.{Apart, Below, joins_last, lookup-push, lookup-push_found, apart-push, below-push, apart-set, below-set, set_found, set_other, without_found, apart-without, below-without, id_below}
use Rattle.snap_core.proofs.Stepped.{there_is_one, last_is}

not_both : {b : Bool} → b ≡ true → b ≡ false → ⊥
not_both e f = cc

-- ---- histories

-- more that is published changes no item
got_more : (xs ys : List Definitions) (i : ℕ) (x : Definitions) → slice_get xs i ≡ Some x → slice_get (xs ++ ys) i ≡ Some x
got_more [] ys i x h = absurd (cc)
got_more (y ∷ xs) ys zero x h = h
got_more (y ∷ xs) ys (suc i) x h = got_more xs ys i x h

-- where something was published there is a last one
there_is : (fs : List Definitions) (n : ℕ) → n < length fs → (x : Definitions) × (slice_get fs (length fs - 1) ≡ Some x)
there_is [] n h = absurd (omega (arith, h))
there_is (f ∷ fs) n h =
    let one = there_is_one f fs in
    let place : length (f ∷ fs) - 1 ≡ length fs = omega arith in
    (one.0, ap (slice_get (f ∷ fs)) place ∙ one.1)

history_more : (xs ys : List Definitions) (n : ℕ) (items : List Numbered) → IsHistory xs n items → IsHistory (xs ++ ys) n items
history_more xs ys n [] h = tt
history_more xs ys n (s ∷ ss) h = (h.0, got_more xs ys (s.number - 1) s.flags h.1, history_more xs ys s.number ss h.2)

history_join : (fs : List Definitions) (n : ℕ) (xs ys : List Numbered) → IsHistory fs n xs → IsHistory fs (last_after n xs) ys → IsHistory fs n (xs ++ ys)
history_join fs n [] ys h g = g
history_join fs n (x ∷ xs) ys h g = (h.0, h.1, history_join fs x.number xs ys h.2 g)

last_join : (n : ℕ) (xs ys : List Numbered) → last_after n (xs ++ ys) ≡ last_after (last_after n xs) ys
last_join n [] ys = refl
last_join n (x ∷ xs) ys = last_join x.number xs ys

-- no number is above the number of items
bounded : (fs : List Definitions) (n : ℕ) (items : List Numbered) → n ≤ length fs → IsHistory fs n items → last_after n items ≤ length fs
bounded fs n [] few h = few
bounded fs n (s ∷ ss) few h =
    let inside = slice_get_within fs (s.number - 1) s.flags h.1 in
    let above = h.0 in
    bounded fs s.number ss (omega (arith, inside, above)) h.2

-- ---- what is kept through a step

record Good (s : State) : Type 0 where
  apart : Apart s.members
  below : Below s.next s.members

-- n is the number that the subscriber took last; one that has not come yet has taken none
record Tracks (id n : ℕ) (s : State) : Type 0 where
  last : (m : ℕ) → taken_by id s.members ≡ Some m → m ≡ n
  fresh : s.next ≤ id → n ≡ 0

-- the subscriber has taken these items in a step from s to t
record After (s t : State) (id n : ℕ) (items : List Numbered) : Type 0 where
  good : Good t
  tracks : Tracks id (last_after n items) t
  item : IsHistory t.published n items
  more : List Definitions
  grown : t.published ≡ s.published ++ more

module _ (s : State) (id n : ℕ) (good : Good s) (tracks : Tracks id n s) where
  -- subscribers and published flags stay
  stays : After s s id n []
  stays = record { good = good; tracks = tracks; item = tt; more = []; grown = sym (append-nil s.published) }

  after_sources : (r : Result SourceList SourceFault) → After s (changed_sources s r).1 id n []
  after_sources (Err fault) = stays
  after_sources (Ok sources) = record { good = record { apart = good.apart; below = good.below }; tracks = record { last = tracks.last; fresh = tracks.fresh }; item = tt; more = []; grown = sym (append-nil s.published) }

  after_publishing : (r : Result Definitions SourceFault) → After s (publishing s r).1 id n []
  after_publishing (Err fault) = stays
  after_publishing (Ok flags) = by (nat_lt (length s.published) last_number)
    where
      by : (b : Bool) → After s (let o : Outcome = if b then (published (length s.published + 1), record s { published = s.published ++ flags ∷ [] }) else refuses (Hub LastNumber) s in o.1) id n []
      by false = stays
      by true = record { good = record { apart = good.apart; below = good.below }; tracks = record { last = tracks.last; fresh = tracks.fresh }; item = tt; more = flags ∷ []; grown = refl }

  after_joining : After s (joining s).1 id n []
  after_joining = by (may_join s.next s.members)
    where
      members : with_member s.next s.members ≡ s.members ++ (s.next, 0) ∷ []
      members = joins_last s.next s.members good.below

      last : (m : ℕ) (o : Option ℕ) → taken_by id s.members ≡ o → taken_by id (s.members ++ (s.next, 0) ∷ []) ≡ Some m → m ≡ n
      last m (Some k) e h =
          let found = lookup-push_found id s.next s.members k e in
          let same : m ≡ k = cc in
          same ∙ tracks.last k e
      last m None e h =
          let one = lookup-push id s.next s.members m h _ refl e in
          one.1 ∙ sym (tracks.fresh (omega (arith, one.0)))

      by : (b : Bool) → After s (let o : Outcome = if b then (joined s.next, record s { members = with_member s.next s.members; next = s.next + 1 }) else refuses (Hub TooManySubs) s in o.1) id n []
      by false = stays
      by true = record {
        good = record { apart = subst Apart (sym members) (apart-push s.next s.members good.below good.apart); below = subst (Below (s.next + 1)) (sym members) (below-push s.next s.members good.below) };
        tracks = record { last = λ m h. last m (taken_by id s.members) refl (ap (taken_by id) (sym members) ∙ h); fresh = λ past. tracks.fresh (omega (arith, past)) };
        item = tt;
        more = [];
        grown = sym (append-nil s.published);
      }

  after_leaving : (sub : ℕ) (o : Option ℕ) → After s (leaving s sub o).1 id n []
  after_leaving sub None = stays
  after_leaving sub (Some last) = record {
    good = record { apart = apart-without sub s.members good.apart; below = below-without s.next sub s.members good.below };
    tracks = record { last = λ m h. tracks.last m (without_found id sub m s.members good.apart h); fresh = tracks.fresh };
    item = tt;
    more = [];
    grown = sym (append-nil s.published);
  }

  after_noting : (seat : ℕ) (page : PageName) (input : List ℕ) (r : Result Noted BookFault) → After s (noting s seat page input r).1 id n []
  after_noting seat page input (Err fault) = stays
  after_noting seat page input (Ok reply) = record { good = record { apart = good.apart; below = good.below }; tracks = record { last = tracks.last; fresh = tracks.fresh }; item = tt; more = []; grown = sym (append-nil s.published) }

  after_seat : (seat : ℕ) (page : PageName) (input : List ℕ) (b : Bool) → After s (let o : Outcome = if b then noting s seat page input (reply_after s.calls page input) else refuses (Book Stranger) s in o.1) id n []
  after_seat seat page input true = after_noting seat page input (reply_after s.calls page input)
  after_seat seat page input false = stays

  after_note : (seat : ℕ) (page : PageName) (input : List ℕ) (b : Bool) → After s (let o : Outcome = if b then refuses AlreadySealed s else noting_from s seat page input in o.1) id n []
  after_note seat page input true = stays
  after_note seat page input false = after_seat seat page input (nat_lt seat s.seats)

  after_seal : (b : Bool) → After s (let o : Outcome = if b then refuses AlreadySealed s else (sealed (news s.calls), record s { is_sealed = true }) in o.1) id n []
  after_seal true = stays
  after_seal false = record { good = record { apart = good.apart; below = good.below }; tracks = record { last = tracks.last; fresh = tracks.fresh }; item = tt; more = []; grown = sym (append-nil s.published) }

  -- the last one was taken by this subscriber, or by another
  module _ (sub last : ℕ) (was : taken_by sub s.members ≡ Some last) (newer : last < length s.published) where
    t : State
    t = record s { members = with_taken sub (length s.published) s.members }

    good_then : Good (record s { members = with_taken sub (length s.published) s.members })
    good_then = record { apart = apart-set sub (length s.published) s.members good.apart; below = below-set s.next sub (length s.published) s.members good.below }

    by_other : (sub ≡ id → ⊥) → After s (record s { members = with_taken sub (length s.published) s.members }) id n []
    by_other other = record {
      good = good_then;
      tracks = record { last = λ m h. tracks.last m (set_other id sub (length s.published) m s.members other h); fresh = tracks.fresh };
      item = tt;
      more = [];
      grown = sym (append-nil s.published);
    }

    by_this : (x : Definitions) → slice_get s.published (length s.published - 1) ≡ Some x → sub ≡ id → After s (record s { members = with_taken sub (length s.published) s.members }) id n (record { number = length s.published; flags = x } ∷ [])
    by_this x at same =
        let before : last ≡ n = tracks.last last (ap (λ j. taken_by j s.members) (sym same) ∙ was) in
        let given_id : id < s.next = subst (λ j. j < s.next) same (id_below s.next sub last s.members good.below was) in
        record {
          good = good_then;
          tracks = record { last = λ m h. set_found sub (length s.published) m s.members (ap (λ j. taken_by j (with_taken sub (length s.published) s.members)) same ∙ h); fresh = λ past. absurd (omega (arith, past, given_id)) };
          item = (omega (arith, before, newer), at, tt);
          more = [];
          grown = sym (append-nil s.published);
        }

  after_taking : (sub : ℕ) (o : Option ℕ) → taken_by sub s.members ≡ o → After s (taking s sub o).1 id n (given id (takes sub) (taking s sub o).0)
  after_taking sub None was = none (nat_eq sub id)
    where
      none : (b : Bool) → After s s id n (if b then [] else [])
      none true = stays
      none false = stays
  after_taking sub (Some last) was = by (nat_lt last (length s.published)) refl
    where
      none : (b : Bool) → After s s id n (if b then [] else [])
      none true = stays
      none false = stays

      some : (x : Definitions) → slice_get s.published (length s.published - 1) ≡ Some x → last < length s.published → (b : Bool) → nat_eq sub id ≡ b
          → After s (record s { members = with_taken sub (length s.published) s.members }) id n (if b then record { number = length s.published; flags = x } ∷ [] else [])
      some x at newer true e = by_this sub last was newer x at (exact_unsigned_eq sub id e)
      some x at newer false e = by_other sub last was newer (λ same. not_both (eq-eqb sub id same) e)

      by : (b : Bool) → nat_lt last (length s.published) ≡ b
          → After s (let o : Outcome = if b then (taken (last_of s.published), record s { members = with_taken sub (length s.published) s.members }) else (taken None, s) in o.1) id n
          (given id (takes sub) (let o : Outcome = if b then (taken (last_of s.published), record s { members = with_taken sub (length s.published) s.members }) else (taken None, s) in o.0))
      by false e = none (nat_eq sub id)
      by true e =
          let newer = ltb-true last (length s.published) e in
          let one = there_is s.published last newer in
          subst (λ (sn : Option Numbered). After s (record s { members = with_taken sub (length s.published) s.members }) id n (if nat_eq sub id then snapshot_in (taken sn) else []))
          (sym (ap (λ (o : Option Definitions). let r : Option Numbered = option_map (λ flags. record { number = length s.published; flags = flags }) o in r) one.1))
          (some one.0 one.1 newer (nat_eq sub id) refl)

-- ---- a step, and a run

step_after : (s t : State) (id n : ℕ) (e : Happening) (a : Reply) → Good s → Tracks id n s → Step s e a t → After s t id n (given id e a)
step_after s t id n (sets name bytes) a good tracks step = subst (λ (o : Outcome). After s o.1 id n []) (sym step.2) (after_sources s id n good tracks step.0)
step_after s t id n (clears name) a good tracks step = subst (λ (o : Outcome). After s o.1 id n []) (sym step) (after_sources s id n good tracks (cleared s.sources name))
step_after s t id n publishes a good tracks step = subst (λ (o : Outcome). After s o.1 id n []) (sym step) (after_publishing s id n good tracks (merged_of s.sources))
step_after s t id n joins a good tracks step = subst (λ (o : Outcome). After s o.1 id n []) (sym step) (after_joining s id n good tracks)
step_after s t id n (takes sub) a good tracks step = subst (λ (o : Outcome). After s o.1 id n (given id (takes sub) o.0)) (sym step) (after_taking s id n good tracks sub (taken_by sub s.members) refl)
step_after s t id n (leaves sub) a good tracks step = subst (λ (o : Outcome). After s o.1 id n []) (sym step) (after_leaving s id n good tracks sub (taken_by sub s.members))
step_after s t id n (notes seat page input) a good tracks step = subst (λ (o : Outcome). After s o.1 id n []) (sym step) (after_note s id n good tracks seat page input s.is_sealed)
step_after s t id n seals a good tracks step = subst (λ (o : Outcome). After s o.1 id n []) (sym step) (after_seal s id n good tracks s.is_sealed)

-- what a run has given to the subscriber
record Given (s t : State) (id n : ℕ) (items : List Numbered) : Type 0 where
  history : IsHistory t.published n items
  last : (m : ℕ) → taken_by id t.members ≡ Some m → m ≡ last_after n items
  more : List Definitions
  grown : t.published ≡ s.published ++ more

run_given : (s t : State) (id n : ℕ) (es : List Happening) (answers : List Reply) → Good s → Tracks id n s → Run s es answers t → Given s t id n (taken_list id es answers)
run_given s t id n [] [] good tracks run =
    record { history = tt; last = λ m h. tracks.last m (ap (λ (u : State). taken_by id u.members) (sym run) ∙ h); more = []; grown = ap (λ (u : State). u.published) run ∙ sym (append-nil s.published) }
run_given s t id n [] (a ∷ answers) good tracks run = absurd run
run_given s t id n (e ∷ es) [] good tracks run = absurd run
run_given s t id n (e ∷ es) (a ∷ answers) good tracks run =
    let m = run.0 in
    let one = step_after s m id n e a good tracks run.1 in
    let items = given id e a in
    let rest = run_given m t id (last_after n items) es answers one.good one.tracks run.2 in
    let first : IsHistory t.published n items = subst (λ (fs : List Definitions). IsHistory fs n items) (sym rest.grown) (history_more m.published rest.more n items one.item) in
    record {
      history = history_join t.published n items (taken_list id es answers) first rest.history;
      last = λ k h. rest.last k h ∙ sym (last_join n items (taken_list id es answers));
      more = one.more ++ rest.more;
      grown = rest.grown ∙ (ap (λ (fs : List Definitions). fs ++ rest.more) one.grown ∙ append_assoc s.published one.more rest.more);
    }

not_refused : (answer : Reply) → answer ≡ refused (Hub NoSub) → answer ≡ taken None → ⊥
not_refused answer e f = cc

not_nothing : (answer other : Reply) {x : Numbered} → answer ≡ other → other ≡ taken (Some x) → answer ≡ taken None → ⊥
not_nothing answer other e f g = cc

no_one : (id m : ℕ) → taken_by id [] ≡ Some m → m ≡ 0
no_one id m h = absurd (cc)

pub gives_histories : GivesHistories
gives_histories names seats es answers s run id =
    let all = run_given (opening names seats) s id 0 es answers (record { apart = tt; below = tt }) (record { last = no_one id; fresh = λ past. refl }) run in
    (all.history, all.last)

pub gives_nothing_twice : GivesNothingTwice
gives_nothing_twice names seats es answers s run id answer t step = by (taken_by id s.members) refl
  where
    items : List Numbered
    items = taken_list id es answers

    told : (o : Option ℕ) → taken_by id s.members ≡ o → answer ≡ (taking s id o).0
    told o was = ap (λ (p : Outcome). p.0) step ∙ ap (λ (q : Option ℕ). (taking s id q).0) was

    few : last_after 0 items ≤ length s.published
    few = bounded s.published 0 items (omega arith) (gives_histories names seats es answers s run id).0

    some : (k : ℕ) → k ≡ last_after 0 items → (b : Bool) → nat_lt k (length s.published) ≡ b
        → (answer ≡ (let p : Outcome = if b then (taken (last_of s.published), record s { members = with_taken id (length s.published) s.members }) else (taken None, s) in p.0))
        → (answer ≡ taken None) ↔ ((true ≡ true) × (last_after 0 items ≡ length s.published))
    some k last true e is =
        let newer = ltb-true k (length s.published) e in
        let one = last_is s.published k newer in
        (λ nothing. absurd (not_nothing answer _ is (ap taken one.1) nothing), λ both. absurd (omega (arith, newer, last, both.1)))
    some k last false e is =
        let most = ltb-false k (length s.published) e in
        (λ nothing. (refl, omega (arith, most, last, few)), λ both. is)

    by : (o : Option ℕ) → taken_by id s.members ≡ o → (answer ≡ taken None) ↔ ((is_some (taken_by id s.members) ≡ true) × (last_after 0 items ≡ length s.published))
    by None was = (λ nothing. absurd (not_refused answer (told None was) nothing), λ both. absurd (not_both both.0 (ap is_some was)))
    by (Some k) was =
        let last = (gives_histories names seats es answers s run id).1 k was in
        let exact = some k last (nat_lt k (length s.published)) refl (told (Some k) was) in
        (λ nothing. (ap is_some was, (exact.0 nothing).1), λ both. exact.1 (refl, both.1))
