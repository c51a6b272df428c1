-- Mentions that are noted one after another.
use Rattle.std.proofs.Common.{◌≡◌, ℕ, ◌+◌, ◌<◌, ◌≤◌, Bool, true, false, cond, List, [], ◌∷◌, ◌++◌, append-nil, append_assoc, map, take, length, length-append, get_or, add-one, nat_lt, Option, Some, option_map, refl, sym, ap, ◌∙◌, subst, arith}
use Rattle.std.proofs.Math.Seq.{take-suc}
use Rattle.std.proofs.lemmas.List.{map-append}
use Rattle.std.proofs.lemmas.List.Elements.{All-push}
use Rattle.std.proofs.lemmas.List.Sums.{sum_by-append}
use Rattle.std.proofs.lemmas.Option.{slice_get-get_or}
use Rattle.std.specs.Prelude.{All, count_by, slice_get, Result, Ok, Err, IfOk}
use Rattle.flag_defs.specs.Document.{Definitions}
use Rattle.logic_ast.specs.Expression.{Expression}
use Rattle.logic_eval.specs.Run.{Reach}
use Rattle.logic_eval.specs.Views.{reach_view}
use Rattle.logic_eval.specs.declared.meter.Reached.{Reached}
use Rattle.flag_resolve.specs.Views.{resolution_view}
use Rattle.flag_resolve.specs.declared.resolution.Resolution.{Resolution}
use Rattle.book_core.specs.Book.{most_bytes}
use Rattle.book_core.specs.Page.{PageName}
use Rattle.site_pages.specs.Keyed.{page_of, targeting_of}
use Rattle.book_share.specs.Asked.{Mention, mention, resolved, is_long, mentions_in, mentions_of}
use Rattle.book_core.specs.Calls.{Call, reply_after}
use Rattle.book_core.specs.declared.fault.BookFault.TheVariants.{PageFull}
use Rattle.book_core.specs.declared.noted.Noted.{Noted}
use Rattle.book_lock.specs.Counts.{own}
use Rattle.book_lock.specs.Notes.{Adds, Looks, accepted}
use Rattle.book_lock.specs.Told.{all_told}
use Rattle.book_lock.specs.declared.call.Sight.{Sight}
use Rattle.book_share.specs.Driven.{HasNoted, IsAnswer, Notes, NotesAsk, called_mention, noted_by}
use Rattle.book_share.specs.declared.ask.Ask.{Ask}
use Rattle.book_share.proofs.Full.{full_later, full_more}
use borrow.Author.Tests.{le-ltb, lt-ltb}

pub count-append : (p : Mention → Bool) (xs ys : List Mention) → count_by p (xs ++ ys) ≡ count_by p xs + count_by p ys
count-append p xs ys = sum_by-append (λ m. cond (p m) 1 0) xs ys

-- what was noted first, and what was noted then
pub count-noted_by : (p : Mention → Bool) (first last : List Call) (refused others : List Mention) → count_by p (noted_by (first ++ last) (refused ++ others)) ≡ count_by p (noted_by first refused) + count_by p (noted_by last others)
count-noted_by p first last refused others =
    let all = count-append p (map called_mention (first ++ last)) (refused ++ others) in
    let calls = ap (count_by p) (map-append called_mention first last) ∙ count-append p (map called_mention first) (map called_mention last) in
    let refusals = count-append p refused others in
    let a = count-append p (map called_mention first) refused in
    let b = count-append p (map called_mention last) others in
    omega (arith, all, calls, refusals, a, b)

-- ---- the reached inputs of an evaluation

mentions_in-append : (key : List ℕ) (t : Option Expression) (xs ys : List Reach) → mentions_in key t (xs ++ ys) ≡ mentions_in key t xs ++ mentions_in key t ys
unfolding mentions_in
mentions_in-append key t [] ys = refl
mentions_in-append key t (x ∷ xs) ys =
    let later = mentions_in-append key t xs ys in
    let m = mention (page_of key t x.site) x.input in
    elim (is_long x) as (λ b. cond b (mentions_in key t (xs ++ ys)) (m ∷ mentions_in key t (xs ++ ys)) ≡ cond b (mentions_in key t xs) (m ∷ mentions_in key t xs) ++ mentions_in key t ys) [
      | true ↦ later
      | false ↦ ap (λ l. m ∷ l) later
    ]

-- nothing was noted
pub notes_none : (seat : Sight) (refusals : ℕ) → Notes [] seat refusals seat refusals
notes_none seat refusals before has = subst (HasNoted seat refusals) (sym (append-nil before)) has

pub notes_before : (key : List ℕ) (t : Option Expression) (seat : Sight) (refusals : ℕ) → Notes (mentions_in key t []) seat refusals seat refusals
unfolding mentions_in
notes_before key t seat refusals = notes_none seat refusals

pub notes_more : (key : List ℕ) (t : Option Expression) (rs : List Reached) (i : ℕ) (r : Reached) (a b c : Sight) (x y z : ℕ) → i < length rs → r ≡ get_or rs i r
    → Notes (mentions_in key t (map reach_view (take i rs))) a x b y → Notes (cond (is_long (reach_view r)) [] (mention (page_of key t r.site) (reach_view r).input ∷ [])) b y c z
    → Notes (mentions_in key t (map reach_view (take (i + 1) rs))) a x c z
unfolding mentions_in
notes_more key t rs i r a b c x y z within at first one before has =
    let more : take (i + 1) rs ≡ take i rs ++ r ∷ [] = ap (λ n. take n rs) (add-one i) ∙ take-suc rs i r within ∙ ap (λ e. take i rs ++ e ∷ []) (sym at) in
    let views : map reach_view (take (i + 1) rs) ≡ map reach_view (take i rs) ++ reach_view r ∷ [] = ap (map reach_view) more ∙ map-append reach_view (take i rs) (r ∷ []) in
    let front = mentions_in key t (map reach_view (take i rs)) in
    let last = mentions_in key t (reach_view r ∷ []) in
    let both : mentions_in key t (map reach_view (take (i + 1) rs)) ≡ front ++ last = ap (mentions_in key t) views ∙ mentions_in-append key t (map reach_view (take i rs)) (reach_view r ∷ []) in
    subst (HasNoted c z) (append_assoc before front last ∙ ap (λ l. before ++ l) (sym both)) (one (before ++ front) (first before has))

-- ---- one input

-- the input, unless it is too long
abbrev pub one_mention : PageName → List ℕ → List Mention
one_mention page input = cond (nat_lt most_bytes (length input)) [] (mention page input ∷ [])

-- the book accepted it
pub accepted_one : (number : ℕ) (page : PageName) (input : List ℕ) (noted : Noted) (old new : Sight) (refusals : ℕ) → length input ≤ most_bytes → Adds (accepted number page input noted) old new → Notes (one_mention page input) old refusals new refusals
accepted_one number page input noted old new refusals short adds =
    let plain : nat_lt most_bytes (length input) ≡ false = le-ltb _ _ short in
    let c = accepted number page input noted in
    let added : Notes (mention page input ∷ []) old refusals new refusals = λ before has. record {
      refused = has.refused;
      many = has.many;
      noted = λ p.
          let all = ap (λ l. count_by p (noted_by l has.refused)) adds.mine in
          let both = ap (λ l. count_by p (noted_by (own old ++ c ∷ []) l)) (sym (append-nil has.refused)) ∙ count-noted_by p (own old) (c ∷ []) has.refused [] in
          let more = count-append p before (mention page input ∷ []) in
          let first = has.noted p in
          omega (arith, all, both, more, first);
      full = full_later new.seen old.seen has.refused (adds.grown.0 ++ c ∷ [], adds.grown.1 ∙ append_assoc old.seen adds.grown.0 (c ∷ [])) has.full;
    } in
    subst (λ b. Notes (cond b [] (mention page input ∷ [])) old refusals new refusals) (sym plain) added

-- its page was full
pub refused_one : (page : PageName) (input : List ℕ) (old new : Sight) (refusals : ℕ) → length input ≤ most_bytes → Looks old new → reply_after new.seen page input ≡ Err PageFull → Notes (one_mention page input) old refusals new (refusals + 1)
refused_one page input old new refusals short looks full =
    let plain : nat_lt most_bytes (length input) ≡ false = le-ltb _ _ short in
    let m = mention page input in
    let added : Notes (m ∷ []) old refusals new (refusals + 1) = λ before has. record {
      refused = has.refused ++ m ∷ [];
      many = let all = length-append has.refused (m ∷ []) in let first = has.many in omega (arith, all, first);
      noted = λ p.
          let all = ap (λ l. count_by p (noted_by l (has.refused ++ m ∷ []))) (looks.mine ∙ sym (append-nil (own old))) in
          let both = count-noted_by p (own old) [] has.refused (m ∷ []) in
          let more = count-append p before (m ∷ []) in
          let first = has.noted p in
          omega (arith, all, both, more, first);
      full = full_more new.seen old.seen has.refused m looks.grown full has.full;
    } in
    subst (λ b. Notes (cond b [] (m ∷ [])) old refusals new (refusals + 1)) (sym plain) added

-- it was too long
pub long_one : (page : PageName) (input : List ℕ) (seat : Sight) (refusals : ℕ) → most_bytes < length input → Notes (one_mention page input) seat refusals seat refusals
long_one page input seat refusals long =
    let past : nat_lt most_bytes (length input) ≡ true = lt-ltb _ _ long in
    subst (λ b. Notes (cond b [] (mention page input ∷ [])) seat refusals seat refusals) (sym past) (notes_none seat refusals)

-- what holds of an answer that came
pub of_ok : {X E : Type 0} (P : X → Type 0) (r : Result X E) (x : X) → r ≡ Ok x → IfOk r P → P x
of_ok P r x is holds = subst (λ s. IfOk s P) is holds

-- the same input and page, spelled in another way
pub one_as : (P : List Mention → Type 0) (key : List ℕ) (t : Option Expression) (site : ℕ) (page : PageName) (input text : List ℕ) → page ≡ page_of key t site → text ≡ input → P (one_mention page text) → P (one_mention (page_of key t site) input)
one_as P key t site page input text page_is text_is holds = subst (λ q. P (one_mention q input)) page_is (subst (λ s. P (one_mention page s)) text_is holds)

-- what was reached is what the resolution tells
pub noted_as : (P : List Mention → Type 0) (flags : Definitions) (a : Ask) (rs : List Reached) (r : Resolution) → rs ≡ r.reached.items → resolution_view r ≡ resolved flags a
    → P (mentions_in a.key.now (targeting_of flags a.key.now) (map reach_view rs)) → P (mentions_of flags a)
unfolding mentions_of
noted_as P flags a rs r rs_is r_is holds = subst P (ap (mentions_in a.key.now (targeting_of flags a.key.now)) (ap (map reach_view) rs_is ∙ ap (λ x. x.reached) r_is)) holds

found_at : (asks : List Ask) (n : ℕ) (x : Ask) → n < length asks → x ≡ get_or asks n x → slice_get asks n ≡ Some x
found_at asks n x within at = slice_get-get_or asks n x within ∙ ap Some (sym at)

-- the answer to the ask at a place
pub answer_is : (flags : Definitions) (asks : List Ask) (x : Ask) (n : ℕ) (r : Resolution) → n < length asks → x ≡ get_or asks n x → resolution_view r ≡ resolved flags x → IsAnswer flags asks n r
unfolding IsAnswer
answer_is flags asks x n r within at is = ap (option_map (resolved flags)) (found_at asks n x within at) ∙ ap Some (sym is)

-- what was noted for it
pub noted_at : (flags : Definitions) (asks : List Ask) (x : Ask) (n : ℕ) (old : Sight) (refusals : ℕ) (new : Sight) (more : ℕ) → n < length asks → x ≡ get_or asks n x → Notes (mentions_of flags x) old refusals new more
    → NotesAsk flags asks n old refusals new more
unfolding NotesAsk
noted_at flags asks x n old refusals new more within at notes a is = subst (λ (y : Ask). Notes (mentions_of flags y) old refusals new more) (some_is x a (sym (found_at asks n x within at) ∙ is)) notes
  where
    some_is : (x y : Ask) → Some x ≡ Some y → x ≡ y
    some_is x y e = cc

-- the calls of one more seat
all_told-append : (xs ys : List Sight) → all_told (xs ++ ys) ≡ all_told xs ++ all_told ys
all_told-append [] ys = refl
all_told-append (x ∷ xs) ys = ap (λ l. own x ++ l) (all_told-append xs ys) ∙ sym (append_assoc (own x) (all_told xs) (all_told ys))

pub told_more : (seats new : List Sight) (seat : Sight) → new ≡ seats ++ seat ∷ [] → all_told new ≡ all_told seats ++ own seat
told_more seats new seat is = ap all_told is ∙ all_told-append seats (seat ∷ []) ∙ ap (λ l. all_told seats ++ l) (append-nil (own seat))

pub calls_more : (ss : List Sight) (i : ℕ) (seat : Sight) → i < length ss → seat ≡ get_or ss i seat → length (all_told (take (i + 1) ss)) ≡ length (all_told (take i ss)) + length (own seat)
calls_more ss i seat within at =
    let more : take (i + 1) ss ≡ take i ss ++ seat ∷ [] = ap (λ n. take n ss) (add-one i) ∙ take-suc ss i seat within ∙ ap (λ x. take i ss ++ x ∷ []) (sym at) in
    ap length (told_more (take i ss) (take (i + 1) ss) seat more) ∙ length-append (all_told (take i ss)) (own seat)

-- the page of a site
pub page_named : (key : List ℕ) (t u : Option Expression) (site : ℕ) (page : PageName) → t ≡ u → page ≡ page_of key t site → page ≡ page_of key u site
page_named key t u site page same is = is ∙ ap (λ v. page_of key v site) same

-- ---- what a call in several threads gives

pub jobs_none : {J : Type 0} (Q : J → Type 0) (xs : List J) → xs ≡ [] → All Q xs
jobs_none Q xs none = subst (All Q) (sym none) (λ k d within. absurd (omega (arith, within)))

pub jobs_more : {J : Type 0} (Q : J → Type 0) (xs new : List J) (x : J) → new ≡ xs ++ x ∷ [] → All Q xs → Q x → All Q new
jobs_more Q xs new x is all one = subst (All Q) (sym is) (All-push Q xs x all one)

pub both_ok : {T E : Type 0} (r : Result T E) (P Q S : T → Type 0) → IfOk r P → IfOk r Q → ((v : T) → P v → Q v → S v) → IfOk r S
both_ok (Ok v) P Q S p q f = f v p q
both_ok (Err e) P Q S p q f = tt
