-- What a drive noted, from what its seats were told and what full pages refused.
use Rattle.std.proofs.Common.{◌≡◌, ℕ, suc, ◌+◌, ◌-◌, ◌<◌, Bool, true, false, ◌||◌, ◌&&◌, ◌==◌, cond, List, [], ◌∷◌, ◌++◌, map, length, length-append, nat_lt, is_ok, refl, sym, ap, ◌∙◌, subst, arith, not}
use borrow.Author.Tests.{lt-ltb}
use Rattle.std.specs.Prelude.{All, count_by, sum_by}
use Rattle.std.specs.List.{list_any}
use Rattle.std.specs.Str.{bytes_eq}
use Rattle.std.proofs.lemmas.List.Elements.{All-head, All-tail}
use Rattle.std.proofs.lemmas.List.Folds.{list_any-append}
use Rattle.std.proofs.lemmas.List.Sums.{sum_by-cons}
use Rattle.flag_defs.specs.Document.{Definitions}
use Rattle.book_core.specs.Book.{Contents, is_among, inputs_on, input_count, IsBook}
use Rattle.book_core.specs.Calls.{Call, stands}
use Rattle.book_core.specs.Page.{PageName, page_eq}
use Rattle.book_core.specs.PageOrder.{pages_equal}
use Rattle.logic_eval.specs.Views.{reach_view}
use Rattle.flag_resolve.specs.Views.{resolution_view}
use Rattle.flag_resolve.specs.Resolved.{Resolved}
use Rattle.flag_resolve.specs.declared.resolution.Resolution.{Resolution}
use Rattle.book_share.specs.Asked.{Mention, mentions, is_mention, long_inputs, long_of, resolved}
use Rattle.book_share.specs.Driven.{AreNoted, AreWorks, noted_by, called_mention, mentions_to_all, is_noted}
use Rattle.book_share.specs.declared.ask.Ask.{Ask}
use Rattle.book_core.proofs.Answered.{shows_its_calls}
use Rattle.book_lock.specs.Sealed.{IsSealed}
use Rattle.book_lock.specs.Seen.{AllKnow, all_ok, calls_by}
use Rattle.book_lock.specs.Counts.{own}
use Rattle.book_lock.specs.Told.{IsTold, all_told}
use Rattle.book_lock.specs.declared.call.Sight.{Sight}
use Rattle.book_share.proofs.Full.{IsFull, sealed_full}
use Rattle.book_share.proofs.Reaching.{count-append}
use Rattle.book_share.proofs.Turns.{Line, to_all}
use Rattle.book_share.proofs.Pages.{AreKept, bytes_laws, full_page, none_full, or_first, or_last, page_contents, page_filled}

-- ---- counts

count_all : {X : Type 0} (xs : List X) → count_by (λ _. true) xs ≡ length xs
count_all [] = refl
count_all (x ∷ xs) = let later = count_all xs in let more = sum_by-cons (λ _. cond true 1 0) x xs in omega (arith, later, more)

any_count : {X : Type 0} (p : X → Bool) (xs : List X) → list_any p xs ≡ nat_lt 0 (count_by p xs)
any_count p [] = refl
any_count p (x ∷ xs) = by (p x) (any_count p xs) (sum_by-cons (λ y. cond (p y) 1 0) x xs)
  where
    by : (b : Bool) → list_any p xs ≡ nat_lt 0 (count_by p xs) → count_by p (x ∷ xs) ≡ cond b 1 0 + count_by p xs → (b || list_any p xs) ≡ nat_lt 0 (count_by p (x ∷ xs))
    by true l m = sym (lt-ltb 0 (count_by p (x ∷ xs)) (omega (arith, m)))
    by false l m = l ∙ ap (nat_lt 0) (omega (arith, m))

any_from_count : {X : Type 0} (p : X → Bool) (xs ys : List X) → count_by p xs ≡ count_by p ys → list_any p xs ≡ list_any p ys
any_from_count p xs ys e = any_count p xs ∙ ap (nat_lt 0) e ∙ sym (any_count p ys)

length_map : {X Y : Type 0} (f : X → Y) (xs : List X) → length (map f xs) ≡ length xs
length_map f [] = refl
length_map f (x ∷ xs) = let later = length_map f xs in omega (arith, later)

-- each call of a seat was accepted
ok_both : (b d : Bool) → cond b d false ≡ true → (b ≡ true) × (d ≡ true)
ok_both true d e = (refl, e)
ok_both false d e = cc

ok_front : (xs ys : List Call) → all_ok (xs ++ ys) ≡ true → all_ok xs ≡ true
ok_front [] ys ok = refl
ok_front (c ∷ cs) ys ok = let both = ok_both (is_ok c.reply) (all_ok (cs ++ ys)) ok in rw (both.0) (ok_front cs ys both.1)

ok_append : (xs ys : List Call) → all_ok xs ≡ true → all_ok ys ≡ true → all_ok (xs ++ ys) ≡ true
ok_append [] ys a b = b
ok_append (c ∷ cs) ys a b = let both = ok_both (is_ok c.reply) (all_ok cs) a in rw (both.0) (ok_append cs ys both.1 b)

ok_by : (k : ℕ) (cs : List Call) → all_ok cs ≡ true → all_ok (calls_by k cs) ≡ true
ok_by k [] ok = refl
ok_by k (c ∷ cs) ok =
    let both = ok_both (is_ok c.reply) (all_ok cs) ok in
    picked (k == c.seat) both.0 (ok_by k cs both.1)
  where
    picked : (b : Bool) → is_ok c.reply ≡ true → all_ok (calls_by k cs) ≡ true → all_ok (cond b (c ∷ calls_by k cs) (calls_by k cs)) ≡ true
    picked true e rest = rw e rest
    picked false e rest = rest

ok_told : (all : List Call) (seats : List Sight) → all_ok all ≡ true → AllKnow all seats → all_ok (all_told seats) ≡ true
ok_told all [] ok know = refl
ok_told all (x ∷ xs) ok know =
    let front : all_ok x.seen ≡ true = ok_front x.seen know.0.0.0 (sym (ap all_ok know.0.0.1) ∙ ok) in
    ok_append (own x) (all_told xs) (ok_by x.number x.seen front) (ok_told all xs ok know.1)

any_called : (page : PageName) (input : List ℕ) (calls : List Call) → all_ok calls ≡ true → list_any (is_mention page input) (map called_mention calls) ≡ stands calls page input
unfolding stands
any_called page input [] ok = refl
any_called page input (c ∷ cs) ok =
    let both = ok_both (is_ok c.reply) (all_ok cs) ok in
    let later = any_called page input cs both.1 in
    rw (both.0) (ap (λ b. (page_eq page c.page && bytes_eq input c.input) || b) later)

-- what is accepted or refused is mentioned, and nothing else
any_noted : (page : PageName) (input : List ℕ) (calls : List Call) (refused : List Mention) → all_ok calls ≡ true
    → list_any (is_mention page input) (noted_by calls refused) ≡ (stands calls page input || list_any (is_mention page input) refused)
any_noted page input calls refused ok =
    list_any-append (is_mention page input) (map called_mention calls) refused
    ∙ ap (λ b. b || list_any (is_mention page input) refused) (any_called page input calls ok)

or_empty : (a : Bool) → (a || false) ≡ a
or_empty true = refl
or_empty false = refl

-- ---- how many notes were accepted

count_both : {X : Type 0} (p : X → Bool) (xs : List X) → count_by p xs + count_by (λ x. not (p x)) xs ≡ length xs
count_both p [] = refl
count_both p (x ∷ xs) = by (p x) (count_both p xs) (sum_by-cons (λ y. cond (p y) 1 0) x xs) (sum_by-cons (λ y. cond (not (p y)) 1 0) x xs)
  where
    by : (b : Bool) → count_by p xs + count_by (λ y. not (p y)) xs ≡ length xs → count_by p (x ∷ xs) ≡ cond b 1 0 + count_by p xs
        → count_by (λ y. not (p y)) (x ∷ xs) ≡ cond (not b) 1 0 + count_by (λ y. not (p y)) xs → count_by p (x ∷ xs) + count_by (λ y. not (p y)) (x ∷ xs) ≡ length (x ∷ xs)
    by true later m n = omega (arith, later, m, n)
    by false later m n = omega (arith, later, m, n)

stands_here : (c : Call) (cs : List Call) → is_ok c.reply ≡ true → stands (c ∷ cs) c.page c.input ≡ true
unfolding stands
stands_here c cs ok =
    let page : page_eq c.page c.page ≡ true = pages_equal.refl c.page in
    let input : bytes_eq c.input c.input ≡ true = bytes_laws.refl c.input in
    or_first (is_ok c.reply && (page_eq c.page c.page && bytes_eq c.input c.input)) (stands cs c.page c.input) (rw (ok, page, input) refl)

stands_later : (c : Call) (cs : List Call) (page : PageName) (q : List ℕ) → stands cs page q ≡ true → stands (c ∷ cs) page q ≡ true
unfolding stands
stands_later c cs page q e = or_last (is_ok c.reply && (page_eq page c.page && bytes_eq q c.input)) (stands cs page q) e

-- the book has the input of each accepted call
called_noted : (book : Contents) (cs : List Call) → ((page : PageName) (q : List ℕ) → stands cs page q ≡ true → is_among q (inputs_on book page) ≡ true) → all_ok cs ≡ true → count_by (is_noted book) (map called_mention cs) ≡ length cs
called_noted book [] within ok = refl
called_noted book (c ∷ cs) within ok =
    let both = ok_both (is_ok c.reply) (all_ok cs) ok in
    let here : is_noted book (called_mention c) ≡ true = within c.page c.input (stands_here c cs both.0) in
    let one : ◌≡◌ {A = ℕ} (cond (is_noted book (called_mention c)) 1 0) 1 = ap (λ b. cond b 1 0) here in
    let later = called_noted book cs (λ page q e. within page q (stands_later c cs page q e)) both.1 in
    let more = sum_by-cons (λ m. cond (is_noted book m) 1 0) (called_mention c) (map called_mention cs) in
    omega (arith, later, more, one)

-- and none that a full page refused
refused_noted : (book : Contents) (rs : List Mention) → All (IsFull book) rs → count_by (is_noted book) rs ≡ 0
refused_noted book [] full = refl
refused_noted book (r ∷ rs) full =
    let absent : is_noted book r ≡ false = (full_page book r (All-head (IsFull book) r rs full)).0 in
    let one : ◌≡◌ {A = ℕ} (cond (is_noted book r) 1 0) 0 = ap (λ b. cond b 1 0) absent in
    let later = refused_noted book rs (All-tail (IsFull book) r rs full) in
    let more = sum_by-cons (λ m. cond (is_noted book m) 1 0) r rs in
    omega (arith, later, more, one)

-- ---- the whole

pub noted_whole : (flags : Definitions) (workers : ℕ) (asks : List Ask) (seats : List Sight) (given : Line) (refusals n : ℕ) (book : Contents) (accepted new : ℕ)
    → 0 < workers → length seats ≡ workers → AreWorks flags workers asks seats given refusals → IsSealed n seats book → IsTold seats book → accepted ≡ length (all_told seats) → new ≡ input_count book
    → AreNoted (mentions flags asks) book accepted new refusals
noted_whole flags workers asks seats given refusals n book accepted new some len works sealed told accepted_is news =
    let ms = mentions flags asks in
    let calls = all_told seats in
    let refused = works.noted.refused in
    let many : length refused ≡ refusals = works.noted.many in
    let ok : all_ok calls ≡ true = ok_told sealed.all seats sealed.legal.1 sealed.seen in
    let is_book : IsBook book = subst IsBook (sym sealed.left) (shows_its_calls sealed.all sealed.legal.0).0 in
    let full : All (IsFull book) refused = sealed_full n seats book refused sealed works.noted.full in
    let last : length seats ≡ suc (workers - 1) = omega (arith, some, len) in
    let counted : (p : Mention → Bool) → count_by p (noted_by calls refused) ≡ count_by p ms =
    λ p. works.noted.noted p ∙ ap (λ k. count_by p (mentions_to_all flags (workers - 1) k asks)) last ∙ to_all flags p (workers - 1) asks in
    let any : (page : PageName) (q : List ℕ) → (stands calls page q || list_any (is_mention page q) refused) ≡ list_any (is_mention page q) ms =
    λ page q. sym (any_noted page q calls refused ok) ∙ any_from_count (is_mention page q) (noted_by calls refused) ms (counted (is_mention page q)) in
    let union : (page : PageName) (q : List ℕ) → is_among q (inputs_on book page) ≡ stands calls page q = λ page q. told.told.union page q in
    let kept : AreKept ms book refused = record {
      lawful = is_book;
      held = λ page q e. sym (any page q) ∙ or_first (stands calls page q) (list_any (is_mention page q) refused) (sym (union page q) ∙ e);
      full = full;
      within = λ page q e. sym (any page q) ∙ or_last (stands calls page q) (list_any (is_mention page q) refused) e;
      exact = λ page q e. union page q ∙ sym (or_empty (stands calls page q)) ∙ ap (λ b. stands calls page q || b) (sym e) ∙ any page q;
    } in
    let whole = sym (count_all (noted_by calls refused)) ∙ counted (λ _. true) ∙ count_all ms in
    let parts = length-append (map called_mention calls) refused in
    let a = length_map called_mention calls in
    let split = sym (counted (is_noted book)) ∙ count-append (is_noted book) (map called_mention calls) refused in
    let accepted_ones = called_noted book calls (λ page q e. union page q ∙ e) ok in
    let refused_ones = refused_noted book refused full in
    let none = none_full ms book refused kept in record {
      contents = page_contents ms book refused kept;
      filled = page_filled ms book refused kept;
      held = kept.held;
      calls = omega (arith, split, accepted_ones, refused_ones, accepted_is);
      news = news;
      refusals = let both = count_both (is_noted book) ms in omega (arith, split, accepted_ones, refused_ones, both, whole, parts, a, many);
      full = ((λ zero_now. none.0 (many ∙ zero_now)), (λ few. sym many ∙ none.1 few));
    }

-- where nothing was refused, the book has just what is mentioned
pub just_mentioned : (ms : List Mention) (book : Contents) (accepted new : ℕ) → AreNoted ms book accepted new 0 → (page : PageName) (input : List ℕ) → is_among input (inputs_on book page) ≡ list_any (is_mention page input) ms
just_mentioned ms book accepted new noted page input = noted.contents page (noted.full.0 refl page) input

-- how many long inputs there are in the answers
pub long_whole : (flags : Definitions) (asks : List Ask) (rs : List Resolution) (long : ℕ) → map resolution_view rs ≡ map (resolved flags) asks
    → long ≡ sum_by (λ (r : Resolution). long_inputs (map reach_view r.reached.items)) rs → long ≡ long_of flags asks
long_whole flags asks rs long answers is =
    is ∙ sym (sum-map (λ (r : Resolved). long_inputs r.reached) resolution_view rs) ∙ ap (sum_by (λ (r : Resolved). long_inputs r.reached)) answers ∙ sum-map (λ (r : Resolved). long_inputs r.reached) (resolved flags) asks
  where
    sum-map : {X Y : Type 0} (w : Y → ℕ) (f : X → Y) (xs : List X) → sum_by w (map f xs) ≡ sum_by (λ x. w (f x)) xs
    sum-map w f [] = refl
    sum-map w f (x ∷ xs) = let later = sum-map w f xs in let a = sum_by-cons w (f x) (map f xs) in let b = sum_by-cons (λ y. w (f y)) x xs in omega (arith, later, a, b)
