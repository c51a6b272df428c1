-- What a page holds of what a seat was told, and when it is full.
use Rattle.std.proofs.Common.{◌==◌, ◌≡◌, ℕ, List, [], ◌∷◌, Bool, true, false, ◌&&◌, ◌||◌, cond, length, nat_lt, Result, Ok, Err, is_ok, refl, sym, ◌∙◌, subst, arith}
use Rattle.std.specs.Prelude.{IfOk}
use Rattle.std.proofs.lemmas.Bool.Decides.{nat_tests}
use Rattle.std.proofs.lemmas.Slice.Eq.{bytes_eq-Decides}
use Rattle.std.specs.List.{AllByRecursion}
use Rattle.std.specs.Str.{bytes_eq}
use Rattle.std.specs.declared.alloc.AllocError.{AllocError}
use Rattle.book_core.specs.Page.{PageName, page_eq}
use Rattle.book_core.specs.Book.{Inputs, most_bytes, most_inputs, is_among, inputs_on}
use Rattle.book_core.specs.Calls.{Call, news_on, reply_after, stands, book_of_calls}
use Rattle.book_core.specs.declared.noted.Noted.TheVariants.{New, Again}
use Rattle.book_core.specs.declared.fault.BookFault.TheVariants.{PageFull, InputTooLong}
use Rattle.book_core.proofs.Answered.{shows_its_calls}
use Rattle.book_lock.specs.Counts.{own}
use Rattle.book_lock.specs.Notes.{Looks}
use Rattle.book_lock.specs.Seen.{IsLegal, all_ok, calls_by}
use Rattle.book_lock.specs.Told.{HoldsTold, PageFullIsFull}
use Rattle.book_lock.specs.declared.call.Sight.{Sight}
use Rattle.book_lock.proofs.Gained.{first_sightings}

ok_both : (b d : Bool) → cond b d false ≡ true → (b ≡ true) × (d ≡ true)
ok_both true d e = (refl, e)
ok_both false d e = cc

here : (a b c d : Bool) → a ≡ true → b ≡ true → c ≡ true → ((a && (b && c)) || d) ≡ true
here true true true d e f g = refl
here false b c d e f g = cc
here true false c d e f g = cc
here true true false d e f g = cc

later : (a d : Bool) → d ≡ true → (a || d) ≡ true
later true d e = refl
later false d e = e

picked : (P : Call → Type 0) (b : Bool) (c : Call) (cs : List Call) → P c → AllByRecursion P cs → AllByRecursion P (cond b (c ∷ cs) cs)
picked P true c cs h t = (h, t)
picked P false c cs h t = t

-- the calls of a seat are of inputs that were accepted
holds_all : (page : PageName) (inputs : Inputs) (k : ℕ) (cs : List Call) → all_ok cs ≡ true → ((input : List ℕ) → stands cs page input ≡ true → is_among input inputs ≡ true) → HoldsTold page inputs (calls_by k cs)
unfolding stands
holds_all page inputs k [] ok h = tt
holds_all page inputs k (c ∷ cs) ok h =
    let both = ok_both (is_ok c.reply) (all_ok cs) ok in
    picked (λ d. page_eq page d.page ≡ true → is_among d.input inputs ≡ true) (k == c.seat) c (calls_by k cs)
    (λ same. h c.input (here (is_ok c.reply) (page_eq page c.page) (bytes_eq c.input c.input) (stands cs page c.input) both.0 same ((bytes_eq-Decides c.input c.input).1 refl)))
    (holds_all page inputs k cs both.1 (λ input st. h input (later (is_ok c.reply && (page_eq page c.page && bytes_eq input c.input)) (stands cs page input) st)))

held_told : (page : PageName) (x : Sight) → IsLegal x.seen → HoldsTold page (inputs_on (book_of_calls [] x.seen) page) (own x)
held_told page x legal =
    let shown = shows_its_calls x.seen legal.0 in
    holds_all page (inputs_on (book_of_calls [] x.seen) page) x.number x.seen legal.1 (λ input st. shown.1.held page input ∙ st)

-- what a seat is given of a page holds what it was told there
pub holds : (r : Result Inputs AllocError) (page : PageName) (old new : Sight) → Looks old new → IfOk r (λ inputs. inputs ≡ inputs_on (book_of_calls [] new.seen) page) → IfOk r (λ inputs. HoldsTold page inputs (own new))
holds (Ok inputs) page old new looks is = subst (λ (l : Inputs). HoldsTold page l (own new)) (sym is) (held_told page new looks.legal)
holds (Err e) page old new looks is = tt

full_of : (long among room : Bool) → cond long (Err InputTooLong) (cond among (Ok Again) (cond room (Ok New) (Err PageFull))) ≡ Err PageFull → (among ≡ false) × (room ≡ false)
full_of true among room e = cc
full_of false true room e = cc
full_of false false true e = cc
full_of false false false e = (refl, refl)

-- a page that refuses an input has as many as a page takes, and not that input
pub page_full : PageFullIsFull
unfolding reply_after
page_full calls page input legal is =
    let parts = full_of (nat_lt most_bytes (length input)) (stands calls page input) (nat_lt (length (news_on calls page)) most_inputs) is in
    let few = (first_sightings calls legal).few page in
    let above = parts.1 in
    (grind (arith, nat_tests, few, above), parts.0)
