-- One call more on a legal list.
use Rattle.std.proofs.Common.{◌≡◌, ◌≢◌, ℕ, List, [], ◌∷◌, ◌++◌, Bool, true, false, cond, length, nat_lt, Result, Ok, Err, is_ok, refl, sym, ap, ◌∙◌, subst, append_assoc}
use Rattle.std.specs.Prelude.{IfOk, OnOk, OnErr}
use Rattle.flag_text.specs.Outcome.{GivesUnless}
use Rattle.book_core.specs.Page.{PageName}
use Rattle.book_core.specs.Book.{Contents, most_bytes, most_inputs, is_among, inputs_on, reply_to, with_input}
use Rattle.book_core.specs.Calls.{Call, AreCallsAfter, reply_after, book_after, book_of_calls}
use Rattle.book_core.specs.declared.noted.Noted.{Noted}
use Rattle.book_core.proofs.Answered.{notes_one_call, shows_its_calls}
use Rattle.book_core.specs.declared.fault.BookFault.{BookFault}
use Rattle.book_core.specs.declared.fault.BookFault.TheVariants.{WantOfMemory, InputTooLong, PageFull}
use Rattle.book_core.specs.declared.noted.Noted.TheVariants.{New, Again}
use Rattle.book_lock.specs.Notes.{Adds, Answers, Looks, accepted}
use Rattle.book_lock.specs.Rule.{Sat, idle}
use Rattle.book_lock.specs.Seen.{IsLegal, Knows, all_ok, seen_in, sight}
use Rattle.book_lock.proofs.Seats.{own_call}

calls_snoc : (before cs : List Call) (c : Call) → AreCallsAfter before cs → c.reply ≡ reply_after (before ++ cs) c.page c.input → AreCallsAfter before (cs ++ c ∷ [])
calls_snoc before [] c are is = (is ∙ ap (λ l. reply_after l c.page c.input) (append_nil before), tt)
  where
    append_nil : (xs : List Call) → xs ++ [] ≡ xs
    append_nil [] = refl
    append_nil (x ∷ xs) = ap (λ ys. x ∷ ys) (append_nil xs)
calls_snoc before (d ∷ ds) c are is = (are.0, calls_snoc (before ++ d ∷ []) ds c are.1 (is ∙ ap (λ l. reply_after l c.page c.input) (sym (append_assoc before (d ∷ []) ds))))

ok_cond : (b : Bool) (x y : Bool) → cond b x false ≡ true → (x ≡ true → y ≡ true) → cond b y false ≡ true
ok_cond true x y h f = f h
ok_cond false x y h f = h

ok_snoc : (cs : List Call) (c : Call) → all_ok cs ≡ true → is_ok c.reply ≡ true → all_ok (cs ++ c ∷ []) ≡ true
ok_snoc [] c h is = ap (λ b. cond b true false) is
ok_snoc (d ∷ ds) c h is = ok_cond (is_ok d.reply) (all_ok ds) (all_ok (ds ++ c ∷ [])) h (λ e. ok_snoc ds c e is)

book_snoc : (book : Contents) (cs : List Call) (c : Call) → book_of_calls book (cs ++ c ∷ []) ≡ book_after (book_of_calls book cs) c.page c.input c.reply
book_snoc book [] c = refl
book_snoc book (d ∷ ds) c = book_snoc (book_after book d.page d.input d.reply) ds c

-- the reply of the book is the one that comes after the calls
pub replies : (seen : List Call) (page : PageName) (input : List ℕ) → IsLegal seen → reply_to (book_of_calls [] seen) page input ≡ reply_after seen page input
replies seen page input legal = let shown = shows_its_calls seen legal.0 in (notes_one_call seen (book_of_calls [] seen) 0 page input shown.0 shown.1).0

pub noted_more : (seen : List Call) (book new : Contents) (k : ℕ) (page : PageName) (input : List ℕ) (noted : Noted) → IsLegal seen → book ≡ book_of_calls [] seen → reply_to book page input ≡ Ok noted → new ≡ with_input book page input
    → IsLegal (seen ++ accepted k page input noted ∷ []) × (new ≡ book_of_calls [] (seen ++ accepted k page input noted ∷ []))
noted_more seen book new k page input noted legal is reply more =
    let c = accepted k page input noted in
    let given : Ok noted ≡ reply_after seen page input = sym reply ∙ (ap (λ b. reply_to b page input) is ∙ replies seen page input legal) in (
      (calls_snoc [] seen c legal.0 given, ok_snoc seen c legal.1 refl),
      more ∙ (ap (λ b. with_input b page input) is ∙ sym (book_snoc [] seen c)),
    )

-- what the seat that holds may give back
pub may_settle : (r : Result Noted BookFault) (seen : List Call) (book new : Contents) (k : ℕ) (page : PageName) (input : List ℕ) → IsLegal seen → book ≡ book_of_calls [] seen
    → GivesUnless WantOfMemory (λ reply. reply) r (reply_to book page input) → OnOk r (new ≡ with_input book page input)
    → IfOk r (λ noted. IsLegal (seen ++ accepted k page input noted ∷ []) × (new ≡ book_of_calls [] (seen ++ accepted k page input noted ∷ [])))
may_settle (Ok noted) seen book new k page input legal is given more = noted_more seen book new k page input noted legal is given more
may_settle (Err e) seen book new k page input legal is given more = tt

new_wanted : (long among room : Bool) (e : BookFault)
    → (cond long (Err InputTooLong) (cond among (Ok Again) (cond room (Ok New) (Err PageFull))) ≢ Ok New → Err e ≡ cond long (Err InputTooLong) (cond among (Ok Again) (cond room (Ok New) (Err PageFull))))
    → e ≡ WantOfMemory → cond long (Err InputTooLong) (cond among (Ok Again) (cond room (Ok New) (Err PageFull))) ≡ Ok New
new_wanted true among room e h is = let same = h (λ q. cc) in cc
new_wanted false true room e h is = let same = h (λ q. cc) in cc
new_wanted false false true e h is = refl
new_wanted false false false e h is = let same = h (λ q. cc) in cc

-- memory is wanted where the reply is New
only_new : (book : Contents) (page : PageName) (input : List ℕ) (e : BookFault) → (reply_to book page input ≢ Ok New → Err e ≡ reply_to book page input) → e ≡ WantOfMemory → reply_to book page input ≡ Ok New
unfolding reply_to
only_new book page input e h is = new_wanted (nat_lt most_bytes (length input)) (is_among input (inputs_on book page)) (nat_lt (length (inputs_on book page)) most_inputs) e h is

-- what the seat has then seen
pub answers : (r : Result Noted BookFault) (k : ℕ) (page : PageName) (input : List ℕ) (old all : List Call) (book new : Contents) (m : Sat) → IsLegal all → Knows all (sight k old) → book ≡ book_of_calls [] all
    → GivesUnless WantOfMemory (λ reply. reply) r (reply_to book page input) → (reply_to book page input ≢ Ok New → r ≡ reply_to book page input)
    → IfOk r (λ noted. m ≡ (idle k (all ++ accepted k page input noted ∷ []), [])) → OnOk r (new ≡ with_input book page input)
    → OnErr r (m ≡ (idle k all, []))
    → Answers k page input r (sight k old) (sight k (seen_in m.0.seats))
answers (Ok noted) k page input old all book new m legal knows is given free at more none =
    let c = accepted k page input noted in
    subst (λ (l : List Call). Adds c (sight k old) (sight k l)) (sym (ap (λ (s : Sat). seen_in s.0.seats) at)) record {
      number = refl;
      grown = (knows.0.0, ap (λ l. l ++ c ∷ []) knows.0.1);
      legal = (noted_more all book new k page input noted legal is given more).0;
      mine = own_call k all c refl ∙ ap (λ l. l ++ c ∷ []) knows.1;
    }
answers (Err e) k page input old all book new m legal knows is given free at more none =
    subst (λ (l : List Call). Looks (sight k old) (sight k l) × (e ≢ WantOfMemory → reply_after l page input ≡ Err e) × (e ≡ WantOfMemory → reply_after l page input ≡ Ok New)) (sym (ap (λ (s : Sat). seen_in s.0.seats) none)) (
      record { number = refl; grown = knows.0; legal = legal; mine = knows.1 },
      λ ne. sym (replies all page input legal) ∙ (ap (λ b. reply_to b page input) (sym is) ∙ given ne),
      λ want. sym (replies all page input legal) ∙ (ap (λ b. reply_to b page input) (sym is) ∙ only_new book page input e free want),
    )
