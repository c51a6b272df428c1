-- What a seat counts, and why it is refused.
use Rattle.std.proofs.Common.{◌≡◌, ◌≢◌, ◌⊎◌, inl, inr, ℕ, ◌+◌, ◌≤◌, List, [], ◌∷◌, ◌++◌, Bool, true, false, cond, length, length-append, nat_lt, Result, Ok, Err, refl, ap, ◌∙◌, arith}
use Rattle.std.specs.Prelude.{IfErr, IfOk}
use Rattle.std.proofs.lemmas.Bool.Decides.{nat_tests}
use Rattle.book_core.specs.Page.{PageName}
use Rattle.book_core.specs.Book.{most_bytes, most_inputs}
use Rattle.book_core.specs.Calls.{Call, is_new, news_on, reply_after, stands}
use Rattle.book_core.specs.declared.noted.Noted.{Noted}
use Rattle.book_core.specs.declared.noted.Noted.TheVariants.{New, Again}
use Rattle.book_core.specs.declared.fault.BookFault.{BookFault}
use Rattle.book_core.specs.declared.fault.BookFault.TheVariants.{WantOfMemory, PageFull, InputTooLong, LastCall, Stranger}
use Rattle.book_lock.specs.Counts.{news_of, own}
use Rattle.book_lock.specs.Notes.{Answers, accepted}
use Rattle.book_lock.specs.Seen.{one_if}
use Rattle.book_lock.specs.declared.call.Sight.{Sight}

news_snoc : (cs : List Call) (c : Call) → news_of (cs ++ c ∷ []) ≡ news_of cs + one_if (is_new c.reply)
news_snoc [] c = omega arith
news_snoc (d ∷ ds) c = let later = news_snoc ds c in omega (arith, later)

-- an accepted call is one more, and counts as new where it was New
pub counts : (r : Result Noted BookFault) (number : ℕ) (page : PageName) (input : List ℕ) (old new : Sight) → Answers number page input r old new
    → IfOk r (λ noted. (length (own new) ≡ length (own old) + 1) × (news_of (own new) ≡ news_of (own old) + one_if (is_new (Ok noted))))
counts (Ok noted) number page input old new t =
    let c = accepted number page input noted in
    (ap length t.mine ∙ length-append (own old) (c ∷ []), ap news_of t.mine ∙ news_snoc (own old) c)
counts (Err e) number page input old new t = tt

-- why an input that is not too long is refused after some calls
only_full : (seen : List Call) (page : PageName) (input : List ℕ) (fault : BookFault) → length input ≤ most_bytes → reply_after seen page input ≡ Err fault → fault ≡ PageFull
unfolding reply_after
only_full seen page input fault short is =
    let low : nat_lt most_bytes (length input) ≡ false = grind (arith, nat_tests) in
    full_of (nat_lt most_bytes (length input)) (stands seen page input) (nat_lt (length (news_on seen page)) most_inputs) fault low is
  where
    full_of : (long among room : Bool) (fault : BookFault) → long ≡ false → cond long (Err InputTooLong) (cond among (Ok Again) (cond room (Ok New) (Err PageFull))) ≡ Err fault → fault ≡ PageFull
    full_of true among room fault low e = cc
    full_of false true room fault low e = cc
    full_of false false true fault low e = cc
    full_of false false false fault low e = cc

want_or_full : (seen : List Call) (page : PageName) (input : List ℕ) (fault : BookFault) → length input ≤ most_bytes → (fault ≢ WantOfMemory → reply_after seen page input ≡ Err fault) → (fault ≡ WantOfMemory) ⊎ (fault ≡ PageFull)
want_or_full seen page input WantOfMemory short is = inl refl
want_or_full seen page input PageFull short is = inr refl
want_or_full seen page input InputTooLong short is = inr (only_full seen page input InputTooLong short (is (λ e. cc)))
want_or_full seen page input LastCall short is = inr (only_full seen page input LastCall short (is (λ e. cc)))
want_or_full seen page input Stranger short is = inr (only_full seen page input Stranger short (is (λ e. cc)))

pub faults : (r : Result Noted BookFault) (number : ℕ) (page : PageName) (input : List ℕ) (old new : Sight) → length input ≤ most_bytes → Answers number page input r old new → IfErr r (λ e. (e ≡ WantOfMemory) ⊎ (e ≡ PageFull))
faults (Ok noted) number page input old new short t = tt
faults (Err e) number page input old new short t = want_or_full new.seen page input e short t.1
