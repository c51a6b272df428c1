-- What comes of a token.
use Rattle.std.proofs.Common.{◌≡◌, ◌≢◌, ℕ, List, true, false, is_ok, Option, Some, None, Result, Ok, Err, inl, inr, refl, sym, ap}
use Rattle.flag_defs.specs.Document.{Definitions}
use Rattle.plan_text.specs.Answer.{Answer}
use Rattle.price_core.specs.Request.{Asked, asked_of}
use Rattle.price_core.specs.declared.fault.PriceFault.{PriceFault}
use Rattle.rollout.specs.Lawful.{and_then, by_price}
use Rattle.rollout.specs.CheckedTally.{IsTallyOutcome, tally_problem_asked, tally_problem_of}
use Rattle.rollout.specs.declared.refining.Refining.{Refining}
use Rattle.rollout.specs.declared.verify_fault.VerifyFault.{VerifyFault}
use Rattle.note_tallies.specs.Tally.{PageTally}
use Rattle.control_answers.specs.Apply.{Applied, IsApplied, IsAppliedOn, IsApplyAnswer, IsApplyOf, unless_doubted}
use Rattle.control_answers.specs.Check.{MayBeTold}
use Rattle.control_answers.specs.Doubts.{doubt_of}
use Rattle.control_answers.specs.Kept.{IsChanged}
use Rattle.control_answers.specs.Snapshot.{Snapshot}
use Rattle.control_answers.specs.Refusal.{of_verdict_of_token}
use Rattle.control_answers.specs.Token.{IsNoToken, IsToken, Token, is_tag_of}
use Rattle.control_answers.specs.Turns.{Gives}
use Rattle.control_answers.specs.declared.refusal.ControlRefusal.{ControlRefusal}
use Rattle.control_answers.specs.declared.refusal.ControlRefusal.TheVariants.{WantOfMemory, BadToken, OtherDocument}
use Rattle.control_answers.proofs.Turns.{refused}

asked_if_right : (refining : Refining) (flags : Definitions) (t : PageTally) (answer : Answer) (a : Result Asked PriceFault) → IsTallyOutcome (and_then (by_price a) (λ asked. tally_problem_asked refining flags asked t)) answer (Ok tt) → is_ok a ≡ true
asked_if_right refining flags t answer (Ok asked) right = refl
asked_if_right refining flags t answer (Err f) right = absurd right

-- a request with a right answer asks something
pub is_asked : (refining : Refining) (flags : Definitions) (request : List ℕ) (t : PageTally) (answer : Answer) → IsTallyOutcome (tally_problem_of refining flags request t) answer (Ok tt) → is_ok (asked_of request) ≡ true
is_asked refining flags request t answer right = asked_if_right refining flags t answer (asked_of request) right

module _ (s : Snapshot) (request : List ℕ) (answer : Answer) (t : PageTally) (text : List ℕ) (kept : IsChanged s request answer (Ok text)) where
  abbrev made : Applied
  made = record { document = text; request = request; answer = answer; inputs = t.inputs }

  pub undoubted : doubt_of request t ≡ None → IsApplied s request answer t (Ok made)
  undoubted is = (Ok text, kept, sym (ap (λ (d : Option ControlRefusal). unless_doubted d made) is))

  pub doubted : (doubt : ControlRefusal) → doubt_of request t ≡ Some doubt → IsApplied s request answer t (Err doubt)
  doubted doubt is = (Ok text, kept, sym (ap (λ (d : Option ControlRefusal). unless_doubted d made) is))

module _ {A : Type 0} (seen : A → Applied) (s : Snapshot) where
  module _ (request : List ℕ) (answer : Answer) (t : PageTally) where
    -- there is no document with the rule
    pub unkept : (e : ControlRefusal) (r : Result A ControlRefusal) → r ≡ Err e → (e ≢ WantOfMemory → IsChanged s request answer (Err e)) → Gives seen (IsApplied s request answer t) r
    unkept e r is none = refused seen (IsApplied s request answer t) e r is (λ other. (Err e, none other, refl))

    pub wrong : (f : VerifyFault) (r : Result A ControlRefusal) → r ≡ Err (of_verdict_of_token f) → MayBeTold s.flags request t answer (Err f) → Gives seen (IsAppliedOn s request answer t) r
    wrong f r is told = refused seen (IsAppliedOn s request answer t) (of_verdict_of_token f) r is (λ other. (Err f, told, refl))

    pub right : (r : Result A ControlRefusal) → MayBeTold s.flags request t answer (Ok tt) → Gives seen (IsApplied s request answer t) r → Gives seen (IsAppliedOn s request answer t) r
    right (Ok a) told made = (Ok tt, told, made)
    right (Err e) told made = λ other. (Ok tt, told, made other)

  module _ (text : List ℕ) (files : List (List ℕ)) where
    pub no_token : (f : ControlRefusal) (r : Result A ControlRefusal) → r ≡ Err f → (f ≢ WantOfMemory → (f ≡ BadToken) × IsNoToken text) → Gives seen (IsApplyAnswer s text files) r
    no_token f r is reads = refused seen (IsApplyAnswer s text files) f r is (λ other. inl ((reads other).1, ap Err (reads other).0))

    module _ (token : Token) (is : IsToken text token) where
      pub other_document : (r : Result A ControlRefusal) → r ≡ Err OtherDocument → is_tag_of token.document s.document ≡ false → Gives seen (IsApplyAnswer s text files) r
      other_document r same other = refused seen (IsApplyAnswer s text files) OtherDocument r same (λ want. inr (token, is, inl (other, refl)))

      pub its_document : (r : Result A ControlRefusal) → is_tag_of token.document s.document ≡ true → Gives seen (IsApplyOf s token files) r → Gives seen (IsApplyAnswer s text files) r
      its_document (Ok a) own made = inr (token, is, inr (own, made))
      its_document (Err e) own made = λ other. inr (token, is, inr (own, made other))
