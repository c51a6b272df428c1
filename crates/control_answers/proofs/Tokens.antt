-- What is no token.
use Rattle.std.proofs.Common.{◌≡◌, ◌≢◌, ℕ, List, Result, Err, sym, subst}
use Rattle.control_answers.specs.Token.{HasNoMember, IsNoToken, ReadsToken}
use Rattle.control_answers.specs.declared.refusal.ControlRefusal.{ControlRefusal}
use Rattle.control_answers.specs.declared.refusal.ControlRefusal.TheVariants.{WantOfMemory, BadToken}
use Rattle.control_answers.specs.declared.token.Token as program

-- a text that lacks a member, by which it is none
pub lacks : (bytes text key : List ℕ) → text ≡ bytes → (HasNoMember bytes key → IsNoToken bytes) → (e : ControlRefusal) (r : Result program.Token ControlRefusal) → r ≡ Err e → (e ≢ WantOfMemory → (e ≡ BadToken) × HasNoMember text key) → ReadsToken bytes r
lacks bytes text key same none e r is finds =
    subst (ReadsToken bytes) (sym is) (λ other. let p = finds other in (p.0, none (subst (λ (t : List ℕ). HasNoMember t key) same p.1)))
