use Rattle.std.proofs.Common.{◌≡◌, ◌∙◌, Bool, true, false, not, Option, if◌then◌else◌, refl, ap}
use Rattle.ofrep_requests.specs.Request.{place_of}
use Rattle.ofrep_guards.specs.Asked.{is_foreign, serves}
use Rattle.ofrep_guards.specs.declared.reply.Reply.{Reply}
use Rattle.ofrep_guards.specs.declared.rules.Paths.{Paths}
use Rattle.ofrep_guards.proofs.laws.operations_are_elsewhere.Goals as goal

passed : (b : Bool) (x y : Option Reply) → b ≡ false → (if b then x else y) ≡ y
passed true x y h = absurd (cc h)
passed false x y h = refl

kept : (b : Bool) (x y : Option Reply) → b ≡ false → (if not b then x else y) ≡ x
kept true x y h = absurd (cc h)
kept false x y h = refl

pub returns : goal.returns
returns c = λ rules r is listed other.
    passed (is_foreign rules.origins r.origin) _ _ listed
    ∙ kept (serves rules.paths (place_of r.path)) _ _ (ap (λ (paths : Paths). serves paths (place_of r.path)) is ∙ other)
