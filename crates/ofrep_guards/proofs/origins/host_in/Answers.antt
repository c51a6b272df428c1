use Rattle.std.proofs.Common.{◌∙◌, ◌==◌, arith, sym}
use Rattle.ofrep_guards.proofs.Colons.{within}
use Rattle.ofrep_guards.proofs.origins.host_in.Goals as goal

-- the colon is one of its bytes
pub split_at-requires : goal.split_at-requires
split_at-requires c = omega (arith, within (λ b. b == 58) 0 c.in_ok-colon.colon c.args.origin.now (sym c.colon_in.ensures ∙ c.in_ok-colon.was))
