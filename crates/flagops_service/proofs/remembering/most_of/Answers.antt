use Rattle.std.proofs.Common.{refl}
use Rattle.std.specs.NonZero.{non_zero_usize_get}
use Rattle.flagops_service.proofs.Shared.{shared}
use Rattle.flagops_service.proofs.remembering.most_of.Goals as goal

pub returns : goal.returns
returns c = shared non_zero_usize_get c.args.notes c.args.notes c.new.result (λ x. x.ok) refl c.new.ensures
