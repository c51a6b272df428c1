use Rattle.std.proofs.Common.{◌≡◌, drop}
use Rattle.flag_text.specs.Shape.{items_are_whole}
use Rattle.transport_core.specs.Certificate.{beta_view}
use Rattle.transport_core.specs.WrittenCertificate.{items_by, beta_written}
use Rattle.plan_text.proofs.plain.beta_is_whole.Given as goal

-- the rest answers as the whole
abbrev pub invariant-loop-row : goal.invariant-loop-row
invariant-loop-row l = items_are_whole (items_by beta_written (beta_view (drop l.row-index l.beta))) ≡ items_are_whole (items_by beta_written (beta_view l.beta))
