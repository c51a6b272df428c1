-- what stands between the quotes is what the line reads as
use Rattle.std.proofs.Common.{Ok, length, ap, sym, ◌∙◌, arith}
use Rattle.flag_text.specs.Shape.{text}
use Rattle.flag_text.proofs.Quoted.{tree_of-plain}
use Rattle.flag_text.proofs.plain.plain_text.Goals as goal

pub returns-in-Ok-clause-reads : goal.returns-in-Ok-clause-reads
returns-in-Ok-clause-reads c =
    let is = c.in-Ok.ensures.cases in
    tree_of-plain c.args.bytes.now c.in_ok-inner.inner.now (length c.args.bytes.now) c.in_ok-inner.ensures (sym c.if-not-is_all_plain.ensures) is.1 (omega arith) ∙ ap (λ s. Ok (text s)) (sym is.0)
