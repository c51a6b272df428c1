use Rattle.std.proofs.Common.{◌++◌, ◌∷◌, [], ap, ◌∙◌, length-append, arith}
use Rattle.std.specs.Int.{w64, from_be_bytes}
use Rattle.sync_frames.proofs.Headers.{number_in-bytes}
use Rattle.sync_frames.proofs.header.number_of.Goals as goal

pub returns : goal.returns
returns c =
    let x = c.args.head.now ++ c.args.tail.now in
    c.from_be_bytes.ensures
    ∙ ap (from_be_bytes w64)
    (λ i. c.byte_at-b0.ensures i ∷ c.byte_at-b1.ensures i ∷ c.byte_at-b2.ensures i ∷ c.byte_at-b3.ensures i ∷ c.byte_at-b4.ensures i ∷ c.byte_at-b5.ensures i ∷ c.byte_at-b6.ensures i ∷ c.byte_at-b7.ensures i ∷ [])
    ∙ number_in-bytes x (omega (arith, length-append c.args.head.now c.args.tail.now))
