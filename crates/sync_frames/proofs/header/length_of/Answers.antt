use Rattle.std.proofs.Common.{◌++◌, ◌∷◌, [], ap, ◌∙◌, length-append, arith}
use Rattle.std.specs.Int.{w32, from_be_bytes}
use Rattle.sync_frames.proofs.Headers.{length_in-bytes}
use Rattle.sync_frames.proofs.header.length_of.Goals as goal

pub returns : goal.returns
returns c =
    let x = c.args.head.now ++ c.args.tail.now in
    c.from_be_bytes.ensures ∙ ap (from_be_bytes w32) (λ i. c.byte_at-b0.ensures i ∷ c.byte_at-b1.ensures i ∷ c.byte_at-b2.ensures i ∷ c.byte_at-b3.ensures i ∷ [])
    ∙ length_in-bytes x (omega (arith, length-append c.args.head.now c.args.tail.now))
