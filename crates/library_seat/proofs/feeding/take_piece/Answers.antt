use Rattle.std.proofs.Common.{refl}
use Rattle.sync_frames.specs.declared.fault.FrameFault.TheVariants.{Length, NotRising}
use Rattle.library_seat.proofs.Idle.{comes_brings, comes_idle, same_fault}
use Rattle.library_seat.proofs.feeding.take_piece.Goals as goal

pub returns-in-Err-clause-brings : goal.returns-in-Err-clause-brings
returns-in-Err-clause-brings c =
    comes_brings c.args.feed.now c.feed.new.self c.args.piece.now c.in-Err.fault c.refused.result (c.refused.ensures.nothing, c.refused.ensures.refused) c.in-Err.ensures.refuses
    c.args.feed.now.shown c.args.feed.now.part (λ f is. same_fault _ _ c.in-Err.fault f refl (c.in-Err.ensures.waiting f is))
    (λ h. same_fault _ _ c.in-Err.fault Length refl (c.in-Err.ensures.length h)) (λ h. same_fault _ _ c.in-Err.fault NotRising refl (c.in-Err.ensures.stays h))

pub returns-in-Err-clause-idle : goal.returns-in-Err-clause-idle
returns-in-Err-clause-idle c =
    comes_idle c.args.feed.now c.feed.new.self c.args.piece.now c.in-Err.fault c.refused.result (c.refused.ensures.nothing, c.refused.ensures.refused) c.in-Err.ensures.refuses
