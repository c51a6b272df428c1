use Rattle.std.proofs.Common.{◌≡◌, ℕ, ◌-◌, length, take, drop, ap, ◌∙◌, arith}
use Rattle.sync_frames.specs.declared.fault.FrameFault.TheVariants.{Document}
use Rattle.sync_frames.proofs.Fed.{missing, received_at, refused_at, faulted}
use Rattle.sync_frames.proofs.feed.Feed.complete.Goals as goal

pub overflow_sub-header : goal.overflow_sub-header
overflow_sub-header c =
    let f = c.args.self.now in
    let m = missing f.last f.kept.items c.args.piece.now c.args.header c.requires.header f.part in
    omega (arith, m, c.len-before.ensures, f.kept.ok.0)

pub returns-in-Ok-Some-clause-gives : goal.returns-in-Ok-Some-clause-gives
returns-in-Ok-Some-clause-gives c = λ x fed.
    let f = c.args.self.now in
    let piece = c.args.piece.now in
    let h = c.args.header in
    let m = missing f.last f.kept.items piece h c.requires.header f.part in
    let long : c.len-before.result ≡ length f.kept.items = c.len-before.ensures ∙ f.kept.ok.0 in
    let front = c.split_at.ensures.front ∙ ap (λ (n : ℕ). take (h.end - n) piece) long in
    let after = c.split_at.ensures.back ∙ ap (λ (n : ℕ). drop (h.end - n) piece) long in
    let joined = c.as_slice.ensures.value ∙ c.in_ok-extend_from_slice.ensures.items in
    let got = rw c.in-Ok-Some.field-0-is at c.in-Ok-Some.ensures.whole in
    received_at x piece f.kept.items c.split_at.result.0.now c.split_at.result.1.now c.as_slice.result.now f.last f.stage h c.in-Ok-Some.received c.requires.reading c.requires.header m c.in-Ok-Some.ensures.bytes (λ i. (c.type_inv.piece i).fits) front after joined got fed

pub returns-in-Ok-None-clause-refuses : goal.returns-in-Ok-None-clause-refuses
returns-in-Ok-None-clause-refuses c =
    let f = c.args.self.now in
    let piece = c.args.piece.now in
    let h = c.args.header in
    let m = missing f.last f.kept.items piece h c.requires.header f.part in
    let long : c.len-before.result ≡ length f.kept.items = c.len-before.ensures ∙ f.kept.ok.0 in
    let front = c.split_at.ensures.front ∙ ap (λ (n : ℕ). take (h.end - n) piece) long in
    let joined = c.as_slice.ensures.value ∙ c.in_ok-extend_from_slice.ensures.items in
    let got = rw c.in-Ok-None.field-0-is at c.in-Ok-None.ensures.whole in
    let shows = refused_at piece f.kept.items c.split_at.result.0.now c.as_slice.result.now f.last h c.requires.header m front joined got in
    rw c.fail.ensures.fault (faulted f c.fail.new.self piece Document c.requires.reading c.fail.ensures.failed shows)
