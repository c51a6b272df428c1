use Rattle.std.proofs.Common.{◌≡◌, ◌+◌, ◌-◌, Err, length, refl, subst, sym, arith, rules}
use Rattle.flag_defs.specs.Flags.{flags_view}
use Rattle.book_share.specs.Gated.{FailsAfter}
use Rattle.book_share.proofs.Telling.{begun_at, fails_begun, told_none, told_more, told_done}
use Rattle.book_share.proofs.Turns.{IsSoFar, so_far_none, so_far_more, so_far_done}
use Rattle.book_share.proofs.worker.work.Goals as goal

pub loop-ask-init : goal.loop-ask-init
loop-ask-init g c =
    let round = c.args.round.now in (
      so_far_none (flags_view round.flags.now) round.asks.now (round.step - 1) c.args.job.first c.args.job.seat c.args.job.answers.items c.requires.fresh c.requires.room,
      told_none _ round.step c.args.job.first,
    )

pub loop-ask-preserved : goal.loop-ask-preserved
loop-ask-preserved g c =
    let round = c.args.round.now in
    let step : c.loop-ask.ask + ((round.step - 1) + 1) ≡ c.loop-ask.ask + round.step = search (rules, arith) in (
      subst (λ n. IsSoFar (flags_view round.flags.now) round.asks.now (round.step - 1) c.args.job.first n c.answered.new.seat c.push_back.new.self.items c.answered.new.refused) step
          (so_far_more (flags_view round.flags.now) round.asks.now (round.step - 1) c.args.job.first c.loop-ask.ask c.loop-ask.seat c.answered.new.seat c.loop-ask.answers.items c.push_back.new.self.items c.loop-ask.refused c.answered.new.refused c.in_ok-answer.answer
          c.loop-ask-test.true c.in_ok-push_back.ensures.items c.loop-ask.invariant.0 c.in_ok-answer.ensures.answer c.in_ok-answer.ensures.noted c.in_ok-answer.ensures.grown),
      told_more _ round.step c.args.job.first c.loop-ask.ask (c.loop-ask.ask + round.step) refl c.in_ok-answer.ensures.gated c.loop-ask.invariant.1,
    )

pub returns-clause-work : goal.returns-clause-work
returns-clause-work g c =
    let round = c.args.round.now in
    so_far_done (flags_view round.flags.now) round.asks.now (round.step - 1) c.args.job.first c.loop-ask.ask c.loop-ask.seat c.loop-ask.answers.items c.loop-ask.refused c.loop-ask-test.false c.loop-ask.invariant.0

pub returns-clause-gated : goal.returns-clause-gated
returns-clause-gated g c = let round = c.args.round.now in told_done _ round.step c.args.job.first c.loop-ask.ask (length round.asks.now) c.loop-ask-test.false c.loop-ask.invariant.1

pub returns-in_err-answer-clause-begun : goal.returns-in_err-answer-clause-begun
returns-in_err-answer-clause-begun g c =
    let round = c.args.round.now in
    let started = g.G.Gate.started round.gate.now in
    let is : c.from_residual.result ≡ Err c.in_err-answer.field-0.0 = search rules in
    subst (FailsAfter started round.step c.args.job.first (length round.asks.now)) (sym is)
    (λ other. begun_at _ started round.step c.args.job.first c.loop-ask.ask (length round.asks.now) c.loop-ask-test.true (c.in_err-answer.ensures.wanted other) c.loop-ask.invariant.1)

pub returns-in_err-push_back-clause-begun : goal.returns-in_err-push_back-clause-begun
returns-in_err-push_back-clause-begun g c =
    let round = c.args.round.now in
    let started = g.G.Gate.started round.gate.now in
    fails_begun started round.step c.args.job.first (length round.asks.now) _
    (begun_at _ started round.step c.args.job.first c.loop-ask.ask (length round.asks.now) c.loop-ask-test.true c.in_ok-answer.ensures.gated.0 c.loop-ask.invariant.1)
