use Rattle.std.proofs.Common.{◌≡◌, ◌<◌, [], ◌∷◌, length, length-append, subst, sym, ap, ◌∙◌, arith, rules}
use Rattle.std.specs.Prelude.{All}
use Rattle.std.proofs.lemmas.List.Elements.{All-head, All-tail}
use Rattle.book_lock.specs.Counts.{own}
use Rattle.book_lock.specs.declared.call.Sight.{Sight}
use Rattle.book_share.specs.declared.worker.Job.{Job}
use Rattle.book_share.proofs.Reaching.{jobs_none, jobs_more}
use Rattle.book_share.proofs.Turns.{numbered_none, numbered_more}
use Rattle.book_share.proofs.gather.jobs_of.Goals as goal

pub loop-seat-init : goal.loop-seat-init
loop-seat-init g c =
    let none = c.in_ok-jobs.ensures.items in (
      subst (All (λ (s : Sight). own s ≡ [])) (sym c.into_iter-seat-iterator.ensures.into_iter_gives.0) c.requires.fresh,
      jobs_none (λ (j : Job g.row.L.Denot). (own j.seat ≡ []) × (j.first < c.args.workers) × (j.answers.items ≡ [])) c.in_ok-jobs.jobs.items none,
      numbered_none (λ i (j : Job g.row.L.Denot). j.first ≡ i) c.in_ok-jobs.jobs.items none,
      (let a = ap length none in let b = ap length c.into_iter-seat-iterator.ensures.into_iter_gives.0 in let w = c.requires.workers in omega (arith, a, b, w)),
    )

pub loop-seat-preserved : goal.loop-seat-preserved
loop-seat-preserved g c =
    let P = λ (s : Sight). own s ≡ [] in
    let steps = c.in-Some.ensures.steps.0 in
    let i = c.loop-seat.invariant in
    let pushed = c.in_ok-push.ensures.items in
    let rest : All P (c.in-Some.seat ∷ c.next.new.self.rest.items) = subst (All P) steps i.0 in (
      All-tail P c.in-Some.seat c.next.new.self.rest.items rest,
      jobs_more (λ (j : Job g.row.L.Denot). (own j.seat ≡ []) × (j.first < c.args.workers) × (j.answers.items ≡ [])) c.loop-seat.jobs.items c.push.new.self.items _ pushed i.1
          (All-head P c.in-Some.seat c.next.new.self.rest.items rest, (let b = ap length steps in let d = i.3 in let n : c.len-first.result ≡ length c.loop-seat.jobs.items = search rules in omega (arith, b, d, n)), c.in_ok-answers.ensures.items),
      numbered_more (λ i (j : Job g.row.L.Denot). j.first ≡ i) c.loop-seat.jobs.items c.push.new.self.items _ pushed i.2 (search rules),
      (let a = ap length pushed ∙ length-append c.loop-seat.jobs.items _ in let b = ap length steps in let d = i.3 in omega (arith, a, b, d)),
    )
