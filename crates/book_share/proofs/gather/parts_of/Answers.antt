use mir.Syntax.{erased}
use denote.Param.{param}
use denote.Ref.{NamedLft}
use base.Fml.{Lft}
use Rattle.flag_defs.specs.Flags.{flags_view}
use Rattle.book_share.specs.Asked.{asks_of}
use Rattle.book_share.specs.Driven.{IsWork}
use Rattle.book_share.specs.Gated.{EachTurn, FailsAfter}
use Rattle.book_share.proofs.Crossings.{worker_sync}
use Rattle.std.proofs.Common.{[], ◌≡◌, ◌<◌, length, subst, ap, ◌∙◌, rules}
use Rattle.std.specs.Prelude.{IfOk}
use Rattle.book_share.proofs.Reaching.{both_ok}
use Rattle.book_share.proofs.Turns.{at_each, fresh_all, length_unseen}
use Rattle.book_share.proofs.gather.parts_of.Goals as goal

abbrev at_life : Lft → NamedLft
at_life κ = record { mir = erased; lft = κ }

-- the closure captures the handle, the allocator and the round, each at a lifetime of its own
pub map_vec-requires-sync-F : goal.map_vec-requires-sync-F
map_vec-requires-sync-F g c = λ κs within.
    let bounds = c.type_bounds in
    record {
      shared = (worker_sync (param 0 g.row.L) g.L.BookName bounds.send-L bounds.sync-L (at_life κs.1.1.1.1.1.1.1.1.1.1.0) (at_life κs.1.1.1.1.1.1.1.1.1.1.1.0) (param 1 g.row.G) g.G.Gate bounds.sync-G [] (at_life κs.1.1.1.1.1.1.1.0) (at_life κs.1.1.1.1.1.1.1.1.0) (at_life κs.1.1.1.1.1.1.1.1.1.0) (param 2 g.row.R) bounds.sync-R).shared;
    }

pub jobs_of-requires : goal.jobs_of-requires
jobs_of-requires g c = record {
  fresh = fresh_all c.args.round.now.step c.args.seats.items c.requires.fresh;
  workers = ap length c.requires.fresh ∙ length_unseen c.args.round.now.step;
}

pub returns-clause-len : goal.returns-clause-len
returns-clause-len g c =
    both_ok c.map_vec.result _ _ _ c.map_vec.ensures.len c.map_vec.ensures.each (λ v len gives.
    let same : length v.items ≡ length c.in_ok-jobs.jobs.items = search (rules, len) in
    same ∙ c.in_ok-jobs.ensures.len)

pub returns-clause-work : goal.returns-clause-work
returns-clause-work g c =
    both_ok c.map_vec.result _ _ _ c.map_vec.ensures.len c.map_vec.ensures.each (λ v len gives.
    at_each c.in_ok-jobs.jobs.items v.items (λ j. j.first) (λ w r. IfOk r (λ p. IsWork (flags_view c.args.round.now.flags.now) (asks_of c.args.round.now.step w c.args.round.now.asks.now) p.seat p.answers.items p.refused)) (search (rules, len)) c.in_ok-jobs.ensures.first
    (λ i d lt. let job = (gives i d lt).1 in (job.job, job.job_read, job.call.met.0)))

pub returns-clause-gated : goal.returns-clause-gated
returns-clause-gated g c =
    both_ok c.map_vec.result _ _ _ c.map_vec.ensures.len c.map_vec.ensures.each (λ v len gives.
    at_each c.in_ok-jobs.jobs.items v.items (λ j. j.first) (λ w r. IfOk r (λ _. EachTurn (λ n. g.G.Gate.started c.args.round.now.gate.now n × g.G.Gate.told c.args.round.now.gate.now n) c.args.round.now.step w (length c.args.round.now.asks.now))) (search (rules, len)) c.in_ok-jobs.ensures.first
    (λ i d lt. let job = (gives i d lt).1 in (job.job, job.job_read, job.call.met.3)))

pub returns-clause-begun : goal.returns-clause-begun
returns-clause-begun g c =
    both_ok c.map_vec.result _ _ _ c.map_vec.ensures.len c.map_vec.ensures.each (λ v len gives.
    at_each c.in_ok-jobs.jobs.items v.items (λ j. j.first) (λ w r. FailsAfter (g.G.Gate.started c.args.round.now.gate.now) c.args.round.now.step w (length c.args.round.now.asks.now) r) (search (rules, len)) c.in_ok-jobs.ensures.first
    (λ i d lt. let job = (gives i d lt).1 in (job.job, job.job_read, job.call.met.4)))

pub returns-clause-stalled : goal.returns-clause-stalled
returns-clause-stalled g c =
    both_ok c.map_vec.result _ _ _ c.map_vec.ensures.len c.map_vec.ensures.each (λ v len gives.
    let same : length v.items ≡ length c.in_ok-jobs.jobs.items = search (rules, len) in
    λ k d within. (gives k d (subst (λ n. k < n) same within)).1.call.met.1)

pub returns-clause-started : goal.returns-clause-started
returns-clause-started g c =
    both_ok c.map_vec.result _ _ _ c.map_vec.ensures.len c.map_vec.ensures.each (λ v len gives.
    let same : length v.items ≡ length c.in_ok-jobs.jobs.items = search (rules, len) in
    λ k d within. (gives k d (subst (λ n. k < n) same within)).1.call.met.2)
