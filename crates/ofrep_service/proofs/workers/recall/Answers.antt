use Rattle.ofrep_service.specs.Logs.{read_in, taken_of}
use Rattle.ofrep_service.proofs.Recalling.{one_more}
use Rattle.ofrep_service.proofs.workers.recall.Goals as goal

pub loop-post-preserved : goal.loop-post-preserved
loop-post-preserved g c =
    one_more (λ p. read_in p.journal) (λ p. taken_of p.journal) c.loop-post.posts c.args.posts.now c.loop-post.post-index c.post-item.result c.recall_one.new.post c.loop-post-test.true c.loop-post.invariant.1
    c.recall_one.ensures c.loop-post.invariant.0
