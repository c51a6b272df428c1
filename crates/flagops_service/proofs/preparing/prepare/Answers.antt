use Rattle.std.proofs.Common.{arith}
use Rattle.ofrep_service.specs.Logs.{path_in, paths_of}
use Rattle.flagops_service.specs.Words.{answering_view}
use Rattle.flagops_service.proofs.Posts.{all_posted, seen_at_posts}
use Rattle.flagops_service.proofs.preparing.prepare.Goals as goal

pub returns-in-Err-bind-clause-unready : goal.returns-in-Err-bind-clause-unready
returns-in-Err-bind-clause-unready g c = c.why_unready.ensures (answering_view c.args.answering.now)

pub returns-in-Err-streams-clause-unready : goal.returns-in-Err-streams-clause-unready
returns-in-Err-streams-clause-unready g c = c.why_unready-in-Err-streams.ensures (answering_view c.args.answering.now)

-- there is a post for each worker
pub returns-in-Ok-streams-clause-posts : goal.returns-in-Ok-streams-clause-posts
returns-in-Ok-streams-clause-posts g c =
    let posts = c.in-Ok-bind.posts in
    omega (arith, posts.ok.0, all_posted (λ post. post.journal) path_in posts.items c.in-Ok.logs.items (answering_view c.args.answering.now).log c.args.answering.now.workers c.in-Ok-bind.ensures c.in-Ok.ensures.logs)

-- each post has the log that was opened for it
pub returns-in-Ok-streams-clause-logs : goal.returns-in-Ok-streams-clause-logs
returns-in-Ok-streams-clause-logs g c =
    let a = answering_view c.args.answering.now in
    seen_at_posts (λ post. post.journal) path_in c.in-Ok-bind.posts.items c.in-Ok.logs.items (paths_of a.log c.args.answering.now.workers) c.in-Ok-bind.ensures c.in-Ok.ensures.logs
