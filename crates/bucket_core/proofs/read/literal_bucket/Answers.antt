use Rattle.std.proofs.Common.{sym}
use Rattle.bucket_core.proofs.Buckets.{bucket_from-long}
use Rattle.bucket_core.proofs.read.literal_bucket.Goals as goal

pub returns-in-len3-up-clause-value : goal.returns-in-len3-up-clause-value
returns-in-len3-up-clause-value c = sym (bucket_from-long c.args.parts.now c.in-len3-up.len_at_least)
