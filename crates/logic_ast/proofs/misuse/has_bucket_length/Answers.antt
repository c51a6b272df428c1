use Rattle.std.proofs.Common.{sym, arith}
use Rattle.logic_ast.proofs.Sizes.{is_bucket-few, is_bucket-several}
use Rattle.logic_ast.proofs.misuse.has_bucket_length.Goals as goal

pub returns-in-len1 : goal.returns-in-len1
returns-in-len1 c = sym (is_bucket-few c.args.parts.now c.in-len1.len_at_least (omega arith))

pub returns-in-len2 : goal.returns-in-len2
returns-in-len2 c = sym (is_bucket-few c.args.parts.now (omega arith) (omega arith))

pub returns-in-len3-up : goal.returns-in-len3-up
returns-in-len3-up c = sym (is_bucket-several c.args.parts.now c.in-len3-up.len_at_least)
