use Rattle.std.proofs.Common.{◌≡◌, drop}
use Rattle.flag_text.specs.View.{items_view}
use Rattle.logic_ast.specs.Misuse.{first_no_bucket}
use Rattle.logic_ast.proofs.misuse.first_no_bucket.Given as goal

-- the rest answers as the whole
abbrev pub invariant-loop-place : goal.invariant-loop-place
invariant-loop-place l = first_no_bucket l.place (items_view (drop l.place l.items)) ≡ first_no_bucket 0 (items_view l.items)
