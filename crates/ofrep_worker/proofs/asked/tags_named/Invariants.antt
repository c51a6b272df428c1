use Rattle.std.proofs.Common.{◌≡◌, ◌++◌, map, codes}
use Rattle.http.specs.Request.{head_of}
use Rattle.http_header.specs.HeaderMap.{get_all}
use Rattle.ofrep_worker.proofs.asked.tags_named.Given as goal

abbrev pub invariant-loop-value : goal.invariant-loop-value
invariant-loop-value l =
    map (λ tag. tag.now) l.tags.items ++ map (λ value. value.bytes) l.value-iterator ≡ map (λ value. value.bytes) (get_all (head_of l.request).headers (codes "if-none-match"))
