use Rattle.std.proofs.Common.{◌≡◌, drop}
use Rattle.logic_ast.specs.View.{nodes_view, buckets_view}
use Rattle.logic_ast.specs.Writing.{all_written, buckets_written}
use Rattle.flag_defs.specs.PrintedBytes.{items_bytes}
use Rattle.flag_defs.proofs.written_bytes.+written.Given as goal

abbrev pub invariant-nodes_bytes-loop-i : goal.invariant-nodes_bytes-loop-i
invariant-nodes_bytes-loop-i l = items_bytes (all_written (nodes_view (drop l.i l.nodes.items))) ≡ l.bytes

abbrev pub invariant-buckets_bytes-loop-i : goal.invariant-buckets_bytes-loop-i
invariant-buckets_bytes-loop-i l = items_bytes (buckets_written (buckets_view (drop l.i l.buckets.items))) ≡ l.bytes
