use Rattle.std.proofs.Common.{◌≡◌, ℕ, List, take, nat_lt}
use Rattle.std.specs.BTreeSet.{contains_text}
use Rattle.flag_doubts.proofs.Counts.{count}
use Rattle.flag_doubts.proofs.doubled.repeated.Given as goal

abbrev pub invariant-loop-name : goal.invariant-loop-name
invariant-loop-name l = record {
  met : (key : List ℕ) → contains_text l.met key ≡ nat_lt 0 (count key (take l.name-index l.names));
  again : (key : List ℕ) → contains_text l.met_again key ≡ nat_lt 1 (count key (take l.name-index l.names));
}
