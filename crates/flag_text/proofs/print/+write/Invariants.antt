use Rattle.std.proofs.Common.{◌≡◌, ◌++◌, drop}
use Rattle.json.specs.Tree.{items_tokens, members_tokens}
use Rattle.flag_text.specs.Grammar.{items_written, members_written}
use Rattle.flag_text.specs.View.{items_view, members_view}
use Rattle.flag_text.proofs.print.+write.Given as goal

-- what was written and what is written of the rest are all
abbrev pub invariant-write_items-loop-item : goal.invariant-write_items-loop-item
invariant-write_items-loop-item l = record {
  before : l.out.before ≡ l.initial.out.before;
  tokens : l.out.tokens ++ items_tokens (items_written (items_view (drop l.item-index l.item-items))) ≡ l.initial.out.tokens ++ items_tokens (items_written (items_view l.item-items));
}

abbrev pub invariant-write_members-loop-name : goal.invariant-write_members-loop-name
invariant-write_members-loop-name l = record {
  before : l.out.before ≡ l.initial.out.before;
  tokens : l.out.tokens ++ members_tokens (members_written (members_view (drop l.name-index l.name-items))) ≡ l.initial.out.tokens ++ members_tokens (members_written (members_view l.name-items));
}
