use Rattle.std.proofs.Common.{◌≡◌, drop, string_bytes}
use Rattle.flag_text.specs.View.{items_view, members_view}
use Rattle.decimal_reads.specs.Inside.{inside_items, inside_members}
use Rattle.decimal_reads.proofs.way.+way.Given as goal

abbrev pub invariant-push_inside_items-loop-place : goal.invariant-push_inside_items-loop-place
invariant-push_inside_items-loop-place l = record {
  way : string_bytes l.way ≡ string_bytes l.initial.way;
  rest : inside_items l.fn.separator (items_view l.items.items) 0 ≡ inside_items l.fn.separator (items_view (drop l.place l.items.items)) l.place;
}

abbrev pub invariant-push_inside_members-loop-name : goal.invariant-push_inside_members-loop-name
invariant-push_inside_members-loop-name l = record {
  way : string_bytes l.way ≡ string_bytes l.initial.way;
  rest : inside_members l.fn.separator (members_view l.name-items) ≡ inside_members l.fn.separator (members_view (drop l.name-index l.name-items));
}
