use Rattle.std.proofs.Common.{◌≡◌, string_bytes, sym, ap, ◌∙◌}
use Rattle.flag_text.specs.Grammar.{put}
use Rattle.flag_text.specs.SortedMembers.{entries_of}
use Rattle.flag_text.specs.View.{view, members_view}
use Rattle.flag_text.proofs.Entered.{members_view-insert_entry}
use Rattle.flag_text.proofs.members.SortedMembers.put.Goals as goal
use Rattle.flag_text.proofs.members.SortedMembers.put.Goals.{then-is_crowded+in_ok-spread, else-is_crowded}

pub returns-in_ok-insert-in-Many : goal.returns-in_ok-insert-in-Many
returns-in_ok-insert-in-Many c =
    let before : members_view (entries_of c.if-is_crowded.self) ≡ members_view (entries_of c.args.self.now) =
    elim c.if-is_crowded.branch [
      | then-is_crowded+in_ok-spread w ↦ ap (λ s. members_view (entries_of s)) w.self-is ∙ w.in_ok-spread.ensures
      | else-is_crowded w ↦ ap (λ s. members_view (entries_of s)) w.self-is
    ] in
    let same : members_view c.in-Many.map.entries ≡ members_view (entries_of c.args.self.now) = ap (λ s. members_view (entries_of s)) (sym c.in-Many.is) ∙ before in
    ap members_view c.in_ok-insert-in-Many.ensures.entries ∙ members_view-insert_entry c.in-Many.map.entries c.args.name c.args.member
    ∙ ap (put (string_bytes c.args.name) (view c.args.member)) same
