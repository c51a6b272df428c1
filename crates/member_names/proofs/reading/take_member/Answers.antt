use Rattle.std.proofs.Common.{◌≡◌, true, map, string_bytes, sym, ap, ◌∙◌, subst, rules}
use Rattle.flag_text.specs.Grammar.{put}
use Rattle.flag_text.specs.View.{view, members_view}
use Rattle.member_names.specs.Kept.{is_among}
use Rattle.member_names.specs.NamedPassed.{IsTaken}
use Rattle.member_names.proofs.Put.{put_entry}
use Rattle.member_names.proofs.reading.take_member.Goals as goal

pub returns-then-is_among-clause-taken : goal.returns-then-is_among-clause-taken
returns-then-is_among-clause-taken c =
    let k = c.args.name.now in
    let t = c.in_ok-member.member in
    let before = c.args.kept.now.entries in
    let read = c.in_ok-member.ensures.plain in
    let copied : string_bytes c.in_ok-name.name ≡ k = search rules in
    let among : is_among (map (λ n. n.now) c.args.names.now) k ≡ true = sym c.if-is_among.ensures in
    let entered = ap members_view c.in_ok-insert.ensures.entries ∙ put_entry before c.in_ok-name.name t ∙ ap (λ n. put n (view t) (members_view before)) copied in
    (view t, read.0, (read.1, subst (λ b. IsTaken b k (view t) (members_view before) (members_view c.insert.new.self.entries)) (sym among) entered))
