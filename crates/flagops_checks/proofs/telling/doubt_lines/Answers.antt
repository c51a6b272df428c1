use Rattle.std.proofs.Common.{◌≡◌, ◌+◌, ◌++◌, ◌∙◌, ◌∷◌, ap, arith, drop, map, rules, string_bytes, sym}
use Rattle.std.proofs.lemmas.List.{drop_all}
use Rattle.flagops_checks.specs.Judged.{judged_view}
use Rattle.flagops_checks.proofs.Following.{first_left}
use Rattle.flagops_checks.proofs.Spoken.{all_told, told_more}
use Rattle.flagops_checks.proofs.telling.doubt_lines.Goals as goal

pub loop-flag-preserved : goal.loop-flag-preserved
loop-flag-preserved c =
    let flags = c.args.flags.now in
    let flag = c.flag-item.result in
    let rest = map judged_view (drop (c.loop-flag.flag-index + 1) flags) in
    let longer : string_bytes c.push_str.new.self ≡ string_bytes c.loop-flag.text ++ string_bytes c.in_ok-lines.lines = search rules in
    let first = first_left judged_view flags c.loop-flag.flag-index flag (omega arith) ∙ ap (λ j. judged_view j ∷ rest) (sym c.flag-item.is) in
    told_more c.args.path.now (map judged_view flags) (map judged_view (drop c.loop-flag.flag-index flags)) rest (judged_view flag) (string_bytes c.loop-flag.text) (string_bytes c.in_ok-lines.lines) _
    first c.loop-flag.invariant c.in_ok-lines.ensures longer

pub returns : goal.returns
returns c =
    let flags = c.args.flags.now in
    all_told c.args.path.now (map judged_view flags) (map judged_view (drop c.loop-flag.flag-index flags)) (string_bytes c.loop-flag.text) (ap (map judged_view) (drop_all c.loop-flag.flag-index flags c.loop-flag-test.false)) c.loop-flag.invariant
