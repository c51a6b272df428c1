use Rattle.std.proofs.Common.{◌≡◌, ◌++◌, ◌∷◌, ℕ, List, Option, IfSome, true, subst}
use Rattle.std.proofs.lemmas.Result.{IfOk-weaker}
use Rattle.page_tally.specs.Parts.{IsEndOf, IsJoined, IsPartOf}
use Rattle.page_tally.specs.declared.part.Part.{Part}
use Rattle.page_tally.proofs.Parted.{part_joined}
use Rattle.page_tally.proofs.part.Part.joined.Goals as goal

pub returns : goal.returns
returns c =
    let one = c.args.self in
    let other = c.in-Some.next in
    let behind = c.args.behind.now in
    let meets : c.meets.result ≡ true = c.if-not-meets.false in
    IfOk-weaker c.merged.result (IsJoined one other)
    (λ (whole : Part). (bytes : List ℕ) (total : Option ℕ) → IsPartOf bytes total one → IsEndOf bytes behind → IfSome c.args.next (IsPartOf behind total) → IsPartOf bytes total whole)
    (λ whole both bytes total part end next.
    let found : IsPartOf behind total other = subst (λ o. IfSome o (IsPartOf behind total)) c.in-Some.is next in
    (part.0 ++ other.first.now ∷ found.0, part_joined bytes behind total part.0 found.0 one other whole part.1 end found.1 (c.meets.ensures.end meets) (c.meets.ensures.above meets) both))
    c.merged.ensures
