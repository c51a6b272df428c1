use mir.Syntax.{erased}
use base.Fml.{Lft}
use denote.Param.{param}
use denote.Param.Send.{param_send}
use denote.Ref.{NamedLft}
use Rattle.std.proofs.Common.{◌≡◌, ◌∙◌, ◌+◌, ℕ, [], ap, arith, is_ok, length, true, vec_len}
use Rattle.flagops_streams.specs.Documents.{missed_of, published_in, told_view}
use Rattle.flagops_streams.proofs.Gives.{none_missed_at, told_ok, unless_beside}
use Rattle.flagops_streams.proofs.Told.{none_missed}
use Rattle.flagops_streams.proofs.Crossings.{Attending, attend_send}
use Rattle.flagops_streams.proofs.serving.fn.serve_in_scope.scope.Goals as goal

abbrev at_life : Lft → NamedLft
at_life κ = record { mir = erased; lft = κ }

-- the closure of a thread captures what a subscriber is given
pub spawn-spawned-requires-send-F : goal.spawn-spawned-requires-send-F
spawn-spawned-requires-send-F g c = λ κs within.
    let sent =
    attend_send (param 0 g.row.J) g.J.ShareName c.requires.0 c.requires.1 [] (at_life κs.1.1.1.1.1.0) (at_life κs.1.1.1.1.1.1.0) (param 1 g.row.R) c.requires.2 in
    let given = param_send 1 (Attending (param 0 g.row.J) g.J.ShareName [] (at_life κs.1.1.1.1.1.0) (at_life κs.1.1.1.1.1.1.0) (param 1 g.row.R)) sent in
    record { owned = given.owned; leaving = given.leaving }

pub overflow_add-missed : goal.overflow_add-missed
overflow_add-missed g c = omega (arith, c.requires.3, c.tell_gone-unserved.ensures.few, c.len-count.ensures)

-- what was published, unless some were missed, and what is told of all that have gone
pub returns : goal.returns
returns g c =
    let unserved = c.tell_gone-unserved.result in
    let absent = c.captures.arrived-absent in
    let missed = unserved + absent in
    let outcome = c.publish_if-outcome.result in
    let result = c.unless_missed.result in
    let ends = c.tell_gone-unserved.ensures.ends in
    let published = c.published_in-published.result in
    let counts : unserved ≡ missed_of (published_in (told_view outcome)) ends.0 = ends.2 ∙ ap (λ (n : ℕ). missed_of n ends.0) c.published_in-published.ensures in
    let sent : is_ok result ≡ true → missed_of published ends.0 + absent ≡ 0 =
    λ ok. none_missed unserved absent (missed_of published ends.0) ends.2 (none_missed_at missed (told_view outcome) (told_view result) c.unless_missed.ensures (told_ok result ∙ ok)) in
    let all : length ends.0 ≡ vec_len c.captures.arrived-streams = omega (arith, ends.1, c.len-count.ensures) in
    record {
      gives = unless_beside (vec_len c.captures.arrived-streams + absent) absent unserved ends.0 (g.P.Publishing.gives c.captures.publishing) outcome result (omega (arith, all)) counts c.publish_if-outcome.ensures c.unless_missed.ensures;
      told = (ends.0, all, λ ok. (published, sent ok), ends.3);
      stays = c.tell_gone-unserved.ensures.stays;
    }
