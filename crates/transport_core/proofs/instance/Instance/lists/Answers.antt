-- The test says it of the lists.
use Rattle.std.proofs.Common.{List, ℕ, sym, ap, ◌∙◌}
use Rattle.std.specs.Map.{keys_of}
use Rattle.price_core.specs.Limits.{Limits}
use Rattle.transport_core.proofs.Deficits.{all_listed, listed_from_test, test_from_listed}
use Rattle.transport_core.proofs.instance.Instance.lists.Goals as goal

pub returns : goal.returns
returns c =
    let limits = ap (λ (ls : Limits). keys_of ls) c.entries.ensures.value in
    let same = c.names_are_listed.ensures ∙ ap (λ (ks : List (List ℕ)). all_listed ks (keys_of c.args.old.now)) limits in (
      λ told. listed_from_test (keys_of c.args.totals.now) (keys_of c.args.old.now) (sym same ∙ told),
      λ listed. same ∙ test_from_listed (keys_of c.args.totals.now) (keys_of c.args.old.now) listed,
    )
