use Rattle.std.proofs.Common.{◌≡◌, [], sym, ap, refl, subst}
use Rattle.book_core.specs.Book.{IsBook, input_count}
use Rattle.book_core.specs.Calls.{Shows}
use Rattle.book_core.proofs.Answered.{shows_none, shows_its_calls}
use Rattle.snap_core.specs.Hub.{HubState}
use Rattle.snap_core.proofs.world.World.new.Goals as goal

pub returns-clause-opens : goal.returns-clause-opens
returns-clause-opens c =
    let empty : c.new-2.result ≡ [] = c.new-2.ensures in
    record {
      sources = c.in_ok-sources.ensures.value;
      current = ap (λ (h : HubState). h.current) c.new.ensures;
      members = ap (λ (h : HubState). h.members) c.new.ensures;
      next = ap (λ (h : HubState). h.next) c.new.ensures;
      lawful = subst IsBook (sym empty) (shows_its_calls [] tt).0;
      shown = subst (Shows []) (sym empty) shows_none;
      counted = ap input_count empty;
      seats = refl;
      is_sealed = refl;
    }
