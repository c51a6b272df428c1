-- Each member that is asked for, in turn.
use Rattle.std.proofs.Common.{◌≡◌, ℕ, List, String, Global, Bor, is_some, codes}
use Rattle.flag_text.specs.Readers.{as_object}
use Rattle.flag_text.specs.View.{view, items_view, members_view}
use Rattle.flag_text.specs.declared.tree.Tree.{Tree}
use Rattle.price_core.specs.Misfit.{unless, list_in}
use Rattle.price_core.specs.Request.{form_in, flag_in, site_in, usual_in, members_in}
use Rattle.price_core.specs.declared.misfit.Misfit.TheVariants.{NoObject, Plan, Flag, Site, Totals, Price, Prices, Forbid}
use Rattle.price_core.proofs.Misfits.{unless-read, unless-seen, or-both}
use Rattle.price_core.proofs.misfit.member_fault.Goals as goal

pub returns : goal.returns
returns c =
    let t = view c.args.tree.now in
    let object : c.unless.result ≡ unless (is_some (as_object t)) NoObject = unless-seen (λ (ms : Bor (List (String Global × Tree))). members_view ms.now) NoObject c.as_object.result (as_object t) c.is_some.result c.unless.result c.as_object.ensures c.is_some.ensures c.unless.ensures in
    let form : c.unless-2.result ≡ unless (is_some (form_in t)) Plan = unless-read Plan c.form_in.result (form_in t) c.is_some-2.result c.unless-2.result c.form_in.ensures c.is_some-2.ensures c.unless-2.ensures in
    let key : c.unless-3.result ≡ unless (is_some (flag_in t)) Flag = unless-seen (λ (s : Bor (List ℕ)). s.now) Flag c.key_in.result (flag_in t) c.is_some-3.result c.unless-3.result c.key_in.ensures c.is_some-3.ensures c.unless-3.ensures in
    let site : c.unless-4.result ≡ unless (is_some (site_in t)) Site = unless-read Site c.site_in.result (site_in t) c.is_some-4.result c.unless-4.result c.site_in.ensures c.is_some-4.ensures c.unless-4.ensures in
    let members : c.unless-5.result ≡ unless (is_some (members_in t)) Totals = unless-seen (λ (ms : Bor (List (String Global × Tree))). members_view ms.now) Totals c.members_in.result (members_in t) c.is_some-5.result c.unless-5.result c.members_in.ensures c.is_some-5.ensures c.unless-5.ensures in
    let usual : c.unless-6.result ≡ unless (is_some (usual_in t)) Price = unless-read Price c.usual_in.result (usual_in t) c.is_some-6.result c.unless-6.result c.usual_in.ensures c.is_some-6.ensures c.unless-6.ensures in
    let prices : c.unless-7.result ≡ unless (is_some (list_in (codes "prices") t)) Prices = unless-seen (λ (ts : Bor (List Tree)). items_view ts.now) Prices c.list_in.result (list_in (codes "prices") t) c.is_some-7.result c.unless-7.result c.list_in.ensures c.is_some-7.ensures c.unless-7.ensures in
    let bars : c.unless-8.result ≡ unless (is_some (list_in (codes "forbid") t)) Forbid = unless-seen (λ (ts : Bor (List Tree)). items_view ts.now) Forbid c.list_in-2.result (list_in (codes "forbid") t) c.is_some-8.result c.unless-8.result c.list_in-2.ensures c.is_some-8.ensures c.unless-8.ensures in
    or-both c.or-7.result c.or-6.result c.unless-8.result _ _ c.or-7.ensures (or-both c.or-6.result c.or-5.result c.unless-7.result _ _ c.or-6.ensures (or-both c.or-5.result c.or-4.result c.unless-6.result _ _ c.or-5.ensures (or-both c.or-4.result c.or-3.result c.unless-5.result _ _ c.or-4.ensures (or-both c.or-3.result c.or-2.result c.unless-4.result _ _ c.or-3.ensures (or-both c.or-2.result c.or.result c.unless-3.result _ _ c.or-2.ensures (or-both c.or.result c.unless.result c.unless-2.result _ _ c.or.ensures object form) key) site) members) usual) prices) bars
