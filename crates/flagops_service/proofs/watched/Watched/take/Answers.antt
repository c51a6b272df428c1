use Rattle.std.proofs.Common.{◌≡◌, ◌≢◌, ◌+◌, ◌∙◌, ℕ, List, Some, None, Ok, ap, ap₂, arith, decimal, inl, inr, length, refl, rules, slice_set, subst, sym}
use Rattle.std.specs.Str.{bytes_eq}
use Rattle.std.proofs.lemmas.Bool.{OnTrue_at}
use Rattle.std.proofs.lemmas.Option.{slice_get_read}
use Rattle.std.proofs.lemmas.Slice.Eq.{bytes_eq-Decides}
use Rattle.source_merge.specs.Sources.{SetsWithFloats}
use Rattle.source_merge.specs.View.{sources_view}
use Rattle.flagops_service.specs.Rereading.{IsUnfit, MayFollow}
use Rattle.flagops_service.specs.declared.taking.Unfit.TheVariants.{WantOfMemory}
use Rattle.flagops_service.proofs.Reread.{known_refused, why_unfit}
use Rattle.flagops_service.proofs.watched.Watched.take.Goals as goal

-- it is the text that was accepted last
pub returns-then-eq-clause-takes : goal.returns-then-eq-clause-takes
returns-then-eq-clause-takes g c =
    let self = c.args.self.now in
    let last = c.index.result.now in
    let is : c.eq.result ≡ bytes_eq last.items c.args.text.items = c.eq.ensures ∙ ap₂ bytes_eq c.as_slice.ensures.value c.as_slice-2.ensures.value in
    let here = slice_get_read self.accepted.items (length self.accepted.items) c.args.place last refl (omega (arith, c.requires, self.all_accepted)) c.index.ensures in
    (inl (last, here, (bytes_eq-Decides last.items c.args.text.items).0 (sym is ∙ c.if-eq.true), refl), refl, refl)

-- it is the text that was refused last
pub returns-then-is_text-clause-takes : goal.returns-then-is_text-clause-takes
returns-then-is_text-clause-takes g c =
    let self = c.args.self.now in
    let here = slice_get_read self.refused.items (length self.refused.items) c.args.place c.index-2.result.now refl (omega (arith, c.requires, self.all_refused)) c.index-2.ensures in
    let is = OnTrue_at c.if-is_text.true c.is_text.ensures in
    let known = known_refused self.refused.items c.args.place c.index-2.result.now c.as_slice-3.result.now here is.0 is.1 in
    (inr (known.0, known.1, known.2 ∙ c.as_slice-3.ensures.value, refl), refl, refl)

-- it is accepted behind the text that was accepted last
pub returns-in-Ok-clause-takes : goal.returns-in-Ok-clause-takes
returns-in-Ok-clause-takes g c =
    let self = c.args.self.now in
    let place = c.args.place in
    let text = c.args.text in
    let s = c.in-Ok.ensures.sets in
    let fit = subst (λ (t : List ℕ). SetsWithFloats (sources_view self.sources) (decimal (place + 1)) t (Ok (sources_view c.set.new.self.sources)) × MayFollow self.broken s.0.items t) c.as_slice-4.ensures.value s.2 in
    (s.0, s.1, fit.0, fit.1, ap (λ v. slice_set v.items place text) c.in-Ok.ensures.accepted, ap (λ v. slice_set v.items place None) c.in-Ok.ensures.refused)

-- it is refused
pub returns-in-Err : goal.returns-in-Err
returns-in-Err g c =
    let self = c.args.self.now in
    let place = c.args.place in
    let text = c.args.text in
    let s = c.in-Err.ensures.sets in
    let other : c.in-Err.why ≢ WantOfMemory = search rules in
    let is = subst (λ (t : List ℕ). IsUnfit self.broken (place + 1) (sources_view self.sources) s.0.items t c.in-Err.why) c.as_slice-4.ensures.value s.2.1 in
    let why = why_unfit self.broken (place + 1) (sources_view self.sources) s.0.items text.items c.in-Err.why is other in record {
      takes = (s.0, s.1, why, s.2.0, ap (λ v. v.items) c.in-Err.ensures.accepted, ap (λ v. slice_set v.items place (Some text)) c.in-Err.ensures.refused);
      mode = c.in-Err.ensures.mode;
      paths = c.in-Err.ensures.paths;
    }
