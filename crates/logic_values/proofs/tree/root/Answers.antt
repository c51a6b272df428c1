use Rattle.std.proofs.Common.{◌≡◌, ◌<◌, ◌+◌, ℕ, length, string_bytes, ap, sym, ◌∙◌, arith, rules}
use Rattle.std.specs.Prelude.{codes}
use Rattle.std.specs.Ordering.{nat_cmp}
use Rattle.std.specs.Cmp.Lexicographic.{slice_cmp}
use Rattle.std.specs.declared.cmp.Ordering.TheVariants.{Less, Equal, Greater}
use Rattle.flag_text.specs.Shape.{object}
use Rattle.flag_text.specs.View.{view, members_view}
use Rattle.logic_values.specs.Views.{before}
use Rattle.logic_values.proofs.Members.{before_none, with_less, with_equal, with_greater, with_end, tail_all, view_object}
use Rattle.logic_values.proofs.tree.root.Goals as goal

pub returns-in-Equal : goal.returns-in-Equal
returns-in-Equal c =
    let xs = c.args.members.now in
    let i : ℕ = c.loop-i.i in
    let h : i < length xs = omega arith in
    let m = c.index-members-i.result in
    let e : slice_cmp nat_cmp (codes "$flagd") (string_bytes m.0) ≡ Equal = search rules in
    view_object c.push_copies.new.all ∙ ap object (c.in_ok-push_copies-in-Equal.ensures ∙ (ap (λ ms. before c.push_flagd.new.all.items (members_view ms)) (tail_all xs (i + 1) _ (omega arith)) ∙ (c.in_ok-push_flagd-in-Equal.ensures _
    ∙ (ap (before c.loop-i.all.items) (sym (with_equal (codes "$flagd") (view c.args.flagd.now) xs i m h c.index-members-i.is e)) ∙ c.loop-i.invariant))))

pub returns-in-Less : goal.returns-in-Less
returns-in-Less c =
    let xs = c.args.members.now in
    let i : ℕ = c.loop-i.i in
    let h : i < length xs = omega arith in
    let m = c.index-members-i.result in
    let e : slice_cmp nat_cmp (codes "$flagd") (string_bytes m.0) ≡ Less = search rules in
    view_object c.push_copies-in-Less.new.all ∙ ap object (c.in_ok-push_copies-in-Less.ensures ∙ (ap (λ ms. before c.push_flagd-in-Less.new.all.items (members_view ms)) (tail_all xs i _ (omega arith)) ∙ (c.in_ok-push_flagd-in-Less.ensures _
    ∙ (ap (before c.loop-i.all.items) (sym (with_less (codes "$flagd") (view c.args.flagd.now) xs i m h c.index-members-i.is e)) ∙ c.loop-i.invariant))))

pub loop-i-preserved : goal.loop-i-preserved
loop-i-preserved c =
    let xs = c.args.members.now in
    let i : ℕ = c.loop-i.i in
    let h : i < length xs = omega arith in
    let m = c.index-members-i.result in
    let e : slice_cmp nat_cmp (codes "$flagd") (string_bytes m.0) ≡ Greater = search rules in
    c.in_ok-push_copy-in-Greater.ensures _ ∙ (ap (before c.loop-i.all.items) (sym (with_greater (codes "$flagd") (view c.args.flagd.now) xs i m h c.index-members-i.is e)) ∙ c.loop-i.invariant)

pub returns : goal.returns
returns c =
    let xs = c.args.members.now in
    view_object c.push_flagd-2.new.all ∙ ap object (sym (before_none c.push_flagd-2.new.all.items) ∙ (c.in_ok-push_flagd.ensures _
    ∙ (ap (before c.loop-i.all.items) (sym (with_end (codes "$flagd") (view c.args.flagd.now) xs c.loop-i.i (omega arith))) ∙ c.loop-i.invariant)))
