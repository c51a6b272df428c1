use Rattle.std.proofs.Common.{sym, true≢false, arith}
use Rattle.flag_text.proofs.Views.{items_view-length, members_view-length}
use Rattle.flag_text.proofs.equal.+equal.Goals as goal

pub items_equal-returns-then-len : goal.items_equal-returns-then-len
items_equal-returns-then-len t c = (λ h. absurd (true≢false (sym h)), λ e. absurd (omega (arith, items_view-length c.args.a.now.items c.args.b.now.items e)))

pub members_equal-returns-then-len : goal.members_equal-returns-then-len
members_equal-returns-then-len t c = (λ h. absurd (true≢false (sym h)), λ e. absurd (omega (arith, members_view-length c.args.a.now.items c.args.b.now.items e)))
