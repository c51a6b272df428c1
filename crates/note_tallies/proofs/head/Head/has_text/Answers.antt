use Rattle.std.proofs.Common.{ℕ, List, Vec, option_map, sym, subst}
use Rattle.std.specs.declared.alloc.Global.{Global}
use Rattle.note_tallies.specs.File.{Head}
use Rattle.note_tallies.specs.Reading.{IsAllowed}
use Rattle.note_tallies.proofs.FileHeads.{first_is, last_is, some_items}
use Rattle.note_tallies.proofs.head.Head.has_text.Goals as goal

pub head_text-requires-clause-first : goal.head_text-requires-clause-first
head_text-requires-clause-first c =
    let a = c.self.inside in
    let items : Vec ℕ Global → List ℕ = λ v. v.items in
    let h : Head = record { page = a.page; total = a.total; first = option_map items a.first; last = option_map items a.last; inputs = a.inputs } in
    let allowed : IsAllowed h = subst (λ (g : Head). IsAllowed g) (sym c.self.view_is) c.requires.allowed in
    some_items items a.first (first_is h.page h.inputs h.first h.last allowed.ends)

pub head_text-requires-clause-last : goal.head_text-requires-clause-last
head_text-requires-clause-last c =
    let a = c.self.inside in
    let items : Vec ℕ Global → List ℕ = λ v. v.items in
    let h : Head = record { page = a.page; total = a.total; first = option_map items a.first; last = option_map items a.last; inputs = a.inputs } in
    let allowed : IsAllowed h = subst (λ (g : Head). IsAllowed g) (sym c.self.view_is) c.requires.allowed in
    some_items items a.last (last_is h.page h.inputs h.first h.last allowed.ends)
