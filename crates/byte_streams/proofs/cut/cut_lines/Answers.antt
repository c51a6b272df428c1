use Rattle.std.proofs.Common.{◌≡◌, ◌+◌, ◌∷◌, ◌++◌, [], List, ℕ, length, length-append, sym, ap, subst, ◌∙◌, arith}
use Rattle.std.proofs.lemmas.List.{map-append}
use Rattle.byte_streams.specs.Lines.{IsCut, lines_view}
use Rattle.byte_streams.proofs.Cutting.{cut_next}
use Rattle.byte_streams.proofs.cut.cut_lines.Goals as goal

pub lines-preserved : goal.lines-preserved
lines-preserved c =
    let line = c.in-Some.line.now in
    let behind = c.in-Some.behind.now in
    let is : lines_view c.push.new.self.items ≡ lines_view c.lines.lines.items ++ line ∷ [] = ap lines_view c.in_ok-push.ensures.items ∙ map-append _ c.lines.lines.items _ in
    let one : length c.push.new.self.items ≡ length c.lines.lines.items + 1 = ap length c.in_ok-push.ensures.items ∙ length-append c.lines.lines.items _ in
    record {
      cut = subst (λ (ls : List (List ℕ)). IsCut c.args.bytes.now ls behind) (sym is)
          (cut_next c.args.bytes.now c.lines.rest.now line behind (lines_view c.lines.lines.items) c.lines.invariant.cut c.in-Some.ensures.line c.in-Some.ensures.parts);
      fewer = omega (arith, one, c.lines.invariant.fewer, c.in-Some.ensures.shorter);
    }

pub returns-clause-rest : goal.returns-clause-rest
returns-clause-rest c = c.in_default.ensures.parts
