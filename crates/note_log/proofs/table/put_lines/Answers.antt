use Rattle.std.proofs.Common.{◌≡◌, ◌++◌, ◌∷◌, ◌∙◌, ℕ, List, [], Vec, sym, subst}
use Rattle.std.specs.List.{Contains}
use Rattle.std.specs.declared.alloc.Global.{Global}
use Rattle.std.proofs.lemmas.List.Elements.{Contains-append_left, Contains-push}
use Rattle.lru.specs.LruCache.{put_entries}
use Rattle.note_log.proofs.Standing.{eq, put_cap, put_stands}
use Rattle.note_log.proofs.table.put_lines.Goals as goal

pub loop-line-preserved : goal.loop-line-preserved
loop-line-preserved c =
    let line = c.in-Some.line in
    let rest = c.pop.new.self.items in
    let old = c.loop-line.table in
    let new = c.put.new.self in
    let parts : c.loop-line.lines.items ≡ rest ++ line ∷ [] = c.in-Some.ensures.items in (
      λ history before all.
          let was = c.loop-line.invariant.0 history before all in
          let has = was.1 line (subst (λ (ls : List (Vec ℕ Global)). Contains ls line) (sym parts) (Contains-push rest line)) in (
            put_stands c.put.result history old new line c.args.number c.put.ensures.entries c.put.ensures.err was.0 has,
            λ other h. was.1 other (subst (λ (ls : List (Vec ℕ Global)). Contains ls other) (sym parts) (Contains-append_left rest (line ∷ []) other h)),
          ),
      put_cap c.put.result old new (put_entries eq old line c.args.number) c.put.ensures.entries c.put.ensures.err ∙ c.loop-line.invariant.1,
    )
