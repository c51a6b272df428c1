use Rattle.std.proofs.Common.{◌≡◌, ◌++◌, ◌∷◌, ◌∙◌, ℕ, List, [], rules, true, subst, sym}
use Rattle.note_log.specs.Files.{StandsIn}
use Rattle.note_log.specs.Memory.{AreLeft}
use Rattle.note_log.specs.Shown.{open_in, shown_in}
use Rattle.note_log.specs.declared.files.Files.{Files}
use Rattle.note_log.proofs.Left.{all_asked, line_known, line_left, shown_once}
use Rattle.note_log.proofs.Lists.{nothing_left}
use Rattle.note_log.proofs.memory.NoteMemory.unknown.Goals as goal

-- a line that is not known is left
pub loop-line-preserved-in-Continue-branch-2 : goal.loop-line-preserved-in-Continue-branch-2
loop-line-preserved-in-Continue-branch-2 c =
    let i = c.loop-line.invariant in
    let rest = c.next.new.self.rest.items in
    let parts : c.loop-line.line-iterator.rest.items ≡ c.in-Some.line ∷ rest = search rules in
    let more : c.push.new.self.items ≡ c.loop-line.left.items ++ c.in-Some.line ∷ [] = search rules in (
      line_left c.args.lines.items rest c.loop-line.left.items (open_in c.args.self.now.files) c.in-Some.line c.loop-line.line-iterator.rest.items c.push.new.self.items parts more i.0,
      c.knows.ensures.files ∙ i.1,
      c.knows.ensures.most ∙ i.2,
    )

-- one that is known stands in what a file was handed
pub loop-line-preserved : goal.loop-line-preserved
loop-line-preserved c =
    let i = c.loop-line.invariant in
    let rest = c.next.new.self.rest.items in
    let parts : c.loop-line.line-iterator.rest.items ≡ c.in-Some.line ∷ rest = search rules in
    let known : c.knows.result ≡ true = search rules in
    let same : c.as_slice.result.now ≡ c.in-Some.line.items = search rules in
    let stands : ∥ StandsIn c.in-Some.line.items (open_in c.args.self.now.files) ∥₁ =
    subst (λ (f : Files). ∥ StandsIn c.in-Some.line.items (open_in f) ∥₁) i.1 (subst (λ (t : List ℕ). ∥ StandsIn t (open_in c.loop-line.self.files) ∥₁) same (c.knows.ensures.stands known)) in (
      line_known c.args.lines.items rest c.loop-line.left.items (open_in c.args.self.now.files) c.in-Some.line c.loop-line.line-iterator.rest.items parts i.0 stands,
      c.knows.ensures.files ∙ i.1,
      c.knows.ensures.most ∙ i.2,
    )

pub returns-clause-left : goal.returns-clause-left
returns-clause-left c =
    let i = c.loop-line.invariant in
    let rest = c.loop-line.line-iterator.rest in
    let ended : rest.len ≡ 0 = search rules in
    let none : rest.items ≡ [] = nothing_left rest.items rest.len rest.ok.0 ended in
    let shown : shown_in c.and.result.items ≡ open_in c.args.self.now.files = shown_once c.new.result.items c.and.result.items c.loop-line.self.files c.args.self.now.files 0 (search rules) c.and.ensures i.1 in
    subst (λ (fs : List (List ℕ)). ∥ AreLeft c.args.lines.items c.loop-line.left.items fs ∥₁) (sym shown)
    (all_asked c.args.lines.items c.loop-line.line-iterator.rest.items c.loop-line.left.items (open_in c.args.self.now.files) none i.0)
