use Rattle.std.proofs.Common.{◌≡◌, ℕ, List, [], ◌∷◌, ◌++◌, Vec, false, length, sym, ap, ◌∙◌, length-append, Bool, if◌then◌else◌}
use Rattle.std.specs.List.{concat, list_any}
use Rattle.std.specs.Str.{bytes_eq}
use Rattle.std.specs.declared.alloc.Global.{Global}
use Rattle.library_seat.specs.LinesView.{lines_view}
use Rattle.library_seat.proofs.LinesKept.{any_seen, lines_view-push, concat-push}
use Rattle.library_seat.proofs.kept.KeptLines.push.Goals as goal

-- the lines with a new one
grown : (vs ws : List (Vec ℕ Global)) (v : Vec ℕ Global) (line : List ℕ) → v.items ≡ line → list_any (bytes_eq line) (lines_view vs) ≡ false
    → ws ≡ (if list_any (λ w. bytes_eq v.items w.items) vs then vs else vs ++ v ∷ []) → lines_view ws ≡ lines_view vs ++ line ∷ []
grown vs ws v line same new keys =
    let absent : list_any (λ w. bytes_eq v.items w.items) vs ≡ false = any_seen v.items vs ∙ ap (λ (l : List ℕ). list_any (bytes_eq l) (lines_view vs)) same ∙ new in
    ap lines_view (keys ∙ ap (λ (b : Bool). if b then vs else vs ++ v ∷ []) absent) ∙ lines_view-push vs v ∙ ap (λ (l : List ℕ). lines_view vs ++ l ∷ []) same

lines_now : (c : goal.In_ok-insert) → lines_view c.insert.new.self.keys ≡ lines_view c.args.self.now.lines.keys ++ c.args.line.now ∷ []
lines_now c = grown c.args.self.now.lines.keys c.insert.new.self.keys c.in_ok-copy.copy c.args.line.now c.in_ok-copy.ensures.items c.requires.new c.in_ok-insert.ensures.keys

pub returns-clause-added : goal.returns-clause-added
returns-clause-added c = ap (λ (ls : List (List ℕ)). record { lines = ls; most = c.args.self.now.most; full = c.args.self.now.full })
    (grown c.args.self.now.lines.keys c.insert.new.self.keys c.in_ok-copy.copy c.args.line.now c.in_ok-copy.ensures.items c.requires.new c.in_ok-insert.ensures.keys)

pub invariant_of-self-2 : goal.invariant_of-self-2
invariant_of-self-2 c =
    let old = lines_view c.args.self.now.lines.keys in
    record { sum = c.requires.bytes ∙ sym (ap (λ (ls : List (List ℕ)). length (concat ls)) (lines_now c) ∙ ap length (concat-push old c.args.line.now) ∙ length-append (concat old) c.args.line.now) }
