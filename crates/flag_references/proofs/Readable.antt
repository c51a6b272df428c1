-- What a measure says of the tree that it is of: whether it is read as an expression.
use Rattle.std.proofs.Common.{◌≡◌, ◌<◌, ℕ, Bool, true, false, not, ◌&&◌, ◌||◌, nat_lt, nat_le, min, cond, Option, Some, None, Err, refl, inl, inr, ap, arith}
use Rattle.std.proofs.lemmas.Bool.Decides.{leb_tells}
use Rattle.std.proofs.lemmas.Bool.{le-ltb, lt-ltb}
use Rattle.std.specs.Prelude.{is_none, is_ok}
use Rattle.flag_text.specs.Shape.{Shape, is_tidy, is_whole}
use Rattle.logic_ast.specs.Expression.{Expression}
use Rattle.logic_ast.specs.FirstFault.{expression_fault}
use Rattle.logic_ast.specs.Reading.{unless, expression_from}
use Rattle.logic_ast.specs.Size.{Size, expression_size, is_over}
use Rattle.logic_ast.specs.declared.fault.LogicFault.{LogicFault}
use Rattle.logic_ast.specs.declared.fault.LogicFault.TheVariants.{TooBig}
use Rattle.flag_references.specs.Inlining.{has_reference}
use Rattle.flag_references.specs.Measure.{measure}
use Rattle.flag_references.specs.Readable.{is_within, reads, is_readable}
use Rattle.flag_references.specs.declared.measure.Reading.{Reading}
use Rattle.flag_references.proofs.Sizes.{Counts, counted}
use Rattle.flag_references.proofs.Faults.{sound, sound_full}

capped_at : (limit n m : ℕ) → limit < 4194305 → m ≡ min n 4194305 → nat_le m limit ≡ not (nat_lt limit n)
capped_at limit n m h e = elim (leb_tells m limit) [
  | inl p ↦ rw (p.0, le-ltb limit n (omega (arith, p.1))) refl
  | inr p ↦ rw (p.0, lt-ltb limit n (omega (arith, p.1))) refl
]

reading_ok : (b : Bool) (f : Option LogicFault) (e : Expression) → (not b && is_none f) ≡ is_ok (cond b (Err TooBig) (unless f e))
reading_ok true f e = refl
reading_ok false None e = refl
reading_ok false (Some f) e = refl

neither : (a b : Bool) → (not a && not b) ≡ not (a || b)
neither true b = refl
neither false b = refl

pub within_counts : (r : Reading) (s : Size) → Counts r s → is_within r ≡ not (is_over s)
within_counts r s c =
    rw (capped_at 10000 s.nodes r.nodes (omega arith) c.nodes, capped_at 100 s.levels r.levels (omega arith) c.levels) (neither (nat_lt 10000 s.nodes) (nat_lt 100 s.levels))

pub reads-readable : (t : Shape) → is_tidy t ≡ true → reads (measure t) ≡ is_readable t
reads-readable t h =
    let e = within_counts (measure t).expression (expression_size t) (counted t).expression in
    rw (sound_full t h, e, (sound t).expression) (ap (λ b. (is_whole t && not (has_reference t)) && b) (reading_ok (is_over (expression_size t)) (expression_fault t) (expression_from 0 t)))
