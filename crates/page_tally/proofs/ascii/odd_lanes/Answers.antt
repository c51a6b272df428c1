use Rattle.std.proofs.Common.{cond, eqb, ltb, arith}
use Rattle.std.proofs.lemmas.Simd.{zip2_splat, zip2_splat_left}
use Rattle.page_tally.specs.Plain.{is_odd}
use Rattle.page_tally.proofs.Odd.{either, masked, some_of_four}
use Rattle.page_tally.proofs.ascii.odd_lanes.Goals as goal

pub returns : goal.returns
returns c =
    let v = c.args.v in
    let long = c.fits-v.0 in
    let same = zip2_splat (λ a b. cond (eqb a b) 255 0) v 16 in
    masked _ is_odd v _ (omega arith) (either _ _ v (either _ _ v (either _ _ v (same 34 long) (same 92 long)) (zip2_splat (λ a b. cond (ltb a b) 255 0) v 16 32 long)) (zip2_splat_left (λ a b. cond (ltb a b) 255 0) 127 16 v long)) (λ x. some_of_four (eqb x 34) (eqb x 92) (ltb x 32) (ltb 127 x))
