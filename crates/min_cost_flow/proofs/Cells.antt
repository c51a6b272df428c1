-- The cells of a table that stands by rows.
use Rattle.std.proofs.Common.{ℕ, ◌+◌, ◌*◌, ◌<◌, ◌≤◌, arith, ◌≡◌, ◌-◌, List, length, length-take, length-drop, take, drop, get_or, ◌∙◌}
use Rattle.std.proofs.Math.Nat.{mul-le-mul_right}
use Rattle.std.proofs.lemmas.List.{get_or-take, get_or-drop}

pub row_ends : (rows width row : ℕ) → row < rows → row * width + width ≤ rows * width
row_ends rows width row within = let most : (row + 1) * width ≤ rows * width = mul-le-mul_right width (omega arith) in omega (arith, most)

pub cell_in : (rows width row column : ℕ) → row < rows → column < width → row * width + column < rows * width
cell_in rows width row column within inside = omega (arith, row_ends rows width row within, inside)

abbrev pub part_of : {X : Type 0} → ℕ → ℕ → List X → List X
part_of width row cells = take ((row * width + width) - row * width) (drop (row * width) cells)

module _ {X : Type 0} (rows width row : ℕ) (cells : List X) (size : length cells ≡ rows * width) (within : row < rows) where
  pub part_length : length (part_of width row cells) ≡ width
  part_length = omega (arith, length-take ((row * width + width) - row * width) (drop (row * width) cells), length-drop (row * width) cells, size, row_ends rows width row within)

  pub part_at : (column : ℕ) (d : X) → column < width → get_or (part_of width row cells) column d ≡ get_or cells (row * width + column) d
  part_at column d inside = get_or-take ((row * width + width) - row * width) (drop (row * width) cells) column d (omega arith) ∙ get_or-drop (row * width) cells column d
