-- The constants of the program are the limits that are defined.
use Rattle.std.specs.Prelude.{◌≡◌, pos}
use Rattle.limits.specs.Limits.{text_bytes, file_bytes, flags, variants, expression_nodes, expression_levels, latest_moment}
use Rattle.limits.specs.Limits.{sites, input_bytes, page_inputs, point_inputs, tally_inputs, planned_total, largest_price, sources, seats, ramp_steps, stack_bytes, interruptions}
use Rattle.limits.specs.declared.TheConstants.{TEXT_BYTES, FILE_BYTES, FLAGS, VARIANTS, EXPRESSION_NODES, EXPRESSION_LEVELS, LATEST_MOMENT}
use Rattle.limits.specs.declared.TheConstants.{SITES, INPUT_BYTES, PAGE_INPUTS, POINT_INPUTS, TALLY_INPUTS, PLANNED_TOTAL, LARGEST_PRICE, SOURCES, SEATS, RAMP_STEPS, STACK_BYTES, INTERRUPTIONS}

pub record AreTheConstants : Type 0 where
  pub text_bytes : TEXT_BYTES ≡ text_bytes
  pub file_bytes : FILE_BYTES ≡ file_bytes
  pub flags : FLAGS ≡ flags
  pub variants : VARIANTS ≡ variants
  pub expression_nodes : EXPRESSION_NODES ≡ expression_nodes
  pub expression_levels : EXPRESSION_LEVELS ≡ expression_levels
  pub latest_moment : LATEST_MOMENT ≡ latest_moment
  pub sites : SITES ≡ pos sites
  pub input_bytes : INPUT_BYTES ≡ input_bytes
  pub page_inputs : PAGE_INPUTS ≡ page_inputs
  pub point_inputs : POINT_INPUTS ≡ point_inputs
  pub tally_inputs : TALLY_INPUTS ≡ tally_inputs
  pub planned_total : PLANNED_TOTAL ≡ planned_total
  pub largest_price : LARGEST_PRICE ≡ largest_price
  pub sources : SOURCES ≡ sources
  pub seats : SEATS ≡ seats
  pub ramp_steps : RAMP_STEPS ≡ ramp_steps
  pub stack_bytes : STACK_BYTES ≡ stack_bytes
  pub interruptions : INTERRUPTIONS ≡ interruptions
