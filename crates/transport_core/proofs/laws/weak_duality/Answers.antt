use Rattle.price_core.specs.Cost.{cost_of}
use Rattle.transport_core.proofs.Duality.{weak_duality}
use Rattle.transport_core.proofs.laws.weak_duality.Goals as goal

pub returns-clause-bound : goal.returns-clause-bound
returns-clause-bound c = weak_duality

pub returns-clause-least : goal.returns-clause-least
returns-clause-least c = λ old new limits pricing inputs alpha beta some lawful fits dual.
    record { fits = fits; least = λ other fits_too. weak_duality old other limits pricing inputs alpha beta (cost_of old new inputs pricing) some lawful fits_too dual }
