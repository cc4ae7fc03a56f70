-- A codable model is a prior in range, whatever its type and flag and those that it is a prior for: grid's law at its rows, and header's for the six numbers.
-- Assumes nothing.
use Rattle.grid.proofs.Reach.{codable-prior-for}
use Rattle.header.proofs.Priors.{model-place, models-prior}
use Rattle.header.proofs.RoundTrip.{right-model}
use Rattle.run_frame.specs.Priors.{Priors}

pub priors : Priors
priors =
    record {
      number = codable-prior-for;
      model = λ gm_type flag ps first known right. model-place gm_type flag ps first (right-model gm_type flag ps first known right);
      models = models-prior;
    }
