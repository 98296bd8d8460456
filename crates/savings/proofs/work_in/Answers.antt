-- work_in: one line a need; the laws are in Listing.
use Rattle.savings.proofs.Listing as listing
use mathlib.Core.Path.{refl}
use Rattle.savings.proofs.work_in.Goals as goal

pub returns-in-Full : goal.returns-in-Full
returns-in-Full c = (search listing.worked_full, refl, refl)

pub returns-in-Answered : goal.returns-in-Answered
returns-in-Answered c = (search listing.worked_open, refl, refl)
