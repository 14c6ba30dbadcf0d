-- The part that is handed back stands at that place.
use Rattle.claim.proofs.Handed.{handed}
use Rattle.claim.proofs.record.Goals as goal

pub returns-in-Some : goal.returns-in-Some
returns-in-Some c = handed _ _ _ c.in-Some.ensures.is

pub returns-in-None : goal.returns-in-None
returns-in-None c = handed _ _ _ c.in-None.ensures.is
