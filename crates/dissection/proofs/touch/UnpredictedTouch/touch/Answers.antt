-- `dissection::touch::Unpredicted::touch` meets the contract of the trait: by the laws of `Spread`.
use Rattle.dissection.proofs.Spreads.{spread_touch}
use Rattle.dissection.proofs.touch.UnpredictedTouch.touch.Goals as goal

pub returns : goal.returns
returns c n wf xf room = rw (c.places.ensures.0, c.taken.ensures) (spread_touch room wf xf)
