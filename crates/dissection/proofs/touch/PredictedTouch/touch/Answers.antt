-- `dissection::touch::Predicted::touch` meets the contract of the trait: by the laws of `Spread`.
use mathlib.Core.Path.{refl}
use Rattle.dissection.proofs.Spreads.{spread_numbered, spread_one}
use Rattle.dissection.proofs.touch.PredictedTouch.touch.Goals as goal

pub returns-then-numbers-v : goal.returns-then-numbers-v
returns-then-numbers-v c n wf xf room = spread_numbered c.args.w room refl refl c.if-numbers-v.true

pub returns : goal.returns
returns c n wf xf room = spread_one room wf xf c.if-numbers-v.false
