-- Stops as the definitions know them, and how far a round has come at one.
use Rattle.std.specs.Prelude.{ℕ, ◌+◌}
use Rattle.round_model.specs.Stops as desk
use Rattle.idle_queue.specs.declared.stop.Stop.{Stop}
use Rattle.idle_queue.specs.declared.stop.Stop.TheVariants as stop

-- the stop that a value of the code stands for
abbrev pub stop_of : Stop → desk.Stop
stop_of (stop.Gather place) = desk.Stop.Gather place
stop_of (stop.Form round place) = desk.Stop.Form round place
stop_of (stop.Place round place) = desk.Stop.Place round place
stop_of stop.Finish = desk.Stop.Finish
stop_of stop.Settled = desk.Stop.Settled

-- how many of so many paragraphs have the form stop of the present round behind them
abbrev pub places_passed : ℕ → desk.Stop → ℕ
places_passed count (desk.Stop.Gather place) = 0
places_passed count (desk.Stop.Form round place) = place
places_passed count (desk.Stop.Place round place) = place + 1
places_passed count _ = count
