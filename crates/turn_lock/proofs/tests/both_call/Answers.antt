use denote.Param.Send.{IsSync, given_sync, sendable}
use Rattle.std.proofs.Crossing as std
use Rattle.turn_lock.proofs.Crossing.{crosses}
use Rattle.turn_lock.proofs.tests.both_call.Goals as goal

pub join-requires-send-F : goal.join-requires-send-F
join-requires-send-F g c κs within = let y : IsSync g.row.R = given_sync _ _ c.type_bounds.sync-R in search (crosses, sendable, std.crosses) depth 20

pub join-requires-send-A : goal.join-requires-send-A
join-requires-send-A g c κs within = search (crosses, sendable, std.crosses) depth 20
