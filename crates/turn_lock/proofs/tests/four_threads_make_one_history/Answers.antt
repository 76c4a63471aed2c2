use denote.Param.Send.{sendable}
use Rattle.std.proofs.Crossing as std
use Rattle.turn_lock.proofs.Crossing.{crosses}
use Rattle.turn_lock.proofs.tests.four_threads_make_one_history.Goals as goal

pub join-zero-requires-send-F : goal.join-zero-requires-send-F
join-zero-requires-send-F g c κs within = search (crosses, sendable, std.crosses) depth 20

pub join-zero-requires-send-A : goal.join-zero-requires-send-A
join-zero-requires-send-A g c κs within = search (crosses, sendable, std.crosses) depth 20
