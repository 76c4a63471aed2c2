-- A put that passes the room takes as much of the piece as there is room for.
use Rattle.std.proofs.Common.{◌-◌, length, arith}
use Rattle.std.proofs.lemmas.Grind.{common_steps}
use Rattle.quill_io.proofs.mem_sink.MemSinkSink.put.Goals as goal

pub returns-then-bytes-left-clause-told : goal.returns-then-bytes-left-clause-told
returns-then-bytes-left-clause-told c = (c.args.self.now.room - length c.args.self.now.held, grind (arith, common_steps))
