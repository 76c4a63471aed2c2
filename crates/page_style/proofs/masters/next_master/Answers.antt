use Rattle.std.proofs.Common.{◌<◌, length}
use Rattle.page_style.proofs.Names.{never_none}
use Rattle.page_style.proofs.masters.next_master.Goals as goal

pub returns-in-Some-clause-none : goal.returns-in-Some-clause-none
returns-in-Some-clause-none c =
    let inside : c.in-Some.place < length c.args.masters.now = rw c.in-Some.is at c.requires.in_range in
    never_none c.args.masters.now c.in-Some.place c.following.result c.requires.there inside c.following.ensures
