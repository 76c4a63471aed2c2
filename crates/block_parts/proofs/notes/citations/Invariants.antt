use Rattle.std.proofs.Common.{◌≡◌, ◌≤◌, length, take}
use Rattle.std.specs.List.{filter}
use Rattle.block_parts.specs.Notes.{is_citation}
use Rattle.block_parts.proofs.notes.citations.Given as goal

abbrev pub invariant-turns : goal.invariant-turns
invariant-turns l = record {
  is : l.count ≡ length (filter is_citation (take l.turn-index l.turns));
  within : l.count ≤ l.turn-index;
}
