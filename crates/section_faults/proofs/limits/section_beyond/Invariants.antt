use Rattle.std.proofs.Common.{◌≡◌, ◌≤◌, ◌-◌, map, take, drop}
use Rattle.met_read.specs.Read.{met_of}
use Rattle.section_faults.specs.Sections.{kept_places}
use Rattle.section_faults.proofs.limits.section_beyond.Given as goal

abbrev pub invariant-met : goal.invariant-met
invariant-met l = record {
  few : l.before ≤ 8192;
  rest : take 1 (drop (8192 - l.before) (kept_places l.kept.sections (map met_of (drop l.one-index l.met)))) ≡ take 1 (drop 8192 (kept_places l.kept.sections (map met_of l.met)));
}
