use Rattle.std.proofs.Common.{◌≡◌, true, take}
use Rattle.line_model.specs.Lines.{fits, greatest_to}
use Rattle.line_frames.specs.Rooms.{IsLeft}
use Rattle.line_frames.proofs.LineLemmas.{fits_to, ends_at}
use Rattle.line_frames.proofs.line.line_length.Given as goal

abbrev pub invariant-units : goal.invariant-units
invariant-units l = record {
  room : IsLeft l.width (take l.index l.units) l.room;
  fits : fits l.width (take l.index l.units) ≡ true;
  fitting : l.fitting ≡ greatest_to l.index (fits_to l.width l.units);
  ending : l.ending ≡ greatest_to l.index (ends_at l.width l.units);
}
